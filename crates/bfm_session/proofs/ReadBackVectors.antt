-- A vector of a bond set is not refused behind those before it.
use Rattle.std.proofs.Common.{◌≡◌, ℕ, ◌<◌, true, false, nat_eq, nat_le, pos, List, [], ◌∷◌, ◌++◌, map, length, get_or, All, None, refl, ap, ◌∙◌, subst, length-append, arith}
use Rattle.std.specs.List.{AllByRecursion, IsDistinct}
use Rattle.std.proofs.lemmas.Bool.Decides.{nat_tests}
use Rattle.std.proofs.lemmas.List.{length-map, get_or-map, get_or_at}
use Rattle.bfm_base.specs.declared.place.P3.{P3}
use Rattle.bond_set.specs.BondSet.{same_vector, is_bond_vector, is_identifier, vectors_of, ids_of, IsBondSet, id_of, vector_of, refusal_of}
use Rattle.bond_set.proofs.PairLemmas.{same_vector-equiv}

-- what holds of each image holds of one of them
pub All-image : {X Y : Type 0} (P : Y → Type 0) (f : X → Y) (done : List X) (x : X) (rest : List X) → All P (map f (done ++ x ∷ rest)) → P (f x)
All-image P f done x rest all =
    let inside : length done < length (done ++ x ∷ rest) = omega (arith, length-append done (x ∷ rest)) in
    let here : get_or (map f (done ++ x ∷ rest)) (length done) (f x) ≡ f x =
    get_or-map f (done ++ x ∷ rest) (length done) x (f x) inside ∙ ap f (get_or_at done x rest x (length done) refl) in
    subst P here (all (length done) (f x) (omega (arith, inside, length-map (done ++ x ∷ rest) f)))

image_of : {X Y : Type 0} (P : Y → Type 0) (f : X → Y) (done : List X) (x : X) (rest : List X) → AllByRecursion P (map f (done ++ x ∷ rest)) → P (f x)
image_of P f [] x rest all = all.0
image_of P f (d ∷ done) x rest all = image_of P f done x rest all.1

id_of-new : (done rest : List (P3 × ℕ)) (e : P3 × ℕ) → IsDistinct same_vector (vectors_of (done ++ e ∷ rest)) → id_of done e.0 ≡ None
unfolding IsDistinct
id_of-new [] rest e differ = refl
id_of-new (d ∷ done) rest e differ =
    let other : same_vector d.0 e.0 ≡ false = image_of (λ v. same_vector d.0 v ≡ false) (λ (p : P3 × ℕ). p.0) done e rest differ.0 in
    let back : same_vector e.0 d.0 ≡ false = same_vector-equiv.symm e.0 d.0 ∙ other in
    rw back (id_of-new done rest e differ.1)

vector_of-new : (done rest : List (P3 × ℕ)) (e : P3 × ℕ) → IsDistinct nat_eq (ids_of (done ++ e ∷ rest)) → vector_of done e.1 ≡ None
unfolding IsDistinct
vector_of-new [] rest e differ = refl
vector_of-new (d ∷ done) rest e differ =
    let other : nat_eq d.1 e.1 ≡ false = image_of (λ n. nat_eq d.1 n ≡ false) (λ (p : P3 × ℕ). p.1) done e rest differ.0 in
    let back : nat_eq e.1 d.1 ≡ false = grind (arith, nat_tests, other) in
    rw back (vector_of-new done rest e differ.1)

pub refusal_of-next : (done rest : List (P3 × ℕ)) (e : P3 × ℕ) → IsBondSet (done ++ e ∷ rest) → refusal_of done e.0 (pos e.1) ≡ None
unfolding refusal_of
refusal_of-next done rest e ok =
    let identifier : is_identifier (pos e.1) ≡ true = All-image (λ id. is_identifier (pos id) ≡ true) (λ (p : P3 × ℕ). p.1) done e rest ok.ids in
    let few : nat_le 200 (length done) ≡ false = let most = ok.few in grind (arith, nat_tests, most, length-append done (e ∷ rest)) in
    let vector : is_bond_vector e.0 ≡ true = All-image (λ v. is_bond_vector v ≡ true) (λ (p : P3 × ℕ). p.0) done e rest ok.vectors in
    rw (identifier, few, vector, id_of-new done rest e ok.vectors_differ, vector_of-new done rest e ok.ids_differ) refl
