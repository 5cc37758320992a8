-- Lists of pairs of vector and identifier: what look-ups find, when a pair is new, which vector
-- is without its negative.
use Rattle.std.proofs.Common.{◌≡◌, ℕ, ◌≤◌, ◌<◌, Bool, true, false, not, ◌||◌, nat_le, nat_eq, if◌then◌else◌, List, [], ◌∷◌, ◌++◌, map, length, Option, None, Some, IsTrue, IsSome, is_some, IfSome, ◌≢◌, pos, Contains, ◌↔◌, refl, sym, ap, subst, ◌∙◌, arith}
use Rattle.std.proofs.lemmas.Bool.Decides.{Decides-and, Decides-int_eq, nat_tests}
use Rattle.std.proofs.lemmas.Cmp.{and_equiv, on_equiv, int_eq_equiv, nat_eq_equiv}
use Rattle.std.proofs.lemmas.Map.Views.{Contains-keys_from_lookup, IsSome-lookup_from_Contains, IfSome-lookup, exact_unsigned_eq}
use Rattle.std.proofs.lemmas.List.Elements.{All-push, All-weaker, All-from_recursion, recursion_from_All}
use Rattle.std.proofs.lemmas.List.{map_push, length_push}
use Rattle.std.proofs.lemmas.Map.Keys.{IsDistinct-push}
use Rattle.std.proofs.lemmas.Map.Made.{is_some-lookup}
use Rattle.std.specs.Cmp.{IsEquivalence}
use Rattle.std.specs.Map.{keys_of}
use Rattle.bfm_base.specs.declared.place.P3.{P3}
use Rattle.bfm_base.specs.declared.cause.Cause.{Cause}
use Rattle.bfm_base.specs.declared.cause.Cause.TheVariants.{OutOfLimit, BadVector, Repeated}
use Rattle.bond_set.proofs.ListLemmas.{Contains-map, find-none, find-none_from_all, None-from_is_some, IsSome-from_is_none, is_none-IsSome}
use Rattle.bfm_base.specs.Place.{extent_of}
use Rattle.bond_set.specs.BondSet.{same_vector, is_bond_vector, vectors_of, ids_of, flipped, id_of, vector_of, IsBondSet, is_identifier, refusal_of, IsSymmetric, is_unpaired, negative_of, first_unpaired}

-- ---- equality of vectors
pub same_vector-equiv : IsEquivalence same_vector
same_vector-equiv =
    and_equiv (on_equiv (λ v. v.x) int_eq_equiv) (and_equiv (on_equiv (λ v. v.y) int_eq_equiv) (on_equiv (λ v. v.z) int_eq_equiv))

-- equal vectors are the same
pub same_from_same_vector : (a b : P3) → same_vector a b ≡ true → a ≡ b
same_from_same_vector a b h =
    let parts = (Decides-and _ _ (Decides-int_eq a.x b.x) (Decides-and _ _ (Decides-int_eq a.y b.y) (Decides-int_eq a.z b.z))).0 h in
    λ i. record { x = parts.0 i; y = parts.1.0 i; z = parts.1.1 i }

-- ---- vectors
-- a bond vector reaches 3 at most
pub extent_of-bond_vector : (v : P3) → IsTrue (is_bond_vector v) → extent_of v ≤ 3
extent_of-bond_vector v h = grind (arith, nat_tests)

-- ---- the identifier of a vector
-- a vector has an identifier where it is in the set
pub id_of-present : (pairs : List (P3 × ℕ)) (v : P3) → IsSome (id_of pairs v) ↔ Contains (vectors_of pairs) v
id_of-present pairs v =
    (Contains-keys_from_lookup same_from_same_vector v pairs, IsSome-lookup_from_Contains same_vector-equiv v pairs)

-- and that is the one that stands beside it
pub id_of-pair : (pairs : List (P3 × ℕ)) (v : P3) → IfSome (id_of pairs v) (λ id. Contains pairs (v, id))
id_of-pair pairs v = IfSome-lookup same_from_same_vector v pairs

-- ---- the vector of an identifier
keys-flipped : (pairs : List (P3 × ℕ)) → keys_of (flipped pairs) ≡ ids_of pairs
keys-flipped [] = refl
keys-flipped (e ∷ es) = ap (λ l. e.1 ∷ l) (keys-flipped es)

flipped-flipped : (pairs : List (P3 × ℕ)) → map (λ e. (e.1, e.0)) (flipped pairs) ≡ pairs
flipped-flipped [] = refl
flipped-flipped (e ∷ es) = ap (λ l. e ∷ l) (flipped-flipped es)

Contains-flipped : (pairs : List (P3 × ℕ)) (v : P3) (id : ℕ) → Contains (flipped pairs) (id, v) → Contains pairs (v, id)
Contains-flipped pairs v id h =
    subst (λ es. Contains es (v, id)) (flipped-flipped pairs) (Contains-map (λ e. (e.1, e.0)) (flipped pairs) (id, v) h)

-- an identifier has a vector where it is in the set
pub vector_of-present : (pairs : List (P3 × ℕ)) (id : ℕ) → IsSome (vector_of pairs id) ↔ Contains (ids_of pairs) id
vector_of-present pairs id =
    let P : List ℕ → Type 0 = λ l. IsSome (vector_of pairs id) ↔ Contains l id in
    subst P (keys-flipped pairs) (Contains-keys_from_lookup exact_unsigned_eq id (flipped pairs), IsSome-lookup_from_Contains nat_eq_equiv id (flipped pairs))

-- and that is the one that stands beside it
pub vector_of-pair : (pairs : List (P3 × ℕ)) (id : ℕ) → IfSome (vector_of pairs id) (λ v. Contains pairs (v, id))
vector_of-pair pairs id = by (vector_of pairs id) (IfSome-lookup exact_unsigned_eq id (flipped pairs))
  where
    by : (o : Option P3) → IfSome o (λ v. Contains (flipped pairs) (id, v)) → IfSome o (λ v. Contains pairs (v, id))
    by None h = h
    by (Some v) h = Contains-flipped pairs v id h

-- ---- a pair that is not refused
-- the pair keeps every rule
pub record IsNew (pairs : List (P3 × ℕ)) (v : P3) (id : ℕ) : Type 0 where
  pub room : length pairs < 200
  pub identifier : is_identifier (pos id) ≡ true
  pub vector : is_bond_vector v ≡ true
  pub no_vector : id_of pairs v ≡ None
  pub no_id : vector_of pairs id ≡ None

-- the tests of a refusal all passed
refusal-none : (a b c d e : Bool) (n m k : Option Cause) → n ≢ None → m ≢ None → k ≢ None
    → (if not a || b then n else if not c then m else if d || e then k else None) ≡ None
    → (a ≡ true) × (b ≡ false) × (c ≡ true) × (d ≡ false) × (e ≡ false)
refusal-none false b c d e n m k p q r h = absurd (p h)
refusal-none true true c d e n m k p q r h = absurd (p h)
refusal-none true false false d e n m k p q r h = absurd (q h)
refusal-none true false true true e n m k p q r h = absurd (r h)
refusal-none true false true false true n m k p q r h = absurd (r h)
refusal-none true false true false false n m k p q r h = (refl, refl, refl, refl, refl)

-- a pair that no cause refuses keeps every rule
pub IsNew-from_refusal : (pairs : List (P3 × ℕ)) (v : P3) (id : ℕ) → refusal_of pairs v (pos id) ≡ None → IsNew pairs v id
unfolding refusal_of
IsNew-from_refusal pairs v id h =
    let tests = refusal-none (is_identifier (pos id)) (nat_le 200 (length pairs)) (is_bond_vector v) (is_some (id_of pairs v)) (is_some (vector_of pairs id))
    (Some OutOfLimit) (Some BadVector) (Some Repeated) (λ e. cc) (λ e. cc) (λ e. cc) h in
    record {
      room = grind (arith, nat_tests, tests.1);
      identifier = tests.0;
      vector = tests.2;
      no_vector = None-from_is_some _ tests.3;
      no_id = None-from_is_some _ tests.4;
    }

-- the pair goes to the end of a bond set
pub IsBondSet-push : (pairs : List (P3 × ℕ)) (v : P3) (id : ℕ) → IsBondSet pairs → IsNew pairs v id → IsBondSet (pairs ++ (v, id) ∷ [])
IsBondSet-push pairs v id set new =
    let vectors : vectors_of (pairs ++ (v, id) ∷ []) ≡ vectors_of pairs ++ v ∷ [] = map_push _ pairs (v, id) in
    let ids : ids_of (pairs ++ (v, id) ∷ []) ≡ ids_of pairs ++ id ∷ [] = map_push _ pairs (v, id) in
    record {
      few = omega (arith, length_push pairs (v, id), new.room);
      vectors = rw vectors (All-push (λ w. IsTrue (is_bond_vector w)) _ _ set.vectors new.vector);
      ids = rw ids (All-push (λ n. IsTrue (is_identifier (pos n))) _ _ set.ids new.identifier);
      vectors_differ = rw vectors (IsDistinct-push same_vector-equiv _ _ set.vectors_differ
          (sym (is_some-lookup (same_vector v) pairs) ∙ ap is_some new.no_vector));
      ids_differ = rw ids (IsDistinct-push nat_eq_equiv _ _ set.ids_differ
          (rw (← keys-flipped pairs) (sym (is_some-lookup (nat_eq id) (flipped pairs)) ∙ ap is_some new.no_id)));
    }

-- and the flipped pair to the end of the flipped pairs
pub flipped-push : (pairs : List (P3 × ℕ)) (v : P3) (id : ℕ) → flipped (pairs ++ (v, id) ∷ []) ≡ flipped pairs ++ (id, v) ∷ []
flipped-push pairs v id = map_push _ pairs (v, id)

-- ---- the first vector whose negative is missing
-- no vector is without its negative exactly where the set holds the negative of each
pub IsSymmetric-from_none : (pairs : List (P3 × ℕ)) → first_unpaired pairs ≡ None → IsSymmetric pairs
IsSymmetric-from_none pairs h =
    All-weaker (λ v. is_unpaired pairs v ≡ false) (λ v. Contains (vectors_of pairs) (negative_of v))
    (λ v e. (id_of-present pairs (negative_of v)).0 (IsSome-from_is_none _ e))
    (vectors_of pairs) (All-from_recursion (λ v. is_unpaired pairs v ≡ false) (vectors_of pairs) (find-none (is_unpaired pairs) (vectors_of pairs) h))

pub first_unpaired-symmetric : (pairs : List (P3 × ℕ)) → IsSymmetric pairs → first_unpaired pairs ≡ None
first_unpaired-symmetric pairs h =
    find-none_from_all (is_unpaired pairs) (vectors_of pairs) (recursion_from_All (λ v. is_unpaired pairs v ≡ false) (vectors_of pairs)
    (All-weaker (λ v. Contains (vectors_of pairs) (negative_of v)) (λ v. is_unpaired pairs v ≡ false)
    (λ v e. is_none-IsSome _ ((id_of-present pairs (negative_of v)).1 e)) (vectors_of pairs) h))
