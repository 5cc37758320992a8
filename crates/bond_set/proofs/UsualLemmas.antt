-- The usual set is a bond set, and which vectors are in it.
use Rattle.std.proofs.Common.{◌≡◌, ℕ, ℤ, zero, suc, ◌+◌, ◌<◌, ◌≤◌, Bool, true, ◌&&◌, filter, is_none, None, Some, pos, negsuc, unsigned_abs, List, [], ◌∷◌, ◌++◌, length, get_or, slice_get, take, Contains, ◌↔◌, refl, sym, ap, subst, ◌∙◌, lit<, lit≤, arith, add-one}
use Rattle.std.proofs.lemmas.List.{append_assoc, append-nil, length-take-le, take_all, get_or_default}
use Rattle.std.proofs.lemmas.List.Elements.{All-nil, All-weaker, All-contains, All-from_recursion, filter_passes}
use Rattle.std.proofs.lemmas.List.Sorted.{All-permutation, IsPermutation-sym}
use Rattle.std.proofs.lemmas.Option.{none-some, same_Some, slice_get_within, slice_get-get_or}
use Rattle.std.proofs.lemmas.Slice.Eq.{bytes_eq-Decides}
use Rattle.std.specs.Cmp.{first_so, second_so}
use Rattle.std.specs.List.{All, AllByRecursion, IsDistinct}
use Rattle.std.specs.List.Sorted.{IsPermutation}
use Rattle.bfm_base.specs.declared.place.P3.{P3}
use Rattle.bond_set.specs.BondSet.{refusal_of, IsBondSet, IsSymmetric, vectors_of}
use Rattle.bond_set.specs.UsualSet.{kinds, sizes_of, IsUsual, descending, is_of_kind, components, row, plane, near_vectors, usual_vectors, numbered, usual_set}
use Rattle.bond_set.proofs.ListLemmas.{Contains-map, Contains-flat_map, Contains-filter, All-flat_map, take-slice_get, None-from_is_none}
use Rattle.bond_set.proofs.KindLemmas.{ranked, ranked-permutation, IsPermutation-descending}
use Rattle.bond_set.proofs.PairLemmas.{IsNew-from_refusal, IsBondSet-push, IsSymmetric-from_none}

-- ---- the usual set is a bond set
-- each pair is taken in its turn
abbrev pub accepted : List (P3 × ℕ) → List (P3 × ℕ) → Bool
accepted done [] = true
accepted done (e ∷ es) = is_none (refusal_of done e.0 (pos e.1)) && accepted (done ++ e ∷ []) es

pub accepted-usual : accepted [] usual_set ≡ true
unfolding usual_set usual_vectors near_vectors refusal_of
accepted-usual = refl

-- the k-th pair is not refused by the pairs before it
pub refusal_of-accepted : (done es : List (P3 × ℕ)) (k : ℕ) (e : P3 × ℕ) → accepted done es ≡ true → slice_get es k ≡ Some e
    → refusal_of (done ++ take k es) e.0 (pos e.1) ≡ None
refusal_of-accepted done [] k e h at = absurd (none-some e at)
refusal_of-accepted done (f ∷ es) zero e h at =
    let new = None-from_is_none (refusal_of done f.0 (pos f.1)) (first_so _ _ h) in
    subst (λ l. refusal_of l e.0 (pos e.1) ≡ None) (sym (append-nil done)) (subst (λ g. refusal_of done g.0 (pos g.1) ≡ None) (same_Some f e at) new)
refusal_of-accepted done (f ∷ es) (suc k) e h at =
    subst (λ l. refusal_of l e.0 (pos e.1) ≡ None) (append_assoc done (f ∷ []) (take k es)) (refusal_of-accepted (done ++ f ∷ []) es k e (second_so _ _ h) at)

-- pairs that are taken in turn make a bond set
pub IsBondSet-accepted : (done es : List (P3 × ℕ)) → IsBondSet done → accepted done es ≡ true → IsBondSet (done ++ es)
IsBondSet-accepted done [] set h = subst IsBondSet (sym (append-nil done)) set
IsBondSet-accepted done (e ∷ es) set h =
    let new = None-from_is_none (refusal_of done e.0 (pos e.1)) (first_so _ _ h) in
    let more = IsBondSet-push done e.0 e.1 set (IsNew-from_refusal done e.0 e.1 new) in
    subst IsBondSet (append_assoc done (e ∷ []) es) (IsBondSet-accepted (done ++ e ∷ []) es more (second_so _ _ h))

pub IsBondSet-none : IsBondSet []
unfolding IsDistinct
IsBondSet-none = record {
  few = lit≤ tt;
  vectors = All-nil _;
  ids = All-nil _;
  vectors_differ = tt;
  ids_differ = tt;
}

pub IsBondSet-usual : IsBondSet usual_set
IsBondSet-usual = IsBondSet-accepted [] usual_set IsBondSet-none accepted-usual

pub IsSymmetric-usual : IsSymmetric usual_set
unfolding usual_set usual_vectors near_vectors
IsSymmetric-usual = IsSymmetric-from_none usual_set refl

-- ---- how the set grows
vectors_of-numbered : (n : ℕ) (vs : List P3) → vectors_of (numbered n vs) ≡ vs
vectors_of-numbered n [] = refl
vectors_of-numbered n (v ∷ vs) = ap (λ l. v ∷ l) (vectors_of-numbered (n + 1) vs)

length-numbered : (n : ℕ) (vs : List P3) → length (numbered n vs) ≡ length vs
length-numbered n [] = refl
length-numbered n (v ∷ vs) = ap suc (length-numbered (n + 1) vs)

slice_get-numbered : (n : ℕ) (vs : List P3) (k : ℕ) (v : P3) → slice_get vs k ≡ Some v → slice_get (numbered n vs) k ≡ Some (v, n + k)
slice_get-numbered n [] k v h = absurd (none-some v h)
slice_get-numbered n (w ∷ vs) zero v h = let same = same_Some w v h in λ i. Some (same i, sum i)
  where
    sum : n ≡ n + 0
    sum = omega arith
slice_get-numbered n (w ∷ vs) (suc k) v h = slice_get-numbered (n + 1) vs k v h ∙ ap (λ m. Some (v, m)) sum
  where
    sum : n + 1 + k ≡ n + suc k
    sum = omega arith

-- v may go behind the set, and the set is then the first k + 1 pairs
pub record Next (set : List (P3 × ℕ)) (v : P3) (k : ℕ) : Type 0 where
  pub new : refusal_of set v (pos (17 + length set)) ≡ None
  pub more : set ++ (v, 17 + length set) ∷ [] ≡ take (k + 1) usual_set

-- of the first k pairs and the vector at k
pub Next-usual : (xs : List P3) (set : List (P3 × ℕ)) (k : ℕ) (d : P3) → xs ≡ usual_vectors → set ≡ take k usual_set → k < length xs
    → Next set (get_or xs k d) k
unfolding usual_set
Next-usual xs set k d e f h =
    let v = get_or xs k d in
    let here : slice_get usual_vectors k ≡ Some v = subst (λ l. slice_get l k ≡ Some v) e (slice_get-get_or xs k d h) in
    let at = slice_get-numbered 17 usual_vectors k v here in
    let count : length set ≡ k = ap length f ∙ length-take-le k usual_set (omega (arith, slice_get_within usual_set k (v, 17 + k) at)) in
    record {
      new = subst (λ n. refusal_of set v (pos (17 + n)) ≡ None) (sym count)
          (subst (λ l. refusal_of l v (pos (17 + k)) ≡ None) (sym f) (refusal_of-accepted [] usual_set k (v, 17 + k) accepted-usual at));
      more = rw (count, f, add-one) (sym (take-slice_get usual_set k (v, 17 + k) at));
    }

pub usual-all : (xs : List P3) (set : List (P3 × ℕ)) (k : ℕ) → xs ≡ usual_vectors → set ≡ take k usual_set → length xs ≤ k → set ≡ usual_set
unfolding usual_set
usual-all xs set k e f h = f ∙ take_all k usual_set (omega (arith, ap length e, length-numbered 17 usual_vectors))

-- ---- which vectors are in the usual set
vectors_of-usual : vectors_of usual_set ≡ usual_vectors
unfolding usual_set
vectors_of-usual = vectors_of-numbered 17 usual_vectors

-- a vector that reaches 3 at most
component : (z : ℤ) → unsigned_abs z ≤ 3 → Contains components z
component (pos zero) h = (3, lit< tt, refl)
component (pos (suc zero)) h = (2, lit< tt, refl)
component (pos (suc (suc zero))) h = (1, lit< tt, refl)
component (pos (suc (suc (suc zero)))) h = (0, lit< tt, refl)
component (pos (suc (suc (suc (suc n))))) h = absurd (omega arith)
component (negsuc zero) h = (4, lit< tt, refl)
component (negsuc (suc zero)) h = (5, lit< tt, refl)
component (negsuc (suc (suc zero))) h = (6, lit< tt, refl)
component (negsuc (suc (suc (suc n)))) h = absurd (omega arith)

Contains-near_vectors : (v : P3) → All (λ n. n ≤ 3) (sizes_of v) → Contains near_vectors v
unfolding near_vectors
Contains-near_vectors v small =
    let x = component v.x (small 0 0 (lit< tt)) in
    let y = component v.y (small 1 0 (lit< tt)) in
    let z = component v.z (small 2 0 (lit< tt)) in
    Contains-flat_map plane components v.x v x
    (Contains-flat_map (row v.x) components v.y v y (Contains-map (λ (c : ℤ). record { x = v.x; y = v.y; z = c }) components v.z z))

-- the kinds are in descending order, and no vector of a kind reaches farther than 3
kinds-descending : AllByRecursion (λ kind. (ranked kind ≡ kind) × All (λ n. n ≤ 3) kind) kinds
kinds-descending =
    let low : (a b c : ℕ) → a ≤ 3 → b ≤ 3 → c ≤ 3 → All (λ n. n ≤ 3) (a ∷ b ∷ c ∷ []) =
    λ a b c p q r. All-from_recursion (λ n. n ≤ 3) (a ∷ b ∷ c ∷ []) (p, (q, (r, tt))) in (
      (refl, low 2 0 0 (lit≤ tt) (lit≤ tt) (lit≤ tt)),
      (
        (refl, low 2 1 0 (lit≤ tt) (lit≤ tt) (lit≤ tt)),
        (
          (refl, low 2 1 1 (lit≤ tt) (lit≤ tt) (lit≤ tt)),
          ((refl, low 2 2 1 (lit≤ tt) (lit≤ tt) (lit≤ tt)), ((refl, low 3 0 0 (lit≤ tt) (lit≤ tt) (lit≤ tt)), ((refl, low 3 1 0 (lit≤ tt) (lit≤ tt) (lit≤ tt)), tt))),
        ),
      ),
    )

All-IsUsual : All IsUsual usual_vectors
unfolding usual_vectors
All-IsUsual =
    let kept = λ (kind : List ℕ). filter (is_of_kind kind) near_vectors in
    All-flat_map IsUsual kept kinds (λ k d h.
    let kind = get_or kinds k d in
    All-weaker (λ v. is_of_kind kind v ≡ true) IsUsual
    (λ v t. (
      k,
      kind,
      h,
      get_or_default kinds k kind d h,
      subst (IsPermutation (sizes_of v)) ((bytes_eq-Decides (descending (unsigned_abs v.x) (unsigned_abs v.y) (unsigned_abs v.z)) kind).0 t)
          (IsPermutation-descending (unsigned_abs v.x) (unsigned_abs v.y) (unsigned_abs v.z)),
    ))
    (kept kind) (filter_passes (is_of_kind kind) near_vectors))

Contains-IsUsual : (v : P3) → IsUsual v → Contains usual_vectors v
unfolding usual_vectors
Contains-IsUsual v h =
    let kind = h.1 in
    let there : Contains kinds kind = (h.0, h.2, h.3) in
    let ordered = All-contains (λ l. (ranked l ≡ l) × All (λ n. n ≤ 3) l) kinds kind
    (All-from_recursion (λ l. (ranked l ≡ l) × All (λ n. n ≤ 3) l) kinds kinds-descending) there in
    let same = sym (ranked-permutation (unsigned_abs v.x) (unsigned_abs v.y) (unsigned_abs v.z) kind h.4) ∙ ordered.0 in
    let passes : is_of_kind kind v ≡ true = (bytes_eq-Decides (descending (unsigned_abs v.x) (unsigned_abs v.y) (unsigned_abs v.z)) kind).1 same in
    let near = Contains-near_vectors v (All-permutation (λ n. n ≤ 3) kind (sizes_of v) (IsPermutation-sym (sizes_of v) kind h.4) ordered.1) in
    Contains-flat_map (λ k. filter (is_of_kind k) near_vectors) kinds kind v there (Contains-filter (is_of_kind kind) near_vectors v near passes)

pub Contains-usual : (v : P3) → Contains (vectors_of usual_set) v ↔ IsUsual v
Contains-usual v = rw vectors_of-usual (All-contains IsUsual usual_vectors v All-IsUsual, Contains-IsUsual v)
