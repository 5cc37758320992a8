-- Lists and options: elements, searches, filters, pieces and tests of an option.
use Rattle.std.proofs.Common.{◌≡◌, ℕ, zero, suc, ◌+◌, Bool, true, false, cond, find, filter, List, [], ◌∷◌, ◌++◌, map, take, drop, slice_get, Option, None, Some, IsSome, is_some, is_none, Contains, refl, sym, ap, subst, ◌∙◌, arith, add-one}
use Rattle.std.proofs.lemmas.List.{length-map}
use Rattle.std.proofs.lemmas.List.Elements.{All-nil, All-append, All-head, All-tail, Contains-append_left, Contains-append_right}
use Rattle.std.proofs.lemmas.Option.{get_or_from_slice_get, slice_get_within, none-some, same_Some, slice_get-get_or}
use Rattle.std.proofs.Math.ListN.{get_or-map}
use Rattle.std.specs.List.{All, AllByRecursion, flat_map}

-- an element goes with the list
pub Contains-map : {X Y : Type 0} (f : X → Y) (xs : List X) (x : X) → Contains xs x → Contains (map f xs) (f x)
Contains-map f xs x h = (h.0, omega (arith, length-map xs f, h.1), get_or-map f xs h.0 x ∙ ap f h.2)

-- what holds of each element holds of the one at k
pub All-slice_get : {X : Type 0} (P : X → Type 0) (xs : List X) (k : ℕ) (x : X) → All P xs → slice_get xs k ≡ Some x → P x
All-slice_get P xs k x all h = subst P (get_or_from_slice_get xs k x x h) (all k x (slice_get_within xs k x h))

-- a search that goes on at the k-th element
pub find-drop : {X : Type 0} (p : X → Bool) (xs : List X) (k : ℕ) (x : X) → slice_get xs k ≡ Some x → find p (drop k xs) ≡ cond (p x) (Some x) (find p (drop (k + 1) xs))
find-drop p [] k x h = absurd (none-some x h)
find-drop p (y ∷ ys) zero x h = ap (λ z. cond (p z) (Some z) (find p ys)) (same_Some y x h)
find-drop p (y ∷ ys) (suc k) x h = simp add-one (simp add-one at (find-drop p ys k x h))

-- ---- searches
-- a search finds nothing exactly where no element passes
pub find-none : {X : Type 0} (p : X → Bool) (xs : List X) → find p xs ≡ None → AllByRecursion (λ x. p x ≡ false) xs
find-none p [] h = tt
find-none p (x ∷ xs) h = by (p x) refl (find-none p xs)
  where
    by : (b : Bool) → p x ≡ b → (find p xs ≡ None → AllByRecursion (λ y. p y ≡ false) xs) → AllByRecursion (λ y. p y ≡ false) (x ∷ xs)
    by true e rest = absurd (let some : Some x ≡ None = rw e at h in cc)
    by false e rest = (e, rest (rw e at h))

pub find-none_from_all : {X : Type 0} (p : X → Bool) (xs : List X) → AllByRecursion (λ x. p x ≡ false) xs → find p xs ≡ None
find-none_from_all p [] h = refl
find-none_from_all p (x ∷ xs) h = rw h.0 (find-none_from_all p xs h.1)

-- one more element
pub take-slice_get : {X : Type 0} (xs : List X) (k : ℕ) (x : X) → slice_get xs k ≡ Some x → take (suc k) xs ≡ take k xs ++ x ∷ []
take-slice_get [] k x h = absurd (none-some x h)
take-slice_get (y ∷ xs) zero x h = ap (λ z. z ∷ []) (same_Some y x h)
take-slice_get (y ∷ xs) (suc k) x h = ap (λ l. y ∷ l) (take-slice_get xs k x h)

-- ---- pieces
-- what holds of each piece's elements holds of all
pub All-flat_map : {X Y : Type 0} (P : Y → Type 0) (f : X → List Y) (xs : List X) → All (λ x. All P (f x)) xs → All P (flat_map f xs)
All-flat_map P f [] h = All-nil P
All-flat_map P f (x ∷ xs) h =
    All-append P (f x) (flat_map f xs) (All-head (λ x. All P (f x)) x xs h) (All-flat_map P f xs (All-tail (λ x. All P (f x)) x xs h))

-- an element of a piece is in the whole
pub Contains-flat_map : {X Y : Type 0} (f : X → List Y) (xs : List X) (x : X) (y : Y) → Contains xs x → Contains (f x) y → Contains (flat_map f xs) y
Contains-flat_map {X} {Y} f xs x y h there = by xs h.0 (slice_get-get_or xs h.0 x h.1 ∙ ap Some h.2)
  where
    by : (ys : List X) (k : ℕ) → slice_get ys k ≡ Some x → Contains (flat_map f ys) y
    by [] k at = absurd (none-some x at)
    by (z ∷ ys) zero at = Contains-append_left (f z) (flat_map f ys) y (subst (λ w. Contains (f w) y) (sym (same_Some z x at)) there)
    by (z ∷ ys) (suc k) at = Contains-append_right (f z) (flat_map f ys) y (by ys k at)

-- an element that passes is kept
pub Contains-filter : {X : Type 0} (p : X → Bool) (xs : List X) (x : X) → Contains xs x → p x ≡ true → Contains (filter p xs) x
Contains-filter {X} p xs x h passes = by xs h.0 (slice_get-get_or xs h.0 x h.1 ∙ ap Some h.2)
  where
    -- one more element in front, if it passes
    front : (b : Bool) (z : X) (kept : List X) → Contains kept x → Contains (cond b (z ∷ kept) kept) x
    front true z kept there = Contains-append_right (z ∷ []) kept x there
    front false z kept there = there

    by : (ys : List X) (k : ℕ) → slice_get ys k ≡ Some x → Contains (filter p ys) x
    by [] k at = absurd (none-some x at)
    by (z ∷ ys) zero at =
        let same = same_Some z x at in
        subst (λ b. Contains (cond b (z ∷ filter p ys) (filter p ys)) x) (sym (ap p same ∙ passes)) (0, omega arith, same)
    by (z ∷ ys) (suc k) at = front (p z) z (filter p ys) (by ys k at)

-- ---- options
pub None-from_is_some : {X : Type 0} (o : Option X) → is_some o ≡ false → o ≡ None
None-from_is_some None h = refl
None-from_is_some (Some x) h = cc

pub None-from_is_none : {X : Type 0} (o : Option X) → is_none o ≡ true → o ≡ None
None-from_is_none None h = refl
None-from_is_none (Some x) h = cc

pub IsSome-from_is_none : {X : Type 0} (o : Option X) → is_none o ≡ false → IsSome o
IsSome-from_is_none None h = cc
IsSome-from_is_none (Some x) h = refl

pub is_none-IsSome : {X : Type 0} (o : Option X) → IsSome o → is_none o ≡ false
is_none-IsSome None h = cc
is_none-IsSome (Some x) h = refl
