-- The places of vectors in a set, and the numbers of directions.
use Rattle.std.proofs.Common.{◌≡◌, ℕ, zero, suc, ◌<◌, ◌≤◌, Bool, true, false, List, [], ◌∷◌, length, slice_get, Some, IsTrue, Contains, refl, sym, ap, subst, ◌∙◌, arith}
use Rattle.std.proofs.lemmas.List.Elements.{All-contains, All-from_recursion}
use Rattle.std.proofs.lemmas.Map.Keys.{IsDistinct-head, IsDistinct-tail}
use Rattle.std.proofs.lemmas.Option.{none-some, same_Some, slice_get-get_or, slice_get_within, get_or_from_slice_get}
use Rattle.std.proofs.lemmas.List.{length-map}
use Rattle.std.specs.Cmp.{IsEquivalence}
use Rattle.std.specs.List.{IsDistinct, position_or_len}
use Rattle.bfm_base.specs.declared.place.P3.{P3}
use Rattle.bfm_base.specs.declared.place.Dir.{Dir}
use Rattle.bfm_base.specs.declared.place.Dir.TheVariants.{XUp, XDown, YUp, YDown, ZUp, ZDown}
use Rattle.bfm_base.specs.Direction.{directions}
use Rattle.bfm_base.specs.Place.{extent_of}
use Rattle.bond_set.specs.BondSet.{IsBondSet, is_bond_vector, same_vector, vectors_of}
use Rattle.bond_set.specs.Crossing.{direction_number, place_of}
use Rattle.bond_set.proofs.ListLemmas.{All-slice_get}
use Rattle.bond_set.proofs.PairLemmas.{extent_of-bond_vector, same_from_same_vector, same_vector-equiv}

-- ---- places
-- the first element passes, or the search goes on
position-here : (p : P3 → Bool) (v : P3) (vs : List P3) → p v ≡ true → position_or_len p (v ∷ vs) ≡ 0
position-here p v vs h = rw h refl

position-later : (p : P3 → Bool) (v : P3) (vs : List P3) → p v ≡ false → position_or_len p (v ∷ vs) ≡ suc (position_or_len p vs)
position-later p v vs h = rw h (omega arith)

-- the vector at a place of distinct ones has that place
position-distinct : (vs : List P3) (k : ℕ) (v : P3) → IsDistinct same_vector vs → slice_get vs k ≡ Some v → position_or_len (same_vector v) vs ≡ k
position-distinct [] k v d at = absurd (none-some v at)
position-distinct (w ∷ vs) zero v d at =
    position-here (same_vector v) w vs (subst (λ u. same_vector v u ≡ true) (sym (same_Some w v at)) (IsEquivalence.refl same_vector-equiv v))
position-distinct (w ∷ vs) (suc k) v d at =
    let differ = All-slice_get (λ u. same_vector w u ≡ false) vs k v (All-from_recursion _ vs (IsDistinct-head same_vector w vs d)) at in
    position-later (same_vector v) w vs (flip v w differ) ∙ ap suc (position-distinct vs k v (IsDistinct-tail same_vector w vs d) at)
  where
    flip : (v w : P3) → same_vector w v ≡ false → same_vector v w ≡ false
    flip v w h = by (same_vector v w) refl
      where
        by : (b : Bool) → same_vector v w ≡ b → b ≡ false
        by true e = absurd (let yes : same_vector w v ≡ true = subst (λ u. same_vector u v ≡ true) (same_from_same_vector v w e) (IsEquivalence.refl same_vector-equiv v) in cc)
        by false e = refl

-- a vector of the list stands at its place
slice_get-position : (vs : List P3) (k : ℕ) (v : P3) → slice_get vs k ≡ Some v → slice_get vs (position_or_len (same_vector v) vs) ≡ Some v
slice_get-position [] k v at = absurd (none-some v at)
slice_get-position (w ∷ vs) k v at = by (same_vector v w) refl (λ j. slice_get-position vs j v)
  where
    later : (k : ℕ) → ((j : ℕ) → slice_get vs j ≡ Some v → slice_get vs (position_or_len (same_vector v) vs) ≡ Some v) → same_vector v w ≡ false → slice_get (w ∷ vs) k ≡ Some v → slice_get vs (position_or_len (same_vector v) vs) ≡ Some v
    later zero rest e at = absurd (let yes : same_vector v w ≡ true = subst (λ u. same_vector v u ≡ true) (sym (same_Some w v at)) (IsEquivalence.refl same_vector-equiv v) in cc)
    later (suc k) rest e at = rest k at

    by : (b : Bool) → same_vector v w ≡ b → ((j : ℕ) → slice_get vs j ≡ Some v → slice_get vs (position_or_len (same_vector v) vs) ≡ Some v) → slice_get (w ∷ vs) (position_or_len (same_vector v) (w ∷ vs)) ≡ Some v
    by true e rest = rw (position-here (same_vector v) w vs e) (ap Some (sym (same_from_same_vector v w e)))
    by false e rest = rw (position-later (same_vector v) w vs e) (later k rest e at)

-- so does a vector that the list contains
at_some_place : (vs : List P3) (v : P3) → Contains vs v → slice_get vs (position_or_len (same_vector v) vs) ≡ Some v
at_some_place vs v h = slice_get-position vs h.0 v (slice_get-get_or vs h.0 v h.1 ∙ ap Some h.2)

-- the vector at a place of a set has that place
pub place_of-at : (set : List (P3 × ℕ)) (k : ℕ) (v : P3) → IsBondSet set → slice_get (vectors_of set) k ≡ Some v → place_of set v ≡ k
place_of-at set k v rules at = position-distinct (vectors_of set) k v rules.vectors_differ at

-- two vectors of a set with one place are one
pub place_of-same : (set : List (P3 × ℕ)) (v w : P3) → Contains (vectors_of set) v → Contains (vectors_of set) w → place_of set v ≡ place_of set w → v ≡ w
place_of-same set v w hv hw e =
    same_Some v w (sym (at_some_place (vectors_of set) v hv) ∙ ap (slice_get (vectors_of set)) e ∙ at_some_place (vectors_of set) w hw)

-- a place is below the number of vectors
pub place_of-below : (set : List (P3 × ℕ)) (v : P3) → Contains (vectors_of set) v → place_of set v < length set
place_of-below set v h =
    let below : place_of set v < length (vectors_of set) = slice_get_within (vectors_of set) (place_of set v) v (at_some_place (vectors_of set) v h) in
    omega (arith, below, length-map set (λ e. e.0))

-- ---- vectors of a set
-- the vector at a place is in the list
pub Contains-at : (vs : List P3) (k : ℕ) (v : P3) → slice_get vs k ≡ Some v → Contains vs v
Contains-at vs k v at = (k, slice_get_within vs k v at, get_or_from_slice_get vs k v v at)

-- a vector of a set reaches 3 at most
pub extent_of-member : (set : List (P3 × ℕ)) (v : P3) → IsBondSet set → Contains (vectors_of set) v → extent_of v ≤ 3
extent_of-member set v rules h = extent_of-bond_vector v (All-contains (λ w. IsTrue (is_bond_vector w)) (vectors_of set) v rules.vectors h)

-- ---- directions
-- a direction stands at its number
slice_get-direction_number : (dir : Dir) → slice_get directions (direction_number dir) ≡ Some dir
slice_get-direction_number XUp = refl
slice_get-direction_number XDown = refl
slice_get-direction_number YUp = refl
slice_get-direction_number YDown = refl
slice_get-direction_number ZUp = refl
slice_get-direction_number ZDown = refl

-- there are six
pub direction_number-below : (dir : Dir) → direction_number dir < 6
direction_number-below dir = slice_get_within directions (direction_number dir) dir (slice_get-direction_number dir)

-- two directions with one number are one
pub direction_number-same : (a b : Dir) → direction_number a ≡ direction_number b → a ≡ b
direction_number-same a b e = same_Some a b (sym (slice_get-direction_number a) ∙ ap (slice_get directions) e ∙ slice_get-direction_number b)

-- the direction at a number has that number
pub direction_number-at : (n : ℕ) (dir : Dir) → slice_get directions n ≡ Some dir → direction_number dir ≡ n
direction_number-at zero dir h = ap direction_number (sym (same_Some XUp dir h))
direction_number-at (suc zero) dir h = ap direction_number (sym (same_Some XDown dir h))
direction_number-at (suc (suc zero)) dir h = ap direction_number (sym (same_Some YUp dir h))
direction_number-at (suc (suc (suc zero))) dir h = ap direction_number (sym (same_Some YDown dir h))
direction_number-at (suc (suc (suc (suc zero)))) dir h = ap direction_number (sym (same_Some ZUp dir h))
direction_number-at (suc (suc (suc (suc (suc zero))))) dir h = ap direction_number (sym (same_Some ZDown dir h))
direction_number-at (suc (suc (suc (suc (suc (suc n)))))) dir h = absurd (none-some dir h)
