-- Moves of one bond through another that the vectors of a set allow.
use Rattle.std.specs.Prelude.{◌≡◌, ◌≤◌, ℕ, ℤ, pos, ◌<ℤ◌, ◌⊎◌, List, [], ◌∷◌}
use Rattle.std.specs.List.{Contains, position_or_len}
use Rattle.bfm_base.specs.declared.place.P3.{P3}
use Rattle.bfm_base.specs.declared.place.Dir.{Dir}
use Rattle.bfm_base.specs.declared.place.Dir.TheVariants.{XUp, XDown, YUp, YDown, ZUp, ZDown}
use Rattle.bfm_base.specs.Direction.{step_of}
use Rattle.bfm_base.specs.Place.{extent_of}
use Rattle.bfm_geom.specs.Difference.{minus, plus}
use Rattle.bfm_geom.specs.Meeting.{Meets}
use Rattle.bfm_geom.specs.Upright.{origin}
use Rattle.bond_set.specs.BondSet.{same_vector, vectors_of}

-- A bond runs from its fixed end at the origin, and its other end steps from b to b2. A place is clear of it where its greatest absolute component from each of the three is at least 2: a monomer there overlaps none of them.
pub record IsClear (b b2 place : P3) : Type 0 where
  pub neighbour : 2 ≤ extent_of place
  pub before : 2 ≤ extent_of (minus place b)
  pub after : 2 ≤ extent_of (minus place b2)

-- that bond sweeps through the bond e from c on: both ends of this one are clear of it, and the triangle that it sweeps meets this one
pub record SweepsThrough (b b2 c e : P3) : Type 0 where
  pub start : IsClear b b2 c
  pub end : IsClear b b2 (plus c e)
  pub meets : Meets origin b b2 c (plus c e)

-- the bond vector b after a step of its end
abbrev pub after_step : P3 → Dir → P3
after_step b dir = plus b (step_of dir)

-- A crossing move of a set: its end's step takes the bond b to another vector of the set, and through a bond e of the set that begins at the place c, which may be any.
pub record CrossingMove (set : List (P3 × ℕ)) (b : P3) (dir : Dir) (c e : P3) : Type 0 where
  pub bond : Contains (vectors_of set) b
  pub moved : Contains (vectors_of set) (after_step b dir)
  pub other : Contains (vectors_of set) e
  pub sweeps : SweepsThrough b (after_step b dir) c e

-- a set is free where it has no crossing move
abbrev pub IsFree : List (P3 × ℕ) → Type 0
IsFree set = (b : P3) (dir : Dir) (c e : P3) → ¬ (CrossingMove set b dir c e)

-- how many vectors of the set stand before this one
abbrev pub place_of : List (P3 × ℕ) → P3 → ℕ
place_of set v = position_or_len (same_vector v) (vectors_of set)

-- the number of a direction
abbrev pub direction_number : Dir → ℕ
direction_number XUp = 0
direction_number XDown = 1
direction_number YUp = 2
direction_number YDown = 3
direction_number ZUp = 4
direction_number ZDown = 5

-- what tells the order of crossing moves: the place of b, the number of the direction, the place of e, then c
abbrev pub rank_of : List (P3 × ℕ) → P3 → Dir → P3 → P3 → List ℤ
rank_of set b dir c e = pos (place_of set b) ∷ pos (direction_number dir) ∷ pos (place_of set e) ∷ c.x ∷ c.y ∷ c.z ∷ []

-- one rank is before another where the first number in which they differ is less
abbrev pub Precedes : List ℤ → List ℤ → Type 0
Precedes [] ys = ⊥
Precedes (x ∷ xs) [] = ⊥
Precedes (x ∷ xs) (y ∷ ys) = (x <ℤ y) ⊎ ((x ≡ y) × Precedes xs ys)

-- the first crossing of a set: a crossing move, and none is before it
pub record IsFirstCrossing (set : List (P3 × ℕ)) (b : P3) (dir : Dir) (c e : P3) : Type 0 where
  pub crossing : CrossingMove set b dir c e
  pub none_before : (b' : P3) (dir' : Dir) (c' e' : P3) → CrossingMove set b' dir' c' e' → ¬ (Precedes (rank_of set b' dir' c' e') (rank_of set b dir c e))
