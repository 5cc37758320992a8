-- The verdict on a set of bond vectors.
use Rattle.std.specs.Prelude.{◌≡◌, ℕ, List}
use Rattle.bfm_base.specs.declared.place.P3.{P3}
use Rattle.bfm_base.specs.declared.place.Dir.{Dir}
use Rattle.bond_set.specs.Crossing.{CrossingMove, IsFirstCrossing, IsFree, Precedes, after_step, rank_of}
use Rattle.crossing_check.specs.declared.judgement.SetVerdict.{SetVerdict}
use Rattle.crossing_check.specs.declared.judgement.SetVerdict.TheVariants.{Free, Crossing}
use Rattle.crossing_check.specs.declared.judgement.Crossing.{Crossing as Found}
use Rattle.crossing_check.specs.Passage.{IsShown}

-- a free set has no crossing move; else the verdict is the first one, and its weights show a common point
abbrev pub IsVerdict : List (P3 × ℕ) → SetVerdict → Type 0
IsVerdict set Free = IsFree set
IsVerdict set (Crossing b dir c e weights) = IsFirstCrossing set b dir c e × IsShown b (after_step b dir) c e weights

-- the first crossing move with one of these bonds and directions
pub record IsFirstAmong (among : P3 → Dir → Type 0) (set : List (P3 × ℕ)) (first : Found) : Type 0 where
  pub one_of_them : among first.b first.dir
  pub crossing : CrossingMove set first.b first.dir first.c first.e
  pub shown : IsShown first.b (after_step first.b first.dir) first.c first.e first.weights
  pub none_before : (b : P3) (dir : Dir) (c e : P3) → among b dir → CrossingMove set b dir c e
      → ¬ (Precedes (rank_of set b dir c e) (rank_of set first.b first.dir first.c first.e))

-- no crossing move has one of them
abbrev pub NoneAmong : (P3 → Dir → Type 0) → List (P3 × ℕ) → Type 0
NoneAmong among set = (b : P3) (dir : Dir) (c e : P3) → among b dir → ¬ (CrossingMove set b dir c e)

-- moves of one bond, and moves of one bond by one step
abbrev pub IsOfBond : P3 → P3 → Dir → Type 0
IsOfBond b b' dir' = b' ≡ b

abbrev pub IsOfStep : P3 → Dir → P3 → Dir → Type 0
IsOfStep b dir b' dir' = (b' ≡ b) × (dir' ≡ dir)
