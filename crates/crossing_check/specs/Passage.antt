-- Where a bond that passes by can be swept through: the places from which it meets a bond whose end steps.
use Rattle.std.specs.Prelude.{◌≡◌, ◌≤◌, ℤ, pos, ◌+ℤ◌, ◌<ℤ◌, ◌≤ℤ◌, List, [], ◌∷◌}
use Rattle.bfm_base.specs.declared.place.P3.{P3}
use Rattle.bfm_base.specs.Place.{extent_of}
use Rattle.bfm_geom.specs.declared.meeting.Weights.{Weights}
use Rattle.bfm_geom.specs.Difference.{minus, plus}
use Rattle.bfm_geom.specs.Meeting.{Agree, IsCommonPoint, IsUnit}
use Rattle.bfm_geom.specs.Upright.{origin}
use Rattle.bond_set.specs.Crossing.{Precedes, SweepsThrough}
use Rattle.crossing_check.specs.declared.passage.Encounter.{Encounter}
use Rattle.crossing_check.specs.declared.passage.Passage.{Passage}

-- the three are bond vectors, and the end makes a step
pub record IsEncounter (pair : Encounter) : Type 0 where
  pub before : extent_of pair.before ≤ 3
  pub after : extent_of pair.after ≤ 3
  pub other : extent_of pair.other ≤ 3
  pub step : IsUnit (minus pair.after pair.before)

-- the first bond sweeps through the other one where that begins here
abbrev pub SweepsFrom : Encounter → P3 → Type 0
SweepsFrom pair start = SweepsThrough pair.before pair.after start pair.other

-- the weights show a common point of the triangle and the other bond
abbrev pub IsShown : P3 → P3 → P3 → P3 → Weights → Type 0
IsShown before after start other weights = IsCommonPoint origin before after start (plus start other) weights

-- x, then y, then z
abbrev pub coordinates_of : P3 → List ℤ
coordinates_of p = p.x ∷ p.y ∷ p.z ∷ []

-- the first of these starts from which the first bond sweeps through the other one
pub record IsFirstPassage (among : P3 → Type 0) (pair : Encounter) (first : Passage) : Type 0 where
  pub one_of_them : among first.start
  pub sweeps : SweepsFrom pair first.start
  pub shown : IsShown pair.before pair.after first.start pair.other first.weights
  pub none_before : (start : P3) → among start → SweepsFrom pair start → ¬ (Precedes (coordinates_of start) (coordinates_of first.start))

-- it does so from none of them
abbrev pub NoPassage : (P3 → Type 0) → Encounter → Type 0
NoPassage among pair = (start : P3) → among start → ¬ (SweepsFrom pair start)

-- starts in a row along z, and in a plane of y and z
abbrev pub IsInRow : ℤ → ℤ → P3 → Type 0
IsInRow x y p = (p.x ≡ x) × (p.y ≡ y)

abbrev pub IsInPlane : ℤ → P3 → Type 0
IsInPlane x p = p.x ≡ x

-- Along one axis, the mean of 0, before and after with some weights is that of a start and the end of the other bond with others: a triangle and a bond that meet do so along each axis.
pub record MeetAlong (before after other start : ℤ) : Type 0 where
  pub weights : Weights
  pub corners : (pos 0 ≤ℤ weights.u) × (pos 0 ≤ℤ weights.v) × (pos 0 ≤ℤ weights.w)
  pub ends : (pos 0 ≤ℤ weights.p) × (pos 0 ≤ℤ weights.q)
  pub total : weights.u +ℤ weights.v +ℤ weights.w ≡ weights.p +ℤ weights.q
  pub some : pos 0 <ℤ (weights.p +ℤ weights.q)
  pub agree : Agree weights (pos 0) before after start (start +ℤ other)
