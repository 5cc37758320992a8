-- The stretch of a segment on which some conditions hold, each on a number that changes evenly along the segment.
use Rattle.std.specs.Prelude.{◌^◌, ◌≤◌, List, [], ◌∷◌, ℤ, pos, neg_ℤ, ◌+ℤ◌, ◌-ℤ◌, ◌*ℤ◌, ◌<ℤ◌, ◌≤ℤ◌, nat_abs}
use Rattle.bfm_geom.specs.declared.stretch.SegmentPoint.{SegmentPoint}
use Rattle.bfm_geom.specs.declared.stretch.Bound.{Bound}
use Rattle.bfm_geom.specs.declared.stretch.Stretch.{Stretch}

-- weights of the ends that show a point: none is negative, and not both are 0
pub record IsPoint (s : SegmentPoint) : Type 0 where
  pub p : pos 0 ≤ℤ s.p
  pub q : pos 0 ≤ℤ s.q
  pub some : pos 0 <ℤ (s.p +ℤ s.q)

-- the number at a point, times the sum of the point's weights
abbrev pub value_at : Bound → SegmentPoint → ℤ
value_at g s = s.p *ℤ g.at_c +ℤ s.q *ℤ g.at_d

-- the number is at least 0 at the point
abbrev pub Holds : Bound → SegmentPoint → Type 0
Holds g s = pos 0 ≤ℤ value_at g s

-- and each of these numbers is
abbrev pub AllHold : List Bound → SegmentPoint → Type 0
AllHold [] s = Unit {0}
AllHold (g ∷ gs) s = Holds g s × AllHold gs s

-- at least 0 where t is not before s on the way from c to d
abbrev pub lead : SegmentPoint → SegmentPoint → ℤ
lead s t = s.p *ℤ t.q -ℤ s.q *ℤ t.p

-- small enough for sums of two products in 64 bits
pub record IsSmall (p q : ℤ) : Type 0 where
  pub first : nat_abs p ≤ 2 ^ 24
  pub second : nat_abs q ≤ 2 ^ 24

-- a part of the segment, from a point to one that is not before it
pub record IsStretch (t : Stretch) : Type 0 where
  pub from : IsPoint t.from
  pub to : IsPoint t.to
  pub forward : pos 0 ≤ℤ lead t.from t.to
  pub from_size : IsSmall t.from.p t.from.q
  pub to_size : IsSmall t.to.p t.to.q

-- the point lies on the stretch
pub record IsOn (t : Stretch) (s : SegmentPoint) : Type 0 where
  pub point : IsPoint s
  pub from : pos 0 ≤ℤ lead t.from s
  pub to : pos 0 ≤ℤ lead s t.to

-- the new stretch is the part of the old one on which the bounds hold; being a part, it keeps what holds at both ends of the old one
pub record Narrows (old : Stretch) (bounds : List Bound) (new : Stretch) : Type 0 where
  pub stretch : IsStretch new
  pub none_missed : (s : SegmentPoint) → IsOn old s → AllHold bounds s → IsOn new s
  pub none_invented : AllHold bounds new.from × AllHold bounds new.to
  pub inside : (g : Bound) → Holds g old.from → Holds g old.to → Holds g new.from × Holds g new.to

-- the same number with its sign turned: it and the bound hold together where the number is 0
abbrev pub opposite_of : Bound → Bound
opposite_of g = record { at_c = neg_ℤ g.at_c; at_d = neg_ℤ g.at_d }

-- no point of the stretch has all the bounds
abbrev pub IsRuledOut : Stretch → List Bound → Type 0
IsRuledOut t bounds = (s : SegmentPoint) → IsOn t s → AllHold bounds s → ⊥
