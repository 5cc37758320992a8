-- When a triangle and a segment meet: a point of one is a point of the other.
use Rattle.std.specs.Prelude.{◌≡◌, ℤ, pos, ◌+ℤ◌, ◌*ℤ◌, ◌<ℤ◌, ◌≤ℤ◌}
use Rattle.bfm_base.specs.Direction.{step_of}
use Rattle.bfm_base.specs.declared.place.P3.{P3}
use Rattle.bfm_base.specs.declared.place.Dir.{Dir}
use Rattle.bfm_geom.specs.declared.meeting.Weights.{Weights}

-- one of the six unit vectors
abbrev pub IsUnit : P3 → Type 0
IsUnit v = (dir : Dir) × (v ≡ step_of dir)

-- the mean of the corners a, b, b2 with the weights u, v, w and that of the ends c, d with the weights p, q agree along an axis
abbrev pub Agree : Weights → ℤ → ℤ → ℤ → ℤ → ℤ → Type 0
Agree k a b b2 c d = k.u *ℤ a +ℤ k.v *ℤ b +ℤ k.w *ℤ b2 ≡ k.p *ℤ c +ℤ k.q *ℤ d

-- The weights show a point that the triangle a, b, b2 and the segment c, d have in common. Corners and ends belong to them.
pub record IsCommonPoint (a b b2 c d : P3) (k : Weights) : Type 0 where
  pub corners : (pos 0 ≤ℤ k.u) × (pos 0 ≤ℤ k.v) × (pos 0 ≤ℤ k.w)
  pub ends : (pos 0 ≤ℤ k.p) × (pos 0 ≤ℤ k.q)
  pub total : k.u +ℤ k.v +ℤ k.w ≡ k.p +ℤ k.q
  pub some : pos 0 <ℤ (k.p +ℤ k.q)
  pub x : Agree k a.x b.x b2.x c.x d.x
  pub y : Agree k a.y b.y b2.y c.y d.y
  pub z : Agree k a.z b.z b2.z c.z d.z

-- the triangle a, b, b2 and the segment c, d meet
abbrev pub Meets : P3 → P3 → P3 → P3 → P3 → Type 0
Meets a b b2 c d = (k : Weights) × IsCommonPoint a b b2 c d k
