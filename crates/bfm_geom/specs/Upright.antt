-- A triangle with a corner at the origin and the opposite edge along z: it stands upright, and seen from above it is a segment or a point.
use Rattle.std.specs.Prelude.{◌≡◌, ◌^◌, ℤ, pos, neg_ℤ, ◌+ℤ◌, ◌-ℤ◌, ◌*ℤ◌}
use Rattle.bfm_base.specs.declared.place.P3.{P3}
use Rattle.bfm_geom.specs.declared.meeting.Weights.{Weights}
use Rattle.bfm_geom.specs.declared.stretch.Bound.{Bound}
use Rattle.bfm_geom.specs.Difference.{IsWithin}
use Rattle.bfm_geom.specs.Meeting.{IsCommonPoint, Meets}

-- the corner a of each triangle here
abbrev pub origin : P3
origin = record { x = pos 0; y = pos 0; z = pos 0 }

-- the place that lies higher by this much along z
abbrev pub raised : P3 → ℤ → P3
raised p rise = record { x = p.x; y = p.y; z = p.z +ℤ rise }

-- the weights show a point that the segment c, d has in common with the triangle of the origin, b and the place above or below b
abbrev pub IsUprightPoint : P3 → ℤ → P3 → P3 → Weights → Type 0
IsUprightPoint b rise c d k = IsCommonPoint origin b (raised b rise) c d k

-- no weights show one
abbrev pub IsUprightApart : P3 → ℤ → P3 → P3 → Type 0
IsUprightApart b rise c d = ¬ (Meets origin b (raised b rise) c d)

-- the same for a triangle that lies on the z axis, from the origin up to a height, where b and the place above it are one; that place has no weight
abbrev pub IsAxisPoint : ℤ → P3 → P3 → Weights → Type 0
IsAxisPoint top c d k = (k.w ≡ pos 0) × IsCommonPoint origin (raised origin top) (raised origin top) c d k

abbrev pub IsAxisApart : ℤ → P3 → P3 → Type 0
IsAxisApart top c d = ¬ (Meets origin (raised origin top) (raised origin top) c d)

-- turned about z by a right angle, by two and by three
abbrev pub quarter_turned : P3 → P3
quarter_turned p = record { x = p.y; y = neg_ℤ p.x; z = p.z }

abbrev pub half_turned : P3 → P3
half_turned p = record { x = neg_ℤ p.x; y = neg_ℤ p.y; z = p.z }

abbrev pub three_quarter_turned : P3 → P3
three_quarter_turned p = record { x = neg_ℤ p.y; y = p.x; z = p.z }

-- turned upside down
abbrev pub mirrored : P3 → P3
mirrored p = record { x = p.x; y = p.y; z = neg_ℤ p.z }

-- with the axes in the order y, z, x
abbrev pub cycled : P3 → P3
cycled p = record { x = p.y; y = p.z; z = p.x }

-- close enough to the origin that sums of two products of coordinates are small
pub record IsInReach (b c d : P3) : Type 0 where
  pub b_within : IsWithin (2 ^ 11) b
  pub c_within : IsWithin (2 ^ 11) c
  pub d_within : IsWithin (2 ^ 11) d

-- how far the ends of the segment lie beside the plane of the triangle, times the length of its shadow
abbrev pub aside_of : P3 → P3 → P3 → Bound
aside_of b c d = record { at_c = b.x *ℤ c.y -ℤ b.y *ℤ c.x; at_d = b.x *ℤ d.y -ℤ b.y *ℤ d.x }

-- the weight of the corner at the origin, of b and of the place one above b, times b.x, for a point in the plane
abbrev pub origin_weight_of : P3 → P3 → P3 → Bound
origin_weight_of b c d = record { at_c = b.x -ℤ c.x; at_d = b.x -ℤ d.x }

abbrev pub lower_weight_of : P3 → P3 → P3 → Bound
lower_weight_of b c d = record { at_c = c.x -ℤ (b.x *ℤ c.z -ℤ b.z *ℤ c.x); at_d = d.x -ℤ (b.x *ℤ d.z -ℤ b.z *ℤ d.x) }

abbrev pub upper_weight_of : P3 → P3 → P3 → Bound
upper_weight_of b c d = record { at_c = b.x *ℤ c.z -ℤ b.z *ℤ c.x; at_d = b.x *ℤ d.z -ℤ b.z *ℤ d.x }

-- where the ends lie along x, y and z, and how far below a height
abbrev pub along_x_of : P3 → P3 → Bound
along_x_of c d = record { at_c = c.x; at_d = d.x }

abbrev pub along_y_of : P3 → P3 → Bound
along_y_of c d = record { at_c = c.y; at_d = d.y }

abbrev pub height_of : P3 → P3 → Bound
height_of c d = record { at_c = c.z; at_d = d.z }

abbrev pub depth_of : ℤ → P3 → P3 → Bound
depth_of top c d = record { at_c = top -ℤ c.z; at_d = top -ℤ d.z }
