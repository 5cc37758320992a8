-- Differences of places in a box, the excluded volume of a monomer (Carmesin and Kremer 1988), and contacts.
use Rattle.std.specs.Prelude.{◌≡◌, ℕ, ◌+◌, ◌*◌, ◌≤◌, Bool, true, false, ◌&&◌, nat_le, ℤ, pos, neg_ℤ, ◌+ℤ◌, ◌-ℤ◌, ◌*ℤ◌, ◌<ℤ◌, ◌≤ℤ◌, int_le, nat_abs, slice_index, slice_index_or, MatchBool, if◌then◌else◌}
use Rattle.std.specs.Int.{int_rem_euclid}
use Rattle.bfm_base.specs.declared.limits.TheConstants.{LEAST_SIDE, GREATEST_SIDE, MOST_SITES}
use Rattle.bfm_base.specs.declared.place.P3.{P3}
use Rattle.bfm_base.specs.declared.place.Shape.{Shape}

-- the side of the box along an axis: 0 is x, 1 is y, 2 is z
abbrev pub side_of : Shape → ℕ → ℕ
side_of shape axis = slice_index shape.sides axis

-- whether an axis is periodic
abbrev pub is_periodic : Shape → ℕ → Bool
is_periodic shape axis = slice_index_or shape.periodic axis false

-- a side is within its limits
abbrev pub IsSide : ℕ → Type 0
IsSide side = (LEAST_SIDE ≤ side) × (side ≤ GREATEST_SIDE)

-- the sides are within their limits
pub record HasSides (shape : Shape) : Type 0 where
  pub x : IsSide (side_of shape 0)
  pub y : IsSide (side_of shape 1)
  pub z : IsSide (side_of shape 2)

-- so are the sides, and the number of sites
pub record IsBox (shape : Shape) : Type 0 where
  pub sides : HasSides shape
  pub sites : side_of shape 0 * side_of shape 1 * side_of shape 2 ≤ MOST_SITES

-- each coordinate is at most this much in absolute value
pub record IsWithin (reach : ℕ) (p : P3) : Type 0 where
  pub x : nat_abs p.x ≤ reach
  pub y : nat_abs p.y ≤ reach
  pub z : nat_abs p.z ≤ reach

-- the sum of two places, and the difference
abbrev pub plus : P3 → P3 → P3
plus a b = record { x = a.x +ℤ b.x; y = a.y +ℤ b.y; z = a.z +ℤ b.z }

abbrev pub minus : P3 → P3 → P3
minus a b = record { x = a.x -ℤ b.x; y = a.y -ℤ b.y; z = a.z -ℤ b.z }

-- the squared length of a vector
abbrev pub square_of : P3 → ℕ
square_of v = nat_abs v.x * nat_abs v.x + nat_abs v.y * nat_abs v.y + nat_abs v.z * nat_abs v.z

-- A difference along an axis, wrapped. On a walled axis it is the plain one.
abbrev pub wrapped_along : Bool → ℕ → ℤ → ℤ
wrapped_along false side d = d
wrapped_along true side d =
    let folded = int_rem_euclid d (pos side) in
    if int_le (pos 2 *ℤ folded) (pos side) then folded else folded -ℤ pos side

-- the wrapped form of a difference
abbrev pub wrapped : Shape → P3 → P3
wrapped shape d = record {
  x = wrapped_along (is_periodic shape 0) (side_of shape 0) d.x;
  y = wrapped_along (is_periodic shape 1) (side_of shape 1) d.y;
  z = wrapped_along (is_periodic shape 2) (side_of shape 2) d.z;
}

-- w differs from d by whole sides, and lies above minus half the side and at or below half the side
pub record IsNearest (side : ℕ) (d w : ℤ) : Type 0 where
  pub turns : (k : ℤ) × (w ≡ d +ℤ k *ℤ pos side)
  pub above : neg_ℤ (pos side) <ℤ (pos 2 *ℤ w)
  pub below : (pos 2 *ℤ w) ≤ℤ pos side

-- what makes a wrapped difference the right one: nearest on a periodic axis, plain on a walled one
abbrev pub IsWrappedAlong : Bool → ℕ → ℤ → ℤ → Type 0
IsWrappedAlong periodic side d w = MatchBool periodic (IsNearest side d w) (w ≡ d)

-- the same along each axis
pub record IsWrapped (shape : Shape) (d w : P3) : Type 0 where
  pub x : IsWrappedAlong (is_periodic shape 0) (side_of shape 0) d.x w.x
  pub y : IsWrappedAlong (is_periodic shape 1) (side_of shape 1) d.y w.y
  pub z : IsWrappedAlong (is_periodic shape 2) (side_of shape 2) d.z w.z

-- two monomers overlap where each component of their wrapped difference is at most 1 in absolute value
abbrev pub overlaps : Shape → P3 → P3 → Bool
overlaps shape a b =
    let d = wrapped shape (minus b a) in
    nat_le (nat_abs d.x) 1 && nat_le (nat_abs d.y) 1 && nat_le (nat_abs d.z) 1

-- whether two monomers at this squared distance are in contact: it is 4, 5 or 6
abbrev pub is_contact_square : ℕ → Bool
is_contact_square square = nat_le 4 square && nat_le square 6

-- whether two monomers are in contact, by their wrapped difference
abbrev pub are_in_contact : Shape → P3 → P3 → Bool
are_in_contact shape a b = is_contact_square (square_of (wrapped shape (minus b a)))
