-- Where a monomer may stand in a box with walls: it fills two sites along each axis, and both lie in the box.
use Rattle.std.specs.Prelude.{ℕ, ◌+◌, Bool, true, false, ◌&&◌, nat_le, ℤ, pos, negsuc}
use Rattle.bfm_base.specs.declared.place.P3.{P3}
use Rattle.bfm_base.specs.declared.place.Shape.{Shape}
use Rattle.bfm_geom.specs.Difference.{side_of, is_periodic}

-- A coordinate along a walled axis leaves room for the two sites of the monomer.
abbrev pub is_within_walls_along : Bool → ℕ → ℤ → Bool
is_within_walls_along true side c = true
is_within_walls_along false side (pos c) = nat_le (c + 2) side
is_within_walls_along false side (negsuc c) = false

abbrev pub is_within_walls : Shape → P3 → Bool
is_within_walls shape p =
    is_within_walls_along (is_periodic shape 0) (side_of shape 0) p.x
    && is_within_walls_along (is_periodic shape 1) (side_of shape 1) p.y
    && is_within_walls_along (is_periodic shape 2) (side_of shape 2) p.z
