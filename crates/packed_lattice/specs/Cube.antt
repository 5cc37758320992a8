-- Cubes and faces by their folded coordinates: two along each axis, and in a face along its own axis the same one twice.
use Rattle.std.specs.Prelude.{◌≡◌, ℕ, ◌+◌, ◌-◌, ◌<◌, Bool, ◌&&◌, ◌||◌, ◌==◌, ◌⊎◌, ℤ, pos, ◌+ℤ◌, if◌then◌else◌}
use Rattle.bfm_base.specs.declared.place.P3.{P3}
use Rattle.bfm_base.specs.declared.place.Shape.{Shape}
use Rattle.bfm_geom.specs.Difference.{side_of}
use Rattle.packed_lattice.specs.declared.site.Site.{Site}
use Rattle.packed_lattice.specs.declared.site.Pair.{Pair}
use Rattle.packed_lattice.specs.declared.site.Cube.{Cube}
use Rattle.packed_lattice.specs.Sites.{IsSite, folded}

-- the next coordinate along an axis, and the one before, through the boundary
abbrev pub next_along : ℕ → ℕ → ℕ
next_along side x = if x + 1 == side then 0 else x + 1

abbrev pub previous_along : ℕ → ℕ → ℕ
previous_along side x = if x == 0 then side - 1 else x - 1

abbrev pub pair_at : ℕ → ℤ → Pair
pair_at side c = record { near = folded side c; far = folded side (c +ℤ pos 1) }

-- the cube of a monomer
abbrev pub cube_at : Shape → P3 → Cube
cube_at shape p = record {
  xs = pair_at (side_of shape 0) p.x;
  ys = pair_at (side_of shape 1) p.y;
  zs = pair_at (side_of shape 2) p.z;
}

abbrev pub is_in_pair : Pair → ℕ → Bool
is_in_pair pair x = (x == pair.near) || (x == pair.far)

-- whether the site is one of the cube or face
abbrev pub is_in : Cube → Site → Bool
is_in cube s = is_in_pair cube.xs s.x && is_in_pair cube.ys s.y && is_in_pair cube.zs s.z

-- its sites are these
abbrev pub AreSites : Shape → Cube → (Site → Bool) → Type 0
AreSites shape cube these = (s : Site) → IsSite shape s → is_in cube s ≡ these s

-- both coordinates are from 0 to below the side
pub record IsPair (side : ℕ) (pair : Pair) : Type 0 where
  pub near : pair.near < side
  pub far : pair.far < side

-- all its sites lie in the box
pub record IsCube (shape : Shape) (cube : Cube) : Type 0 where
  pub xs : IsPair (side_of shape 0) cube.xs
  pub ys : IsPair (side_of shape 1) cube.ys
  pub zs : IsPair (side_of shape 2) cube.zs

-- a face: the two coordinates along its own axis are one
abbrev pub IsFace : Cube → Type 0
IsFace cube = (cube.xs.near ≡ cube.xs.far) ⊎ (cube.ys.near ≡ cube.ys.far) ⊎ (cube.zs.near ≡ cube.zs.far)
