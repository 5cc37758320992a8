-- The sites of a box, each free or taken, and those that a monomer fills: the eight of a unit cube (Carmesin and Kremer 1988).
use Rattle.std.specs.Prelude.{◌≡◌, ℕ, ◌+◌, ◌*◌, ◌<◌, Bool, true, false, not, ◌&&◌, ◌||◌, ◌==◌, ℤ, pos, ◌+ℤ◌, nat_abs, List, slice_index_or, if◌then◌else◌}
use Rattle.std.specs.Int.{int_rem_euclid}
use Rattle.bfm_base.specs.declared.place.P3.{P3}
use Rattle.bfm_base.specs.declared.place.Dir.{Dir}
use Rattle.bfm_base.specs.declared.place.Shape.{Shape}
use Rattle.bfm_base.specs.Direction.{step_of}
use Rattle.bfm_geom.specs.Difference.{side_of, plus}
use Rattle.packed_lattice.specs.declared.site.Site.{Site}

-- the site lies in the box: each coordinate is from 0 to below the side
pub record IsSite (shape : Shape) (s : Site) : Type 0 where
  pub x : s.x < side_of shape 0
  pub y : s.y < side_of shape 1
  pub z : s.z < side_of shape 2

-- a coordinate folded into the box: it differs by whole sides, and is from 0 to below the side
abbrev pub folded : ℕ → ℤ → ℕ
folded side c = nat_abs (int_rem_euclid c (pos side))

-- the site of a place
abbrev pub site_of : Shape → P3 → Site
site_of shape p = record {
  x = folded (side_of shape 0) p.x;
  y = folded (side_of shape 1) p.y;
  z = folded (side_of shape 2) p.z;
}

-- Along an axis a monomer at c fills its own site and the next one, through a periodic boundary. Between walls nothing is folded.
abbrev pub covers_along : ℕ → ℤ → ℕ → Bool
covers_along side c x = (x == folded side c) || (x == folded side (c +ℤ pos 1))

-- whether a monomer at p fills the site: the cube at p has eight sites, two along each axis
abbrev pub covers : Shape → P3 → Site → Bool
covers shape p s =
    covers_along (side_of shape 0) p.x s.x && covers_along (side_of shape 1) p.y s.y && covers_along (side_of shape 2) p.z s.z

-- whether a monomer that steps from p fills the site newly: four sites
abbrev pub newly_covers : Shape → P3 → Dir → Site → Bool
newly_covers shape p dir s = covers shape (plus p (step_of dir)) s && not (covers shape p s)

-- and whether it leaves the site: four others
abbrev pub newly_leaves : Shape → P3 → Dir → Site → Bool
newly_leaves shape p dir s = covers shape p s && not (covers shape (plus p (step_of dir)) s)

-- whether the second site is the first
abbrev pub is_same_site : Site → Site → Bool
is_same_site t s = (s.x == t.x) && (s.y == t.y) && (s.z == t.z)

-- sites are numbered from 0, along x first, then y, then z
abbrev pub site_number : Shape → Site → ℕ
site_number shape s = (s.z * side_of shape 1 + s.y) * side_of shape 0 + s.x

abbrev pub site_count : Shape → ℕ
site_count shape = side_of shape 2 * side_of shape 1 * side_of shape 0

-- the box and, by number, whether each site is taken
pub record Sites : Type 0 where
  pub shape : Shape
  pub taken : List Bool

abbrev pub is_taken : Sites → Site → Bool
is_taken sites s = slice_index_or sites.taken (site_number sites.shape s) false

-- every site of these is free, or taken
abbrev pub AreFree : Sites → (Site → Bool) → Type 0
AreFree sites these = (s : Site) → IsSite sites.shape s → these s ≡ true → is_taken sites s ≡ false

abbrev pub AreTaken : Sites → (Site → Bool) → Type 0
AreTaken sites these = (s : Site) → IsSite sites.shape s → these s ≡ true → is_taken sites s ≡ true

-- every site of the box is free
abbrev pub IsEmpty : Sites → Type 0
IsEmpty sites = (s : Site) → IsSite sites.shape s → is_taken sites s ≡ false

-- these sites became taken (true) or free (false), and every other site is as it was
pub record Marks (old new : Sites) (these : Site → Bool) (taken : Bool) : Type 0 where
  pub shape : new.shape ≡ old.shape
  pub sites : (s : Site) → IsSite old.shape s → is_taken new s ≡ (if these s then taken else is_taken old s)

-- a monomer stepped: the cube at p became free and then the cube one step away taken, and every other site is as it was
pub record Shifts (old new : Sites) (p : P3) (dir : Dir) : Type 0 where
  pub shape : new.shape ≡ old.shape
  pub sites : (s : Site) → IsSite old.shape s →
      is_taken new s ≡ (if covers old.shape (plus p (step_of dir)) s then true else if covers old.shape p s then false else is_taken old s)
