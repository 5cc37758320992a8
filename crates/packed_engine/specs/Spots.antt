-- What an attempt first asks of a monomer: its place, folded into the box, and the steps that its own mark and its bonds
-- allow. Walls and other monomers are no matter of these.
use Rattle.std.specs.Prelude.{◌≡◌, ◌≢◌, ◌≤◌, ◌<◌, ℕ, ◌/◌, ◌%◌, Bool, not, ◌&&◌, pos, ◌-ℤ◌, List, length, slice_index, slice_index_or, is_some}
use Rattle.bfm_base.specs.declared.place.Dir.{Dir}
use Rattle.bfm_base.specs.declared.place.P3.{P3}
use Rattle.bfm_base.specs.Direction.{step_of}
use Rattle.bfm_base.specs.Place.{extent_of}
use Rattle.bfm_geom.specs.Difference.{minus}
use Rattle.bond_set.specs.BondSet.{id_of}
use Rattle.bond_set.specs.Crossing.{direction_number}
use Rattle.bond_set.specs.FlatTables.{key_of}
use Rattle.packed_lattice.specs.declared.site.Site.{Site}
use Rattle.packed_lattice.specs.Packing.{is_bit}
use Rattle.bfm_world.specs.Bonds.{neighbours_of}
use Rattle.bfm_world.specs.Configuration.{Configuration, is_fixed, keeps_bonds, target_of}
use Rattle.packed_engine.specs.declared.spots.Spot.{Spot}
use Rattle.packed_engine.specs.Tracking.{home_of}

-- the site of a spot, and the same as a place
abbrev pub site_in : Spot → Site
site_in s = record { x = s.x; y = s.y; z = s.z }

abbrev pub place_in : Spot → P3
place_in s = record { x = pos s.x; y = pos s.y; z = pos s.z }

-- the spot of monomer i
abbrev pub spot_at : List Spot → ℕ → Spot
spot_at spots i = slice_index_or spots i (record { x = 0; y = 0; z = 0; steps = 0 })

-- steps are kept in a byte, with a bit for each direction
abbrev pub allows : ℕ → Dir → Bool
allows steps dir = is_bit steps (direction_number dir)

-- monomer i is not fixed, and after the step each of its bonds has a vector of the set
abbrev pub may_step : Configuration → ℕ → Dir → Bool
may_step w i dir = not (is_fixed w i) && keeps_bonds w.shape w.set w.positions (neighbours_of w.bonds i) (target_of w i dir)

-- the steps of a spot are those that monomer i may make
abbrev pub HasSteps : Configuration → ℕ → Spot → Type 0
HasSteps w i s = (dir : Dir) → allows s.steps dir ≡ may_step w i dir

-- each monomer has a spot, and its site is the place of the monomer
pub record ArePlaced (w : Configuration) (spots : List Spot) : Type 0 where
  pub count : length spots ≡ length w.positions
  pub sites : (i : ℕ) → i < length w.positions → site_in (spot_at spots i) ≡ home_of w i

-- and the steps of these monomers are right
pub record AreSpotsOf (w : Configuration) (these : ℕ → Type 0) (spots : List Spot) : Type 0 where
  pub placed : ArePlaced w spots
  pub steps : (i : ℕ) → i < length w.positions → these i → HasSteps w i (spot_at spots i)

-- and those of all are
abbrev pub AreSpots : Configuration → List Spot → Type 0
AreSpots w spots = AreSpotsOf w (λ i. i < length w.positions) spots

-- the spot of monomer i became right, and every other is as it was
pub record Renews (w : Configuration) (i : ℕ) (old new : List Spot) : Type 0 where
  pub placed : ArePlaced w new
  pub steps : HasSteps w i (spot_at new i)
  pub others : (j : ℕ) → j ≢ i → spot_at new j ≡ spot_at old j

-- the vector with a key, where each component is from -3 to 3, and 4 stands for the others
abbrev pub vector_at : ℕ → P3
vector_at key = record { x = pos (key / 64) -ℤ pos 3; y = pos (key / 8 % 8) -ℤ pos 3; z = pos (key % 8) -ℤ pos 3 }

-- by the key of a bond vector, the steps of the monomer at its start that take it to a vector of the set
abbrev pub AreAllowed : List (P3 × ℕ) → List ℕ → Type 0
AreAllowed set table = (v : P3) → extent_of v ≤ 3 → (dir : Dir) → allows (slice_index table (key_of v)) dir ≡ is_some (id_of set (minus v (step_of dir)))
