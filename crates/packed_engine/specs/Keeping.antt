-- What the engine keeps beside the world, all together.
use Rattle.std.specs.Prelude.{◌≡◌, ℕ, Bool, false, List}
use Rattle.packed_lattice.specs.Owners.{OwnedPlaces}
use Rattle.packed_lattice.specs.Sites.{Sites}
use Rattle.bfm_world.specs.Configuration.{Configuration}
use Rattle.packed_engine.specs.declared.spots.Spot.{Spot}
use Rattle.packed_engine.specs.Beside.{WeighsNothing}
use Rattle.packed_engine.specs.Spots.{AreAllowed, AreSpots}
use Rattle.packed_engine.specs.Tracking.{IsTracked}

-- sites and owners, the spots and the table from which they are made anew, and whether any contact weighs anything
pub record IsKept (w : Configuration) (lattice : Sites) (owners : OwnedPlaces) (kept : List Spot) (table : List ℕ) (weighs : Bool) : Type 0 where
  pub tracked : IsTracked w lattice owners
  pub spots : AreSpots w kept
  pub allowed : AreAllowed w.set table
  pub weightless : weighs ≡ false → WeighsNothing w.table
