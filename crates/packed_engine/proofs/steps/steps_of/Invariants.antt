use Rattle.std.proofs.Common.{◌≡◌, take}
use Rattle.bfm_base.specs.declared.place.Dir.{Dir}
use Rattle.bfm_world.specs.Configuration.{keeps_bonds, target_of}
use Rattle.packed_engine.specs.Spots.{allows}
use Rattle.packed_engine.proofs.steps.steps_of.Given as goal

abbrev pub invariant-loop-neighbour : goal.invariant-loop-neighbour
invariant-loop-neighbour l =
    (dir : Dir) → allows l.steps dir ≡ keeps_bonds l.world.shape l.world.set l.world.positions (take l.neighbour-index l.neighbour-items) (target_of l.world l.monomer dir)
