use Rattle.std.proofs.Common.{◌≡◌, true, take}
use Rattle.bfm_world.specs.Configuration.{keeps_bonds}
use Rattle.bfm_world.proofs.room.keeps_bonds.Given as goal

abbrev pub invariant-loop-neighbour : goal.invariant-loop-neighbour
invariant-loop-neighbour l = keeps_bonds l.shape l.set l.positions (take l.neighbour-index l.neighbours) l.p ≡ true
