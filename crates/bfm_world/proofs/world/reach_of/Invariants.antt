use Rattle.std.proofs.Common.{◌≡◌, take}
use Rattle.bfm_world.specs.Configuration.{reach_of}
use Rattle.bfm_world.proofs.world.reach_of.Given as goal

abbrev pub invariant-loop-p : goal.invariant-loop-p
invariant-loop-p l = l.reach ≡ reach_of (take l.p-index l.positions)
