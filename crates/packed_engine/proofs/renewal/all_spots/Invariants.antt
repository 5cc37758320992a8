use Rattle.std.proofs.Common.{◌<◌}
use Rattle.packed_engine.specs.Spots.{AreSpotsOf}
use Rattle.packed_engine.proofs.renewal.all_spots.Given as goal

abbrev pub invariant-loop-i : goal.invariant-loop-i
invariant-loop-i l = AreSpotsOf l.world (λ k. k < l.i) l.spots
