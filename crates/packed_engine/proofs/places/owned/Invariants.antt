use Rattle.packed_engine.specs.Tracking.{AreOwned}
use Rattle.packed_engine.proofs.places.owned.Given as goal

abbrev pub invariant-loop-i : goal.invariant-loop-i
invariant-loop-i l = AreOwned l.world l.i l.owners
