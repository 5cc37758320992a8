use Rattle.packed_engine.proofs.SpotLemmas.{ArePlacedSoFar}
use Rattle.packed_engine.proofs.renewal.placed.Given as goal

abbrev pub invariant-loop-i : goal.invariant-loop-i
invariant-loop-i l = ArePlacedSoFar l.world l.i l.spots
