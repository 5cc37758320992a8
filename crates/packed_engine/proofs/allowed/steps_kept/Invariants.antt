use Rattle.packed_engine.proofs.StepLemmas.{KeptSoFar}
use Rattle.packed_engine.proofs.allowed.steps_kept.Given as goal

abbrev pub invariant-loop-n : goal.invariant-loop-n
invariant-loop-n l = KeptSoFar l.set l.v l.n l.steps
