use Rattle.crossing_check.proofs.MoveLemmas.{NoneBeforePlace}
use Rattle.crossing_check.proofs.judgement.verdict.Given as goal

abbrev pub invariant-loop-k : goal.invariant-loop-k
invariant-loop-k l = NoneBeforePlace l.set l.k
