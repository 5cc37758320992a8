use Rattle.crossing_check.proofs.MoveLemmas.{NoneBeforeBond}
use Rattle.crossing_check.proofs.search.first_of_step.Given as goal

abbrev pub invariant-loop-k : goal.invariant-loop-k
invariant-loop-k l = NoneBeforeBond l.set l.b l.after l.k
