use Rattle.crossing_check.proofs.MoveLemmas.{NoneBeforeStep}
use Rattle.crossing_check.proofs.search.first_of_bond.Given as goal

abbrev pub invariant-loop-n : goal.invariant-loop-n
invariant-loop-n l = NoneBeforeStep l.set l.b l.n
