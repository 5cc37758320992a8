use Rattle.crossing_check.proofs.PassageLemmas.{AtX}
use Rattle.crossing_check.proofs.StretchLemmas.{Searched}
use Rattle.crossing_check.proofs.passage.first_passage.Given as goal

abbrev pub invariant-loop-x : goal.invariant-loop-x
invariant-loop-x l = Searched (AtX l.pair) l.x l.x-end
