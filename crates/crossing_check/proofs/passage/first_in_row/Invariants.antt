use Rattle.crossing_check.proofs.PassageLemmas.{AtZ}
use Rattle.crossing_check.proofs.StretchLemmas.{Searched}
use Rattle.crossing_check.proofs.passage.first_in_row.Given as goal

abbrev pub invariant-loop-z : goal.invariant-loop-z
invariant-loop-z l = Searched (AtZ l.pair l.fn.x l.fn.y) l.z l.z-end
