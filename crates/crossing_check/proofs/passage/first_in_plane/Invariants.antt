use Rattle.crossing_check.proofs.PassageLemmas.{AtY}
use Rattle.crossing_check.proofs.StretchLemmas.{Searched}
use Rattle.crossing_check.proofs.passage.first_in_plane.Given as goal

abbrev pub invariant-loop-y : goal.invariant-loop-y
invariant-loop-y l = Searched (AtY l.pair l.fn.x) l.y l.y-end
