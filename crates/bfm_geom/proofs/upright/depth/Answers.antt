use Rattle.std.proofs.Common.{arith}
use Rattle.bfm_geom.proofs.IntegerLemmas.{sums}
use Rattle.bfm_geom.proofs.StretchLemmas.{Bound-same}
use Rattle.bfm_geom.proofs.upright.depth.Goals as goal

pub returns-clause-value : goal.returns-clause-value
returns-clause-value c = Bound-same _ _ (omega (arith, sums)) (omega (arith, sums))
