use Rattle.std.proofs.Common.{arith}
use Rattle.bfm_geom.proofs.IntegerLemmas.{sums}
use Rattle.bfm_geom.proofs.DifferenceLemmas.{P3-same}
use Rattle.bfm_geom.proofs.difference.plain_difference.Goals as goal

pub returns-clause-value : goal.returns-clause-value
returns-clause-value c = P3-same _ _ (omega (arith, sums)) (omega (arith, sums)) (omega (arith, sums))
