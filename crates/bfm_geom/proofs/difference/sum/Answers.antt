use Rattle.std.proofs.Common.{arith}
use Rattle.bfm_geom.proofs.IntegerLemmas.{sums}
use Rattle.bfm_geom.proofs.DifferenceLemmas.{P3-same}
use Rattle.bfm_geom.proofs.difference.sum.Goals as goal

pub returns : goal.returns
returns c = P3-same _ _ (omega (arith, sums)) (omega (arith, sums)) (omega (arith, sums))
