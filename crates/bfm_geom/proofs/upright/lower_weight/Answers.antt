use Rattle.std.proofs.Common.{arith, ap}
use Rattle.bfm_geom.proofs.IntegerLemmas.{sums}
use Rattle.bfm_geom.proofs.StretchLemmas.{Bound-same}
use Rattle.bfm_geom.proofs.upright.lower_weight.Goals as goal

pub returns-clause-value : goal.returns-clause-value
returns-clause-value c =
    Bound-same _ _ (omega (arith, sums, ap (λ g. g.at_c) c.upper_weight-over.ensures.value)) (omega (arith, sums, ap (λ g. g.at_d) c.upper_weight-over.ensures.value))
