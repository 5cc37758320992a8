use Rattle.std.proofs.Common.{ap, arith}
use Rattle.bfm_geom.proofs.DifferenceLemmas.{P3-same}
use Rattle.bfm_geom.proofs.IntegerLemmas.{sums}
use Rattle.bfm_geom.proofs.MeetingLemmas.{IsUnit-size}
use Rattle.bfm_geom.proofs.tests.after.Goals as goal

pub returns-clause-unit : goal.returns-clause-unit
returns-clause-unit c =
    let size = IsUnit-size c.step-unit.result (c.args.step, c.step-unit.ensures) in
    (c.args.step, P3-same _ _ (omega (arith, sums, ap (λ p. p.x) c.step-unit.ensures)) (omega (arith, sums, ap (λ p. p.y) c.step-unit.ensures)) (omega (arith, sums, ap (λ p. p.z) c.step-unit.ensures)))

pub returns-clause-reach : goal.returns-clause-reach
returns-clause-reach c =
    let size = IsUnit-size c.step-unit.result (c.args.step, c.step-unit.ensures) in
    record { x = omega (arith, sums); y = omega (arith, sums); z = omega (arith, sums) }
