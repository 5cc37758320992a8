use Rattle.std.proofs.Common.{◌∙◌, ap, arith, w64, FitsSigned, of_z, to_z-of_z}
use Rattle.bfm_geom.specs.Upright.{cycled}
use Rattle.bfm_geom.proofs.IntegerLemmas.{sums}
use Rattle.bfm_geom.proofs.MeetingLemmas.{IsSeen-along_x, IsSeen-along_y, IsSeen-along_z, seen_apart, seen_found, step-size}
use Rattle.bfm_geom.proofs.meeting.meets.Goals as goal

pub meets_upright-requires-clause-rise : goal.meets_upright-requires-clause-rise
meets_upright-requires-clause-rise c =
    let size = step-size c.args.b c.args.b2 c.difference-step.result c.requires.step c.difference-step.ensures.value in
    omega (arith, sums)

pub meets_upright-requires-then-step-ne0-2-clause-rise : goal.meets_upright-requires-then-step-ne0-2-clause-rise
meets_upright-requires-then-step-ne0-2-clause-rise c =
    let size = step-size c.args.b c.args.b2 c.difference-step.result c.requires.step c.difference-step.ensures.value in
    omega (arith, sums)

pub meets_upright-requires-else-step-ne0-2-clause-rise : goal.meets_upright-requires-else-step-ne0-2-clause-rise
meets_upright-requires-else-step-ne0-2-clause-rise c =
    let size = step-size c.args.b c.args.b2 c.difference-step.result c.requires.step c.difference-step.ensures.value in
    omega (arith, sums)

pub returns-then-step-ne0-clause-found : goal.returns-then-step-ne0-clause-found
returns-then-step-ne0-clause-found c =
    let fits : FitsSigned w64 c.difference-step.result.z = omega (arith, sums) in
    seen_found c.args.a c.args.b c.args.b2 c.args.c c.args.d c.difference-b.result c.difference-c.result c.difference-d.result c.difference-step.result.z c.meets_upright.result
    (IsSeen-along_z c.args.a c.args.b c.args.b2 c.args.c c.args.d c.difference-step.result c.difference-b.result c.difference-c.result c.difference-d.result c.requires.step c.difference-step.ensures.value c.difference-b.ensures.value c.difference-c.ensures.value c.difference-d.ensures.value
    (λ e. c.if-step-ne0.true (ap (of_z w64) e)))
    (simp to_z-of_z at c.meets_upright.ensures.found)

pub returns-then-step-ne0-clause-none_missed : goal.returns-then-step-ne0-clause-none_missed
returns-then-step-ne0-clause-none_missed c =
    let fits : FitsSigned w64 c.difference-step.result.z = omega (arith, sums) in
    seen_apart c.args.a c.args.b c.args.b2 c.args.c c.args.d c.difference-b.result c.difference-c.result c.difference-d.result c.difference-step.result.z c.meets_upright.result
    (IsSeen-along_z c.args.a c.args.b c.args.b2 c.args.c c.args.d c.difference-step.result c.difference-b.result c.difference-c.result c.difference-d.result c.requires.step c.difference-step.ensures.value c.difference-b.ensures.value c.difference-c.ensures.value c.difference-d.ensures.value
    (λ e. c.if-step-ne0.true (ap (of_z w64) e)))
    (simp to_z-of_z at c.meets_upright.ensures.none_missed)

pub returns-then-step-ne0-2-clause-found : goal.returns-then-step-ne0-2-clause-found
returns-then-step-ne0-2-clause-found c =
    let fits : FitsSigned w64 c.difference-step.result.x = omega (arith, sums) in
    seen_found c.args.a c.args.b c.args.b2 c.args.c c.args.d c.cycle.result c.cycle-then-step-ne0-2.result c.cycle-then-step-ne0-2-2.result c.difference-step.result.x c.meets_upright-then-step-ne0-2.result
    (IsSeen-along_x c.args.a c.args.b c.args.b2 c.args.c c.args.d c.difference-step.result c.cycle.result c.cycle-then-step-ne0-2.result c.cycle-then-step-ne0-2-2.result c.requires.step c.difference-step.ensures.value (c.cycle.ensures ∙ ap cycled c.difference-b.ensures.value) (c.cycle-then-step-ne0-2.ensures ∙ ap cycled c.difference-c.ensures.value) (c.cycle-then-step-ne0-2-2.ensures ∙ ap cycled c.difference-d.ensures.value)
    (λ e. c.if-step-ne0-2.true (ap (of_z w64) e)))
    (simp to_z-of_z at c.meets_upright-then-step-ne0-2.ensures.found)

pub returns-then-step-ne0-2-clause-none_missed : goal.returns-then-step-ne0-2-clause-none_missed
returns-then-step-ne0-2-clause-none_missed c =
    let fits : FitsSigned w64 c.difference-step.result.x = omega (arith, sums) in
    seen_apart c.args.a c.args.b c.args.b2 c.args.c c.args.d c.cycle.result c.cycle-then-step-ne0-2.result c.cycle-then-step-ne0-2-2.result c.difference-step.result.x c.meets_upright-then-step-ne0-2.result
    (IsSeen-along_x c.args.a c.args.b c.args.b2 c.args.c c.args.d c.difference-step.result c.cycle.result c.cycle-then-step-ne0-2.result c.cycle-then-step-ne0-2-2.result c.requires.step c.difference-step.ensures.value (c.cycle.ensures ∙ ap cycled c.difference-b.ensures.value) (c.cycle-then-step-ne0-2.ensures ∙ ap cycled c.difference-c.ensures.value) (c.cycle-then-step-ne0-2-2.ensures ∙ ap cycled c.difference-d.ensures.value)
    (λ e. c.if-step-ne0-2.true (ap (of_z w64) e)))
    (simp to_z-of_z at c.meets_upright-then-step-ne0-2.ensures.none_missed)

pub returns-else-step-ne0-2-clause-found : goal.returns-else-step-ne0-2-clause-found
returns-else-step-ne0-2-clause-found c =
    let fits : FitsSigned w64 c.difference-step.result.y = omega (arith, sums) in
    seen_found c.args.a c.args.b c.args.b2 c.args.c c.args.d c.cycle-else-step-ne0-2-2.result c.cycle-else-step-ne0-2-4.result c.cycle-else-step-ne0-2-6.result c.difference-step.result.y c.meets_upright-else-step-ne0-2.result
    (IsSeen-along_y c.args.a c.args.b c.args.b2 c.args.c c.args.d c.difference-step.result c.cycle-else-step-ne0-2-2.result c.cycle-else-step-ne0-2-4.result c.cycle-else-step-ne0-2-6.result c.requires.step c.difference-step.ensures.value
    (c.cycle-else-step-ne0-2-2.ensures ∙ ap cycled (c.cycle-else-step-ne0-2.ensures ∙ ap cycled c.difference-b.ensures.value))
    (c.cycle-else-step-ne0-2-4.ensures ∙ ap cycled (c.cycle-else-step-ne0-2-3.ensures ∙ ap cycled c.difference-c.ensures.value))
    (c.cycle-else-step-ne0-2-6.ensures ∙ ap cycled (c.cycle-else-step-ne0-2-5.ensures ∙ ap cycled c.difference-d.ensures.value))
    (omega (arith, sums)) (omega (arith, sums)))
    (simp to_z-of_z at c.meets_upright-else-step-ne0-2.ensures.found)

pub returns-else-step-ne0-2-clause-none_missed : goal.returns-else-step-ne0-2-clause-none_missed
returns-else-step-ne0-2-clause-none_missed c =
    let fits : FitsSigned w64 c.difference-step.result.y = omega (arith, sums) in
    seen_apart c.args.a c.args.b c.args.b2 c.args.c c.args.d c.cycle-else-step-ne0-2-2.result c.cycle-else-step-ne0-2-4.result c.cycle-else-step-ne0-2-6.result c.difference-step.result.y c.meets_upright-else-step-ne0-2.result
    (IsSeen-along_y c.args.a c.args.b c.args.b2 c.args.c c.args.d c.difference-step.result c.cycle-else-step-ne0-2-2.result c.cycle-else-step-ne0-2-4.result c.cycle-else-step-ne0-2-6.result c.requires.step c.difference-step.ensures.value
    (c.cycle-else-step-ne0-2-2.ensures ∙ ap cycled (c.cycle-else-step-ne0-2.ensures ∙ ap cycled c.difference-b.ensures.value))
    (c.cycle-else-step-ne0-2-4.ensures ∙ ap cycled (c.cycle-else-step-ne0-2-3.ensures ∙ ap cycled c.difference-c.ensures.value))
    (c.cycle-else-step-ne0-2-6.ensures ∙ ap cycled (c.cycle-else-step-ne0-2-5.ensures ∙ ap cycled c.difference-d.ensures.value))
    (omega (arith, sums)) (omega (arith, sums)))
    (simp to_z-of_z at c.meets_upright-else-step-ne0-2.ensures.none_missed)
