use Rattle.std.proofs.Common.{arith}
use Rattle.crossing_check.proofs.PassageLemmas.{Spans-coded, row-begin, row-first, row-none}
use Rattle.crossing_check.proofs.StretchLemmas.{coded, Searched-next}
use Rattle.crossing_check.proofs.passage.first_in_row.Goals as goal

pub loop-z-init : goal.loop-z-init
loop-z-init c =
    let pair = c.requires.pair in
    let span = Spans-coded _ _ _ _ _ (omega (arith, pair.before)) (omega (arith, pair.after)) (omega (arith, pair.other))
    (record { all_starts = c.span_of_starts-span.ensures.all_starts; reach = c.span_of_starts-span.ensures.reach }) in
    row-begin c.args.pair.now _ _ _ _ span

pub returns-in-Some-clause-first : goal.returns-in-Some-clause-first
returns-in-Some-clause-first c =
    row-first c.args.pair.now c.args.x c.args.y _ _ _ _ c.in-Some.weights (coded c.args.x (omega (arith, c.requires.x))) (coded c.args.y (omega (arith, c.requires.y)))
    c.loop-z.invariant c.in-Some.ensures.sweeps c.in-Some.ensures.shown

pub loop-z-preserved : goal.loop-z-preserved
loop-z-preserved c = Searched-next _ _ _ c.loop-z.invariant c.loop-z-test.true c.in_default.ensures.none

pub returns-clause-none : goal.returns-clause-none
returns-clause-none c =
    row-none c.args.pair.now c.args.x c.args.y _ _ _ _ (coded c.args.x (omega (arith, c.requires.x))) (coded c.args.y (omega (arith, c.requires.y)))
    c.loop-z.invariant c.loop-z-test.false
