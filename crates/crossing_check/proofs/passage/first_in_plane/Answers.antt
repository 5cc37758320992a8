use Rattle.std.proofs.Common.{arith}
use Rattle.crossing_check.proofs.PassageLemmas.{Spans-coded, AtY-none, plane-begin, plane-first, plane-none}
use Rattle.crossing_check.proofs.StretchLemmas.{coded, Searched-next}
use Rattle.crossing_check.proofs.passage.first_in_plane.Goals as goal

pub loop-y-init : goal.loop-y-init
loop-y-init c =
    let pair = c.requires.pair in
    let span = Spans-coded _ _ _ _ _ (omega (arith, pair.before)) (omega (arith, pair.after)) (omega (arith, pair.other))
    (record { all_starts = c.span_of_starts-span.ensures.all_starts; reach = c.span_of_starts-span.ensures.reach }) in
    plane-begin c.args.pair.now _ _ _ span

pub returns-in-Some-clause-first : goal.returns-in-Some-clause-first
returns-in-Some-clause-first c =
    plane-first c.args.pair.now c.args.x _ _ _ _ (coded c.args.x (omega (arith, c.requires.x))) c.loop-y.invariant c.in-Some.ensures.first

pub loop-y-preserved : goal.loop-y-preserved
loop-y-preserved c = Searched-next _ _ _ c.loop-y.invariant c.loop-y-test.true (AtY-none c.args.pair.now _ _ c.in_default.ensures.none)

pub returns-clause-none : goal.returns-clause-none
returns-clause-none c =
    plane-none c.args.pair.now c.args.x _ _ _ (coded c.args.x (omega (arith, c.requires.x))) c.loop-y.invariant c.loop-y-test.false
