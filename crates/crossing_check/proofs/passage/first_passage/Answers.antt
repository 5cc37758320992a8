use Rattle.std.proofs.Common.{arith}
use Rattle.crossing_check.proofs.PassageLemmas.{Spans-coded, AtX-none, all-begin, all-first, all-none}
use Rattle.crossing_check.proofs.StretchLemmas.{Searched-next}
use Rattle.crossing_check.proofs.passage.first_passage.Goals as goal

pub loop-x-init : goal.loop-x-init
loop-x-init c =
    let pair = c.requires in
    let span = Spans-coded _ _ _ _ _ (omega (arith, pair.before)) (omega (arith, pair.after)) (omega (arith, pair.other))
    (record { all_starts = c.span_of_starts-span.ensures.all_starts; reach = c.span_of_starts-span.ensures.reach }) in
    all-begin c.args.pair.now _ _ span

pub returns-in-Some-clause-first : goal.returns-in-Some-clause-first
returns-in-Some-clause-first c = all-first c.args.pair.now _ _ _ c.loop-x.invariant c.in-Some.ensures.first

pub loop-x-preserved : goal.loop-x-preserved
loop-x-preserved c = Searched-next _ _ _ c.loop-x.invariant c.loop-x-test.true (AtX-none c.args.pair.now _ c.in_default.ensures.none)

pub returns-clause-none : goal.returns-clause-none
returns-clause-none c = all-none c.args.pair.now _ _ c.loop-x.invariant c.loop-x-test.false
