use Rattle.std.proofs.Common.{refl, arith}
use Rattle.crossing_check.proofs.MoveLemmas.{set-first, set-next, set-none}
use Rattle.crossing_check.proofs.judgement.verdict.Goals as goal

pub returns-in-Some-clause-verdict : goal.returns-in-Some-clause-verdict
returns-in-Some-clause-verdict c = (
  set-first c.args.set.now c.vector.result c.loop-k.k c.in-Some.first c.len-k-end.ensures.set c.vector.ensures.value c.loop-k.invariant c.in-Some.ensures.first,
  c.in-Some.ensures.first.shown,
)

pub loop-k-preserved : goal.loop-k-preserved
loop-k-preserved c = set-next c.args.set.now c.vector.result c.loop-k.k c.len-k-end.ensures.set c.vector.ensures.value c.loop-k.invariant c.in_default.ensures.none

pub returns-clause-free : goal.returns-clause-free
returns-clause-free c = (λ _. set-none c.args.set.now c.loop-k.k (omega arith) c.loop-k.invariant, λ _. refl)

pub returns-clause-verdict : goal.returns-clause-verdict
returns-clause-verdict c = set-none c.args.set.now c.loop-k.k (omega arith) c.loop-k.invariant
