use Rattle.crossing_check.proofs.MoveLemmas.{bond-first, bond-next}
use Rattle.crossing_check.proofs.search.first_of_bond.Goals as goal

pub returns-in-Some-clause-first : goal.returns-in-Some-clause-first
returns-in-Some-clause-first c = bond-first c.args.set.now c.args.b c.of.result c.loop-n.n c.in-Some.first c.of.ensures c.loop-n.invariant c.in-Some.ensures.first

pub loop-n-preserved : goal.loop-n-preserved
loop-n-preserved c = bond-next c.args.set.now c.args.b c.of.result c.loop-n.n c.of.ensures c.loop-n.invariant c.in_default.ensures.none
