use Rattle.std.proofs.Common.{◌<◌, [], length, ap, sym, subst, arith}
use Rattle.std.proofs.lemmas.List.Sums.{sum_by_more_le}
use Rattle.chain_stats.specs.Fractions.{AreMembers}
use Rattle.bfm_session.proofs.TableLemmas.{members-molecule}
use Rattle.bfm_session.proofs.TrialLemmas.{sum_of_sizes}
use Rattle.bfm_session.proofs.trials.top_sum.Goals as goal

pub radius_top-sum-requires : goal.radius_top-sum-requires
radius_top-sum-requires c =
    let inside = subst (λ n. c.loop-k.k < n) c.count-k-end.ensures c.loop-k-test.true in
    subst (AreMembers c.args.world.now) (sym c.members.ensures) (members-molecule c.args.world.now c.args.molecules.now c.loop-k.k c.requires inside)

pub overflow_add-sum : goal.overflow_add-sum
overflow_add-sum c =
    let molecules = c.args.molecules.now in
    let inside = subst (λ n. c.loop-k.k < n) c.count-k-end.ensures c.loop-k-test.true in
    let size = ap length c.members.ensures in
    let more = sum_by_more_le length molecules c.loop-k.k [] inside in
    let all = sum_of_sizes c.args.world.now c.len.ensures.valid.bonds molecules c.requires in
    omega (arith, c.loop-k.invariant.small, c.radius_top-sum.ensures.limit, size, more, all, c.len.ensures.valid.few)
