use Rattle.std.proofs.Common.{◌≡◌, ℕ, length, arith, subst}
use Rattle.cluster_stats.specs.Contacts.{touch, touch_with}
use Rattle.cluster_stats.proofs.TallyLemmas.{AreContactCounts-all, counted_at, pairs_below, pairs_below-few, pairs_below-more}
use Rattle.cluster_stats.proofs.contact_counts.contacts.Goals as goal

pub count_from-requires-clause-room : goal.count_from-requires-clause-room
count_from-requires-clause-room c q l =
    let few = pairs_below-few c.args.world.now (touch_with c.args.world.now q) c.loop-i.i c.len-i-end.ensures.valid.few (omega (arith, c.len-i-end.ensures.count)) in
    omega (arith, few, c.loop-i.invariant.counts q l)

pub count_from-requires-clause-room_in_all : goal.count_from-requires-clause-room_in_all
count_from-requires-clause-room_in_all c =
    let few = pairs_below-few c.args.world.now (touch c.args.world.now) c.loop-i.i c.len-i-end.ensures.valid.few (omega (arith, c.len-i-end.ensures.count)) in
    omega (arith, few, c.loop-i.invariant.total)

pub loop-i-preserved : goal.loop-i-preserved
loop-i-preserved c = record {
  counts = λ q l. omega (arith, c.count_from.ensures.counts q l, c.loop-i.invariant.counts q l, pairs_below-more c.args.world.now (touch_with c.args.world.now q) c.loop-i.i);
  total = omega (arith, c.count_from.ensures.total, c.loop-i.invariant.total, pairs_below-more c.args.world.now (touch c.args.world.now) c.loop-i.i);
}

pub returns : goal.returns
returns c =
    let end : c.loop-i.i ≡ length c.args.world.now.positions = omega (arith, c.len-i-end.ensures.count) in
    AreContactCounts-all c.args.world.now c.loop-i.counts
    (λ q l. subst (λ (m : ℕ). counted_at c.loop-i.counts q ≡ pairs_below c.args.world.now (touch_with c.args.world.now q) m) end (c.loop-i.invariant.counts q l))
    (subst (λ (m : ℕ). c.loop-i.counts.total ≡ pairs_below c.args.world.now (touch c.args.world.now) m) end c.loop-i.invariant.total)
