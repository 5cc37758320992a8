use Rattle.std.proofs.Common.{◌≡◌, ℕ, ◌<◌}
use Rattle.cluster_stats.specs.Contacts.{touch, touch_with}
use Rattle.cluster_stats.proofs.TallyLemmas.{counted_at, pairs_below}
use Rattle.cluster_stats.proofs.contact_counts.contacts.Given as goal

abbrev pub invariant-loop-i : goal.invariant-loop-i
invariant-loop-i l = record {
  counts : (q : ℕ) → q < 256 → counted_at l.counts q ≡ pairs_below l.world (touch_with l.world q) l.i;
  total : l.counts.total ≡ pairs_below l.world (touch l.world) l.i;
}
