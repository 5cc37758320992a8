use Rattle.std.proofs.Common.{◌≡◌, [], length}
use Rattle.chain_stats.specs.Search.{AreSearched}
use Rattle.cluster_stats.specs.Clusters.{contact_lists}
use Rattle.cluster_stats.proofs.search.find_all.Given as goal

abbrev pub invariant-loop-number : goal.invariant-loop-number
invariant-loop-number l = record {
  searched : AreSearched (contact_lists l.world) (length l.world.positions) l.number l.roots;
  none : l.waiting.items ≡ [];
}
