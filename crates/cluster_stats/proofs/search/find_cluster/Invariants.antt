use Rattle.std.proofs.Common.{◌+◌, length}
use Rattle.chain_stats.specs.Search.{IsSpreading, missing}
use Rattle.cluster_stats.specs.Clusters.{contact_lists}
use Rattle.cluster_stats.proofs.search.find_cluster.Given as goal

abbrev pub invariant-loop-i : goal.invariant-loop-i
invariant-loop-i l = IsSpreading (contact_lists l.world) (length l.world.positions) l.number l.roots l.waiting.items

abbrev pub decreases-loop-i : goal.decreases-loop-i
decreases-loop-i l = missing (length l.world.positions) l.roots + length l.waiting.items
