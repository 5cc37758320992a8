use Rattle.std.proofs.Common.{◌≡◌, ◌+◌, ◌∷◌, length}
use Rattle.chain_stats.specs.Search.{IsSpreading, missing}
use Rattle.cluster_stats.specs.declared.shell.TheConstants.{SHELL}
use Rattle.cluster_stats.specs.Clusters.{contact_lists}
use Rattle.cluster_stats.proofs.TouchLemmas.{AreReached}
use Rattle.cluster_stats.proofs.search.go_on.Given as goal

abbrev pub invariant-loop-offset : goal.invariant-loop-offset
invariant-loop-offset l = record {
  table : l.offset-items ≡ SHELL;
  spreading : IsSpreading (contact_lists l.world) (length l.world.positions) l.number l.roots (l.i ∷ l.waiting.items);
  reached : AreReached l.world l.roots l.i l.offset-index;
  work : missing (length l.world.positions) l.roots + length l.waiting.items ≡ missing (length l.world.positions) l.initial.roots + length l.initial.waiting.items;
}
