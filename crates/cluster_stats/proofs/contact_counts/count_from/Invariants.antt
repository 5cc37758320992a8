use Rattle.std.proofs.Common.{◌≡◌}
use Rattle.cluster_stats.specs.declared.shell.TheConstants.{SHELL}
use Rattle.cluster_stats.proofs.TallyLemmas.{AreCounted}
use Rattle.cluster_stats.proofs.contact_counts.count_from.Given as goal

abbrev pub invariant-loop-offset : goal.invariant-loop-offset
invariant-loop-offset l = record {
  table : l.offset-items ≡ SHELL;
  counted : AreCounted l.world l.i l.offset-index l.initial.counts l.counts;
}
