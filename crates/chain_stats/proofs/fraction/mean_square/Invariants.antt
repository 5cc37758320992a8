use Rattle.std.proofs.Common.{◌≡◌, ◌*◌, ◌≤◌}
use Rattle.std.specs.List.{range_with_len}
use Rattle.chain_stats.specs.declared.vectors.TheConstants.{DISPLACEMENT_REACH}
use Rattle.chain_stats.specs.Fractions.{square_sum, displacement_of}
use Rattle.chain_stats.proofs.fraction.mean_square.Given as goal

abbrev pub invariant-loop-i : goal.invariant-loop-i
invariant-loop-i l = record {
  squares : l.squares ≡ square_sum (displacement_of l.first l.world) (range_with_len 0 l.i);
  small : l.squares ≤ l.i * (3 * (DISPLACEMENT_REACH * DISPLACEMENT_REACH));
}
