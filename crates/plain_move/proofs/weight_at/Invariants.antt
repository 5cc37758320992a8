use Rattle.std.proofs.Common.{◌≡◌, ◌*◌, ◌≤◌}
use Rattle.std.specs.Prelude.{unsigned_abs}
use Rattle.bfm_base.specs.declared.limits.TheConstants.{GREATEST_WEIGHT}
use Rattle.plain_move.proofs.WeightLemmas.{weight_among}
use Rattle.plain_move.proofs.weight_at.Given as goal

abbrev pub invariant-loop-other : goal.invariant-loop-other
invariant-loop-other l = record {
  sum : l.sum ≡ weight_among l.world l.monomer l.p l.other;
  small : unsigned_abs l.sum ≤ GREATEST_WEIGHT * l.other;
}
