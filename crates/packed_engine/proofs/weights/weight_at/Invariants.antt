use Rattle.std.proofs.Common.{◌≡◌, ◌+◌, ◌*◌, ◌≤◌}
use Rattle.std.specs.Prelude.{unsigned_abs}
use Rattle.bfm_base.specs.declared.limits.TheConstants.{GREATEST_WEIGHT}
use Rattle.packed_engine.proofs.WeightLemmas.{contacts_among, weight_around}
use Rattle.packed_engine.proofs.weights.weight_at.Given as goal

abbrev pub invariant-loop-k : goal.invariant-loop-k
invariant-loop-k g l = record {
  sum : l.sum ≡ weight_around l.world l.monomer l.p l.k;
  small : unsigned_abs l.sum ≤ GREATEST_WEIGHT * l.k;
  looks : l.steps ≤ l.fn.steps + contacts_among l.k;
}
