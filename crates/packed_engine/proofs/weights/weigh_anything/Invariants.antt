use Rattle.std.proofs.Common.{◌≡◌, ◌+◌, ◌*◌, ◌<◌, ◌≤◌, ℕ, pos}
use Rattle.bfm_base.specs.declared.limits.TheConstants.{GREATEST_CLASS}
use Rattle.contact_table.specs.Contacts.{weight_of}
use Rattle.packed_engine.proofs.weights.weigh_anything.Given as goal

abbrev pub invariant-loop-k : goal.invariant-loop-k
invariant-loop-k l = (a b : ℕ) → a ≤ GREATEST_CLASS → b ≤ GREATEST_CLASS → 16 * a + b < l.k → weight_of l.table a b ≡ pos 0
