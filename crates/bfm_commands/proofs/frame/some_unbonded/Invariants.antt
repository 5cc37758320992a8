use Rattle.std.proofs.Common.{◌≡◌, ◌+◌, ◌<◌, ◌≤◌, ℕ, true}
use Rattle.bfm_world.specs.Bonds.{are_bonded}
use Rattle.bfm_commands.proofs.frame.some_unbonded.Given as goal

abbrev pub invariant-loop-k : goal.invariant-loop-k
invariant-loop-k l = (j : ℕ) → l.first ≤ j → j < l.k → are_bonded l.builder.world.bonds j (j + 1) ≡ true
