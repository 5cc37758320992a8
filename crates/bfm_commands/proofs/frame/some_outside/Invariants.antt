use Rattle.std.proofs.Common.{◌≡◌, ◌<◌, ◌≤◌, ℕ, true}
use Rattle.bfm_geom.specs.Walls.{is_within_walls}
use Rattle.bfm_commands.proofs.FrameLemmas.{passes_at}
use Rattle.bfm_commands.proofs.frame.some_outside.Given as goal

abbrev pub invariant-loop-k : goal.invariant-loop-k
invariant-loop-k l = (j : ℕ) → l.begun ≤ j → j < l.k → passes_at (λ before p. is_within_walls l.builder.world.shape p) l.positions j ≡ true
