use Rattle.std.proofs.Common.{◌≡◌, ℕ, ◌+◌, ◌/◌, ◌≤◌, length, take}
use Rattle.bfm_commands.specs.History.{last_said}
use Rattle.bfm_commands.specs.Strokes.{stroke_over, value_at}
use Rattle.bfm_commands.proofs.ranges.Ranges.strokes.Given as goal

abbrev pub invariant-loop-turn : goal.invariant-loop-turn
invariant-loop-turn g l =
    (length l.strokes.ones.items ≡ l.count) × (length l.strokes.blocks.items ≡ l.count / 512 + 1) × ((i : ℕ) → stroke_over l.strokes i ≤ l.turn)
    × ((i : ℕ) → value_at l.range-items (stroke_over l.strokes i) ≡ last_said (take l.turn l.range-items) i 0)
