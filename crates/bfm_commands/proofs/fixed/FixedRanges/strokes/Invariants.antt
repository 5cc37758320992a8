use Rattle.std.proofs.Common.{◌≡◌, ℕ, ◌+◌, ◌/◌, cond, length, take}
use Rattle.bfm_commands.specs.History.{is_in_some}
use Rattle.bfm_commands.specs.Strokes.{stroke_over}
use Rattle.bfm_commands.proofs.fixed.FixedRanges.strokes.Given as goal

abbrev pub invariant-loop-range : goal.invariant-loop-range
invariant-loop-range l =
    (length l.strokes.ones.items ≡ l.count) × (length l.strokes.blocks.items ≡ l.count / 512 + 1)
    × ((i : ℕ) → stroke_over l.strokes i ≡ cond (is_in_some (take l.range-index l.range-items) i) 1 0)
