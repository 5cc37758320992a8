-- Strokes over ranges of numbers, each over those before it.
use Rattle.std.specs.Prelude.{ℕ, zero, suc, ◌/◌, List, max, Bool, ◌&&◌, nat_le, nat_lt, slice_index_or}
use Rattle.bfm_commands.specs.declared.strokes.TheConstants.{BLOCK}
use Rattle.bfm_commands.specs.declared.strokes.Strokes.{Strokes}
use Rattle.bfm_commands.specs.declared.forms.Range.{Range}

-- a number is from the first to the last
abbrev pub is_from_to : ℕ → ℕ → ℕ → Bool
is_from_to first last i = nat_le first i && nat_le i last

-- a number is from one on and before another
abbrev pub is_within : ℕ → ℕ → ℕ → Bool
is_within from to i = nat_le from i && nat_lt i to

-- what the entry says whose turn it was, or 0
abbrev pub value_at : List (Range × ℕ) → ℕ → ℕ
value_at said zero = 0
value_at said (suc turn) = (slice_index_or said turn (record { first = 0; last = 0 }, 0)).1

-- the last stroke over a number, or 0, by the strokes of the number itself and of its block
abbrev pub last_over : List ℕ → List ℕ → ℕ → ℕ
last_over ones blocks i = max (slice_index_or ones i 0) (slice_index_or blocks (i / BLOCK) 0)

abbrev pub stroke_over : Strokes → ℕ → ℕ
stroke_over strokes i = last_over strokes.ones.items strokes.blocks.items i
