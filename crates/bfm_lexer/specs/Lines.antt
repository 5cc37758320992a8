-- The lines of a file: the pieces of its bytes between newlines.
use Rattle.std.specs.Prelude.{ℕ, ◌-◌, Bool, ◌==◌, nat_lt, List, [], ◌∷◌, length, take, slice_index, if◌then◌else◌}
use Rattle.std.specs.List.{list_any}
use Rattle.bfm_base.specs.declared.limits.TheConstants.{LONGEST_LINE}

-- a byte is put before the first line
abbrev pub begun : ℕ → List (List ℕ) → List (List ℕ)
begun b [] = []
begun b (line ∷ lines) = (b ∷ line) ∷ lines

-- the lines that a newline ends, in order, each without it
abbrev pub finished_lines : List ℕ → List (List ℕ)
finished_lines [] = []
finished_lines (b ∷ bs) = if b == 10 then [] ∷ finished_lines bs else begun b (finished_lines bs)

-- a newline is among the bytes
abbrev pub has_newline : List ℕ → Bool
has_newline bs = list_any (λ b. b == 10) bs

-- what stands behind the last newline, or all where there is none
abbrev pub unfinished : List ℕ → List ℕ
unfinished [] = []
unfinished (b ∷ bs) = if has_newline (b ∷ bs) then unfinished bs else b ∷ bs

-- the line without one carriage return at its end
abbrev pub without_return : List ℕ → List ℕ
without_return line = if slice_index line (length line - 1) == 13 then take (length line - 1) line else line

-- more bytes than a line may have, a carriage return counted
abbrev pub is_long : List ℕ → Bool
is_long line = nat_lt LONGEST_LINE (length line)
