-- The verdict on a file: what it gives, or its first wrong line.
use Rattle.std.specs.Prelude.{◌≡◌, ℕ, ◌+◌, ◌==◌, List, [], ◌∷◌, length, Option, None, Some, Result, Ok, Err, if◌then◌else◌}
use Rattle.bfm_base.specs.declared.cause.Cause.{Cause}
use Rattle.bfm_base.specs.declared.cause.Cause.TheVariants.{NoFrame}
use Rattle.bfm_base.specs.declared.cause.Refused.{Refused}
use Rattle.bfm_base.specs.declared.cause.ReadStop.{ReadStop}
use Rattle.bfm_base.specs.declared.cause.ReadStop.TheVariants as stops
use Rattle.bfm_lexer.specs.Lines.{finished_lines}
use Rattle.bfm_commands.specs.History.{History, mcs_of, draft_of, last_whole, frames_of, first_positions, skipped_of}
use Rattle.bfm_commands.specs.Causes.{cause_of}
use Rattle.bfm_commands.specs.declared.loaded.Loaded.{Loaded}

-- lines, newest first, behind those that are so already
abbrev pub newest_first : History → List (List ℕ) → History
newest_first before [] = before
newest_first before (line ∷ lines) = newest_first (line ∷ before) lines

-- the finished lines of a file
abbrev pub history_of : List ℕ → History
history_of bytes = newest_first [] (finished_lines bytes)

abbrev pub refused_at : ℕ → Option Cause → Option Refused → Option Refused
refused_at before None later = later
refused_at before (Some cause) later = Some (record { line = before + 1; cause = cause })

-- the first wrong line, where lines stand before these
abbrev pub first_wrong : History → List (List ℕ) → Option Refused
first_wrong before [] = None
first_wrong before (line ∷ lines) = refused_at (length before) (cause_of before line) (first_wrong (line ∷ before) lines)

-- the first wrong line of a file
abbrev pub first_wrong_of : List ℕ → Option Refused
first_wrong_of bytes = first_wrong [] (finished_lines bytes)

-- how many bytes lines have, each with its newline
abbrev pub bytes_in : History → ℕ
bytes_in [] = 0
bytes_in (line ∷ before) = bytes_in before + length line + 1

-- what a file of so many bytes gives: the last whole frame and what stands before it
abbrev pub loaded_of : ℕ → History → Loaded
loaded_of total lines = let whole = last_whole lines in record {
  world = (draft_of whole).world;
  first = first_positions lines;
  mcs = mcs_of whole;
  frames = frames_of lines;
  kept = bytes_in whole;
  total = total;
  skipped = skipped_of lines;
}

-- what a file without a wrong line comes to: it has to have a whole frame
abbrev pub whole_of : ℕ → History → Result Loaded Refused
whole_of total lines =
    if frames_of lines == 0 then Err (record { line = length lines + 1; cause = NoFrame }) else Ok (loaded_of total lines)

abbrev pub whole_or : ℕ → History → Option Refused → Result Loaded Refused
whole_or total lines (Some refused) = Err refused
whole_or total lines None = whole_of total lines

-- the verdict on the bytes of a file
abbrev pub verdict_of : List ℕ → Result Loaded Refused
verdict_of bytes = whole_or (length bytes) (history_of bytes) (first_wrong_of bytes)

-- a reader that stops says why the file is refused, or wants memory
abbrev pub IsStop : ReadStop → Option Refused → Type 0
IsStop (stops.Refused refused) wrong = wrong ≡ Some refused
IsStop stops.Memory wrong = Unit {0}
