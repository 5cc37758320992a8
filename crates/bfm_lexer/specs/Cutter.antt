-- What a cutter of lines holds between two calls, and what a call does.
use Rattle.std.specs.Prelude.{◌≡◌, ℕ, ◌<◌, ◌≤◌, min, true, false, List, [], ◌∷◌, ◌++◌, length, slice_range, Option, Some, None, if◌then◌else◌}
use Rattle.bfm_base.specs.declared.limits.TheConstants.{LONGEST_LINE}
use Rattle.bfm_lexer.specs.Lines.{finished_lines, unfinished, without_return, is_long}
use Rattle.bfm_lexer.specs.declared.lines.Cut.{Cut}
use Rattle.bfm_lexer.specs.declared.lines.Cut.TheVariants.{Line, Long, Used}

-- the bytes of the line that has begun, or none where they are too many already; and the line that
-- the last call finished, as it is given, or none where it finished none or one that is too long
pub record Cutter : Type 0 where
  pub pending : Option (List ℕ)
  pub line : Option (List ℕ)

-- the bytes of a line, or none where they are too many
abbrev pub kept_of : List ℕ → Option (List ℕ)
kept_of line = if is_long line then None else Some line

-- these are all the bytes that the cutter has taken
abbrev pub StandsFor : Cutter → List ℕ → Type 0
StandsFor cutter bytes = cutter.pending ≡ kept_of (unfinished bytes)

-- how many bytes the line has that has begun, or as many as a line may have where it has more
abbrev pub begun_length : List ℕ → ℕ
begun_length bytes = min (length (unfinished bytes)) LONGEST_LINE

-- one line with its newline is taken of a piece, and no more
pub record TakesLine (piece : List ℕ) (from to : ℕ) : Type 0 where
  pub moves : from < to
  pub within : to ≤ length piece
  pub one_line : length (finished_lines (slice_range piece from to)) ≡ 1
  pub no_more : unfinished (slice_range piece from to) ≡ []

-- all that is left of a piece is taken, and no newline is in it
pub record TakesRest (piece : List ℕ) (from to : ℕ) : Type 0 where
  pub all : to ≡ length piece
  pub no_line : finished_lines (slice_range piece from to) ≡ []

-- what a call takes of a piece, by its answer
abbrev pub Takes : Cut → List ℕ → ℕ → ℕ → Type 0
Takes Line piece from to = TakesLine piece from to
Takes Long piece from to = TakesLine piece from to
Takes Used piece from to = TakesRest piece from to

-- the bytes grew by what finishes one line, and end with it
pub record Finishes (before after : List ℕ) : Type 0 where
  pub line : List ℕ
  pub lines : finished_lines after ≡ finished_lines before ++ line ∷ []
  pub no_more : unfinished after ≡ []

-- what a call answers where the bytes that the cutter has taken grow from `before` to `after`
abbrev pub Answers : Cut → Cutter → List ℕ → List ℕ → Type 0
Answers Line cutter before after = (new : Finishes before after) × (is_long new.line ≡ false) × (cutter.line ≡ Some (without_return new.line))
Answers Long cutter before after = (new : Finishes before after) × (is_long new.line ≡ true)
Answers Used cutter before after = finished_lines after ≡ finished_lines before

-- the line that has begun goes on with these bytes
abbrev pub joined : Option (List ℕ) → List ℕ → Option (List ℕ)
joined None bytes = None
joined (Some line) bytes = kept_of (line ++ bytes)

-- the answer where a line is finished of which this is kept
abbrev pub cut_of : Option (List ℕ) → Cut
cut_of None = Long
cut_of (Some line) = Line
