-- What the fields of a cutter stand for.
use Rattle.std.specs.Prelude.{ℕ, List, [], Option, Some, None}
use Rattle.bfm_lexer.specs.declared.lines.Stage.{Stage}
use Rattle.bfm_lexer.specs.declared.lines.Stage.TheVariants.{Begun, TooLong, Finished}

-- the bytes of the line that has begun, or none where they are too many
abbrev pub pending_in : Stage → List ℕ → Option (List ℕ)
pending_in Begun kept = Some kept
pending_in TooLong kept = None
pending_in Finished kept = Some []

-- the line that the last call finished, if it finished one that is kept
abbrev pub line_in : Stage → List ℕ → Option (List ℕ)
line_in Begun kept = None
line_in TooLong kept = None
line_in Finished kept = Some kept
