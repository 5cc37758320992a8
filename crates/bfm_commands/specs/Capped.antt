-- The numbers of the forms as the lexer hands them on: one above 2^62 in absolute value is the next one beyond.
use Rattle.std.specs.Prelude.{ℤ, List, ℕ}
use Rattle.bfm_base.specs.declared.place.P3.{P3}
use Rattle.bfm_lexer.specs.Cursor.{capped}
use Rattle.bfm_commands.specs.Forms.{Numbered}

abbrev pub capped_place : P3 → P3
capped_place p = record { x = capped p.x; y = capped p.y; z = capped p.z }

abbrev pub capped_vector : P3 × ℤ → P3 × ℤ
capped_vector entry = (capped_place entry.0, capped entry.1)

abbrev pub capped_pair : ℤ × ℤ → ℤ × ℤ
capped_pair entry = (capped entry.0, capped entry.1)

abbrev pub capped_numbered : Numbered → Numbered
capped_numbered entry = (capped_pair entry.0, capped entry.1)

abbrev pub capped_frame : P3 × List ℕ → P3 × List ℕ
capped_frame line = (capped_place line.0, line.1)
