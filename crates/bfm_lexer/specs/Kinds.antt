-- The kind of a line.
use Rattle.std.specs.Prelude.{ℕ, Bool, ◌||◌, ◌==◌, nat_eq, List, codes, if◌then◌else◌}
use Rattle.std.specs.List.{list_all, starts_with}
use Rattle.bfm_lexer.specs.declared.kinds.LineKind.{LineKind}
use Rattle.bfm_lexer.specs.declared.kinds.LineKind.TheVariants.{Blank, Comment, Command, Entry}

-- a space or a tab
abbrev pub is_blank : ℕ → Bool
is_blank b = b == 32 || b == 9

-- empty, or blanks only
abbrev pub is_bare : List ℕ → Bool
is_bare text = list_all is_blank text

-- the line begins with this text
abbrev pub begins : List ℕ → List ℕ → Bool
begins line text = starts_with nat_eq line text

-- the kind of a line, which stands without its newline
abbrev pub kind_of : List ℕ → LineKind
kind_of line =
    if is_bare line then Blank
    else if begins line (codes "!") || begins line (codes "#!") then Command
    else if begins line (codes "#") then Comment
    else Entry
