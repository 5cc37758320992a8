-- What a line of a file is, by its first bytes, and what a known command does.
use Rattle.std.specs.Prelude.{ℕ, List, Option, None, Some}
use Rattle.bfm_base.specs.declared.limits.TheConstants.{MOST_MONOMERS, LEAST_SIDE, GREATEST_SIDE}
use Rattle.bfm_lexer.specs.Kinds.{kind_of}
use Rattle.bfm_lexer.specs.Lines.{without_return}
use Rattle.bfm_lexer.specs.declared.kinds.LineKind.{LineKind}
use Rattle.bfm_lexer.specs.declared.kinds.LineKind.TheVariants.{Entry}
use Rattle.bfm_commands.specs.Commands.{command_of}
use Rattle.bfm_commands.specs.declared.commands.Known.{Known}
use Rattle.bfm_commands.specs.declared.commands.Known.TheVariants.{NumberOfMonomers, BoxX, BoxY, BoxZ, PeriodicX, PeriodicY, PeriodicZ, SetOfBondVectors, Bonds, Attributes, Valence, Fixed, Contacts, Acceptance, Mcs, AddBonds, RemoveBonds, Stream, Solid}
use Rattle.bfm_commands.specs.declared.role.Role.{Role}
use Rattle.bfm_commands.specs.declared.role.Role.TheVariants as roles

-- a blank line or a comment; a command line, with the command where it is known, and what follows its name; an entry
pub data Meaning : Type 0 where
  nothing : Meaning
  command : Option Known → List ℕ → Meaning
  entry : List ℕ → Meaning

abbrev pub meant : Option (Option Known × List ℕ) → LineKind → List ℕ → Meaning
meant (Some line) kind text = command line.0 line.1
meant None Entry text = entry text
meant None kind text = nothing

-- what a text is that has no newline, and no carriage return at its end
unfoldable pub text_meaning : List ℕ → Meaning
text_meaning text = meant (command_of text) (kind_of text) text

-- what a line is
abbrev pub meaning_of : List ℕ → Meaning
meaning_of line = text_meaning (without_return line)

-- what a known command does in a file
abbrev pub role_of : Known → Role
role_of NumberOfMonomers = roles.Value 1 MOST_MONOMERS
role_of BoxX = roles.Value LEAST_SIDE GREATEST_SIDE
role_of BoxY = roles.Value LEAST_SIDE GREATEST_SIDE
role_of BoxZ = roles.Value LEAST_SIDE GREATEST_SIDE
role_of PeriodicX = roles.Value 0 1
role_of PeriodicY = roles.Value 0 1
role_of PeriodicZ = roles.Value 0 1
role_of SetOfBondVectors = roles.List
role_of Bonds = roles.List
role_of Mcs = roles.Frame
role_of Attributes = roles.List
role_of Valence = roles.List
role_of Fixed = roles.List
role_of Contacts = roles.List
role_of Acceptance = roles.List
role_of AddBonds = roles.Change
role_of RemoveBonds = roles.Change
role_of Stream = roles.Unbuilt
role_of Solid = roles.Unbuilt
