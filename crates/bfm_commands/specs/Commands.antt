-- The command lines of a file: a mark, a name, and what follows it.
use Rattle.std.specs.Prelude.{ℕ, ◌||◌, ◌==◌, Bool, List, [], ◌∷◌, length, drop, codes, take_while, find, Option, None, Some, if◌then◌else◌}
use Rattle.std.specs.Char.{is_ascii_alphanumeric}
use Rattle.std.specs.Str.{bytes_eq}
use Rattle.bfm_lexer.specs.Kinds.{begins}
use Rattle.bfm_lexer.specs.Fields.{◌>>=◌}
use Rattle.bfm_commands.specs.declared.commands.Known.{Known}
use Rattle.bfm_commands.specs.declared.commands.Known.TheVariants.{NumberOfMonomers, BoxX, BoxY, BoxZ, PeriodicX, PeriodicY, PeriodicZ, SetOfBondVectors, Bonds, Attributes, Valence, Fixed, Contacts, Acceptance, Mcs, AddBonds, RemoveBonds, Stream, Solid}

-- the known commands
abbrev pub known : List Known
known =
    NumberOfMonomers ∷ BoxX ∷ BoxY ∷ BoxZ ∷ PeriodicX ∷ PeriodicY ∷ PeriodicZ ∷ SetOfBondVectors ∷ Bonds ∷ Attributes ∷ Valence ∷ Fixed ∷ Contacts ∷ Acceptance ∷ Mcs ∷ AddBonds ∷ RemoveBonds ∷ Stream ∷ Solid ∷ []

-- how a file names them
abbrev pub name_of : Known → List ℕ
name_of NumberOfMonomers = codes "number_of_monomers"
name_of BoxX = codes "box_x"
name_of BoxY = codes "box_y"
name_of BoxZ = codes "box_z"
name_of PeriodicX = codes "periodic_x"
name_of PeriodicY = codes "periodic_y"
name_of PeriodicZ = codes "periodic_z"
name_of SetOfBondVectors = codes "set_of_bondvectors"
name_of Bonds = codes "bonds"
name_of Attributes = codes "attributes"
name_of Valence = codes "bfm_valence"
name_of Fixed = codes "bfm_fixed"
name_of Contacts = codes "bfm_contacts"
name_of Acceptance = codes "bfm_acceptance"
name_of Mcs = codes "mcs"
name_of AddBonds = codes "add_bonds"
name_of RemoveBonds = codes "remove_bonds"
name_of Stream = codes "bfm_stream"
name_of Solid = codes "bfm_solid"

-- the known command of a name
unfoldable pub known_of : List ℕ → Option Known
known_of name = find (λ command. bytes_eq (name_of command) name) known

-- an ASCII letter or digit, or an underscore
abbrev pub is_name_byte : ℕ → Bool
is_name_byte b = is_ascii_alphanumeric b || b == 95

-- the longest run of such bytes at the start of a text
abbrev pub name_at : List ℕ → List ℕ
name_at text = take_while is_name_byte text

-- what stands behind the mark of a command line
abbrev pub marked : List ℕ → Option (List ℕ)
marked line = if begins line (codes "!") then Some (drop 1 line) else if begins line (codes "#!") then Some (drop 2 line) else None

-- the command of a line, and what follows its name
unfoldable pub command_of : List ℕ → Option (Option Known × List ℕ)
command_of line = do
  text ← marked line
  Some (known_of (name_at text), drop (length (name_at text)) text)
