-- A list of which a part is written.
use Rattle.std.specs.Prelude.{ℕ, List, [], ◌∷◌, codes}
use Rattle.bfm_world.specs.Configuration.{Configuration, label_of, valence_of}
use Rattle.bfm_writer.specs.declared.listing.Listing.{Listing}
use Rattle.bfm_writer.specs.declared.listing.Listing.TheVariants.{Empty, Begun}
use Rattle.bfm_writer.specs.declared.headers.Mark.{Mark}
use Rattle.bfm_writer.specs.declared.headers.Mark.TheVariants.{Label, Valence}
use Rattle.bfm_writer.specs.Header.{listed}

-- the line of the command, where no entry is written yet
abbrev pub command_before : Listing → List ℕ → List ℕ
command_before Empty command = command
command_before Begun command = []

-- further entries of a list
abbrev pub entries_of : Listing → List ℕ → List ℕ → List ℕ
entries_of Empty command entries = listed command entries
entries_of Begun command entries = entries

-- what is written of a list behind further entries
abbrev pub behind : Listing → List ℕ → Listing
behind listing [] = listing
behind listing (byte ∷ entries) = Begun

-- what is said of monomer i, and the command of the list of it
abbrev pub mark_of : Mark → Configuration → ℕ → ℕ
mark_of Label w i = label_of w i
mark_of Valence w i = valence_of w i

abbrev pub command_of : Mark → List ℕ
command_of Label = codes "!attributes\n"
command_of Valence = codes "!bfm_valence\n"
