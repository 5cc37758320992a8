-- What the finished lines of a file give. They come newest first, so that what a line adds is told by it and by the
-- lines before it.
use Rattle.std.specs.Prelude.{ℕ, zero, suc, ◌+◌, ◌-◌, ◌==◌, Bool, true, false, not, ◌&&◌, nat_le, ℤ, pos, negsuc, unsigned_abs, List, [], ◌∷◌, ◌++◌, length, replicate, Option, None, Some, is_some, unwrap_or, option_and_then, find, Result, if◌then◌else◌}
use Rattle.std.specs.List.{list_any}
use Rattle.std.specs.Result.{result_ok}
use Rattle.bfm_base.specs.declared.cause.Cause.{Cause}
use Rattle.bfm_base.specs.declared.place.P3.{P3}
use Rattle.bfm_base.specs.declared.place.Shape.{Shape}
use Rattle.bfm_geom.specs.Difference.{plus}
use Rattle.bond_set.specs.BondSet.{vector_of}
use Rattle.contact_table.specs.Contacts.{ContactTable, no_contacts, with_weight, with_threshold}
use Rattle.bfm_world.specs.Bonds.{are_bonded, with_bond, without_bond}
use Rattle.bfm_world.specs.Draft.{Draft}
use Rattle.bfm_commands.specs.Forms.{value_number, vector_entry, pair_entry, range_entry, monomers_entry, contact_entry, threshold_entry, frame_line}
use Rattle.bfm_commands.specs.Meaning.{Meaning, nothing, command, entry, meaning_of, role_of}
use Rattle.bfm_commands.specs.declared.commands.Known.{Known}
use Rattle.bfm_commands.specs.declared.commands.Known.TheVariants.{NumberOfMonomers, BoxX, BoxY, BoxZ, PeriodicX, PeriodicY, PeriodicZ, SetOfBondVectors, Bonds, Attributes, Valence, Fixed, Contacts, Acceptance, Mcs, AddBonds, RemoveBonds, Stream, Solid}
use Rattle.bfm_commands.specs.declared.role.Role.{Role}
use Rattle.bfm_commands.specs.declared.role.Role.TheVariants as roles
use Rattle.bfm_commands.specs.declared.owner.Owner.{Owner}
use Rattle.bfm_commands.specs.declared.owner.Owner.TheVariants.{Nobody, Unknown, Command}
use Rattle.bfm_commands.specs.declared.settings.Given.{Given}
use Rattle.bfm_commands.specs.declared.forms.Range.{Range}
use Rattle.bfm_base.specs.declared.limits.TheConstants.{GREATEST_LABEL, GREATEST_VALENCE}

-- lines, the newest first
abbrev pub History : Type 0
History = List (List ℕ)

-- The header: the lines before the first that begins a frame.

abbrev pub begins : Meaning → Bool
begins (command (Some Mcs) rest) = true
begins line = false

abbrev pub has_begun : History → Bool
has_begun lines = list_any (λ line. begins (meaning_of line)) lines

abbrev pub header_of : History → History
header_of [] = []
header_of (line ∷ before) = if has_begun (line ∷ before) then header_of before else line ∷ before

-- The owner of an entry: the last command line before it.

abbrev pub owner_after : Owner → Meaning → Owner
owner_after owner nothing = owner
owner_after owner (entry text) = owner
owner_after owner (command None rest) = Unknown
owner_after owner (command (Some known) rest) = Command known

abbrev pub owner_of : History → Owner
owner_of [] = Nobody
owner_of (line ∷ before) = owner_after (owner_of before) (meaning_of line)

abbrev pub is_same : Known → Known → Bool
is_same NumberOfMonomers NumberOfMonomers = true
is_same BoxX BoxX = true
is_same BoxY BoxY = true
is_same BoxZ BoxZ = true
is_same PeriodicX PeriodicX = true
is_same PeriodicY PeriodicY = true
is_same PeriodicZ PeriodicZ = true
is_same SetOfBondVectors SetOfBondVectors = true
is_same Bonds Bonds = true
is_same Attributes Attributes = true
is_same Valence Valence = true
is_same Fixed Fixed = true
is_same Contacts Contacts = true
is_same Acceptance Acceptance = true
is_same Mcs Mcs = true
is_same AddBonds AddBonds = true
is_same RemoveBonds RemoveBonds = true
is_same Stream Stream = true
is_same Solid Solid = true
is_same known other = false

-- the text of a line that is an entry of this command
abbrev pub entry_of : Known → Owner → Meaning → Option (List ℕ)
entry_of known (Command owner) (entry text) = if is_same owner known then Some text else None
entry_of known owner line = None

-- what such an entry gives, where it is right
abbrev pub given_in : {A : Type 0} → (List ℕ → Result A Cause) → Option (List ℕ) → Option A
given_in form text = option_and_then (λ t. result_ok (form t)) text

-- The commands of the header, and their values.

abbrev pub natural_in : Option ℤ → Option ℕ
natural_in None = None
natural_in (Some (pos n)) = Some n
natural_in (Some (negsuc n)) = None

abbrev pub given_as : Known → Role → List ℕ → List Given
given_as known (roles.Value least greatest) rest = record { command = known; value = natural_in (value_number rest) } ∷ []
given_as known roles.List rest = record { command = known; value = None } ∷ []
given_as known role rest = []

abbrev pub given_by : Meaning → List Given
given_by (command (Some known) rest) = given_as known (role_of known) rest
given_by line = []

-- the commands of a header, each with the number that it gives, if it gives one
abbrev pub given_of : History → List Given
given_of [] = []
given_of (line ∷ before) = given_by (meaning_of line) ++ given_of before

-- the newest line that gives a command
abbrev pub find_given : Known → List Given → Option Given
find_given known given = find (λ g. is_same g.command known) given

abbrev pub stands : Known → List Given → Bool
stands known given = is_some (find_given known given)

-- the number that it gives
abbrev pub value_in : Known → List Given → Option ℕ
value_in known given = option_and_then (λ g. g.value) (find_given known given)

abbrev pub value_or_zero : Known → List Given → ℕ
value_or_zero known given = unwrap_or (value_in known given) 0

abbrev pub count_in : List Given → ℕ
count_in given = value_or_zero NumberOfMonomers given

abbrev pub shape_in : List Given → Shape
shape_in given = record {
  sides = value_or_zero BoxX given ∷ value_or_zero BoxY given ∷ value_or_zero BoxZ given ∷ [];
  periodic = (value_or_zero PeriodicX given == 1) ∷ (value_or_zero PeriodicY given == 1) ∷ (value_or_zero PeriodicZ given == 1) ∷ [];
}

-- The lists of the header.

abbrev pub with_vector : List (P3 × ℕ) → Option (P3 × ℤ) → List (P3 × ℕ)
with_vector set None = set
with_vector set (Some e) = set ++ (e.0, unsigned_abs e.1) ∷ []

-- the set of bond vectors
abbrev pub set_of : History → List (P3 × ℕ)
set_of [] = []
set_of (line ∷ before) = with_vector (set_of before) (given_in vector_entry (entry_of SetOfBondVectors (owner_of before) (meaning_of line)))

abbrev pub with_listed : List (ℕ × ℕ) → Option (ℕ × ℕ) → List (ℕ × ℕ)
with_listed pairs None = pairs
with_listed pairs (Some pair) = pairs ++ pair ∷ []

-- the pairs of monomers that are listed as bonded
abbrev pub pairs_of : History → List (ℕ × ℕ)
pairs_of [] = []
pairs_of (line ∷ before) = with_listed (pairs_of before) (given_in pair_entry (entry_of Bonds (owner_of before) (meaning_of line)))

-- Labels and valences of monomers.

abbrev pub with_said : List (Range × ℕ) → Option (Range × ℕ) → List (Range × ℕ)
with_said said None = said
with_said said (Some e) = said ++ e ∷ []

-- what the entries of a command say of monomers; each gives at most so much
abbrev pub said_of : Known → ℕ → History → List (Range × ℕ)
said_of known greatest [] = []
said_of known greatest (line ∷ before) =
    with_said (said_of known greatest before) (given_in (λ text. range_entry text greatest) (entry_of known (owner_of before) (meaning_of line)))

abbrev pub labels_of : History → List (Range × ℕ)
labels_of lines = said_of Attributes GREATEST_LABEL lines

abbrev pub valences_of : History → List (Range × ℕ)
valences_of lines = said_of Valence GREATEST_VALENCE lines

abbrev pub is_among : Range → ℕ → Bool
is_among range i = nat_le range.first i && nat_le i range.last

-- what is said of a monomer, by entries each of which replaces what stood before
abbrev pub last_said : List (Range × ℕ) → ℕ → ℕ → ℕ
last_said [] i value = value
last_said (e ∷ said) i value = last_said said i (if is_among e.0 i then e.1 else value)

-- the same of so many monomers, from one on; it is 0 where nothing is said
abbrev pub said_from : List (Range × ℕ) → ℕ → ℕ → List ℕ
said_from said i zero = []
said_from said i (suc n) = last_said said i 0 ∷ said_from said (i + 1) n

abbrev pub said_of_each : List (Range × ℕ) → ℕ → List ℕ
said_of_each said count = said_from said 0 count

-- Monomers that are fixed.

abbrev pub with_range : List Range → Option Range → List Range
with_range ranges None = ranges
with_range ranges (Some range) = ranges ++ range ∷ []

-- the ranges of the entries that fix monomers
abbrev pub fixed_of : History → List Range
fixed_of [] = []
fixed_of (line ∷ before) = with_range (fixed_of before) (given_in monomers_entry (entry_of Fixed (owner_of before) (meaning_of line)))

-- some range has a monomer
abbrev pub is_in_some : List Range → ℕ → Bool
is_in_some ranges i = list_any (λ range. is_among range i) ranges

-- the same of so many monomers, from one on
abbrev pub in_some_from : List Range → ℕ → ℕ → List Bool
in_some_from ranges i zero = []
in_some_from ranges i (suc n) = is_in_some ranges i ∷ in_some_from ranges (i + 1) n

-- whether each of so many monomers is fixed by these ranges
abbrev pub fixed_of_each : List Range → ℕ → List Bool
fixed_of_each ranges count = in_some_from ranges 0 count

-- Contacts.

abbrev pub with_contact : ContactTable → Option ((ℕ × ℕ) × ℤ) → ContactTable
with_contact table None = table
with_contact table (Some e) = with_weight e.0.0 e.0.1 e.1 table

abbrev pub with_acceptance : ContactTable → Option ℕ → ContactTable
with_acceptance table None = table
with_acceptance table (Some t) = with_threshold t table

-- the weights of contacts, where an entry replaces what stood before for its pair of classes, and the thresholds in order
abbrev pub table_of : History → ContactTable
table_of [] = no_contacts
table_of (line ∷ before) =
    let weighed = with_contact (table_of before) (given_in contact_entry (entry_of Contacts (owner_of before) (meaning_of line))) in
    with_acceptance weighed (given_in threshold_entry (entry_of Acceptance (owner_of before) (meaning_of line)))

-- A pair that is bonded has no further effect.
abbrev pub with_pair : List (List ℕ) → ℕ × ℕ → List (List ℕ)
with_pair bonds pair = if are_bonded bonds pair.0 pair.1 then bonds else with_bond bonds pair.0 pair.1

abbrev pub with_pairs : List (List ℕ) → List (ℕ × ℕ) → List (List ℕ)
with_pairs bonds [] = bonds
with_pairs bonds (pair ∷ pairs) = with_pairs (with_pair bonds pair) pairs

-- the bonds that so many monomers have by pairs that are listed
abbrev pub listed_bonds : ℕ → List (ℕ × ℕ) → List (List ℕ)
listed_bonds count pairs = with_pairs (replicate count []) pairs

-- The frame that began last.

-- the positions that identifiers lead to, one from the other
abbrev pub walk : List (P3 × ℕ) → P3 → List ℕ → List P3
walk set p [] = []
walk set p (id ∷ ids) =
    let q = plus p (unwrap_or (vector_of set id) (record { x = pos 0; y = pos 0; z = pos 0 })) in
    q ∷ walk set q ids

-- the positions of a line's first monomer and of those that its identifiers lead to
abbrev pub string_positions : List (P3 × ℕ) → P3 × List ℕ → List P3
string_positions set line = line.0 ∷ walk set line.0 line.1

abbrev pub line_positions : List (P3 × ℕ) → Option (P3 × List ℕ) → List P3
line_positions set None = []
line_positions set (Some line) = string_positions set line

-- the positions that a line adds to its frame
abbrev pub positions_by : History → Meaning → List P3
positions_by before line = line_positions (set_of (header_of before)) (given_in frame_line (entry_of Mcs (owner_of before) line))

abbrev pub positions_of : History → List P3
positions_of [] = []
positions_of (line ∷ before) = if begins (meaning_of line) then [] else positions_of before ++ positions_by before (meaning_of line)

abbrev pub time_after : ℕ → Meaning → ℕ
time_after mcs (command (Some Mcs) rest) = unwrap_or (natural_in (value_number rest)) 0
time_after mcs line = mcs

-- its time, in sweeps
abbrev pub mcs_of : History → ℕ
mcs_of [] = 0
mcs_of (line ∷ before) = time_after (mcs_of before) (meaning_of line)

-- it is the first one
abbrev pub is_first_frame : History → Bool
is_first_frame [] = false
is_first_frame (line ∷ before) = if begins (meaning_of line) then not (has_begun before) else is_first_frame before

-- the pairs of successive monomers, of which there are n after monomer k
abbrev pub chain : ℕ → ℕ → List (ℕ × ℕ)
chain k zero = []
chain k (suc n) = (k, k + 1) ∷ chain (k + 1) n

-- the successive monomers in a line of the first frame, who are bonded
abbrev pub shown_by : History → Meaning → List (ℕ × ℕ)
shown_by before line =
    if is_first_frame before then chain (length (positions_of before)) (length (positions_by before line) - 1) else []

-- the pair that an entry of a command names
abbrev pub pair_in : Known → History → Meaning → Option (ℕ × ℕ)
pair_in known before line = given_in pair_entry (entry_of known (owner_of before) line)

abbrev pub with_added : List (List ℕ) → Option (ℕ × ℕ) → List (List ℕ)
with_added bonds None = bonds
with_added bonds (Some pair) = with_pair bonds pair

abbrev pub with_removed : List (List ℕ) → Option (ℕ × ℕ) → List (List ℕ)
with_removed bonds None = bonds
with_removed bonds (Some pair) = without_bond bonds pair.0 pair.1

-- the bonds after a line: those that it shows and the one that it adds are there, and the one that it removes is not
abbrev pub bonds_after : History → Meaning → List (List ℕ) → List (List ℕ)
bonds_after before line bonds =
    with_removed (with_added (with_pairs bonds (shown_by before line)) (pair_in AddBonds before line)) (pair_in RemoveBonds before line)

-- the bonds after all lines, where the header lists these
abbrev pub bonds_of : List (List ℕ) → History → List (List ℕ)
bonds_of listed [] = listed
bonds_of listed (line ∷ before) =
    if has_begun before then bonds_after before (meaning_of line) (bonds_of listed before) else listed

-- the world that the frame gives, as far as the lines have come
abbrev pub draft_of : History → Draft
draft_of lines =
    let header = header_of lines in
    let given = given_of header in
    record {
      world = record {
        shape = shape_in given;
        set = set_of header;
        table = table_of header;
        positions = positions_of lines;
        bonds = bonds_of (listed_bonds (count_in given) (pairs_of header)) lines;
        labels = said_of_each (labels_of header) (count_in given);
        valences = said_of_each (valences_of header) (count_in given);
        fixed = fixed_of_each (fixed_of header) (count_in given);
      };
      count = count_in given;
    }

-- Whole frames.

-- as many positions as monomers stand in the frame
abbrev pub is_whole : History → Bool
is_whole lines = has_begun lines && (length (positions_of lines) == count_in (given_of (header_of lines)))

-- the newest line makes its frame whole
abbrev pub completes : List ℕ → History → Bool
completes line before = is_some (entry_of Mcs (owner_of before) (meaning_of line)) && is_whole (line ∷ before)

-- the lines up to the one that made the last whole frame so, or none
abbrev pub last_whole : History → History
last_whole [] = []
last_whole (line ∷ before) = if completes line before then line ∷ before else last_whole before

-- how many frames were made whole
abbrev pub frames_of : History → ℕ
frames_of [] = 0
frames_of (line ∷ before) = if completes line before then frames_of before + 1 else frames_of before

-- the positions of the first whole frame
abbrev pub first_positions : History → List P3
first_positions [] = []
first_positions (line ∷ before) =
    if (frames_of before == 0) && completes line before then positions_of (line ∷ before) else first_positions before

-- Commands that are not known are counted.
abbrev pub is_skipped : Meaning → Bool
is_skipped (command None rest) = true
is_skipped line = false

abbrev pub skipped_of : History → ℕ
skipped_of [] = 0
skipped_of (line ∷ before) = if is_skipped (meaning_of line) then skipped_of before + 1 else skipped_of before
