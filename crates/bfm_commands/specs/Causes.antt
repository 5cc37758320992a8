-- Why a line is wrong after the finished lines before it, which come newest first: the least-numbered cause.
use Rattle.std.specs.Prelude.{ℕ, ◌+◌, ◌*◌, Bool, true, false, not, ◌&&◌, ◌||◌, nat_lt, nat_le, ℤ, List, [], ◌∷◌, ◌++◌, length, Option, None, Some, is_some, is_none, Result, Ok, Err, if◌then◌else◌}
use Rattle.std.specs.List.{list_any, list_all}
use Rattle.bfm_base.specs.declared.limits.TheConstants.{MOST_SITES, MOST_BONDS, GREATEST_MCS, GREATEST_LABEL, GREATEST_VALENCE}
use Rattle.contact_table.specs.declared.table.TheConstants.{MOST_THRESHOLDS}
use Rattle.bfm_base.specs.declared.place.P3.{P3}
use Rattle.bfm_base.specs.declared.cause.Cause.{Cause}
use Rattle.bfm_base.specs.declared.cause.Cause.TheVariants.{BadLine, OutOfLimit, Repeated, NotSymmetric, UnknownId, FrameLong, FrameShort, Missing, Misplaced, McsOrder, Outside, Overlap, BadMonomer, BadBond, TooManyBonds, BondUnknown, Unbuilt}
use Rattle.bond_set.specs.BondSet.{refusal_of, vector_of, first_unpaired}
use Rattle.bfm_world.specs.Bonds.{neighbours_of, are_bonded, is_full}
use Rattle.bfm_geom.specs.Walls.{is_within_walls}
use Rattle.bfm_world.specs.Configuration.{Configuration, is_clear, keeps_bonds}
use Rattle.bfm_world.specs.Draft.{Draft}
use Rattle.bfm_lexer.specs.Lines.{is_long}
use Rattle.bfm_lexer.specs.Kinds.{is_bare}
use Rattle.bfm_commands.specs.Forms.{value_number, natural_within, vector_entry, pair_entry, range_entry, monomers_entry, contact_entry, threshold_entry, frame_line}
use Rattle.bfm_commands.specs.Meaning.{Meaning, nothing, command, entry, meaning_of, role_of}
use Rattle.bfm_commands.specs.History.{History, has_begun, owner_of, natural_in, given_of, stands, value_in, count_in, set_of, pairs_of, labels_of, valences_of, fixed_of, table_of, with_pairs, listed_bonds, string_positions, mcs_of, is_first_frame, is_whole, draft_of, chain}
use Rattle.bfm_commands.specs.declared.commands.Known.{Known}
use Rattle.bfm_commands.specs.declared.commands.Known.TheVariants.{NumberOfMonomers, BoxX, BoxY, BoxZ, PeriodicX, PeriodicY, PeriodicZ, SetOfBondVectors, Bonds, Attributes, Valence, Fixed, Contacts, Acceptance, Mcs, AddBonds, RemoveBonds}
use Rattle.bfm_commands.specs.declared.role.Role.{Role}
use Rattle.bfm_commands.specs.declared.role.Role.TheVariants as roles
use Rattle.bfm_commands.specs.declared.owner.Owner.{Owner}
use Rattle.bfm_commands.specs.declared.owner.Owner.TheVariants as owners
use Rattle.bfm_commands.specs.declared.settings.Given.{Given}
use Rattle.bfm_commands.specs.declared.forms.Range.{Range}

-- the first of the causes that applies, where they stand in the order of their numbers
abbrev pub least : List (Cause × Bool) → Option Cause
least [] = None
least (c ∷ causes) = if c.1 then Some c.0 else least causes

-- Command lines.

-- what follows the name of a command is not what has to follow it
abbrev pub is_ill_formed : Role → List ℕ → Bool
is_ill_formed (roles.Value smallest greatest) rest = is_none (value_number rest)
is_ill_formed roles.Frame rest = is_none (value_number rest)
is_ill_formed roles.List rest = not (is_bare rest)
is_ill_formed roles.Change rest = not (is_bare rest)
is_ill_formed roles.Unbuilt rest = false

-- there is a number, and it is not from the one to the other
abbrev pub is_outside : ℕ → ℕ → Option ℤ → Bool
is_outside smallest greatest None = false
is_outside smallest greatest (Some n) = is_none (natural_within smallest greatest n)

-- a number follows the name that is out of its range
abbrev pub is_out_of_range : Role → List ℕ → Bool
is_out_of_range (roles.Value smallest greatest) rest = is_outside smallest greatest (value_number rest)
is_out_of_range roles.Frame rest = is_outside 0 GREATEST_MCS (value_number rest)
is_out_of_range role rest = false

abbrev pub is_header_command : Role → Bool
is_header_command (roles.Value smallest greatest) = true
is_header_command roles.List = true
is_header_command role = false

abbrev pub changes_bonds : Role → Bool
changes_bonds roles.Change = true
changes_bonds role = false

abbrev pub begins_frame : Role → Bool
begins_frame roles.Frame = true
begins_frame role = false

abbrev pub is_unbuilt : Role → Bool
is_unbuilt roles.Unbuilt = true
is_unbuilt role = false

-- the line ends the header
abbrev pub ends_header : Role → History → Bool
ends_header role before = begins_frame role && not (has_begun before)

-- a frame has begun that is not whole
abbrev pub is_cut_short : History → Bool
is_cut_short before = has_begun before && not (is_whole before)

-- the commands that a header must have
abbrev pub required : List Known
required = NumberOfMonomers ∷ BoxX ∷ BoxY ∷ BoxZ ∷ PeriodicX ∷ PeriodicY ∷ PeriodicZ ∷ []

abbrev pub some_missing : List Given → Bool
some_missing given = list_any (λ known. not (stands known given)) required

abbrev pub product : Option ℕ → Option ℕ → Option ℕ → ℕ
product (Some x) (Some y) (Some z) = x * y * z
product x y z = 0

-- all sides are there, and the box has too many sites
abbrev pub is_box_too_large : List Given → Bool
is_box_too_large given = nat_lt MOST_SITES (product (value_in BoxX given) (value_in BoxY given) (value_in BoxZ given))

-- a pair has a monomer that is not there
abbrev pub is_beyond : ℕ → ℕ × ℕ → Bool
is_beyond count pair = not (nat_lt pair.0 count && nat_lt pair.1 count)

-- a range ends with a monomer that is not there
abbrev pub some_range_beyond : ℕ → List (Range × ℕ) → Bool
some_range_beyond count said = list_any (λ e. nat_le count e.0.last) said

abbrev pub some_fixed_beyond : ℕ → List Range → Bool
some_fixed_beyond count ranges = list_any (λ range. nat_le count range.last) ranges

-- an entry of the header names a monomer that is not there
abbrev pub names_beyond : ℕ → History → Bool
names_beyond count before =
    list_any (is_beyond count) (pairs_of before)
    || (some_range_beyond count (labels_of before) || (some_range_beyond count (valences_of before) || some_fixed_beyond count (fixed_of before)))

-- some monomer has more bonds than it may have
abbrev pub is_overfull : List (List ℕ) → Bool
is_overfull bonds = list_any (λ row. nat_lt MOST_BONDS (length row)) bonds

-- the line gives a time before that of the frame before it
abbrev pub is_back_in_time : Role → List ℕ → History → Bool
is_back_in_time roles.Frame rest before = has_begun before && is_below (natural_in (value_number rest)) (mcs_of before)
  where
    is_below : Option ℕ → ℕ → Bool
    is_below None mcs = false
    is_below (Some n) mcs = nat_lt n mcs
is_back_in_time role rest before = false

-- a line with a known command
abbrev pub known_cause : History → Known → Role → List ℕ → Option Cause
known_cause before known role rest =
    let given = given_of before in
    least (
    (BadLine, is_ill_formed role rest)
    ∷ (OutOfLimit, is_out_of_range role rest || (ends_header role before && is_box_too_large given))
    ∷ (Repeated, is_header_command role && not (has_begun before) && stands known given)
    ∷ (NotSymmetric, ends_header role before && is_some (first_unpaired (set_of before)))
    ∷ (FrameShort, is_cut_short before)
    ∷ (Missing, ends_header role before && some_missing given)
    ∷ (Misplaced, (is_header_command role && has_begun before) || (changes_bonds role && not (has_begun before)))
    ∷ (McsOrder, is_back_in_time role rest before)
    ∷ (BadMonomer, ends_header role before && names_beyond (count_in given) before)
    ∷ (TooManyBonds, ends_header role before && is_overfull (listed_bonds (count_in given) (pairs_of before)))
    ∷ (Unbuilt, is_unbuilt role)
    ∷ []
    )

-- a command line
abbrev pub command_cause : History → Option Known → List ℕ → Option Cause
command_cause before None rest = if is_cut_short before then Some FrameShort else None
command_cause before (Some known) rest = known_cause before known (role_of known) rest

-- Entries.

abbrev pub entered : {A : Type 0} → (A → Option Cause) → Result A Cause → Option Cause
entered judge (Err cause) = Some cause
entered judge (Ok e) = judge e

-- an entry of the set of bond vectors
abbrev pub vector_cause : List (P3 × ℕ) → List ℕ → Option Cause
vector_cause set text = entered (λ e. refusal_of set e.0 e.1) (vector_entry text)

-- an entry of the list of bonds
abbrev pub bond_cause : List ℕ → Option Cause
bond_cause text = entered (λ pair. None) (pair_entry text)

-- an entry of a list of labels or valences, which are at most so much
abbrev pub range_cause : ℕ → List ℕ → Option Cause
range_cause greatest text = entered (λ e. None) (range_entry text greatest)

-- an entry that fixes monomers
abbrev pub fixed_cause : List ℕ → Option Cause
fixed_cause text = entered (λ range. None) (monomers_entry text)

-- an entry that weighs contacts
abbrev pub contact_cause : List ℕ → Option Cause
contact_cause text = entered (λ e. None) (contact_entry text)

-- a threshold after those that are there
abbrev pub threshold_cause : List ℕ → List ℕ → Option Cause
threshold_cause thresholds text = entered (λ t. if nat_le MOST_THRESHOLDS (length thresholds) then Some OutOfLimit else None) (threshold_entry text)

-- A bond that is added. Whether its vector is in the set is judged with the frame that follows.
abbrev pub added_cause : Draft → List ℕ → Option Cause
added_cause draft text =
    let bonds = draft.world.bonds in
    entered (λ pair. least (
    (BadMonomer, is_beyond draft.count pair)
    ∷ (TooManyBonds, not (are_bonded bonds pair.0 pair.1) && (is_full bonds pair.0 || is_full bonds pair.1))
    ∷ []
    )) (pair_entry text)

-- a bond that is taken away
abbrev pub removed_cause : Draft → List ℕ → Option Cause
removed_cause draft text = entered (λ pair. least (
    (BadMonomer, is_beyond draft.count pair)
    ∷ (BondUnknown, not (are_bonded draft.world.bonds pair.0 pair.1))
    ∷ []
    )) (pair_entry text)

-- one of the positions, each after those before it, does not pass the test
abbrev pub some_fails : (List P3 → P3 → Bool) → List P3 → List P3 → Bool
some_fails test before [] = false
some_fails test before (p ∷ ps) = not (test before p) || some_fails test (before ++ p ∷ []) ps

abbrev pub is_apart : Configuration → List P3 → P3 → Bool
is_apart w before p = is_clear w.shape before p

abbrev pub is_bonded_well : Configuration → List P3 → P3 → Bool
is_bonded_well w before p = keeps_bonds w.shape w.set before (neighbours_of w.bonds (length before)) p

-- some monomer of a pair is not bonded to the other
abbrev pub some_unbonded : List (List ℕ) → List (ℕ × ℕ) → Bool
some_unbonded bonds pairs = list_any (λ pair. not (are_bonded bonds pair.0 pair.1)) pairs

-- A frame line with the position of its first monomer and its identifiers. Its successive monomers are bonded in the
-- first frame, and their bonds count with the others; in a later frame they have to be bonded already.
abbrev pub string_cause : Bool → Draft → P3 × List ℕ → Option Cause
string_cause first draft line =
    let w = draft.world in
    let ps = string_positions w.set line in
    let pairs = chain (length w.positions) (length line.1) in
    let bonds = if first then with_pairs w.bonds pairs else w.bonds in
    least (
    (UnknownId, not (list_all (λ id. is_some (vector_of w.set id)) line.1))
    ∷ (FrameLong, nat_lt draft.count (length w.positions + 1 + length line.1))
    ∷ (Outside, some_fails (λ before p. is_within_walls w.shape p) w.positions ps)
    ∷ (Overlap, some_fails (is_apart w) w.positions ps)
    ∷ (BadBond, some_fails (is_bonded_well (record w { bonds = bonds })) w.positions ps)
    ∷ (TooManyBonds, first && is_overfull bonds)
    ∷ (BondUnknown, not first && some_unbonded bonds pairs)
    ∷ []
    )

-- a frame line
abbrev pub frame_cause : Bool → Draft → List ℕ → Option Cause
frame_cause first draft text = entered (string_cause first draft) (frame_line text)

-- An entry of its owner. A command with a value has no entries.
abbrev pub entry_cause : History → Owner → List ℕ → Option Cause
entry_cause before owners.Nobody text = Some BadLine
entry_cause before owners.Unknown text = None
entry_cause before (owners.Command SetOfBondVectors) text = vector_cause (set_of before) text
entry_cause before (owners.Command Bonds) text = bond_cause text
entry_cause before (owners.Command Attributes) text = range_cause GREATEST_LABEL text
entry_cause before (owners.Command Valence) text = range_cause GREATEST_VALENCE text
entry_cause before (owners.Command Fixed) text = fixed_cause text
entry_cause before (owners.Command Contacts) text = contact_cause text
entry_cause before (owners.Command Acceptance) text = threshold_cause (table_of before).thresholds text
entry_cause before (owners.Command AddBonds) text = added_cause (draft_of before) text
entry_cause before (owners.Command RemoveBonds) text = removed_cause (draft_of before) text
entry_cause before (owners.Command Mcs) text = frame_cause (is_first_frame before) (draft_of before) text
entry_cause before (owners.Command known) text = Some BadLine

-- any line
abbrev pub meaning_cause : History → Meaning → Option Cause
meaning_cause before nothing = None
meaning_cause before (command known rest) = command_cause before known rest
meaning_cause before (entry text) = entry_cause before (owner_of before) text

-- A line that is too long has no other cause.
abbrev pub cause_of : History → List ℕ → Option Cause
cause_of before line = if is_long line then Some OutOfLimit else meaning_cause before (meaning_of line)
