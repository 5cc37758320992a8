-- The header of a valid world is read without a wrong line, and says what stands in the world.
use Rattle.std.proofs.Common.{◌≡◌, ℕ, ◌≤◌, Bool, true, false, List, [], ◌∷◌, map, length, Some, is_some, refl, ap, ◌∙◌, arith}
use Rattle.bfm_geom.specs.Difference.{side_of, is_periodic}
use Rattle.bfm_world.specs.Configuration.{Configuration, IsValid, label_of, valence_of}
use Rattle.contact_table.specs.Entries.{entries_of}
use Rattle.bfm_writer.specs.Header.{values_of, periodic_value}
use Rattle.bfm_commands.specs.History.{is_same, find_given, stands}
use Rattle.bfm_commands.specs.declared.commands.Known.{Known}
use Rattle.bfm_commands.specs.declared.commands.Known.TheVariants.{NumberOfMonomers, BoxX, BoxY, BoxZ, PeriodicX, PeriodicY, PeriodicZ, SetOfBondVectors, Bonds, Attributes, Valence, Fixed, Contacts, Acceptance}
use Rattle.bfm_commands.specs.declared.owner.Owner.{Owner}
use Rattle.bfm_commands.specs.declared.owner.Owner.TheVariants.{Command}
use Rattle.bfm_commands.specs.declared.settings.Given.{Given}
use Rattle.bfm_session.proofs.ReadBackRows.{value_row, vector_row, pair_row, mark_row, number_row, contact_row, threshold_row, listed_pairs, listed_marks, listed_fixed, mark_rows, table_rows, list_rows, header_rows}
use Rattle.bfm_session.proofs.ReadBackWalk.{Said, nothing_said, Reads, Reads-append}
use Rattle.bfm_session.proofs.ReadBackLists.{count, side_x, side_y, side_z, periodic_x, periodic_y, periodic_z, vector_list, bond_list, label_list, valence_list, fixed_list, contact_list, threshold_list, said_value, Reads-value, Reads-list_command, Reads-listed, owner_with, given_with, find_given-with}
use Rattle.bfm_session.proofs.ReadBackListed.{set_said, pairs_said, labels_said, valences_said, fixed_said, vector_read, pair_read, label_read, valence_read, fixed_read}
use Rattle.bfm_session.proofs.ReadBackContacts.{contacts_said, thresholds_said, each_contact, each_threshold, contact_read, threshold_read}
use Rattle.bfm_session.proofs.ReadBackWorld.{each_IsPair, each_label, each_valence, each_fixed}

abbrev pub value_given : Known → ℕ → Given
value_given known n = record { command = known; value = Some n }

-- the values, the newest first
abbrev pub values_given : Configuration → List Given
values_given w =
    value_given PeriodicZ (periodic_value (is_periodic w.shape 2))
    ∷ value_given PeriodicY (periodic_value (is_periodic w.shape 1))
    ∷ value_given PeriodicX (periodic_value (is_periodic w.shape 0))
    ∷ value_given BoxZ (side_of w.shape 2)
    ∷ value_given BoxY (side_of w.shape 1)
    ∷ value_given BoxX (side_of w.shape 0)
    ∷ value_given NumberOfMonomers (length w.positions)
    ∷ []

periodic_small : (periodic : Bool) → periodic_value periodic ≤ 1
periodic_small true = omega arith
periodic_small false = omega arith

values_read : (w : Configuration) → IsValid w → Reads (map value_row (values_of w)) nothing_said (set_said (Command PeriodicZ) (values_given w) [])
values_read w ok =
    let s1 = said_value NumberOfMonomers (length w.positions) nothing_said in
    let s2 = said_value BoxX (side_of w.shape 0) s1 in
    let s3 = said_value BoxY (side_of w.shape 1) s2 in
    let s4 = said_value BoxZ (side_of w.shape 2) s3 in
    let s5 = said_value PeriodicX (periodic_value (is_periodic w.shape 0)) s4 in
    let s6 = said_value PeriodicY (periodic_value (is_periodic w.shape 1)) s5 in
    let s7 = said_value PeriodicZ (periodic_value (is_periodic w.shape 2)) s6 in
    let sides = ok.box.sides in
    Reads-append (_ ∷ []) _ nothing_said s1 s7 (Reads-value NumberOfMonomers 1 262144 (length w.positions) nothing_said count ok.some ok.few (omega arith) refl)
    (Reads-append (_ ∷ []) _ s1 s2 s7 (Reads-value BoxX 8 512 (side_of w.shape 0) s1 side_x sides.x.0 sides.x.1 (omega arith) refl)
    (Reads-append (_ ∷ []) _ s2 s3 s7 (Reads-value BoxY 8 512 (side_of w.shape 1) s2 side_y sides.y.0 sides.y.1 (omega arith) refl)
    (Reads-append (_ ∷ []) _ s3 s4 s7 (Reads-value BoxZ 8 512 (side_of w.shape 2) s3 side_z sides.z.0 sides.z.1 (omega arith) refl)
    (Reads-append (_ ∷ []) _ s4 s5 s7 (Reads-value PeriodicX 0 1 (periodic_value (is_periodic w.shape 0)) s4 periodic_x (omega arith) (periodic_small (is_periodic w.shape 0)) (omega arith) refl)
    (Reads-append (_ ∷ []) _ s5 s6 s7 (Reads-value PeriodicY 0 1 (periodic_value (is_periodic w.shape 1)) s5 periodic_y (omega arith) (periodic_small (is_periodic w.shape 1)) (omega arith) refl)
    (Reads-value PeriodicZ 0 1 (periodic_value (is_periodic w.shape 2)) s6 periodic_z (omega arith) (periodic_small (is_periodic w.shape 2)) (omega arith) refl))))))

-- The lists, each behind those before it: the commands that are given, and the last of them.

abbrev pub labels_listed : Configuration → List (ℕ × ℕ)
labels_listed w = listed_marks (label_of w) w

abbrev pub valences_listed : Configuration → List (ℕ × ℕ)
valences_listed w = listed_marks (valence_of w) w

abbrev pub given_set : Configuration → List Given
given_set w = given_with SetOfBondVectors w.set (values_given w)

abbrev pub given_bonds : Configuration → List Given
given_bonds w = given_with Bonds (listed_pairs w) (given_set w)

abbrev pub given_labels : Configuration → List Given
given_labels w = given_with Attributes (labels_listed w) (given_bonds w)

abbrev pub given_valences : Configuration → List Given
given_valences w = given_with Valence (valences_listed w) (given_labels w)

abbrev pub given_fixed : Configuration → List Given
given_fixed w = given_with Fixed (listed_fixed w) (given_valences w)

abbrev pub given_contacts : Configuration → List Given
given_contacts w = given_with Contacts (entries_of w.table) (given_fixed w)

abbrev pub given_all : Configuration → List Given
given_all w = given_with Acceptance w.table.thresholds (given_contacts w)

abbrev pub owner_set : Configuration → Owner
owner_set w = owner_with SetOfBondVectors w.set (Command PeriodicZ)

abbrev pub owner_bonds : Configuration → Owner
owner_bonds w = owner_with Bonds (listed_pairs w) (owner_set w)

abbrev pub owner_labels : Configuration → Owner
owner_labels w = owner_with Attributes (labels_listed w) (owner_bonds w)

abbrev pub owner_valences : Configuration → Owner
owner_valences w = owner_with Valence (valences_listed w) (owner_labels w)

abbrev pub owner_fixed : Configuration → Owner
owner_fixed w = owner_with Fixed (listed_fixed w) (owner_valences w)

abbrev pub owner_contacts : Configuration → Owner
owner_contacts w = owner_with Contacts (entries_of w.table) (owner_fixed w)

abbrev pub owner_last : Configuration → Owner
owner_last w = owner_with Acceptance w.table.thresholds (owner_contacts w)

-- what the header of a world says up to its table, and what it says
abbrev pub marks_said : Configuration → Said
marks_said w = fixed_said w.set (listed_pairs w) (labels_listed w) (valences_listed w) (owner_fixed w) (given_fixed w) (listed_fixed w)

abbrev pub header_said : Configuration → Said
header_said w = thresholds_said (marks_said w) (entries_of w.table) (owner_last w) (given_all w) w.table.thresholds

-- a command is found behind the lists as it is behind the values, if it is none of theirs
found_bonds : (w : Configuration) (known : Known) → is_same SetOfBondVectors known ≡ false → is_same Bonds known ≡ false → find_given known (given_bonds w) ≡ find_given known (values_given w)
found_bonds w known a b = find_given-with Bonds known (listed_pairs w) (given_set w) b ∙ find_given-with SetOfBondVectors known w.set (values_given w) a

found_valences : (w : Configuration) (known : Known) → is_same SetOfBondVectors known ≡ false → is_same Bonds known ≡ false → is_same Attributes known ≡ false → is_same Valence known ≡ false
    → find_given known (given_valences w) ≡ find_given known (values_given w)
found_valences w known a b c d =
    find_given-with Valence known (valences_listed w) (given_labels w) d ∙ find_given-with Attributes known (labels_listed w) (given_bonds w) c ∙ found_bonds w known a b

found_fixed : (w : Configuration) (known : Known) → is_same SetOfBondVectors known ≡ false → is_same Bonds known ≡ false → is_same Attributes known ≡ false → is_same Valence known ≡ false
    → is_same Fixed known ≡ false → find_given known (given_fixed w) ≡ find_given known (values_given w)
found_fixed w known a b c d e = find_given-with Fixed known (listed_fixed w) (given_valences w) e ∙ found_valences w known a b c d

-- a command with a value is none of theirs
abbrev pub IsValue : Known → Type 0
IsValue known =
    (is_same SetOfBondVectors known ≡ false) × (is_same Bonds known ≡ false) × (is_same Attributes known ≡ false) × (is_same Valence known ≡ false) × (is_same Fixed known ≡ false)
    × (is_same Contacts known ≡ false) × (is_same Acceptance known ≡ false)

pub found_all : (w : Configuration) (known : Known) → IsValue known → find_given known (given_all w) ≡ find_given known (values_given w)
found_all w known is =
    find_given-with Acceptance known w.table.thresholds (given_contacts w) is.6
    ∙ find_given-with Contacts known (entries_of w.table) (given_fixed w) is.5
    ∙ found_fixed w known is.0 is.1 is.2 is.3 is.4

marks_read : (w : Configuration) → IsValid w → Reads (mark_rows w) (labels_said w.set (listed_pairs w) (owner_bonds w) (given_bonds w) []) (marks_said w)
marks_read w ok =
    let set = w.set in
    let pairs = listed_pairs w in
    let labels = labels_listed w in
    let valences = valences_listed w in
    let labels_new : stands Attributes (given_bonds w) ≡ false = ap is_some (found_bonds w Attributes refl refl) in
    let valences_new : stands Valence (given_labels w) ≡ false =
    ap is_some (find_given-with Attributes Valence labels (given_bonds w) refl ∙ found_bonds w Valence refl refl) in
    let fixed_new : stands Fixed (given_valences w) ≡ false = ap is_some (found_valences w Fixed refl refl refl refl) in
    Reads-append _ _ (labels_said set pairs (owner_bonds w) (given_bonds w) []) (labels_said set pairs (owner_labels w) (given_labels w) labels) (marks_said w)
    (Reads-listed Attributes mark_row (labels_said set pairs) (owner_bonds w) (given_bonds w) labels
    (Reads-list_command Attributes (labels_said set pairs (owner_bonds w) (given_bonds w) []) label_list labels_new) (label_read set pairs labels (each_label w ok)))
    (Reads-append _ _ (valences_said set pairs labels (owner_labels w) (given_labels w) []) (valences_said set pairs labels (owner_valences w) (given_valences w) valences) (marks_said w)
    (Reads-listed Valence mark_row (valences_said set pairs labels) (owner_labels w) (given_labels w) valences
    (Reads-list_command Valence (valences_said set pairs labels (owner_labels w) (given_labels w) []) valence_list valences_new) (valence_read set pairs labels valences (each_valence w ok)))
    (Reads-listed Fixed number_row (fixed_said set pairs labels valences) (owner_valences w) (given_valences w) (listed_fixed w)
    (Reads-list_command Fixed (fixed_said set pairs labels valences (owner_valences w) (given_valences w) []) fixed_list fixed_new) (fixed_read set pairs labels valences (listed_fixed w) (each_fixed w ok))))

table_read : (w : Configuration) → IsValid w → Reads (table_rows w.table) (marks_said w) (header_said w)
table_read w ok =
    let said = marks_said w in
    let entries = entries_of w.table in
    let contacts_new : stands Contacts (given_fixed w) ≡ false = ap is_some (found_fixed w Contacts refl refl refl refl refl) in
    let acceptance_new : stands Acceptance (given_contacts w) ≡ false =
    ap is_some (find_given-with Contacts Acceptance entries (given_fixed w) refl ∙ found_fixed w Acceptance refl refl refl refl refl) in
    Reads-append _ _ said (contacts_said said (owner_contacts w) (given_contacts w) entries) (header_said w)
    (Reads-listed Contacts contact_row (contacts_said said) (owner_fixed w) (given_fixed w) entries
    (Reads-list_command Contacts (contacts_said said (owner_fixed w) (given_fixed w) []) contact_list contacts_new) (contact_read said entries (each_contact w.table ok.table)))
    (Reads-listed Acceptance threshold_row (thresholds_said said entries) (owner_contacts w) (given_contacts w) w.table.thresholds
    (Reads-list_command Acceptance (thresholds_said said entries (owner_contacts w) (given_contacts w) []) threshold_list acceptance_new)
    (threshold_read said entries w.table.thresholds (each_threshold w.table ok.table) ok.table.few))

lists_read : (w : Configuration) → IsValid w → Reads (list_rows w) (set_said (Command PeriodicZ) (values_given w) []) (header_said w)
lists_read w ok =
    let bonds_new : stands Bonds (given_set w) ≡ false = ap is_some (find_given-with SetOfBondVectors Bonds w.set (values_given w) refl) in
    Reads-append _ _ (set_said (Command PeriodicZ) (values_given w) []) (set_said (owner_set w) (given_set w) w.set) (header_said w)
    (Reads-listed SetOfBondVectors vector_row set_said (Command PeriodicZ) (values_given w) w.set
    (Reads-list_command SetOfBondVectors (set_said (Command PeriodicZ) (values_given w) []) vector_list refl) (vector_read w.set ok.set))
    (Reads-append _ _ (pairs_said w.set (owner_set w) (given_set w) []) (pairs_said w.set (owner_bonds w) (given_bonds w) (listed_pairs w)) (header_said w)
    (Reads-listed Bonds pair_row (pairs_said w.set) (owner_set w) (given_set w) (listed_pairs w)
    (Reads-list_command Bonds (pairs_said w.set (owner_set w) (given_set w) []) bond_list bonds_new) (pair_read w.set (listed_pairs w) (each_IsPair w ok)))
    (Reads-append (mark_rows w) (table_rows w.table) (labels_said w.set (listed_pairs w) (owner_bonds w) (given_bonds w) []) (marks_said w) (header_said w) (marks_read w ok) (table_read w ok)))

-- the whole header
pub header_read : (w : Configuration) → IsValid w → Reads (header_rows w) nothing_said (header_said w)
header_read w ok = Reads-append (map value_row (values_of w)) (list_rows w) nothing_said (set_said (Command PeriodicZ) (values_given w) []) (header_said w) (values_read w ok) (lists_read w ok)
