-- The text of a header. Monomers are counted from 0 here and from 1 in a text.
use Rattle.std.specs.Prelude.{ℕ, ◌+◌, ℤ, Bool, ◌&&◌, not, nat_eq, nat_lt, if◌then◌else◌, List, [], ◌∷◌, ◌++◌, length, codes, decimal, is_some}
use Rattle.std.specs.Fmt.{signed_decimal}
use Rattle.std.specs.List.{concat, flat_map, range_with_len}
use Rattle.bfm_base.specs.declared.place.P3.{P3}
use Rattle.bfm_geom.specs.Difference.{side_of, is_periodic}
use Rattle.bfm_world.specs.Bonds.{neighbours_of}
use Rattle.bfm_world.specs.Configuration.{Configuration, label_of, valence_of, is_fixed}
use Rattle.contact_table.specs.Contacts.{ContactTable}
use Rattle.contact_table.specs.Entries.{entries_of}
use Rattle.bfm_writer.specs.Rows.{continuation}
use Rattle.bfm_writer.specs.Text.{bond_line, position_text}

-- a command, up to its `=`, and its value
abbrev pub value_line : List ℕ × ℕ → List ℕ
value_line v = concat (v.0 ∷ decimal v.1 ∷ codes "\n" ∷ [])

-- 1 for a periodic axis, 0 for a walled one
abbrev pub periodic_value : Bool → ℕ
periodic_value periodic = if periodic then 1 else 0

-- the number of monomers and the box
abbrev pub values_of : Configuration → List (List ℕ × ℕ)
values_of w =
    (codes "!number_of_monomers=", length w.positions)
    ∷ (codes "!box_x=", side_of w.shape 0)
    ∷ (codes "!box_y=", side_of w.shape 1)
    ∷ (codes "!box_z=", side_of w.shape 2)
    ∷ (codes "!periodic_x=", periodic_value (is_periodic w.shape 0))
    ∷ (codes "!periodic_y=", periodic_value (is_periodic w.shape 1))
    ∷ (codes "!periodic_z=", periodic_value (is_periodic w.shape 2))
    ∷ []

abbrev pub values_text : Configuration → List ℕ
values_text w = flat_map value_line (values_of w)

-- a list: the entries below the line of its command, where there are any
abbrev pub listed : List ℕ → List ℕ → List ℕ
listed command [] = []
listed command (byte ∷ entries) = command ++ byte ∷ entries

-- a vector and its identifier
abbrev pub vector_line : P3 × ℕ → List ℕ
vector_line e = concat (position_text e.0 ∷ codes ":" ∷ decimal e.1 ∷ codes "\n" ∷ [])

-- the set in its order
abbrev pub set_text : Configuration → List ℕ
set_text w = listed (codes "!set_of_bondvectors\n") (flat_map vector_line w.set)

-- all monomers in order
abbrev pub monomers_of : Configuration → List ℕ
monomers_of w = range_with_len 0 (length w.positions)

-- The lines of a frame show a bond where its monomers follow one another and the second continues the row of the first.
abbrev pub is_shown : Configuration → ℕ → ℕ → Bool
is_shown w i j = nat_eq j (i + 1) && is_some (continuation w i)

-- The bond of monomer i to a neighbour j is listed at i where that is the lesser of the two and no line of a frame shows it.
abbrev pub is_listed : Configuration → ℕ → ℕ → Bool
is_listed w i j = nat_lt i j && not (is_shown w i j)

abbrev pub bond_entry : Configuration → ℕ → ℕ → List ℕ
bond_entry w i j = if is_listed w i j then bond_line (i, j) else []

abbrev pub bond_entries : Configuration → ℕ → List ℕ
bond_entries w i = flat_map (bond_entry w i) (neighbours_of w.bonds i)

-- the bonds that no line of a frame shows, by their lesser monomers and then by their greater ones
abbrev pub bonds_text : Configuration → List ℕ
bonds_text w = listed (codes "!bonds\n") (flat_map (bond_entries w) (monomers_of w))

-- the label or the valence of a monomer
abbrev pub mark_line : ℕ → ℕ → List ℕ
mark_line i mark = concat (decimal (i + 1) ∷ codes ":" ∷ decimal mark ∷ codes "\n" ∷ [])

-- it is listed where it is not 0
abbrev pub mark_entry : ℕ → ℕ → List ℕ
mark_entry i mark = if nat_eq mark 0 then [] else mark_line i mark

abbrev pub labels_text : Configuration → List ℕ
labels_text w = listed (codes "!attributes\n") (flat_map (λ i. mark_entry i (label_of w i)) (monomers_of w))

abbrev pub valences_text : Configuration → List ℕ
valences_text w = listed (codes "!bfm_valence\n") (flat_map (λ i. mark_entry i (valence_of w i)) (monomers_of w))

-- a monomer is listed where it is fixed
abbrev pub number_line : ℕ → List ℕ
number_line i = decimal (i + 1) ++ codes "\n"

abbrev pub fixed_entry : Configuration → ℕ → List ℕ
fixed_entry w i = if is_fixed w i then number_line i else []

abbrev pub fixed_text : Configuration → List ℕ
fixed_text w = listed (codes "!bfm_fixed\n") (flat_map (fixed_entry w) (monomers_of w))

-- what is said of single monomers
abbrev pub marks_text : Configuration → List ℕ
marks_text w = labels_text w ++ (valences_text w ++ fixed_text w)

-- two classes and the weight of their contacts
abbrev pub contact_line : (ℕ × ℕ) × ℤ → List ℕ
contact_line e = concat (decimal e.0.0 ∷ codes " " ∷ decimal e.0.1 ∷ codes ":" ∷ signed_decimal e.1 ∷ codes "\n" ∷ [])

-- each pair of classes that does not weigh 0
abbrev pub contacts_text : ContactTable → List ℕ
contacts_text table = listed (codes "!bfm_contacts\n") (flat_map contact_line (entries_of table))

abbrev pub threshold_line : ℕ → List ℕ
threshold_line threshold = decimal threshold ++ codes "\n"

-- the thresholds of acceptance, from that of 1 on
abbrev pub acceptance_text : ContactTable → List ℕ
acceptance_text table = listed (codes "!bfm_acceptance\n") (flat_map threshold_line table.thresholds)

-- what contacts weigh, and which changes of the sum of all weights are accepted
abbrev pub table_text : ContactTable → List ℕ
table_text table = contacts_text table ++ acceptance_text table

-- the number of monomers and the box, and then each list that has entries
abbrev pub header_text : Configuration → List ℕ
header_text w = values_text w ++ (set_text w ++ (bonds_text w ++ (marks_text w ++ table_text w.table)))
