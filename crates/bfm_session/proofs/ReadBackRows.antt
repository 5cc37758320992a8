-- What is written of a world is rows, each with its newline.
use Rattle.std.proofs.Common.{◌≡◌, ℕ, ◌+◌, ◌<◌, min, max, true, false, not, nat_eq, nat_lt, if◌then◌else◌, List, [], ◌∷◌, ◌++◌, map, codes, decimal, ℤ, refl, sym, ap, ◌∙◌, ⊎_elim, append_assoc, append-nil, arith}
use Rattle.std.specs.Fmt.{signed_decimal}
use Rattle.std.specs.List.{AllByRecursion, flat_map}
use Rattle.std.proofs.lemmas.Bool.{cases_Bool, and_parts}
use Rattle.std.proofs.lemmas.Bool.Decides.{nat_tests}
use Rattle.std.proofs.lemmas.List.{map-append}
use Rattle.bfm_base.specs.declared.place.P3.{P3}
use Rattle.bfm_world.specs.Bonds.{neighbours_of}
use Rattle.bfm_world.specs.Configuration.{Configuration, label_of, valence_of, is_fixed}
use Rattle.contact_table.specs.Contacts.{ContactTable}
use Rattle.contact_table.specs.Entries.{entries_of}
use Rattle.bfm_writer.specs.Rows.{Row, rows_of}
use Rattle.bfm_writer.specs.Text.{position_text, ids_text, row_text, time_line, frame_text, bond_line, added_text, group_text}
use Rattle.bfm_writer.specs.Header.{value_line, values_of, listed, vector_line, set_text, monomers_of, is_shown, is_listed, bond_entry, bond_entries, bonds_text, mark_line, mark_entry, labels_text, valences_text, fixed_entry, fixed_text, marks_text, contact_line, contacts_text, threshold_line, acceptance_text, table_text, header_text}
use Rattle.bfm_session.proofs.ReadBackLines.{text_of, text_of-append}

-- The rows, without their newlines.

abbrev pub value_row : List ℕ × ℕ → List ℕ
value_row v = v.0 ++ decimal v.1

abbrev pub vector_row : P3 × ℕ → List ℕ
vector_row e = position_text e.0 ++ 58 ∷ decimal e.1

abbrev pub pair_row : ℕ × ℕ → List ℕ
pair_row pair = decimal (pair.0 + 1) ++ 32 ∷ decimal (pair.1 + 1)

abbrev pub mark_row : ℕ × ℕ → List ℕ
mark_row said = decimal (said.0 + 1) ++ 58 ∷ decimal said.1

abbrev pub number_row : ℕ → List ℕ
number_row i = decimal (i + 1)

abbrev pub contact_row : (ℕ × ℕ) × ℤ → List ℕ
contact_row e = decimal e.0.0 ++ 32 ∷ (decimal e.0.1 ++ 58 ∷ signed_decimal e.1)

abbrev pub threshold_row : ℕ → List ℕ
threshold_row t = decimal t

abbrev pub time_row : ℕ → List ℕ
time_row mcs = codes "!mcs=" ++ decimal mcs

abbrev pub frame_row : Row → List ℕ
frame_row row = position_text row.start ++ ids_text row.ids

-- the rows of a list below the line of its command, where there are any
abbrev pub listed_rows : List ℕ → List (List ℕ) → List (List ℕ)
listed_rows command [] = []
listed_rows command (row ∷ rows) = command ∷ row ∷ rows

-- What a header lists.

-- the bonds of a monomer that it lists
abbrev pub pairs_at : Configuration → ℕ → List (ℕ × ℕ)
pairs_at w i = flat_map (λ j. if is_listed w i j then (i, j) ∷ [] else []) (neighbours_of w.bonds i)

abbrev pub listed_pairs : Configuration → List (ℕ × ℕ)
listed_pairs w = flat_map (pairs_at w) (monomers_of w)

-- what is said of each monomer, where it is not 0
abbrev pub said_at : (ℕ → ℕ) → ℕ → List (ℕ × ℕ)
said_at mark i = if nat_eq (mark i) 0 then [] else (i, mark i) ∷ []

abbrev pub listed_marks : (ℕ → ℕ) → Configuration → List (ℕ × ℕ)
listed_marks mark w = flat_map (said_at mark) (monomers_of w)

-- the monomers that are fixed
abbrev pub fixed_at : Configuration → ℕ → List ℕ
fixed_at w i = if is_fixed w i then i ∷ [] else []

abbrev pub listed_fixed : Configuration → List ℕ
listed_fixed w = flat_map (fixed_at w) (monomers_of w)

-- the rows of its lists
abbrev pub mark_rows : Configuration → List (List ℕ)
mark_rows w =
    listed_rows (codes "!attributes") (map mark_row (listed_marks (label_of w) w))
    ++ (listed_rows (codes "!bfm_valence") (map mark_row (listed_marks (valence_of w) w))
    ++ listed_rows (codes "!bfm_fixed") (map number_row (listed_fixed w)))

abbrev pub table_rows : ContactTable → List (List ℕ)
table_rows table =
    listed_rows (codes "!bfm_contacts") (map contact_row (entries_of table))
    ++ listed_rows (codes "!bfm_acceptance") (map threshold_row table.thresholds)

abbrev pub list_rows : Configuration → List (List ℕ)
list_rows w =
    listed_rows (codes "!set_of_bondvectors") (map vector_row w.set)
    ++ (listed_rows (codes "!bonds") (map pair_row (listed_pairs w)) ++ (mark_rows w ++ table_rows w.table))

abbrev pub header_rows : Configuration → List (List ℕ)
header_rows w = map value_row (values_of w) ++ list_rows w

-- the rows of a frame, and all rows of a world with one frame
abbrev pub frame_rows : Configuration → ℕ → List (List ℕ)
frame_rows w mcs = time_row mcs ∷ map frame_row (rows_of w)

-- the rows of bonds that are added, and all rows of one more frame
abbrev pub added_rows : List (ℕ × ℕ) → List (List ℕ)
added_rows pairs = listed_rows (codes "!add_bonds") (map pair_row pairs)

abbrev pub group_rows : Configuration → ℕ → List (ℕ × ℕ) → List (List ℕ)
group_rows w mcs pairs = [] ∷ (added_rows pairs ++ frame_rows w mcs)

abbrev pub world_rows : Configuration → ℕ → List (List ℕ)
world_rows w mcs = header_rows w ++ ([] ∷ frame_rows w mcs)

-- The texts are these rows.

-- rows that are written for each of some things
text_of-items : {X Y : Type 0} (row : Y → List ℕ) (f : X → List ℕ) (g : X → List Y) (xs : List X) → ((x : X) → f x ≡ text_of (map row (g x)))
    → flat_map f xs ≡ text_of (map row (flat_map g xs))
text_of-items row f g [] same = refl
text_of-items row f g (x ∷ xs) same =
    ap (λ l. l ++ flat_map f xs) (same x)
    ∙ ap (λ l. text_of (map row (g x)) ++ l) (text_of-items row f g xs same)
    ∙ sym (text_of-append (map row (g x)) (map row (flat_map g xs)))
    ∙ ap text_of (sym (map-append row (g x) (flat_map g xs)))

text_of-map : {X : Type 0} (row : X → List ℕ) (f : X → List ℕ) (xs : List X) → ((x : X) → f x ≡ row x ++ 10 ∷ []) → flat_map f xs ≡ text_of (map row xs)
text_of-map row f [] same = refl
text_of-map row f (x ∷ xs) same = ap (λ l. l ++ flat_map f xs) (same x) ∙ ap (λ l. (row x ++ 10 ∷ []) ++ l) (text_of-map row f xs same)

listed-rows : (command : List ℕ) (rows : List (List ℕ)) → listed (command ++ 10 ∷ []) (text_of rows) ≡ text_of (listed_rows command rows)
listed-rows command [] = refl
listed-rows command ([] ∷ rows) = refl
listed-rows command ((b ∷ bs) ∷ rows) = refl

value_line-row : (v : List ℕ × ℕ) → value_line v ≡ value_row v ++ 10 ∷ []
value_line-row v = sym (append_assoc v.0 (decimal v.1) (10 ∷ []))

vector_line-row : (e : P3 × ℕ) → vector_line e ≡ vector_row e ++ 10 ∷ []
vector_line-row e = sym (append_assoc (position_text e.0) (58 ∷ decimal e.1) (10 ∷ []))

frame_line-row : (row : Row) → row_text row ≡ frame_row row ++ 10 ∷ []
frame_line-row row = refl

mark_line-row : (i mark : ℕ) → mark_line i mark ≡ mark_row (i, mark) ++ 10 ∷ []
mark_line-row i mark = sym (append_assoc (decimal (i + 1)) (58 ∷ decimal mark) (10 ∷ []))

pair_line-row : (i j : ℕ) → i < j → bond_line (i, j) ≡ pair_row (i, j) ++ 10 ∷ []
pair_line-row i j l =
    let lesser : min i j ≡ i = omega arith in
    let greater : max i j ≡ j = omega arith in
    ap (λ m. decimal (m + 1) ++ (32 ∷ (decimal (max i j + 1) ++ 10 ∷ []))) lesser
    ∙ ap (λ m. decimal (i + 1) ++ (32 ∷ (decimal (m + 1) ++ 10 ∷ []))) greater
    ∙ sym (append_assoc (decimal (i + 1)) (32 ∷ decimal (j + 1)) (10 ∷ []))

one_row : (row : List ℕ) → row ++ 10 ∷ [] ≡ text_of (row ∷ [])
one_row row = sym (append-nil (row ++ 10 ∷ []))

bond_entry-rows : (w : Configuration) (i j : ℕ) → bond_entry w i j ≡ text_of (map pair_row (if is_listed w i j then (i, j) ∷ [] else []))
bond_entry-rows w i j =
    ⊎_elim
    (λ (there : is_listed w i j ≡ true).
    let lesser : i < j = let l = (and_parts (nat_lt i j) (not (is_shown w i j)) there).0 in grind (arith, nat_tests, l) in
    rw there (pair_line-row i j lesser ∙ one_row (pair_row (i, j))))
    (λ (none : is_listed w i j ≡ false). rw none refl)
    (cases_Bool (is_listed w i j))

mark_entry-rows : (mark : ℕ → ℕ) (i : ℕ) → mark_entry i (mark i) ≡ text_of (map mark_row (said_at mark i))
mark_entry-rows mark i =
    ⊎_elim
    (λ (none : nat_eq (mark i) 0 ≡ true). rw none refl)
    (λ (some : nat_eq (mark i) 0 ≡ false). rw some (mark_line-row i (mark i) ∙ one_row (mark_row (i, mark i))))
    (cases_Bool (nat_eq (mark i) 0))

fixed_entry-rows : (w : Configuration) (i : ℕ) → fixed_entry w i ≡ text_of (map number_row (fixed_at w i))
fixed_entry-rows w i =
    ⊎_elim
    (λ (there : is_fixed w i ≡ true). rw there (one_row (number_row i)))
    (λ (none : is_fixed w i ≡ false). rw none refl)
    (cases_Bool (is_fixed w i))

-- a list is the rows below its command
listed_text : (command : List ℕ) (entries : List ℕ) (rows : List (List ℕ)) → entries ≡ text_of rows → listed (command ++ 10 ∷ []) entries ≡ text_of (listed_rows command rows)
listed_text command entries rows same = ap (listed (command ++ 10 ∷ [])) same ∙ listed-rows command rows

-- one text and then others
both_texts : (a b : List ℕ) (xs ys : List (List ℕ)) → a ≡ text_of xs → b ≡ text_of ys → a ++ b ≡ text_of (xs ++ ys)
both_texts a b xs ys e f = ap (λ l. l ++ b) e ∙ ap (λ l. text_of xs ++ l) f ∙ sym (text_of-append xs ys)

set_text-rows : (w : Configuration) → set_text w ≡ text_of (listed_rows (codes "!set_of_bondvectors") (map vector_row w.set))
set_text-rows w = listed_text (codes "!set_of_bondvectors") _ _ (text_of-map vector_row vector_line w.set vector_line-row)

bonds_text-rows : (w : Configuration) → bonds_text w ≡ text_of (listed_rows (codes "!bonds") (map pair_row (listed_pairs w)))
bonds_text-rows w =
    listed_text (codes "!bonds") _ _
    (text_of-items pair_row (bond_entries w) (pairs_at w) (monomers_of w)
    (λ i. text_of-items pair_row (bond_entry w i) (λ j. if is_listed w i j then (i, j) ∷ [] else []) (neighbours_of w.bonds i) (bond_entry-rows w i)))

marks_text-rows : (w : Configuration) → marks_text w ≡ text_of (mark_rows w)
marks_text-rows w =
    both_texts (labels_text w) _ _ _
    (listed_text (codes "!attributes") _ _ (text_of-items mark_row (λ i. mark_entry i (label_of w i)) (said_at (label_of w)) (monomers_of w) (mark_entry-rows (label_of w))))
    (both_texts (valences_text w) (fixed_text w) _ _
    (listed_text (codes "!bfm_valence") _ _ (text_of-items mark_row (λ i. mark_entry i (valence_of w i)) (said_at (valence_of w)) (monomers_of w) (mark_entry-rows (valence_of w))))
    (listed_text (codes "!bfm_fixed") _ _ (text_of-items number_row (fixed_entry w) (fixed_at w) (monomers_of w) (fixed_entry-rows w))))

contact_line-row : (e : (ℕ × ℕ) × ℤ) → contact_line e ≡ contact_row e ++ 10 ∷ []
contact_line-row e =
    ap (λ l. decimal e.0.0 ++ 32 ∷ l) (sym (append_assoc (decimal e.0.1) (58 ∷ signed_decimal e.1) (10 ∷ [])))
    ∙ sym (append_assoc (decimal e.0.0) (32 ∷ (decimal e.0.1 ++ 58 ∷ signed_decimal e.1)) (10 ∷ []))

table_text-rows : (table : ContactTable) → table_text table ≡ text_of (table_rows table)
table_text-rows table =
    both_texts (contacts_text table) (acceptance_text table) _ _
    (listed_text (codes "!bfm_contacts") _ _ (text_of-map contact_row contact_line (entries_of table) contact_line-row))
    (listed_text (codes "!bfm_acceptance") _ _ (text_of-map threshold_row threshold_line table.thresholds (λ t. refl)))

pub header_text-rows : (w : Configuration) → header_text w ≡ text_of (header_rows w)
header_text-rows w =
    both_texts _ _ (map value_row (values_of w)) (list_rows w) (text_of-map value_row value_line (values_of w) value_line-row)
    (both_texts (set_text w) _ _ _ (set_text-rows w) (both_texts (bonds_text w) _ _ _ (bonds_text-rows w)
    (both_texts (marks_text w) (table_text w.table) _ _ (marks_text-rows w) (table_text-rows w.table))))

frame_text-rows : (w : Configuration) (mcs : ℕ) → frame_text w mcs ≡ text_of (frame_rows w mcs)
frame_text-rows w mcs = ap (λ l. time_line mcs ++ l) (text_of-map frame_row row_text (rows_of w) frame_line-row)

-- one more frame behind others
pub group_text-rows : (w : Configuration) (mcs : ℕ) → group_text w mcs [] ≡ text_of ([] ∷ frame_rows w mcs)
group_text-rows w mcs = ap (λ l. 10 ∷ l) (frame_text-rows w mcs)

-- the same where pairs were linked, the lesser number first in each
bond_lines-rows : (pairs : List (ℕ × ℕ)) → AllByRecursion (λ (pair : ℕ × ℕ). pair.0 < pair.1) pairs → flat_map bond_line pairs ≡ text_of (map pair_row pairs)
bond_lines-rows [] each = refl
bond_lines-rows (pair ∷ pairs) each =
    ap (λ l. l ++ flat_map bond_line pairs) (pair_line-row pair.0 pair.1 each.0) ∙ ap (λ l. (pair_row pair ++ 10 ∷ []) ++ l) (bond_lines-rows pairs each.1)

added_text-rows : (pairs : List (ℕ × ℕ)) → AllByRecursion (λ (pair : ℕ × ℕ). pair.0 < pair.1) pairs → added_text pairs ≡ text_of (added_rows pairs)
added_text-rows [] each = refl
added_text-rows (pair ∷ pairs) each = ap (λ l. codes "!add_bonds\n" ++ l) (bond_lines-rows (pair ∷ pairs) each)

pub group_text-added : (w : Configuration) (mcs : ℕ) (pairs : List (ℕ × ℕ)) → AllByRecursion (λ (pair : ℕ × ℕ). pair.0 < pair.1) pairs → group_text w mcs pairs ≡ text_of (group_rows w mcs pairs)
group_text-added w mcs pairs each =
    ap (λ l. 10 ∷ l) (both_texts (added_text pairs) (frame_text w mcs) (added_rows pairs) (frame_rows w mcs) (added_text-rows pairs each) (frame_text-rows w mcs))

-- all that is written of a world with one frame
pub world_text-rows : (w : Configuration) (mcs : ℕ) → header_text w ++ group_text w mcs [] ≡ text_of (world_rows w mcs)
world_text-rows w mcs = both_texts (header_text w) (group_text w mcs []) (header_rows w) ([] ∷ frame_rows w mcs) (header_text-rows w) (group_text-rows w mcs)
