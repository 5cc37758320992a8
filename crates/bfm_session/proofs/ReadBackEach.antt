-- Each row that is written of a valid world is one.
use Rattle.std.proofs.Common.{◌≡◌, ℕ, ◌^◌, ◌<◌, ◌≤◌, true, false, Bool, List, [], ◌∷◌, ◌++◌, length, map, refl, append_assoc, ◌∙◌, arith}
use Rattle.std.specs.List.{AllByRecursion}
use Rattle.bfm_base.specs.declared.place.P3.{P3}
use Rattle.bfm_base.specs.declared.limits.TheConstants.{GREATEST_LABEL, GREATEST_VALENCE}
use Rattle.bfm_geom.specs.Difference.{side_of, is_periodic}
use Rattle.bond_set.specs.BondSet.{IsBondSet}
use Rattle.bfm_world.specs.Configuration.{Configuration, IsValid, reach_of, label_of, valence_of}
use Rattle.contact_table.specs.Entries.{entries_of}
use Rattle.bfm_writer.specs.Rows.{Row, rows_of}
use Rattle.bfm_writer.specs.Header.{values_of, periodic_value}
use Rattle.bfm_commands.specs.declared.commands.Known.{Known}
use Rattle.bfm_commands.specs.declared.commands.Known.TheVariants.{NumberOfMonomers, BoxX, BoxY, BoxZ, PeriodicX, PeriodicY, PeriodicZ, SetOfBondVectors, Bonds, Attributes, Valence, Fixed, Contacts, Acceptance, Mcs}
use Rattle.bfm_session.proofs.ReadBackLines.{IsRow, each-append, each-map}
use Rattle.bfm_session.proofs.ReadBackRows.{value_row, vector_row, pair_row, mark_row, number_row, contact_row, threshold_row, frame_row, listed_rows, listed_pairs, listed_marks, listed_fixed, mark_rows, table_rows, list_rows, header_rows, frame_rows, world_rows}
use Rattle.bfm_session.proofs.ReadBackEntries.{IsShort-extent, IsContact}
use Rattle.bfm_session.proofs.ReadBackMeanings.{command_row, IsRow-command, IsRow-assigned}
use Rattle.bfm_session.proofs.ReadBackPlain.{IsRow-vector, IsRow-pair, IsRow-mark, IsRow-number, IsRow-contact, IsRow-threshold, IsRow-frame}
use Rattle.bfm_session.proofs.ReadBackListed.{IsPair, IsMark, vector_short}
use Rattle.bfm_session.proofs.ReadBackContacts.{each_contact, each_threshold}
use Rattle.bfm_session.proofs.ReadBackWorld.{each_IsPair, each_label, each_valence, each_fixed}
use Rattle.bfm_session.proofs.ReadBackRowsOf.{IsGoodRow, each_good, size_of-rows, each_short}

-- the values
side_small : (side : ℕ) → side ≤ 512 → side < 10 ^ 64
side_small side l = omega (arith, l)

periodic_small : (periodic : Bool) → periodic_value periodic < 10 ^ 64
periodic_small true = omega arith
periodic_small false = omega arith

each_value : (w : Configuration) → IsValid w → AllByRecursion IsRow (map value_row (values_of w))
each_value w ok =
    let sides = ok.box.sides in
    let count = IsRow-assigned NumberOfMonomers (length w.positions) (omega (arith, ok.few)) in
    let x = IsRow-assigned BoxX (side_of w.shape 0) (side_small (side_of w.shape 0) sides.x.1) in
    let y = IsRow-assigned BoxY (side_of w.shape 1) (side_small (side_of w.shape 1) sides.y.1) in
    let z = IsRow-assigned BoxZ (side_of w.shape 2) (side_small (side_of w.shape 2) sides.z.1) in
    let u = IsRow-assigned PeriodicX (periodic_value (is_periodic w.shape 0)) (periodic_small (is_periodic w.shape 0)) in
    let v = IsRow-assigned PeriodicY (periodic_value (is_periodic w.shape 1)) (periodic_small (is_periodic w.shape 1)) in
    let t = IsRow-assigned PeriodicZ (periodic_value (is_periodic w.shape 2)) (periodic_small (is_periodic w.shape 2)) in
    (count, (x, (y, (z, (u, (v, (t, tt)))))))

-- the lists
each_of_list : (known : Known) (rows : List (List ℕ)) → AllByRecursion IsRow rows → AllByRecursion IsRow (listed_rows (command_row known) rows)
each_of_list known [] all = tt
each_of_list known (row ∷ rows) all = (IsRow-command known, all)

each_vector : (whole done es : List (P3 × ℕ)) → IsBondSet whole → done ++ es ≡ whole → AllByRecursion IsRow (map vector_row es)
each_vector whole done [] ok e = tt
each_vector whole done (v ∷ es) ok e =
    let small = vector_short whole done es v ok e in
    (IsRow-vector v.0 v.1 (IsShort-extent v.0 3 small.0 (omega arith)) (omega (arith, small.1)), each_vector whole (done ++ v ∷ []) es ok (append_assoc done (v ∷ []) es ∙ e))

each_pair_row : (w : Configuration) → IsValid w → AllByRecursion IsRow (map pair_row (listed_pairs w))
each_pair_row w ok = each-map IsPair IsRow pair_row (listed_pairs w) (each_IsPair w ok) (λ pair is. IsRow-pair pair.0 pair.1 (omega (arith, is.0)) (omega (arith, is.1)))

each_label_row : (w : Configuration) → IsValid w → AllByRecursion IsRow (map mark_row (listed_marks (label_of w) w))
each_label_row w ok =
    each-map (IsMark GREATEST_LABEL) IsRow mark_row (listed_marks (label_of w) w) (each_label w ok) (λ m is. IsRow-mark m.0 m.1 (omega (arith, is.0)) (omega (arith, is.1)))

each_valence_row : (w : Configuration) → IsValid w → AllByRecursion IsRow (map mark_row (listed_marks (valence_of w) w))
each_valence_row w ok =
    each-map (IsMark GREATEST_VALENCE) IsRow mark_row (listed_marks (valence_of w) w) (each_valence w ok) (λ m is. IsRow-mark m.0 m.1 (omega (arith, is.0)) (omega (arith, is.1)))

each_fixed_row : (w : Configuration) → IsValid w → AllByRecursion IsRow (map number_row (listed_fixed w))
each_fixed_row w ok = each-map (λ i. i < 262144) IsRow number_row (listed_fixed w) (each_fixed w ok) (λ i l. IsRow-number i (omega (arith, l)))

each_mark_row : (w : Configuration) → IsValid w → AllByRecursion IsRow (mark_rows w)
each_mark_row w ok =
    each-append IsRow (listed_rows (command_row Attributes) (map mark_row (listed_marks (label_of w) w))) _ (each_of_list Attributes _ (each_label_row w ok))
    (each-append IsRow (listed_rows (command_row Valence) (map mark_row (listed_marks (valence_of w) w))) _ (each_of_list Valence _ (each_valence_row w ok))
    (each_of_list Fixed _ (each_fixed_row w ok)))

each_table_row : (w : Configuration) → IsValid w → AllByRecursion IsRow (table_rows w.table)
each_table_row w ok =
    each-append IsRow (listed_rows (command_row Contacts) (map contact_row (entries_of w.table))) _
    (each_of_list Contacts _
    (each-map IsContact IsRow contact_row (entries_of w.table) (each_contact w.table ok.table)
    (λ e is. IsRow-contact e.0.0 e.0.1 e.1 (omega (arith, is.first)) (omega (arith, is.second)) (omega (arith, is.weight)))))
    (each_of_list Acceptance _ (each-map (λ t. t ≤ 2 ^ 32) IsRow threshold_row w.table.thresholds (each_threshold w.table ok.table) (λ t l. IsRow-threshold t (omega (arith, l)))))

each_list_row : (w : Configuration) → IsValid w → AllByRecursion IsRow (list_rows w)
each_list_row w ok =
    each-append IsRow (listed_rows (command_row SetOfBondVectors) (map vector_row w.set)) _ (each_of_list SetOfBondVectors _ (each_vector w.set [] w.set ok.set refl))
    (each-append IsRow (listed_rows (command_row Bonds) (map pair_row (listed_pairs w))) (mark_rows w ++ table_rows w.table) (each_of_list Bonds _ (each_pair_row w ok))
    (each-append IsRow (mark_rows w) (table_rows w.table) (each_mark_row w ok) (each_table_row w ok)))

-- The rows of the frame.

pub each_good_row : (w : Configuration) → IsValid w → reach_of w.positions ≤ 2 ^ 44 → AllByRecursion (IsGoodRow w.set (2 ^ 44)) (rows_of w)
each_good_row w ok near = each_good w (2 ^ 44) 0 w.positions ok.set near

both_each : {X : Type 0} (P Q R : X → Type 0) (xs : List X) → AllByRecursion P xs → AllByRecursion Q xs → ((x : X) → P x → Q x → R x) → AllByRecursion R xs
both_each P Q R [] a b step = tt
both_each P Q R (x ∷ xs) a b step = (step x a.0 b.0, both_each P Q R xs a.1 b.1 step)

pub each_frame_row : (w : Configuration) → IsValid w → reach_of w.positions ≤ 2 ^ 44 → AllByRecursion (λ row. IsRow (frame_row row)) (rows_of w)
each_frame_row w ok near =
    both_each (IsGoodRow w.set (2 ^ 44)) (λ (row : Row). length row.ids < length w.positions) (λ row. IsRow (frame_row row)) (rows_of w) (each_good_row w ok near)
    (each_short (rows_of w) (length w.positions) (omega (arith, size_of-rows w 0 w.positions)))
    (λ row good l. IsRow-frame row (IsShort-extent row.start (2 ^ 44) good.near (omega arith)) good.plain (omega (arith, l, ok.few)))

-- All rows.

pub IsRow-blank : IsRow []
IsRow-blank = record { plain = refl; short = omega arith }

pub each_group_row : (w : Configuration) (mcs : ℕ) → IsValid w → reach_of w.positions ≤ 2 ^ 44 → mcs ≤ 2 ^ 40 → AllByRecursion IsRow ([] ∷ frame_rows w mcs)
each_group_row w mcs ok near early =
    (IsRow-blank, (IsRow-assigned Mcs mcs (omega (arith, early)), each-map (λ row. IsRow (frame_row row)) IsRow frame_row (rows_of w) (each_frame_row w ok near) (λ row r. r)))

pub each_world_row : (w : Configuration) (mcs : ℕ) → IsValid w → reach_of w.positions ≤ 2 ^ 44 → mcs ≤ 2 ^ 40 → AllByRecursion IsRow (world_rows w mcs)
each_world_row w mcs ok near early =
    each-append IsRow (header_rows w) ([] ∷ frame_rows w mcs) (each-append IsRow (map value_row (values_of w)) (list_rows w) (each_value w ok) (each_list_row w ok)) (each_group_row w mcs ok near early)
