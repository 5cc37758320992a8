-- Why a header may not begin the first frame.
use Rattle.std.proofs.Common.{◌≡◌, ℕ, List, [], replicate, sym, Bool, false, None, Some, cond, refl, ap, ◌∙◌, Result, Ok, Err, OnOk, is_err}
use Rattle.bfm_base.specs.declared.cause.Cause.TheVariants.{TooManyBonds}
use Rattle.bond_set.specs.BondSet.{first_unpaired}
use Rattle.bfm_commands.specs.History.{shape_in, count_in, with_pairs, listed_bonds, said_of_each, fixed_of_each}
use Rattle.bfm_commands.specs.Causes.{is_box_too_large, some_missing, is_overfull}
use Rattle.bfm_commands.specs.Reading.{begin_fault, begun_draft, names_beyond_in, with_marks}
use Rattle.bfm_base.specs.declared.place.P3.{P3}
use Rattle.bfm_base.specs.declared.place.Shape.{Shape}
use Rattle.contact_table.specs.Contacts.{ContactTable}
use Rattle.bfm_world.specs.Draft.{Draft, begun, with_bonds}
use Rattle.bfm_commands.specs.declared.header.Header.{Header}

-- where all else is right, only the bonds may be too many
pub begin_fault-bonds : (header : Header) (full : Bool) → is_box_too_large header.settings ≡ false → first_unpaired header.set ≡ None → some_missing header.settings ≡ false
    → names_beyond_in (count_in header.settings) header ≡ false → is_overfull (listed_bonds (count_in header.settings) header.pairs) ≡ full
    → begin_fault header ≡ cond full (Some TooManyBonds) None
begin_fault-bonds header full small paired there present bonds = rw (small, paired, there, present, bonds) refl

-- the same by the bonds that are joined
pub begin_fault-joined : (header : Header) (full : Bool) (count : ℕ) (bonds : List (List ℕ)) (list : List (ℕ × ℕ)) → is_box_too_large header.settings ≡ false → first_unpaired header.set ≡ None
    → some_missing header.settings ≡ false → names_beyond_in count header ≡ false → count ≡ count_in header.settings → bonds ≡ replicate count [] → list ≡ header.pairs
    → is_overfull (with_pairs bonds list) ≡ full → begin_fault header ≡ cond full (Some TooManyBonds) None
begin_fault-joined header full count bonds list small paired there present number none listed over =
    begin_fault-bonds header full small paired there (ap (λ n. names_beyond_in n header) (sym number) ∙ present)
    (ap is_overfull (sym (ap (λ b. with_pairs b list) (none ∙ ap (λ n. replicate n []) number) ∙ ap (with_pairs (replicate (count_in header.settings) [])) listed)) ∙ over)

-- the world that is begun, step by step
pub begun_draft-made : (header : Header) (begins joins marks : Draft) (shape : Shape) (set : List (P3 × ℕ)) (table : ContactTable) (count : ℕ) (list : List (ℕ × ℕ))
    → begins ≡ begun shape set table count → joins ≡ with_bonds begins (with_pairs begins.world.bonds list)
    → marks ≡ with_marks joins (said_of_each header.labels joins.count) (said_of_each header.valences joins.count) (fixed_of_each header.fixed joins.count)
    → shape ≡ shape_in header.settings → set ≡ header.set → table ≡ header.table → count ≡ count_in header.settings → list ≡ header.pairs → marks ≡ begun_draft header
begun_draft-made header begins joins marks shape set table count list b j m is_shape is_set is_table is_count is_list =
    m ∙ rw (j, b, is_shape, is_set, is_table, is_count, is_list) refl

-- what a success says, where there is no error
pub OnOk-when : {A E : Type 0} (r : Result A E) {P : Type 0} → OnOk r P → is_err r ≡ false → P
OnOk-when (Ok a) h e = h
OnOk-when (Err x) h e = absurd (cc)
