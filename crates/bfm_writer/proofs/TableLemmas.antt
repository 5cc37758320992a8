-- The lists of a table, entry by entry.
use Rattle.std.proofs.Common.{◌≡◌, ◌≢◌, ℕ, zero, suc, ◌+◌, ◌-◌, ◌<◌, ◌≤◌, ◌++◌, ℤ, pos, false, List, [], ◌∷◌, length, drop, get_or, codes, decimal, if◌then◌else◌, refl, ap, sym, ◌∙◌, arith, append-nil}
use Rattle.std.specs.Fmt.{signed_decimal}
use Rattle.std.specs.List.{flat_map, range_with_len}
use Rattle.std.specs.Ordering.{int_eq}
use Rattle.std.proofs.lemmas.List.{drop_more, drop_all}
use Rattle.std.proofs.lemmas.Bool.Decides.{Decides-int_eq}
use Rattle.contact_table.specs.Contacts.{ContactTable, threshold_of, weight_of}
use Rattle.contact_table.specs.Entries.{entries_of, entries_of_class, entry_of}
use Rattle.bfm_writer.specs.Header.{acceptance_text, contact_line, listed, threshold_line}
use Rattle.bfm_writer.proofs.ListingLemmas.{listed-line}

-- the entries of all classes
pub entries_of-classes : (table : ContactTable) → entries_of table ≡ flat_map (entries_of_class table) (range_with_len 1 15)
unfolding entries_of
entries_of-classes table = refl

-- a pair that weighs 0 has no line
pub line-none : (table : ContactTable) (a b : ℕ) → weight_of table a b ≡ pos 0 → flat_map contact_line (entry_of table a b) ≡ []
line-none table a b h = ap (λ none. flat_map contact_line (if none then [] else ((a, b), weight_of table a b) ∷ [])) ((Decides-int_eq (weight_of table a b) (pos 0)).1 h)

-- and any other has one
pub line-some : (table : ContactTable) (a b : ℕ) (w : ℤ) → w ≡ weight_of table a b → w ≢ pos 0
    → flat_map contact_line (entry_of table a b) ≡ decimal a ++ 32 ∷ (decimal b ++ 58 ∷ (signed_decimal w ++ codes "\n"))
line-some table a b w same some =
    let other : int_eq (weight_of table a b) (pos 0) ≡ false = grind (arith, Decides-int_eq (weight_of table a b) (pos 0)) in
    ap (λ none. flat_map contact_line (if none then [] else ((a, b), weight_of table a b) ∷ [])) other
    ∙ (append-nil (contact_line ((a, b), weight_of table a b)) ∙ ap (λ v. contact_line ((a, b), v)) (sym same))

-- the threshold of a change above 0 is that of its number
pub threshold_of-above : (table : ContactTable) (delta : ℕ) → 0 < delta → threshold_of table (pos delta) ≡ get_or table.thresholds (delta - 1) 0
threshold_of-above table zero h = absurd (omega arith)
threshold_of-above table (suc k) h =
    let same : k ≡ suc k - 1 = omega arith in
    ap (λ n. get_or table.thresholds n 0) same

-- the first of the thresholds from that of a change on
pub thresholds-first : (table : ContactTable) (delta t : ℕ) → 0 < delta → delta ≤ length table.thresholds → t ≡ threshold_of table (pos delta)
    → drop (delta - 1) table.thresholds ≡ t ∷ drop (delta + 1 - 1) table.thresholds
thresholds-first table delta t above within is =
    let same : delta - 1 + 1 ≡ delta + 1 - 1 = omega arith in
    drop_more table.thresholds (delta - 1) 0 (omega arith)
    ∙ (ap (λ v. v ∷ drop (delta - 1 + 1) table.thresholds) (sym (is ∙ threshold_of-above table delta above)) ∙ ap (λ n. t ∷ drop n table.thresholds) same)

-- and the last alone
pub thresholds-last : (table : ContactTable) (delta t : ℕ) → 0 < delta → delta ≡ length table.thresholds → t ≡ threshold_of table (pos delta)
    → flat_map threshold_line (drop (delta - 1) table.thresholds) ≡ threshold_line t
thresholds-last table delta t above end is =
    let none : drop (delta + 1 - 1) table.thresholds ≡ [] = drop_all (delta + 1 - 1) table.thresholds (omega arith) in
    ap (flat_map threshold_line) (thresholds-first table delta t above (omega arith) is ∙ ap (λ ts. t ∷ ts) none) ∙ append-nil (threshold_line t)

-- thresholds that are there stand behind the command
pub acceptance-some : (table : ContactTable) → length table.thresholds ≢ 0
    → acceptance_text table ≡ codes "!bfm_acceptance\n" ++ flat_map threshold_line table.thresholds
acceptance-some table some = by table.thresholds some
  where
    by : (ts : List ℕ) → length ts ≢ 0 → listed (codes "!bfm_acceptance\n") (flat_map threshold_line ts) ≡ codes "!bfm_acceptance\n" ++ flat_map threshold_line ts
    by [] h = absurd (h refl)
    by (t ∷ ts) h = listed-line (codes "!bfm_acceptance\n") (decimal t) 10 [] (flat_map threshold_line ts)
