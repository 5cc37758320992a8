-- The weights of contacts and the thresholds that the header of a valid world lists, as they are read.
use Rattle.std.proofs.Common.{◌≡◌, ℕ, ◌^◌, ◌<◌, ◌≤◌, ℤ, pos, unsigned_abs, nat_le, false, cond, List, [], ◌∷◌, ◌++◌, length, None, Some, refl, sym, ap, ◌∙◌, subst, length-append, arith}
use Rattle.std.specs.List.{All, AllByRecursion}
use Rattle.std.specs.Result.{result_ok}
use Rattle.std.proofs.lemmas.Bool.Decides.{nat_tests}
use Rattle.std.proofs.lemmas.List.Elements.{All-head, All-tail}
use Rattle.bfm_base.specs.declared.cause.Cause.TheVariants.{OutOfLimit}
use Rattle.contact_table.specs.Contacts.{ContactTable, IsContactTable, no_contacts, pair_number, weight_of}
use Rattle.contact_table.specs.Entries.{entries_of, with_entries, with_thresholds}
use Rattle.contact_table.proofs.EntryLemmas.{AllTell, entries_of-tell, thresholds-with_entries, with_thresholds-all, with_entries-push, with_thresholds-push, with_thresholds-with_entries}
use Rattle.bfm_commands.specs.History.{with_contact, with_acceptance}
use Rattle.bfm_commands.specs.Causes.{entered, threshold_cause}
use Rattle.bfm_commands.specs.declared.commands.Known.TheVariants.{Contacts, Acceptance}
use Rattle.bfm_commands.specs.declared.owner.Owner.{Owner}
use Rattle.bfm_commands.specs.declared.owner.Owner.TheVariants.{Command}
use Rattle.bfm_commands.specs.declared.settings.Given.{Given}
use Rattle.bfm_session.proofs.ReadBackRows.{contact_row, threshold_row}
use Rattle.bfm_session.proofs.ReadBackEntries.{IsContact, contact_entry-back, threshold_entry-back}
use Rattle.bfm_session.proofs.ReadBackPlain.{IsRow-contact, IsRow-threshold, begins-contact}
use Rattle.bfm_session.proofs.ReadBackMeanings.{begins_number-decimal}
use Rattle.bfm_session.proofs.ReadBackWalk.{Said, Reads}
use Rattle.bfm_session.proofs.ReadBackLists.{Reads-entry, one_of}

-- What is said with a table told by these entries, and with these thresholds too, behind what was said before.

abbrev pub contacts_said : Said → Owner → List Given → List ((ℕ × ℕ) × ℤ) → Said
contacts_said said owner given entries = record said { owner = owner; given = given; table = with_entries entries no_contacts }

abbrev pub thresholds_said : Said → List ((ℕ × ℕ) × ℤ) → Owner → List Given → List ℕ → Said
thresholds_said said entries owner given thresholds =
    record said { owner = owner; given = given; table = with_thresholds thresholds (with_entries entries no_contacts) }

-- What a table lists is within its limits.

each_told : (table : ContactTable) → IsContactTable table → (entries : List ((ℕ × ℕ) × ℤ)) → AllTell table entries → AllByRecursion IsContact entries
each_told table t [] tells = tt
each_told table t (e ∷ entries) tells =
    let small : unsigned_abs (weight_of table e.0.0 e.0.1) ≤ 1000 = t.weights (pair_number e.0.0 e.0.1) (pos 0) (omega (arith, t.pairs, tells.0.0.1, tells.0.1.1)) in (
      record { first = tells.0.0; second = tells.0.1; weight = subst (λ w. unsigned_abs w ≤ 1000) (sym tells.0.2) small },
      each_told table t entries tells.1,
    )

pub each_contact : (table : ContactTable) → IsContactTable table → AllByRecursion IsContact (entries_of table)
each_contact table t = each_told table t (entries_of table) (entries_of-tell table)

each_low : (most : ℕ) (ts : List ℕ) → All (λ t. t ≤ most) ts → AllByRecursion (λ t. t ≤ most) ts
each_low most [] all = tt
each_low most (t ∷ ts) all = (All-head (λ t. t ≤ most) t ts all, each_low most ts (All-tail (λ t. t ≤ most) t ts all))

pub each_threshold : (table : ContactTable) → IsContactTable table → AllByRecursion (λ t. t ≤ 2 ^ 32) table.thresholds
each_threshold table t = each_low (2 ^ 32) table.thresholds t.thresholds

-- One entry of each list.

pub contact_read : (said : Said) (whole : List ((ℕ × ℕ) × ℤ)) → AllByRecursion IsContact whole → (given : List Given) (done : List ((ℕ × ℕ) × ℤ)) (e : (ℕ × ℕ) × ℤ) (rest : List ((ℕ × ℕ) × ℤ))
    → done ++ e ∷ rest ≡ whole → Reads (contact_row e ∷ []) (contacts_said said (Command Contacts) given done) (contacts_said said (Command Contacts) given (done ++ e ∷ []))
contact_read said whole all given done e rest is =
    let good = one_of IsContact done e rest (subst (AllByRecursion IsContact) (sym is) all) in
    let form = contact_entry-back e good in
    Reads-entry Contacts (contact_row e) (contacts_said said (Command Contacts) given done) (contacts_said said (Command Contacts) given (done ++ e ∷ [])) refl
    (IsRow-contact e.0.0 e.0.1 e.1 (omega (arith, good.first)) (omega (arith, good.second)) (omega (arith, good.weight)))
    (begins-contact e.0.0 e.0.1 e.1 (omega (arith, good.first)))
    (λ before s. ap (entered (λ c. None)) form)
    (ap (λ r. record said { owner = Command Contacts; given = given; table = with_contact (with_entries done no_contacts) (result_ok r) }) form
    ∙ ap (λ t. record said { owner = Command Contacts; given = given; table = t }) (sym (with_entries-push done e no_contacts)))

-- the thresholds of a table that entries told and then thresholds
told_thresholds : (entries : List ((ℕ × ℕ) × ℤ)) (thresholds : List ℕ) → (with_thresholds thresholds (with_entries entries no_contacts)).thresholds ≡ thresholds
unfolding no_contacts
told_thresholds entries thresholds =
    ap (λ (t : ContactTable). t.thresholds) (with_thresholds-all thresholds (with_entries entries no_contacts))
    ∙ ap (λ ts. ts ++ thresholds) (thresholds-with_entries entries no_contacts)

pub threshold_read : (said : Said) (entries : List ((ℕ × ℕ) × ℤ)) (whole : List ℕ) → AllByRecursion (λ t. t ≤ 2 ^ 32) whole → length whole ≤ 1024
    → (given : List Given) (done : List ℕ) (t : ℕ) (rest : List ℕ) → done ++ t ∷ rest ≡ whole
    → Reads (threshold_row t ∷ []) (thresholds_said said entries (Command Acceptance) given done) (thresholds_said said entries (Command Acceptance) given (done ++ t ∷ []))
threshold_read said entries whole all few given done t rest is =
    let most : t ≤ 2 ^ 32 = one_of (λ t. t ≤ 2 ^ 32) done t rest (subst (AllByRecursion (λ t. t ≤ 2 ^ 32)) (sym is) all) in
    let form = threshold_entry-back t most in
    let short : length done < 1024 = omega (arith, few, ap (λ (l : List ℕ). length l) is, length-append done (t ∷ rest)) in
    let room : nat_le 1024 (length done) ≡ false = grind (arith, nat_tests) in
    Reads-entry Acceptance (threshold_row t) (thresholds_said said entries (Command Acceptance) given done) (thresholds_said said entries (Command Acceptance) given (done ++ t ∷ [])) refl
    (IsRow-threshold t (omega (arith, most))) (begins_number-decimal t (omega (arith, most)))
    (λ before s.
    ap (λ (table : ContactTable). threshold_cause table.thresholds (threshold_row t)) s.table
    ∙ ap (λ ts. threshold_cause ts (threshold_row t)) (told_thresholds entries done)
    ∙ ap (entered (λ t. cond (nat_le 1024 (length done)) (Some OutOfLimit) None)) form
    ∙ ap (λ b. cond b (Some OutOfLimit) None) room)
    (ap (λ r. record said { owner = Command Acceptance; given = given; table = with_acceptance (with_thresholds done (with_entries entries no_contacts)) (result_ok r) }) form
    ∙ ap (λ u. record said { owner = Command Acceptance; given = given; table = u }) (sym (with_thresholds-push done t (with_entries entries no_contacts))))

-- What a header says of a table is that table.
pub table_back : (table : ContactTable) → IsContactTable table → with_thresholds table.thresholds (with_entries (entries_of table) no_contacts) ≡ table
table_back table t = with_thresholds-with_entries table t
