-- What the lines of a header say, and rows that are read one after another.
use Rattle.std.proofs.Common.{◌≡◌, ℕ, ◌+◌, false, cond, ◌||◌, List, [], ◌∷◌, ◌++◌, length, Option, None, Some, refl, sym, ap, ◌∙◌, subst}
use Rattle.bfm_base.specs.declared.place.P3.{P3}
use Rattle.bfm_base.specs.declared.cause.Cause.{Cause}
use Rattle.bfm_base.specs.declared.cause.Refused.{Refused}
use Rattle.bfm_base.specs.declared.limits.TheConstants.{GREATEST_LABEL, GREATEST_VALENCE}
use Rattle.contact_table.specs.Contacts.{ContactTable, no_contacts}
use Rattle.bfm_commands.specs.Forms.{vector_entry, pair_entry, range_entry, monomers_entry, contact_entry, threshold_entry}
use Rattle.bfm_commands.specs.Meaning.{Meaning, nothing, command, entry, meaning_of, role_of}
use Rattle.bfm_commands.specs.History.{History, begins, has_begun, owner_after, owner_of, entry_of, given_in, given_as, given_by, given_of, with_vector, set_of, with_listed, pairs_of, with_said, labels_of, valences_of, with_range, fixed_of, with_contact, with_acceptance, table_of, is_skipped, skipped_of}
use Rattle.bfm_commands.specs.Causes.{cause_of}
use Rattle.bfm_commands.specs.Verdict.{newest_first, refused_at, first_wrong}
use Rattle.bfm_commands.specs.declared.commands.Known.{Known}
use Rattle.bfm_commands.specs.declared.commands.Known.TheVariants.{SetOfBondVectors, Bonds, Attributes, Valence, Fixed, Contacts, Acceptance}
use Rattle.bfm_commands.specs.declared.owner.Owner.{Owner}
use Rattle.bfm_commands.specs.declared.owner.Owner.TheVariants.{Nobody, Unknown, Command}
use Rattle.bfm_commands.specs.declared.settings.Given.{Given}
use Rattle.bfm_commands.specs.declared.forms.Range.{Range}
use Rattle.bfm_commands.proofs.SumLemmas.{no_entry}

-- the last command, the commands with their numbers, and the lists
pub record Said : Type 0 where
  pub owner : Owner
  pub given : List Given
  pub set : List (P3 × ℕ)
  pub pairs : List (ℕ × ℕ)
  pub labels : List (Range × ℕ)
  pub valences : List (Range × ℕ)
  pub fixed : List Range
  pub table : ContactTable

abbrev pub nothing_said : Said
nothing_said = record { owner = Nobody; given = []; set = []; pairs = []; labels = []; valences = []; fixed = []; table = no_contacts }

-- No frame has begun, no command was skipped, and this is what lines say.
pub record Says (lines : History) (said : Said) : Type 0 where
  pub begun : has_begun lines ≡ false
  pub skipped : skipped_of lines ≡ 0
  pub owner : owner_of lines ≡ said.owner
  pub given : given_of lines ≡ said.given
  pub set : set_of lines ≡ said.set
  pub pairs : pairs_of lines ≡ said.pairs
  pub labels : labels_of lines ≡ said.labels
  pub valences : valences_of lines ≡ said.valences
  pub fixed : fixed_of lines ≡ said.fixed
  pub table : table_of lines ≡ said.table

pub Says-none : Says [] nothing_said
Says-none = record { begun = refl; skipped = refl; owner = refl; given = refl; set = refl; pairs = refl; labels = refl; valences = refl; fixed = refl; table = refl }

-- a table after a line, by the entries that it may be
abbrev table_after : ContactTable → Option (List ℕ) → Option (List ℕ) → ContactTable
table_after table contact threshold = with_acceptance (with_contact table (given_in contact_entry contact)) (given_in threshold_entry threshold)

-- One line more.

-- the entries that a line gives none of
module _ (before : History) (said : Said) (s : Says before said) (line : List ℕ) (m : Meaning) (is : meaning_of line ≡ m) where
  -- a line that is no entry, by what it does to the owner and the commands
  pub Says-other : (owner : Owner) (given : List Given) → begins m ≡ false → is_skipped m ≡ false → ((known : Known) → entry_of known (owner_of before) m ≡ None)
      → owner_after said.owner m ≡ owner → given_by m ++ said.given ≡ given → Says (line ∷ before) (record said { owner = owner; given = given })
  Says-other owner given starts skips none o g = record {
    begun = ap (λ x. begins x || has_begun before) is ∙ ap (λ b. b || has_begun before) starts ∙ s.begun;
    skipped = ap (λ x. cond (is_skipped x) (skipped_of before + 1) (skipped_of before)) is ∙ ap (λ b. cond b (skipped_of before + 1) (skipped_of before)) skips ∙ s.skipped;
    owner = ap (owner_after (owner_of before)) is ∙ ap (λ w. owner_after w m) s.owner ∙ o;
    given = ap (λ x. given_by x ++ given_of before) is ∙ ap (λ l. given_by m ++ l) s.given ∙ g;
    set = ap (λ x. with_vector (set_of before) (given_in vector_entry (entry_of SetOfBondVectors (owner_of before) x))) is
        ∙ ap (λ e. with_vector (set_of before) (given_in vector_entry e)) (none SetOfBondVectors) ∙ s.set;
    pairs = ap (λ x. with_listed (pairs_of before) (given_in pair_entry (entry_of Bonds (owner_of before) x))) is
        ∙ ap (λ e. with_listed (pairs_of before) (given_in pair_entry e)) (none Bonds) ∙ s.pairs;
    labels = ap (λ x. with_said (labels_of before) (given_in (λ text. range_entry text GREATEST_LABEL) (entry_of Attributes (owner_of before) x))) is
        ∙ ap (λ e. with_said (labels_of before) (given_in (λ text. range_entry text GREATEST_LABEL) e)) (none Attributes) ∙ s.labels;
    valences = ap (λ x. with_said (valences_of before) (given_in (λ text. range_entry text GREATEST_VALENCE) (entry_of Valence (owner_of before) x))) is
        ∙ ap (λ e. with_said (valences_of before) (given_in (λ text. range_entry text GREATEST_VALENCE) e)) (none Valence) ∙ s.valences;
    fixed = ap (λ x. with_range (fixed_of before) (given_in monomers_entry (entry_of Fixed (owner_of before) x))) is
        ∙ ap (λ e. with_range (fixed_of before) (given_in monomers_entry e)) (none Fixed) ∙ s.fixed;
    table = ap (λ x. table_after (table_of before) (entry_of Contacts (owner_of before) x) (entry_of Acceptance (owner_of before) x)) is
        ∙ ap (λ e. table_after (table_of before) e (entry_of Acceptance (owner_of before) m)) (none Contacts)
        ∙ ap (table_after (table_of before) None) (none Acceptance) ∙ s.table;
  }

-- what is said where a command is given that begins no frame
abbrev pub said_command : Known → List ℕ → Said → Said
said_command known rest said = record said { owner = Command known; given = given_as known (role_of known) rest ++ said.given }

pub Says-command : (before : History) (said : Said) (line : List ℕ) (known : Known) (rest : List ℕ) → Says before said → meaning_of line ≡ command (Some known) rest
    → begins (command (Some known) rest) ≡ false → Says (line ∷ before) (said_command known rest said)
Says-command before said line known rest s is starts =
    Says-other before said s line (command (Some known) rest) is (Command known) (given_as known (role_of known) rest ++ said.given) starts refl
    (no_entry (owner_of before) (Some known) rest) refl refl

pub no_entry_nothing : (owner : Owner) (known : Known) → entry_of known owner nothing ≡ None
no_entry_nothing Nobody known = refl
no_entry_nothing Unknown known = refl
no_entry_nothing (Command owner) known = refl

pub Says-nothing : (before : History) (said : Said) (line : List ℕ) → Says before said → meaning_of line ≡ nothing → Says (line ∷ before) said
Says-nothing before said line s is = Says-other before said s line nothing is said.owner said.given refl refl (no_entry_nothing (owner_of before)) refl refl

-- what is said where an entry of a command is given
abbrev pub said_entry : Known → List ℕ → Said → Said
said_entry owner text said = record said {
  set = with_vector said.set (given_in vector_entry (entry_of SetOfBondVectors (Command owner) (entry text)));
  pairs = with_listed said.pairs (given_in pair_entry (entry_of Bonds (Command owner) (entry text)));
  labels = with_said said.labels (given_in (λ t. range_entry t GREATEST_LABEL) (entry_of Attributes (Command owner) (entry text)));
  valences = with_said said.valences (given_in (λ t. range_entry t GREATEST_VALENCE) (entry_of Valence (Command owner) (entry text)));
  fixed = with_range said.fixed (given_in monomers_entry (entry_of Fixed (Command owner) (entry text)));
  table = table_after said.table (entry_of Contacts (Command owner) (entry text)) (entry_of Acceptance (Command owner) (entry text));
}

pub Says-entry : (before : History) (said : Said) (line : List ℕ) (owner : Known) (text : List ℕ) → Says before said → said.owner ≡ Command owner → meaning_of line ≡ entry text
    → Says (line ∷ before) (said_entry owner text said)
Says-entry before said line owner text s owned is =
    let own : owner_of before ≡ Command owner = s.owner ∙ owned in
    let given : (known : Known) → entry_of known (owner_of before) (meaning_of line) ≡ entry_of known (Command owner) (entry text) =
    λ known. ap (λ o. entry_of known o (meaning_of line)) own ∙ ap (entry_of known (Command owner)) is in
    record {
      begun = ap (λ x. begins x || has_begun before) is ∙ s.begun;
      skipped = ap (λ x. cond (is_skipped x) (skipped_of before + 1) (skipped_of before)) is ∙ s.skipped;
      owner = ap (owner_after (owner_of before)) is ∙ s.owner;
      given = ap (λ x. given_by x ++ given_of before) is ∙ s.given;
      set = ap (λ e. with_vector (set_of before) (given_in vector_entry e)) (given SetOfBondVectors)
          ∙ ap (λ l. with_vector l (given_in vector_entry (entry_of SetOfBondVectors (Command owner) (entry text)))) s.set;
      pairs = ap (λ e. with_listed (pairs_of before) (given_in pair_entry e)) (given Bonds)
          ∙ ap (λ l. with_listed l (given_in pair_entry (entry_of Bonds (Command owner) (entry text)))) s.pairs;
      labels = ap (λ e. with_said (labels_of before) (given_in (λ t. range_entry t GREATEST_LABEL) e)) (given Attributes)
          ∙ ap (λ l. with_said l (given_in (λ t. range_entry t GREATEST_LABEL) (entry_of Attributes (Command owner) (entry text)))) s.labels;
      valences = ap (λ e. with_said (valences_of before) (given_in (λ t. range_entry t GREATEST_VALENCE) e)) (given Valence)
          ∙ ap (λ l. with_said l (given_in (λ t. range_entry t GREATEST_VALENCE) (entry_of Valence (Command owner) (entry text)))) s.valences;
      fixed = ap (λ e. with_range (fixed_of before) (given_in monomers_entry e)) (given Fixed)
          ∙ ap (λ l. with_range l (given_in monomers_entry (entry_of Fixed (Command owner) (entry text)))) s.fixed;
      table = ap (λ e. table_after (table_of before) e (entry_of Acceptance (owner_of before) (meaning_of line))) (given Contacts)
          ∙ ap (table_after (table_of before) (entry_of Contacts (Command owner) (entry text))) (given Acceptance)
          ∙ ap (λ t. table_after t (entry_of Contacts (Command owner) (entry text)) (entry_of Acceptance (Command owner) (entry text))) s.table;
    }

-- Rows one after another.

pub newest_first-append : (before : History) (xs ys : List (List ℕ)) → newest_first before (xs ++ ys) ≡ newest_first (newest_first before xs) ys
newest_first-append before [] ys = refl
newest_first-append before (x ∷ xs) ys = newest_first-append (x ∷ before) xs ys

pub both_right : (n : ℕ) (cause : Option Cause) (later : Option Refused) → refused_at n cause later ≡ None → (cause ≡ None) × (later ≡ None)
both_right n None later e = (refl, e)
both_right n (Some cause) later e = absurd (cc)

pub first_wrong-append : (before : History) (xs ys : List (List ℕ)) → first_wrong before xs ≡ None → first_wrong before (xs ++ ys) ≡ first_wrong (newest_first before xs) ys
first_wrong-append before [] ys e = refl
first_wrong-append before (x ∷ xs) ys e =
    let parts = both_right (length before) (cause_of before x) (first_wrong (x ∷ before) xs) e in
    ap (λ c. refused_at (length before) c (first_wrong (x ∷ before) (xs ++ ys))) parts.0 ∙ first_wrong-append (x ∷ before) xs ys parts.1

-- Behind lines that say the one thing, no row is wrong, and the lines with these rows say the other.
pub record Reads (rows : List (List ℕ)) (old new : Said) : Type 0 where
  pub right : (before : History) → Says before old → first_wrong before rows ≡ None
  pub after : (before : History) → Says before old → Says (newest_first before rows) new

pub Reads-none : (said : Said) → Reads [] said said
Reads-none said = record { right = λ before s. refl; after = λ before s. s }

pub Reads-one : (row : List ℕ) (old new : Said) → ((before : History) → Says before old → (cause_of before row ≡ None) × Says (row ∷ before) new) → Reads (row ∷ []) old new
Reads-one row old new step = record {
  right = λ before s. ap (λ c. refused_at (length before) c None) (step before s).0;
  after = λ before s. (step before s).1;
}

pub Reads-append : (xs ys : List (List ℕ)) (old middle new : Said) → Reads xs old middle → Reads ys middle new → Reads (xs ++ ys) old new
Reads-append xs ys old middle new a b = record {
  right = λ before s. first_wrong-append before xs ys (a.right before s) ∙ b.right (newest_first before xs) (a.after before s);
  after = λ before s. subst (λ lines. Says lines new) (sym (newest_first-append before xs ys)) (b.after (newest_first before xs) (a.after before s));
}
