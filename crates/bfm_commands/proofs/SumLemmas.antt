-- The summary of one more line.
use Rattle.std.proofs.Common.{◌≡◌, ℕ, ◌≤◌, Bool, true, false, not, ◌||◌, List, [], ◌∷◌, ◌++◌, length, Option, None, Some, MatchOption, unwrap_or, refl, ap, sym, ◌∙◌, subst, arith}
use Rattle.std.specs.Prelude.{◌==◌}
use Rattle.std.proofs.lemmas.Bool.Decides.{nat_tests}
use Rattle.contact_table.specs.Contacts.{ContactTable}
use Rattle.bfm_world.specs.Draft.{Draft, with_positions, with_bonds}
use Rattle.bfm_commands.specs.Forms.{vector_entry, pair_entry, range_entry, monomers_entry, contact_entry, threshold_entry, value_number}
use Rattle.bfm_commands.specs.Meaning.{Meaning, command, meaning_of}
use Rattle.bfm_commands.specs.History.{History, begins, has_begun, owner_after, owner_of, entry_of, given_in, given_by, given_of, set_of, pairs_of, said_of, with_vector, with_listed, with_said, with_range, fixed_of, with_contact, with_acceptance, table_of, time_after, mcs_of, is_first_frame, draft_of, frames_of, natural_in}
use Rattle.bfm_commands.specs.Verdict.{bytes_in}
use Rattle.bfm_commands.specs.Reading.{is_complete, standing, at_whole, follows_header, owns_changes, begun_draft, AreWhole, AreNone, AreFrames, IsBeforeFrames}
use Rattle.bfm_commands.specs.declared.commands.Known.{Known}
use Rattle.bfm_commands.specs.declared.commands.Known.TheVariants.{Mcs, SetOfBondVectors, Bonds, Attributes, Valence, Fixed, Contacts, Acceptance, AddBonds, RemoveBonds}
use Rattle.bfm_commands.specs.declared.owner.Owner.{Owner}
use Rattle.bfm_commands.specs.declared.owner.Owner.TheVariants.{Nobody, Unknown, Command}
use Rattle.bfm_base.specs.declared.limits.TheConstants.{GREATEST_LABEL, GREATEST_VALENCE}
use Rattle.bfm_commands.specs.declared.forms.Range.{Range}
use Rattle.bfm_commands.specs.declared.header.Header.{Header}
use Rattle.bfm_commands.specs.declared.frames.Frames.{Frames}
use Rattle.bfm_commands.specs.declared.frames.Whole.{Whole}
use Rattle.bfm_commands.proofs.HistoryLemmas.{has_begun-line, draft_of-first, frames_of-none, has_begun-more, draft_of-same, draft_of-next, last_whole-other, frames_of-other, first_positions-other, is_first_frame-same, is_first_frame-next, owner_of-line, mcs_of-line, IsIdle, IsIdle-adds, IsIdle-owner, IsIdle-between}

-- ---- before the first frame
module _ (header new : Header) (lines : History) (line : List ℕ) (m : Meaning) (e : meaning_of line ≡ m) (h : IsBeforeFrames header lines) (b : begins m ≡ false) where
  still_none : has_begun (line ∷ lines) ≡ false
  still_none = has_begun-line line lines m e ∙ (ap (λ x. x || has_begun lines) b ∙ h.none)

  said_more : (known : Known) (greatest : ℕ) (old more : List (Range × ℕ)) → old ≡ said_of known greatest lines
      → more ≡ with_said old (given_in (λ t. range_entry t greatest) (entry_of known (owner_of lines) m)) → more ≡ said_of known greatest (line ∷ lines)
  said_more known greatest old more is gives =
      gives
      ∙ (ap (λ x. with_said x (given_in (λ t. range_entry t greatest) (entry_of known (owner_of lines) m))) is
      ∙ ap (λ x. with_said (said_of known greatest lines) (given_in (λ t. range_entry t greatest) (entry_of known (owner_of lines) x))) (sym e))

  -- a table with what a line gives of it
  abbrev tabled : ContactTable → Meaning → ContactTable
  tabled t x = with_acceptance (with_contact t (given_in contact_entry (entry_of Contacts (owner_of lines) x))) (given_in threshold_entry (entry_of Acceptance (owner_of lines) x))

  -- one more line, by what it gives
  pub IsBeforeFrames-line : owns_changes (owner_after (owner_of lines) m) ≡ false
      → new.settings ≡ given_by m ++ header.settings → new.set ≡ with_vector header.set (given_in vector_entry (entry_of SetOfBondVectors (owner_of lines) m))
      → new.pairs ≡ with_listed header.pairs (given_in pair_entry (entry_of Bonds (owner_of lines) m))
      → new.labels ≡ with_said header.labels (given_in (λ t. range_entry t GREATEST_LABEL) (entry_of Attributes (owner_of lines) m))
      → new.valences ≡ with_said header.valences (given_in (λ t. range_entry t GREATEST_VALENCE) (entry_of Valence (owner_of lines) m))
      → new.fixed ≡ with_range header.fixed (given_in monomers_entry (entry_of Fixed (owner_of lines) m))
      → new.table ≡ with_acceptance (with_contact header.table (given_in contact_entry (entry_of Contacts (owner_of lines) m))) (given_in threshold_entry (entry_of Acceptance (owner_of lines) m))
      → IsBeforeFrames new (line ∷ lines)
  IsBeforeFrames-line owner settings set pairs labels valences fixed table = record {
    none = still_none;
    owner = ap owns_changes (owner_of-line line lines m e) ∙ owner;
    gives = record {
      settings = settings ∙ (ap (λ g. given_by m ++ g) h.gives.settings ∙ ap (λ x. given_by x ++ given_of lines) (sym e));
      set = set ∙ (ap (λ s. with_vector s (given_in vector_entry (entry_of SetOfBondVectors (owner_of lines) m))) h.gives.set
          ∙ ap (λ x. with_vector (set_of lines) (given_in vector_entry (entry_of SetOfBondVectors (owner_of lines) x))) (sym e));
      pairs = pairs ∙ (ap (λ p. with_listed p (given_in pair_entry (entry_of Bonds (owner_of lines) m))) h.gives.pairs
          ∙ ap (λ x. with_listed (pairs_of lines) (given_in pair_entry (entry_of Bonds (owner_of lines) x))) (sym e));
      labels = said_more Attributes GREATEST_LABEL header.labels new.labels h.gives.labels labels;
      valences = said_more Valence GREATEST_VALENCE header.valences new.valences h.gives.valences valences;
      fixed = fixed ∙ (ap (λ r. with_range r (given_in monomers_entry (entry_of Fixed (owner_of lines) m))) h.gives.fixed
          ∙ ap (λ x. with_range (fixed_of lines) (given_in monomers_entry (entry_of Fixed (owner_of lines) x))) (sym e));
      table = table ∙ (ap (λ t. tabled t m) h.gives.table ∙ ap (tabled (table_of lines)) (sym e));
    };
  }

pub IsBeforeFrames-idle : (header : Header) (lines : History) (line : List ℕ) (m : Meaning) → meaning_of line ≡ m → IsIdle (owner_of lines) m → IsBeforeFrames header lines → IsBeforeFrames header (line ∷ lines)
IsBeforeFrames-idle header lines line m e idle h =
    let adds = IsIdle-adds (owner_of lines) m idle in
    IsBeforeFrames-line header header lines line m e h adds.0 (no_change (owns_changes (owner_after (owner_of lines) m)) refl)
    (ap (λ g. g ++ header.settings) (sym adds.1)) (ap (λ t. with_vector header.set (given_in vector_entry t)) (sym (adds.2 SetOfBondVectors)))
    (ap (λ t. with_listed header.pairs (given_in pair_entry t)) (sym (adds.2 Bonds)))
    (ap (λ t. with_said header.labels (given_in (λ t. range_entry t GREATEST_LABEL) t)) (sym (adds.2 Attributes)))
    (ap (λ t. with_said header.valences (given_in (λ t. range_entry t GREATEST_VALENCE) t)) (sym (adds.2 Valence)))
    (ap (λ t. with_range header.fixed (given_in monomers_entry t)) (sym (adds.2 Fixed)))
    (ap (λ t. with_contact header.table (given_in contact_entry t)) (sym (adds.2 Contacts))
    ∙ ap (λ t. with_acceptance (with_contact header.table (given_in contact_entry (entry_of Contacts (owner_of lines) m))) (given_in threshold_entry t)) (sym (adds.2 Acceptance)))
  where
    no_change : (b : Bool) → owns_changes (owner_after (owner_of lines) m) ≡ b → b ≡ false
    no_change true c = absurd (let was = IsIdle-between (owner_of lines) m idle c in let none = h.owner in cc)
    no_change false c = refl

-- ---- once a frame has begun
abbrev Kept : Option Whole → History → Type 0
Kept whole lines = MatchOption whole (AreNone lines) (λ w. AreWhole w lines)

-- a line that gives no position: the same frames are kept, and of the one that began last only the bonds may be others
module _ (lines : History) (line : List ℕ) (m : Meaning) (e : meaning_of line ≡ m) (other : entry_of Mcs (owner_of lines) m ≡ None) (b : begins m ≡ false)
    (bonds : List (List ℕ)) (draft : draft_of (line ∷ lines) ≡ with_bonds (draft_of lines) bonds) where
  AreWhole-same : (whole : Whole) → AreWhole whole lines → AreWhole whole (line ∷ lines)
  AreWhole-same whole w =
      let last = last_whole-other line lines m e other in
      record {
        frames = w.frames ∙ sym (frames_of-other line lines m e other);
        some = λ z. w.some (sym (frames_of-other line lines m e other) ∙ z);
        first = w.first ∙ sym (first_positions-other line lines m e other);
        mcs = w.mcs ∙ ap mcs_of (sym last);
        kept = w.kept ∙ ap bytes_in (sym last);
        world = ap draft_of last ∙ (w.world ∙ ap (λ d. at_whole d whole) (sym draft));
        later = λ f. ap (λ (d : Draft). length d.world.positions) draft ∙ (w.later (sym (is_first_frame-same line lines m e b) ∙ f) ∙ ap (λ (d : Draft). d.count) (sym draft));
      }

  AreNone-same : AreNone lines → AreNone (line ∷ lines)
  AreNone-same w = record {
    none = frames_of-other line lines m e other ∙ w.none;
    part = ap is_complete draft ∙ w.part;
    first = is_first_frame-same line lines m e b ∙ w.first;
  }

  Kept-same : (whole : Option Whole) → Kept whole lines → Kept whole (line ∷ lines)
  Kept-same None k = AreNone-same k
  Kept-same (Some whole) k = AreWhole-same whole k

  pub AreFrames-same : (frames new : Frames) → AreFrames frames lines → standing new.lines ≡ with_bonds (standing frames.lines) bonds → new.mcs ≡ frames.mcs → new.whole ≡ frames.whole
      → time_after (mcs_of lines) m ≡ mcs_of lines → follows_header (owner_after (owner_of lines) m) ≡ true
      → (owns_changes (owner_after (owner_of lines) m) ≡ true → is_complete (draft_of lines) ≡ true) → AreFrames new (line ∷ lines)
  AreFrames-same frames new f frame mcs whole time owner between = record {
    begun = has_begun-more line lines f.begun;
    draft = frame ∙ (ap (λ d. with_bonds d bonds) f.draft ∙ sym draft);
    mcs = mcs ∙ (f.mcs ∙ sym (mcs_of-line line lines m e ∙ time));
    owner = ap follows_header (owner_of-line line lines m e) ∙ owner;
    between = λ o. ap is_complete draft ∙ between (sym (ap owns_changes (owner_of-line line lines m e)) ∙ o);
    whole = subst (λ w. Kept w (line ∷ lines)) (sym whole) (Kept-same frames.whole f.whole);
  }

pub AreFrames-idle : (frames : Frames) (lines : History) (line : List ℕ) (m : Meaning) → meaning_of line ≡ m → IsIdle (owner_of lines) m → AreFrames frames lines → AreFrames frames (line ∷ lines)
AreFrames-idle frames lines line m e idle f =
    let adds = IsIdle-adds (owner_of lines) m idle in
    AreFrames-same lines line m e (adds.2 Mcs) adds.0 (draft_of lines).world.bonds (draft_of-same line lines m e adds.2 f.begun adds.0) frames frames f
    (ap (with_bonds (standing frames.lines)) (ap (λ (d : Draft). d.world.bonds) f.draft)) refl refl
    (adds.3 (mcs_of lines)) (IsIdle-owner (owner_of lines) m idle f.owner) (λ o. f.between (IsIdle-between (owner_of lines) m idle o))

-- a command line is no entry
pub no_entry : (owner : Owner) (known : Option Known) (rest : List ℕ) (command_owner : Known) → entry_of command_owner owner (command known rest) ≡ None
no_entry Nobody known rest k = refl
no_entry Unknown known rest k = refl
no_entry (Command o) known rest k = refl

-- a line after which entries change the bonds
pub AreFrames-changes : (frames : Frames) (lines : History) (line : List ℕ) (known : Known) (rest : List ℕ) → meaning_of line ≡ command (Some known) rest → owns_changes (Command known) ≡ true
    → is_complete (standing frames.lines) ≡ true → AreFrames frames lines → AreFrames frames (line ∷ lines)
AreFrames-changes frames lines line known rest e changes complete f =
    let m = command (Some known) rest in
    let none = no_entry (owner_of lines) (Some known) rest in
    let other = changes_only known changes in
    AreFrames-same lines line m e (none Mcs) other.0 (draft_of lines).world.bonds (draft_of-same line lines m e none f.begun other.0) frames frames f
    (ap (with_bonds (standing frames.lines)) (ap (λ (d : Draft). d.world.bonds) f.draft)) refl refl
    (other.1 rest (mcs_of lines)) other.2 (λ o. ap is_complete (sym f.draft) ∙ complete)
  where
    changes_only : (k : Known) → owns_changes (Command k) ≡ true
        → (begins (command (Some k) rest) ≡ false) × ((r : List ℕ) (mcs : ℕ) → time_after mcs (command (Some k) r) ≡ mcs) × (follows_header (Command k) ≡ true)
    changes_only AddBonds h = (refl, λ r mcs. refl, refl)
    changes_only RemoveBonds h = (refl, λ r mcs. refl, refl)
    changes_only k h = absurd (cc)

-- a line that begins the next frame
module _ (old new : Frames) (lines : History) (line rest : List ℕ) (v : ℕ) (e : meaning_of line ≡ command (Some Mcs) rest) (number : natural_in (value_number rest) ≡ Some v) (f : AreFrames old lines) where
  next_whole : (whole : Option Whole) → Kept whole lines → is_complete (draft_of lines) ≡ true → Kept whole (line ∷ lines)
  next_whole None k complete = absurd (let a = k.part in cc)
  next_whole (Some whole) w complete =
      let m = command (Some Mcs) rest in
      let none = no_entry (owner_of lines) (Some Mcs) rest in
      let other = none Mcs in
      let last = last_whole-other line lines m e other in
      let second : is_first_frame (line ∷ lines) ≡ false = is_first_frame-next line lines m e refl ∙ ap not f.begun in
      record {
        frames = w.frames ∙ sym (frames_of-other line lines m e other);
        some = λ z. w.some (sym (frames_of-other line lines m e other) ∙ z);
        first = w.first ∙ sym (first_positions-other line lines m e other);
        mcs = w.mcs ∙ ap mcs_of (sym last);
        kept = w.kept ∙ ap bytes_in (sym last);
        world = ap draft_of last ∙ (w.world ∙ ap (λ d. at_whole d whole) (sym (draft_of-next line lines m e none f.begun refl)));
        later = λ first. absurd (cc);
      }

  pub AreFrames-next : is_complete (standing old.lines) ≡ true → standing new.lines ≡ with_positions (standing old.lines) [] → new.mcs ≡ v → new.whole ≡ old.whole → AreFrames new (line ∷ lines)
  AreFrames-next complete frame mcs whole =
      let m = command (Some Mcs) rest in
      let none = no_entry (owner_of lines) (Some Mcs) rest in
      record {
        begun = has_begun-more line lines f.begun;
        draft = frame ∙ (ap (λ d. with_positions d []) f.draft ∙ sym (draft_of-next line lines m e none f.begun refl));
        mcs = mcs ∙ sym (mcs_of-line line lines m e ∙ ap (λ o. unwrap_or o 0) number);
        owner = ap follows_header (owner_of-line line lines m e);
        between = λ o. absurd (let no_change = sym (ap owns_changes (owner_of-line line lines m e)) ∙ o in cc);
        whole = subst (λ w. Kept w (line ∷ lines)) (sym whole) (next_whole old.whole f.whole (ap is_complete (sym f.draft) ∙ complete));
      }

-- a line that begins the first frame
pub AreFrames-first : (header : Header) (frames : Frames) (lines : History) (line rest : List ℕ) (v : ℕ) → meaning_of line ≡ command (Some Mcs) rest → natural_in (value_number rest) ≡ Some v → IsBeforeFrames header lines
    → standing frames.lines ≡ begun_draft header → 1 ≤ frames.lines.builder.count → frames.mcs ≡ v → frames.whole ≡ None → AreFrames frames (line ∷ lines)
AreFrames-first header frames lines line rest v e number h frame some mcs whole =
    let m = command (Some Mcs) rest in
    let begun : has_begun (line ∷ lines) ≡ true = has_begun-line line lines m e in
    let none : frames_of (line ∷ lines) ≡ 0 = frames_of-other line lines m e (no_entry (owner_of lines) (Some Mcs) rest Mcs) ∙ frames_of-none lines h.none in
    let draft : draft_of (line ∷ lines) ≡ begun_draft header =
    draft_of-first line rest lines e h.none ∙ rw (sym h.gives.settings, sym h.gives.set, sym h.gives.pairs, sym h.gives.labels, sym h.gives.valences, sym h.gives.fixed, sym h.gives.table) refl in
    record {
      begun = begun;
      draft = frame ∙ sym draft;
      mcs = mcs ∙ sym (mcs_of-line line lines m e ∙ ap (λ o. unwrap_or o 0) number);
      owner = ap follows_header (owner_of-line line lines m e);
      between = λ o. absurd (let no_change = sym (ap owns_changes (owner_of-line line lines m e)) ∙ o in cc);
      whole = subst (λ w. Kept w (line ∷ lines)) (sym whole) (record {
        none = none;
        part = ap is_complete (draft ∙ sym frame) ∙ empty frames.lines.builder.count (ap (λ (d : Draft). d.world.positions) frame) some;
        first = is_first_frame-next line lines m e refl ∙ ap not h.none;
      });
    }
  where
    empty : (n : ℕ) → frames.lines.positions.items ≡ [] → 1 ≤ n → (length frames.lines.positions.items == n) ≡ false
    empty n e l = let z : length frames.lines.positions.items ≡ 0 = ap length e in grind (arith, nat_tests)
