-- A summary that takes a command line.
use Rattle.std.proofs.Common.{◌≡◌, ℕ, ◌≤◌, Bool, true, false, not, cond, ◌&&◌, ◌||◌, ◌+◌, List, [], ◌∷◌, ◌++◌, Option, None, Some, MatchOption, Ok, Err, refl, ap, sym, ◌∙◌, subst}
use Rattle.bfm_base.specs.declared.cause.Cause.{Cause}
use Rattle.bfm_base.specs.declared.cause.Cause.TheVariants.{BadLine, Misplaced, FrameShort}
use Rattle.bfm_lexer.specs.Kinds.{is_bare}
use Rattle.bfm_base.specs.declared.limits.TheConstants.{GREATEST_MCS, GREATEST_LABEL, GREATEST_VALENCE}
use Rattle.bfm_world.specs.Draft.{with_positions}
use Rattle.bfm_commands.specs.Forms.{value_of, value_number, vector_entry, pair_entry, range_entry, monomers_entry, contact_entry, threshold_entry}
use Rattle.bfm_commands.specs.Meaning.{meaning_of, command, role_of}
use Rattle.bfm_commands.specs.History.{History, begins, has_begun, owner_of, entry_of, given_in, given_by, given_of, given_as, stands, set_of, pairs_of, labels_of, valences_of, fixed_of, with_vector, with_listed, with_said, with_range, with_contact, with_acceptance, table_of, is_skipped, skipped_of, natural_in, draft_of}
use Rattle.bfm_commands.specs.Causes.{command_cause, known_cause, is_cut_short, is_header_command}
use Rattle.bfm_commands.specs.Reading.{IsFault, value_fault, begin_fault, next_fault, begun_draft, is_complete, standing, owns_changes, IsBeforeFrames, AreFrames, Sums, GivesHeader, GivesFrame}
use Rattle.bfm_commands.specs.declared.fault.LineFault.{LineFault}
use Rattle.bfm_commands.specs.declared.commands.Known.{Known}
use Rattle.bfm_commands.specs.declared.commands.Known.TheVariants.{SetOfBondVectors, Bonds, Attributes, Valence, Fixed, Contacts, Acceptance, Mcs, AddBonds, RemoveBonds}
use Rattle.bfm_commands.specs.declared.owner.Owner.TheVariants.{Command}
use Rattle.bfm_commands.specs.declared.role.Role.TheVariants as roles
use Rattle.bfm_commands.specs.declared.header.Header.{Header}
use Rattle.bfm_commands.specs.declared.frames.Frames.{Frames}
use Rattle.bfm_commands.specs.declared.summary.Summary.{Summary}
use Rattle.bfm_commands.proofs.ValueLemmas.{natural_in-value}
use Rattle.bfm_commands.proofs.CauseLemmas.{behind_value, behind_frame, known_cause-value, known_cause-late_value, known_cause-first, known_cause-next, known_cause-early_change, known_cause-change}
use Rattle.bfm_commands.proofs.HistoryLemmas.{has_begun-line, owner_of-line}
use Rattle.bfm_commands.proofs.SumLemmas.{AreFrames-next, AreFrames-first, AreFrames-changes, no_entry}

abbrev Stage : Header → History → Option Frames → Type 0
Stage header before frames = MatchOption frames (IsBeforeFrames header before) (λ f. AreFrames f before)

-- a success of which something follows
pub IsFault-same : (fault : LineFault) (a b : Option Cause) → IsFault fault a → b ≡ a → IsFault fault b
IsFault-same fault a b h e = subst (IsFault fault) (sym e) h

module _ (s : Summary) (before : History) (sums : Sums s before) where
  pub stage-none : s.frames ≡ None → IsBeforeFrames s.header before
  stage-none none = subst (Stage s.header before) none sums.stage

  pub stage-some : (f : Frames) → s.frames ≡ Some f → AreFrames f before
  stage-some f some = subst (Stage s.header before) some sums.stage

  module _ (known : Known) (rest : List ℕ) (l g : ℕ) (role : role_of known ≡ roles.Value l g) where
    pub value_cause-before : s.frames ≡ None → command_cause before (Some known) rest ≡ value_fault (value_of rest l g) (stands known s.header.settings)
    value_cause-before none =
        let b = stage-none none in
        ap (λ r. known_cause before known r rest) role ∙ (known_cause-value before known rest l g b.none ∙ ap (λ x. value_fault (value_of rest l g) (stands known x)) (sym b.gives.settings))

    pub value_cause-late : (f : Frames) → s.frames ≡ Some f → command_cause before (Some known) rest ≡ behind_value (value_of rest l g) (λ v. behind_frame (is_cut_short before) Misplaced)
    value_cause-late f some = ap (λ r. known_cause before known r rest) role ∙ known_cause-late_value before known rest l g (stage-some f some).begun

    pub GivesHeader-value : (new : Summary) → s.frames ≡ None → new.skipped ≡ s.skipped → new.frames ≡ s.frames
        → new.header ≡ record s.header { settings = given_as known (roles.Value l g) rest ++ s.header.settings } → GivesHeader known rest before new
    GivesHeader-value new none skipped frames header =
        let b = stage-none none in
        record {
          skipped = skipped ∙ sums.skipped;
          none = frames ∙ none;
          begun = b.none;
          settings = ap (λ (h : Header). h.settings) header ∙ (ap (λ x. given_as known (roles.Value l g) rest ++ x) b.gives.settings ∙ ap (λ r. given_as known r rest ++ given_of before) (sym role));
          set = ap (λ (h : Header). h.set) header ∙ b.gives.set;
          pairs = ap (λ (h : Header). h.pairs) header ∙ b.gives.pairs;
          labels = ap (λ (h : Header). h.labels) header ∙ b.gives.labels;
          valences = ap (λ (h : Header). h.valences) header ∙ b.gives.valences;
          fixed = ap (λ (h : Header). h.fixed) header ∙ b.gives.fixed;
          table = ap (λ (h : Header). h.table) header ∙ b.gives.table;
        }

  -- the line that begins a frame
  pub first_cause : (rest : List ℕ) → s.frames ≡ None → command_cause before (Some Mcs) rest ≡ behind_value (value_of rest 0 GREATEST_MCS) (λ v. begin_fault s.header)
  first_cause rest none = known_cause-first before rest s.header (stage-none none).none (stage-none none).gives

  pub next_cause : (rest : List ℕ) (f : Frames) → s.frames ≡ Some f → command_cause before (Some Mcs) rest ≡ behind_value (value_of rest 0 GREATEST_MCS) (next_fault f)
  next_cause rest f some = known_cause-next before rest f (stage-some f some)

  pub time_cause : (rest : List ℕ) (cause : Cause) → value_of rest 0 GREATEST_MCS ≡ Err cause → command_cause before (Some Mcs) rest ≡ Some cause
  time_cause rest cause e = by_stage s.frames refl
    where
      by_stage : (o : Option Frames) → s.frames ≡ o → command_cause before (Some Mcs) rest ≡ Some cause
      by_stage None none = first_cause rest none ∙ ap (λ r. behind_value r (λ v. begin_fault s.header)) e
      by_stage (Some f) some = next_cause rest f some ∙ ap (λ r. behind_value r (next_fault f)) e

  module _ (rest : List ℕ) (v : ℕ) (e : value_of rest 0 GREATEST_MCS ≡ Ok v) where
    number : natural_in (value_number rest) ≡ Some v
    number = natural_in-value rest 0 GREATEST_MCS v e

    pub first_cause-ok : s.frames ≡ None → command_cause before (Some Mcs) rest ≡ begin_fault s.header
    first_cause-ok none = first_cause rest none ∙ ap (λ r. behind_value r (λ v. begin_fault s.header)) e

    pub next_cause-ok : (f : Frames) → s.frames ≡ Some f → command_cause before (Some Mcs) rest ≡ next_fault f v
    next_cause-ok f some = next_cause rest f some ∙ ap (λ r. behind_value r (next_fault f)) e

    complete : (f : Frames) → next_fault f v ≡ None → is_complete (standing f.lines) ≡ true
    complete f none = by_test (is_complete (standing f.lines)) refl
      where
        by_test : (b : Bool) → is_complete (standing f.lines) ≡ b → b ≡ true
        by_test true c = refl
        by_test false c = let short : next_fault f v ≡ Some FrameShort = rw c refl in absurd (let both = sym short ∙ none in cc)

    pub GivesFrame-next : (f : Frames) (new : Summary) (frames : Frames) → s.frames ≡ Some f → next_fault f v ≡ None → new.skipped ≡ s.skipped → new.frames ≡ Some frames
        → standing frames.lines ≡ with_positions (standing f.lines) [] → frames.mcs ≡ v → frames.whole ≡ f.whole → GivesFrame Mcs rest before new
    GivesFrame-next f new frames some none skipped is frame mcs whole = record {
      skipped = skipped ∙ sums.skipped;
      frames = λ line m. subst (λ o. MatchOption o ⊥ (λ x. AreFrames x (line ∷ before))) (sym is)
          (AreFrames-next f frames before line rest v m number (stage-some f some) (complete f none) frame mcs whole);
    }

    pub GivesFrame-first : (new : Summary) (frames : Frames) → s.frames ≡ None → new.skipped ≡ s.skipped → new.frames ≡ Some frames
        → standing frames.lines ≡ begun_draft s.header → 1 ≤ frames.lines.builder.count → frames.mcs ≡ v → frames.whole ≡ None → GivesFrame Mcs rest before new
    GivesFrame-first new frames none skipped is frame some mcs whole = record {
      skipped = skipped ∙ sums.skipped;
      frames = λ line m. subst (λ o. MatchOption o ⊥ (λ x. AreFrames x (line ∷ before))) (sym is)
          (AreFrames-first s.header frames before line rest v m number (stage-none none) frame some mcs whole);
    }

  -- a line after which entries change the bonds
  module _ (known : Known) (rest : List ℕ) (role : role_of known ≡ roles.Change) where
    pub change_cause-early : s.frames ≡ None → command_cause before (Some known) rest ≡ cond (not (is_bare rest)) (Some BadLine) (Some Misplaced)
    change_cause-early none = ap (λ r. known_cause before known r rest) role ∙ known_cause-early_change before known rest (stage-none none).none

    pub change_cause : (f : Frames) → s.frames ≡ Some f
        → command_cause before (Some known) rest ≡ cond (not (is_bare rest)) (Some BadLine) (cond (not (is_complete (standing f.lines))) (Some FrameShort) None)
    change_cause f some =
        let a = stage-some f some in
        ap (λ r. known_cause before known r rest) role
        ∙ (known_cause-change before known rest a.begun
        ∙ (ap (λ b. cond (not (is_bare rest)) (Some BadLine) (cond (b && not (b && is_complete (draft_of before))) (Some FrameShort) None)) a.begun
        ∙ ap (λ d. cond (not (is_bare rest)) (Some BadLine) (cond (not (is_complete d)) (Some FrameShort) None)) (sym a.draft)))

    change_cause-bad : is_bare rest ≡ false → command_cause before (Some known) rest ≡ Some BadLine
    change_cause-bad bad = by_stage s.frames refl
      where
        by_stage : (o : Option Frames) → s.frames ≡ o → command_cause before (Some known) rest ≡ Some BadLine
        by_stage None none = change_cause-early none ∙ ap (λ b. cond (not b) (Some BadLine) (Some Misplaced)) bad
        by_stage (Some f) some = change_cause f some ∙ ap (λ b. cond (not b) (Some BadLine) (cond (not (is_complete (standing f.lines))) (Some FrameShort) None)) bad

    changes : owns_changes (Command known) ≡ true
    changes = by_known known role
      where
        by_known : (k : Known) → role_of k ≡ roles.Change → owns_changes (Command k) ≡ true
        by_known AddBonds e = refl
        by_known RemoveBonds e = refl
        by_known k e = absurd (cc)

    pub GivesFrame-changes : (f : Frames) → s.frames ≡ Some f → is_complete (standing f.lines) ≡ true → GivesFrame known rest before s
    GivesFrame-changes f some complete = record {
      skipped = sums.skipped;
      frames = λ line m. subst (λ o. MatchOption o ⊥ (λ x. AreFrames x (line ∷ before))) (sym some)
          (AreFrames-changes f before line known rest m changes complete (stage-some f some));
    }

-- only one command begins a frame
pub frame_role : (known : Known) → role_of known ≡ roles.Frame → Mcs ≡ known
frame_role Mcs e = refl
frame_role known e = absurd (cc)

-- ---- the summary with the owner that a command line gives
header_facts : (known : Known) (rest : List ℕ) → is_header_command (role_of known) ≡ true → (begins (command (Some known) rest) ≡ false) × (owns_changes (Command known) ≡ false)
header_facts Mcs rest h = absurd (cc)
header_facts AddBonds rest h = absurd (cc)
header_facts RemoveBonds rest h = absurd (cc)
header_facts known rest h = (refl, refl)

module _ (s : Summary) (before : History) (known : Known) (rest line : List ℕ) (e : meaning_of line ≡ command (Some known) rest) where
  none : (k : Known) → entry_of k (owner_of before) (meaning_of line) ≡ None
  none k = ap (entry_of k (owner_of before)) e ∙ no_entry (owner_of before) (Some known) rest k

  unskipped : skipped_of (line ∷ before) ≡ skipped_of before
  unskipped = ap (λ m. cond (is_skipped m) (skipped_of before + 1) (skipped_of before)) e

  pub Sums-header : is_header_command (role_of known) ≡ true → GivesHeader known rest before s → Sums (record s { owner = Command known }) (line ∷ before)
  Sums-header role g = record {
    owner = sym (owner_of-line line before (command (Some known) rest) e);
    skipped = g.skipped ∙ sym unskipped;
    stage = subst (λ o. MatchOption o (IsBeforeFrames s.header (line ∷ before)) (λ f. AreFrames f (line ∷ before))) (sym g.none) (record {
      none = has_begun-line line before (command (Some known) rest) e ∙ (ap (λ b. b || has_begun before) (header_facts known rest role).0 ∙ g.begun);
      owner = ap owns_changes (owner_of-line line before (command (Some known) rest) e) ∙ (header_facts known rest role).1;
      gives = record {
        settings = g.settings ∙ sym (ap (λ m. given_by m ++ given_of before) e);
        set = g.set ∙ sym (ap (λ t. with_vector (set_of before) (given_in vector_entry t)) (none SetOfBondVectors));
        pairs = g.pairs ∙ sym (ap (λ t. with_listed (pairs_of before) (given_in pair_entry t)) (none Bonds));
        labels = g.labels ∙ sym (ap (λ t. with_said (labels_of before) (given_in (λ text. range_entry text GREATEST_LABEL) t)) (none Attributes));
        valences = g.valences ∙ sym (ap (λ t. with_said (valences_of before) (given_in (λ text. range_entry text GREATEST_VALENCE) t)) (none Valence));
        fixed = g.fixed ∙ sym (ap (λ t. with_range (fixed_of before) (given_in monomers_entry t)) (none Fixed));
        table = g.table ∙ sym (ap (λ t. with_acceptance (with_contact (table_of before) (given_in contact_entry (entry_of Contacts (owner_of before) (meaning_of line)))) (given_in threshold_entry t)) (none Acceptance)
            ∙ ap (λ t. with_contact (table_of before) (given_in contact_entry t)) (none Contacts));
      };
    });
  }

  pub Sums-frames : GivesFrame known rest before s → Sums (record s { owner = Command known }) (line ∷ before)
  Sums-frames g = record {
    owner = sym (owner_of-line line before (command (Some known) rest) e);
    skipped = g.skipped ∙ sym unskipped;
    stage = by_stage s.frames (g.frames line e);
  }
    where
      by_stage : (o : Option Frames) → MatchOption o ⊥ (λ f. AreFrames f (line ∷ before)) → MatchOption o (IsBeforeFrames s.header (line ∷ before)) (λ f. AreFrames f (line ∷ before))
      by_stage None h = absurd h
      by_stage (Some f) h = h
