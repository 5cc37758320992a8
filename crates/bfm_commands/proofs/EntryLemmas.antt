-- A summary that takes an entry, or a line that is nothing.
use Rattle.std.proofs.Common.{◌≡◌, ℕ, ◌+◌, true, cond, List, ◌∷◌, Option, None, Some, MatchOption, is_none, refl, ap, sym, ◌∙◌, subst, arith}
use Rattle.bfm_lexer.specs.Kinds.{kind_of}
use Rattle.bfm_lexer.specs.declared.kinds.LineKind.{LineKind}
use Rattle.bfm_lexer.specs.declared.kinds.LineKind.TheVariants as kinds
use Rattle.bfm_commands.specs.Commands.{command_of}
use Rattle.bfm_commands.specs.Forms.{vector_entry, pair_entry, range_entry, monomers_entry, contact_entry, threshold_entry}
use Rattle.bfm_commands.specs.Meaning.{nothing, command, entry, meant, text_meaning, meaning_of}
use Rattle.bfm_commands.specs.History.{History, owner_of, entry_of, given_in, draft_of, with_vector, with_listed, with_said, with_range, with_contact, with_acceptance, with_added, with_removed, is_skipped, skipped_of}
use Rattle.bfm_commands.specs.Verdict.{bytes_in}
use Rattle.bfm_commands.specs.Causes.{entry_cause, frame_cause, added_cause, removed_cause, threshold_cause, vector_cause}
use Rattle.bfm_commands.specs.Reading.{follows_header, owns_changes, is_complete, standing, entry_fault, frames_fault, with_entry, IsReady, TakesEntry, IsBeforeFrames, AreFrames, CountsAtMost, Sums}
use Rattle.bfm_commands.specs.declared.commands.Known.{Known}
use Rattle.bfm_commands.specs.declared.commands.Known.TheVariants.{NumberOfMonomers, BoxX, BoxY, BoxZ, PeriodicX, PeriodicY, PeriodicZ, SetOfBondVectors, Bonds, Attributes, Valence, Fixed, Contacts, Acceptance, Mcs, AddBonds, RemoveBonds, Stream, Solid}
use Rattle.bfm_commands.specs.declared.owner.Owner.TheVariants.{Command}
use Rattle.bfm_base.specs.declared.limits.TheConstants.{GREATEST_LABEL, GREATEST_VALENCE}
use Rattle.bfm_world.specs.Draft.{Draft, with_bonds}
use Rattle.bfm_commands.specs.declared.header.Header.{Header}
use Rattle.bfm_commands.specs.declared.frames.Frames.{Frames}
use Rattle.bfm_commands.specs.declared.summary.Summary.{Summary}
use Rattle.bfm_commands.proofs.HistoryLemmas.{owner_of-none, owner_of-line, draft_of-added, draft_of-removed, blank}
use Rattle.bfm_commands.proofs.SumLemmas.{IsBeforeFrames-line, IsBeforeFrames-idle, AreFrames-idle, AreFrames-same}
use Rattle.bfm_commands.proofs.StepLemmas.{stage-none, stage-some}
use Rattle.bfm_commands.proofs.TakenLemmas.{frame_cause-kept, AreFrames-taken}

-- ---- what a text is
pub text_meaning-command : (text : List ℕ) (known : Option Known) (rest : List ℕ) → command_of text ≡ Some (known, rest) → text_meaning text ≡ command known rest
unfolding text_meaning
text_meaning-command text known rest e = ap (λ o. meant o (kind_of text) text) e

pub text_meaning-entry : (text : List ℕ) → command_of text ≡ None → kind_of text ≡ kinds.Entry → text_meaning text ≡ entry text
unfolding text_meaning
text_meaning-entry text e k = ap (λ o. meant o (kind_of text) text) e ∙ ap (λ x. meant None x text) k

pub text_meaning-nothing : (text : List ℕ) (kind : LineKind) → command_of text ≡ None → kind_of text ≡ kind → meant None kind text ≡ nothing → text_meaning text ≡ nothing
unfolding text_meaning
text_meaning-nothing text kind e k n = ap (λ o. meant o (kind_of text) text) e ∙ (ap (λ x. meant None x text) k ∙ n)

pub CountsAtMost-more : (n : ℕ) (s : Summary) → CountsAtMost n s → CountsAtMost (n + 1) s
CountsAtMost-more n s c = record { skipped = omega (arith, c.skipped); frames = omega (arith, c.frames) }

-- ---- who owns an entry
-- a command whose entries stand among frames
data IsLater (known : Known) : Type 0 where
  frame : known ≡ Mcs → IsLater known
  adds : known ≡ AddBonds → IsLater known
  removes : known ≡ RemoveBonds → IsLater known

later_owner : (known : Known) → follows_header (Command known) ≡ true → IsLater known
later_owner Mcs e = frame refl
later_owner AddBonds e = adds refl
later_owner RemoveBonds e = removes refl
later_owner known e = absurd (cc)

module _ (s : Summary) (before : History) (sums : Sums s before) (known : Known) (text : List ℕ) (owner : s.owner ≡ Command known) where
  owned : owner_of before ≡ Command known
  owned = sym sums.owner ∙ owner

  -- an entry of the header
  module _ (none : s.frames ≡ None) where
    b : IsBeforeFrames s.header before
    b = stage-none s before sums none

    no_change : {k : Known} → owner_of before ≡ Command k → owns_changes (Command k) ≡ true → ⊥
    no_change e changes = let none = b.owner in let is = ap owns_changes e ∙ changes in absurd (cc)

    pub header_entry_cause : entry_cause before (owner_of before) text ≡ entry_fault s.header known text
    header_entry_cause = ap (λ o. entry_cause before o text) owned ∙ by_known known owned
      where
        by_known : (k : Known) → owner_of before ≡ Command k → entry_cause before (Command k) text ≡ entry_fault s.header k text
        by_known NumberOfMonomers e = refl
        by_known BoxX e = refl
        by_known BoxY e = refl
        by_known BoxZ e = refl
        by_known PeriodicX e = refl
        by_known PeriodicY e = refl
        by_known PeriodicZ e = refl
        by_known SetOfBondVectors e = ap (λ s. vector_cause s text) (sym b.gives.set)
        by_known Bonds e = refl
        by_known Attributes e = refl
        by_known Valence e = refl
        by_known Fixed e = refl
        by_known Contacts e = refl
        by_known Acceptance e = ap (λ t. threshold_cause t.thresholds text) (sym b.gives.table)
        by_known Mcs e = absurd (owner_of-none before b.none e)
        by_known AddBonds e = absurd (no_change e refl)
        by_known RemoveBonds e = absurd (no_change e refl)
        by_known Stream e = refl
        by_known Solid e = refl

    pub Sums-header_entry : (new : Summary) (line : List ℕ) → meaning_of line ≡ entry text → new.owner ≡ s.owner → new.skipped ≡ s.skipped → new.frames ≡ s.frames → new.header ≡ with_entry s.header known text → Sums new (line ∷ before)
    Sums-header_entry new line e same skipped frames header = record {
      owner = same ∙ (sums.owner ∙ sym (owner_of-line line before (entry text) e));
      skipped = skipped ∙ (sums.skipped ∙ sym (ap (λ m. cond (is_skipped m) (skipped_of before + 1) (skipped_of before)) e));
      stage = subst (λ o. MatchOption o (IsBeforeFrames new.header (line ∷ before)) (λ f. AreFrames f (line ∷ before))) (sym (frames ∙ none))
          (IsBeforeFrames-line s.header new.header before line (entry text) e b refl b.owner
          (ap (λ (h : Header). h.settings) header)
          (ap (λ (h : Header). h.set) header ∙ ap (λ o. with_vector s.header.set (given_in vector_entry (entry_of SetOfBondVectors o (entry text)))) (sym owned))
          (ap (λ (h : Header). h.pairs) header ∙ ap (λ o. with_listed s.header.pairs (given_in pair_entry (entry_of Bonds o (entry text)))) (sym owned))
          (ap (λ (h : Header). h.labels) header ∙ ap (λ o. with_said s.header.labels (given_in (λ t. range_entry t GREATEST_LABEL) (entry_of Attributes o (entry text)))) (sym owned))
          (ap (λ (h : Header). h.valences) header ∙ ap (λ o. with_said s.header.valences (given_in (λ t. range_entry t GREATEST_VALENCE) (entry_of Valence o (entry text)))) (sym owned))
          (ap (λ (h : Header). h.fixed) header ∙ ap (λ o. with_range s.header.fixed (given_in monomers_entry (entry_of Fixed o (entry text)))) (sym owned))
          (ap (λ (h : Header). h.table) header
          ∙ ap (λ o. with_acceptance (with_contact s.header.table (given_in contact_entry (entry_of Contacts o (entry text)))) (given_in threshold_entry (entry_of Acceptance o (entry text)))) (sym owned)));
    }

  -- an entry among frames
  module _ (f : Frames) (some : s.frames ≡ Some f) where
    a : AreFrames f before
    a = stage-some s before sums f some

    later : IsLater known
    later = later_owner known (ap follows_header (sym owned) ∙ a.owner)

    pub is_ready : IsReady known f
    is_ready changes = ap is_complete a.draft ∙ a.between (ap owns_changes owned ∙ changes)

    pub frames_entry_cause : entry_cause before (owner_of before) text ≡ frames_fault f known text
    frames_entry_cause = ap (λ o. entry_cause before o text) owned ∙ elim later [
      | frame e ↦ rw e (frame_cause-kept f.whole before text a.whole ∙ ap (λ d. frame_cause (is_none f.whole) d text) (sym a.draft))
      | adds e ↦ rw e (ap (λ d. added_cause d text) (sym a.draft))
      | removes e ↦ rw e (ap (λ d. removed_cause d text) (sym a.draft))
    ]

    frames_entry : (g : Frames) (line : List ℕ) (bytes : ℕ) → meaning_of line ≡ entry text → bytes_in (line ∷ before) ≡ bytes → frames_fault f known text ≡ None → TakesEntry known text bytes f g → AreFrames g (line ∷ before)
    frames_entry g line bytes e count right taken =
        elim later [
          | frame k ↦ AreFrames-taken f g before line text bytes e a (owned ∙ ap Command k) (subst (λ x. frames_fault f x text ≡ None) k right) (subst (λ x. TakesEntry x text bytes f g) k taken) count
          | adds k ↦
              let owns = owned ∙ ap Command k in
              let t = subst (λ x. TakesEntry x text bytes f g) k taken in
              AreFrames-same before line (entry text) e (ap (λ o. entry_of Mcs o (entry text)) owns) refl
              (with_added (draft_of before).world.bonds (given_in pair_entry (Some text))) (draft_of-added line before text e a.begun owns) f g a
              (t.frame ∙ ap (λ b. with_bonds (standing f.lines) (with_added b (given_in pair_entry (Some text)))) (ap (λ (d : Draft). d.world.bonds) a.draft)) t.mcs t.whole refl a.owner a.between
          | removes k ↦
              let owns = owned ∙ ap Command k in
              let t = subst (λ x. TakesEntry x text bytes f g) k taken in
              AreFrames-same before line (entry text) e (ap (λ o. entry_of Mcs o (entry text)) owns) refl
              (with_removed (draft_of before).world.bonds (given_in pair_entry (Some text))) (draft_of-removed line before text e a.begun owns) f g a
              (t.frame ∙ ap (λ b. with_bonds (standing f.lines) (with_removed b (given_in pair_entry (Some text)))) (ap (λ (d : Draft). d.world.bonds) a.draft)) t.mcs t.whole refl a.owner a.between
        ]

    pub Sums-frames_entry : (new : Summary) (g : Frames) (line : List ℕ) (bytes : ℕ) → meaning_of line ≡ entry text → bytes_in (line ∷ before) ≡ bytes → new.owner ≡ s.owner → new.skipped ≡ s.skipped → new.frames ≡ Some g
        → frames_fault f known text ≡ None → TakesEntry known text bytes f g → Sums new (line ∷ before)
    Sums-frames_entry new g line bytes e count same skipped frames right taken = record {
      owner = same ∙ (sums.owner ∙ sym (owner_of-line line before (entry text) e));
      skipped = skipped ∙ (sums.skipped ∙ sym (ap (λ m. cond (is_skipped m) (skipped_of before + 1) (skipped_of before)) e));
      stage = subst (λ o. MatchOption o (IsBeforeFrames new.header (line ∷ before)) (λ x. AreFrames x (line ∷ before))) (sym frames) (frames_entry g line bytes e count right taken);
    }

-- ---- a line that is nothing
pub Sums-nothing : (s : Summary) (before : History) (line : List ℕ) → Sums s before → meaning_of line ≡ nothing → Sums s (line ∷ before)
Sums-nothing s before line sums e = record {
  owner = sums.owner ∙ sym (owner_of-line line before nothing e);
  skipped = sums.skipped ∙ sym (ap (λ m. cond (is_skipped m) (skipped_of before + 1) (skipped_of before)) e);
  stage = by_stage s.frames sums.stage;
}
  where
    by_stage : (o : Option Frames) → MatchOption o (IsBeforeFrames s.header before) (λ f. AreFrames f before) → MatchOption o (IsBeforeFrames s.header (line ∷ before)) (λ f. AreFrames f (line ∷ before))
    by_stage None h = IsBeforeFrames-idle s.header before line nothing e (blank refl) h
    by_stage (Some f) h = AreFrames-idle f before line nothing e (blank refl) h
