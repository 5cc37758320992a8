-- The summary of one more frame line.
use Rattle.std.proofs.Common.{◌≡◌, ◌≢◌, ℕ, ◌+◌, Bool, true, false, not, cond, ◌&&◌, List, ◌∷◌, length, Option, None, Some, MatchOption, is_some, is_none, Result, Ok, Err, nat_lt, refl, ap, sym, ◌∙◌, subst, arith}
use Rattle.std.specs.Prelude.{◌==◌}
use Rattle.std.specs.List.{list_all}
use Rattle.std.proofs.lemmas.Bool.Decides.{nat_tests}
use Rattle.bfm_base.specs.declared.place.P3.{P3}
use Rattle.bfm_base.specs.declared.cause.Cause.{Cause}
use Rattle.bfm_base.specs.declared.cause.Cause.TheVariants.{UnknownId, FrameLong}
use Rattle.bond_set.specs.BondSet.{vector_of}
use Rattle.bfm_world.specs.Draft.{Draft, with_positions, with_bonds}
use Rattle.bfm_commands.specs.Forms.{frame_line}
use Rattle.bfm_commands.specs.Meaning.{entry, meaning_of}
use Rattle.bfm_commands.specs.History.{History, owner_of, positions_of, mcs_of, is_first_frame, draft_of, completes, last_whole, frames_of, first_positions}
use Rattle.bfm_commands.specs.Verdict.{bytes_in}
use Rattle.bfm_commands.specs.Causes.{frame_cause, string_cause, entered}
use Rattle.bfm_commands.specs.Reading.{is_complete, standing, at_whole, taken_line, follows_header, owns_changes, KeepsFrame, TakesLine, AreWhole, AreNone, AreFrames}
use Rattle.bfm_commands.specs.declared.commands.Known.TheVariants.{Mcs}
use Rattle.bfm_commands.specs.declared.owner.Owner.TheVariants.{Command}
use Rattle.bfm_commands.specs.declared.frames.Frames.{Frames}
use Rattle.bfm_commands.specs.declared.frames.Whole.{Whole}
use Rattle.bfm_commands.proofs.HistoryLemmas.{has_begun-more, is_first_frame-same, owner_of-line, mcs_of-line, draft_of-taken, completes-line}

complete-count : (a b : ℕ) → (a == b) ≡ true → a ≡ b
complete-count a b e = grind (arith, nat_tests)

complete-not : (a : ℕ) → a ≢ 0 → (a == 0) ≡ false
complete-not a n = grind (arith, nat_tests)

-- ---- a frame that is whole takes no line
string_cause-whole : (first : Bool) (draft : Draft) (line : P3 × List ℕ) → length draft.world.positions ≡ draft.count
    → string_cause first draft line ≡ cond (not (list_all (λ id. is_some (vector_of draft.world.set id)) line.1)) (Some UnknownId) (Some FrameLong)
string_cause-whole first draft line whole =
    let long : nat_lt draft.count (length draft.world.positions + 1 + length line.1) ≡ true = grind (arith, nat_tests) in
    rw long refl

pub frame_cause-whole : (first : Bool) (draft : Draft) (text : List ℕ) → length draft.world.positions ≡ draft.count → frame_cause first draft text ≢ None
frame_cause-whole first draft text whole = by_line (frame_line text)
  where
    by_known : (b : Bool) → cond (not b) (Some UnknownId) (Some FrameLong) ≢ None
    by_known true e = absurd (cc)
    by_known false e = absurd (cc)

    by_line : (r : Result (P3 × List ℕ) Cause) → entered (string_cause first draft) r ≢ None
    by_line (Err cause) e = absurd (cc)
    by_line (Ok line) e = by_known (list_all (λ id. is_some (vector_of draft.world.set id)) line.1) (sym (string_cause-whole first draft line whole) ∙ e)

abbrev Kept : Option Whole → History → Type 0
Kept whole lines = MatchOption whole (AreNone lines) (λ w. AreWhole w lines)

-- whether it is the first frame shows in whether a frame was whole
pub is_first_frame-kept : (whole : Option Whole) (lines : History) (text : List ℕ) → Kept whole lines → frame_cause (is_none whole) (draft_of lines) text ≡ None → is_first_frame lines ≡ is_none whole
is_first_frame-kept None lines text k right = k.first
is_first_frame-kept (Some w) lines text k right = by_first (is_first_frame lines) refl
  where
    by_first : (b : Bool) → is_first_frame lines ≡ b → b ≡ false
    by_first true e = absurd (frame_cause-whole false (draft_of lines) text (k.later e) right)
    by_first false e = refl

-- the judgement does not depend on it where the frame is whole
pub frame_cause-kept : (whole : Option Whole) (lines : History) (text : List ℕ) → Kept whole lines → frame_cause (is_first_frame lines) (draft_of lines) text ≡ frame_cause (is_none whole) (draft_of lines) text
frame_cause-kept None lines text k = ap (λ b. frame_cause b (draft_of lines) text) k.first
frame_cause-kept (Some w) lines text k = by_first (is_first_frame lines) refl
  where
    by_line : (r : Result (P3 × List ℕ) Cause) → length (draft_of lines).world.positions ≡ (draft_of lines).count → entered (string_cause true (draft_of lines)) r ≡ entered (string_cause false (draft_of lines)) r
    by_line (Err cause) whole = refl
    by_line (Ok line) whole = string_cause-whole true (draft_of lines) line whole ∙ sym (string_cause-whole false (draft_of lines) line whole)

    by_first : (b : Bool) → is_first_frame lines ≡ b → frame_cause b (draft_of lines) text ≡ frame_cause false (draft_of lines) text
    by_first true e = by_line (frame_line text) (k.later e)
    by_first false e = refl

module _ (old new : Frames) (lines : History) (line text : List ℕ) (bytes : ℕ) (e : meaning_of line ≡ entry text) (f : AreFrames old lines) (owned : owner_of lines ≡ Command Mcs)
    (right : frame_cause (is_none old.whole) (standing old.lines) text ≡ None) (taken : TakesLine text bytes old new) (count : bytes_in (line ∷ lines) ≡ bytes) where
  abbrev more : History
  more = line ∷ lines

  first : is_first_frame lines ≡ is_none old.whole
  first = is_first_frame-kept old.whole lines text f.whole (ap (λ d. frame_cause (is_none old.whole) d text) (sym f.draft) ∙ right)

  draft : standing new.lines ≡ draft_of more
  draft = taken.frame ∙ (ap (λ d. taken_line (is_none old.whole) d text) f.draft ∙ sym (draft_of-taken line lines text e f.begun owned (is_none old.whole) first))

  completes-new : (b : Bool) → is_complete (standing new.lines) ≡ b → completes line lines ≡ b
  completes-new b c = completes-line line lines text e f.begun owned ∙ (ap is_complete (sym draft) ∙ c)

  module _ (part : is_complete (standing new.lines) ≡ false) where
    no_more : completes line lines ≡ false
    no_more = completes-new false part

    last_same : last_whole more ≡ last_whole lines
    last_same = ap (λ b. cond b more (last_whole lines)) no_more

    frames_same : frames_of more ≡ frames_of lines
    frames_same = ap (λ b. cond b (frames_of lines + 1) (frames_of lines)) no_more

    first_same : first_positions more ≡ first_positions lines
    first_same = ap (λ b. cond ((frames_of lines == 0) && b) (positions_of more) (first_positions lines)) no_more ∙ by_test (frames_of lines == 0)
      where
        by_test : (t : Bool) → cond (t && false) (positions_of more) (first_positions lines) ≡ first_positions lines
        by_test true = refl
        by_test false = refl

    part_whole : (whole : Option Whole) → is_first_frame lines ≡ is_none whole → Kept whole lines → Kept whole more
    part_whole None is k = record { none = frames_same ∙ k.none; part = ap is_complete (sym draft) ∙ part; first = is_first_frame-same line lines (entry text) e refl ∙ k.first }
    part_whole (Some w) is k = record {
      frames = k.frames ∙ sym frames_same;
      some = λ z. k.some (sym frames_same ∙ z);
      first = k.first ∙ sym first_same;
      mcs = k.mcs ∙ ap mcs_of (sym last_same);
      kept = k.kept ∙ ap bytes_in (sym last_same);
      world = ap draft_of last_same ∙ (k.world ∙ ap (λ d. at_whole d w) (sym (draft_of-taken line lines text e f.begun owned false is)));
      later = λ h. let other = sym h ∙ (is_first_frame-same line lines (entry text) e refl ∙ is) in absurd (cc);
    }

  module _ (whole : is_complete (standing new.lines) ≡ true) where
    one_more : completes line lines ≡ true
    one_more = completes-new true whole

    last_here : last_whole more ≡ more
    last_here = ap (λ b. cond b more (last_whole lines)) one_more

    frames_more : frames_of more ≡ frames_of lines + 1
    frames_more = ap (λ b. cond b (frames_of lines + 1) (frames_of lines)) one_more

    first_more : first_positions more ≡ cond ((frames_of lines == 0) && true) (positions_of more) (first_positions lines)
    first_more = ap (λ b. cond ((frames_of lines == 0) && b) (positions_of more) (first_positions lines)) one_more

    here : (w : Whole) (n : ℕ) → w.frames ≡ n + 1 → frames_of lines ≡ n → w.first.items ≡ first_positions more → w.last.items ≡ new.lines.positions.items → w.mcs ≡ new.mcs → w.kept ≡ bytes
        → w.bonds ≡ new.lines.builder.world.bonds → AreWhole w more
    here w n frames before first last time size bonds = record {
      frames = frames ∙ (ap (λ k. k + 1) (sym before) ∙ sym frames_more);
      some = λ z. absurd (omega (arith, frames_more));
      first = first;
      mcs = time ∙ (taken.mcs ∙ (f.mcs ∙ (sym (mcs_of-line line lines (entry text) e) ∙ ap mcs_of (sym last_here))));
      kept = size ∙ (sym count ∙ ap bytes_in (sym last_here));
      world = ap draft_of last_here
          ∙ (ap (λ ps. with_bonds (with_positions (draft_of more) ps) (draft_of more).world.bonds) (sym (last ∙ ap (λ (d : Draft). d.world.positions) draft))
          ∙ ap (with_bonds (with_positions (draft_of more) w.last.items)) (sym (bonds ∙ ap (λ (d : Draft). d.world.bonds) draft)));
      later = λ h. complete-count _ _ (ap is_complete (sym draft) ∙ whole);
    }

    whole_kept : (before after : Option Whole) → Kept before lines → KeepsFrame bytes new before after → Kept after more
    whole_kept before None k w = absurd w
    whole_kept None (Some w) k h =
        here w 0 h.4 k.none
        (h.0 ∙ (ap (λ (d : Draft). d.world.positions) draft ∙ sym (first_more ∙ ap (λ n. cond ((n == 0) && true) (positions_of more) (first_positions lines)) k.none)))
        h.1 h.2 h.3 h.5
    whole_kept (Some o) (Some w) k h =
        here w o.frames h.4 (sym k.frames)
        (h.0 ∙ (k.first ∙ sym (first_more ∙ ap (λ b. cond (b && true) (positions_of more) (first_positions lines)) (complete-not (frames_of lines) k.some))))
        h.1 h.2 h.3 h.5

  pub AreFrames-taken : AreFrames new (line ∷ lines)
  AreFrames-taken = record {
    begun = has_begun-more line lines f.begun;
    draft = draft;
    mcs = taken.mcs ∙ (f.mcs ∙ sym (mcs_of-line line lines (entry text) e));
    owner = ap follows_header (owner_of-line line lines (entry text) e) ∙ f.owner;
    between = λ o. absurd (let no_change = sym (ap owns_changes (owner_of-line line lines (entry text) e ∙ owned)) ∙ o in cc);
    whole = by_complete (is_complete (standing new.lines)) refl;
  }
    where
      by_complete : (b : Bool) → is_complete (standing new.lines) ≡ b → Kept new.whole more
      by_complete true c = whole_kept c old.whole new.whole f.whole (taken.whole.whole c)
      by_complete false c = subst (λ w. Kept w more) (sym (taken.whole.part c)) (part_whole c old.whole first f.whole)
