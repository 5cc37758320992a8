-- The causes of command lines, before the first frame and once one has begun.
use Rattle.std.proofs.Common.{◌≡◌, ℕ, Bool, true, false, not, cond, List, Option, None, Some, Result, Ok, Err, nat_lt, refl, ap, sym, ◌∙◌}
use Rattle.bfm_base.specs.declared.cause.Cause.{Cause}
use Rattle.bfm_base.specs.declared.cause.Cause.TheVariants.{BadLine, FrameShort, Misplaced, McsOrder, Unbuilt}
use Rattle.bfm_base.specs.declared.limits.TheConstants.{GREATEST_MCS}
use Rattle.bfm_lexer.specs.Kinds.{is_bare}
use Rattle.bfm_commands.specs.Forms.{value_of}
use Rattle.bfm_commands.specs.History.{History, has_begun, given_of, stands, mcs_of}
use Rattle.bfm_commands.specs.Causes.{known_cause, is_cut_short}
use Rattle.bfm_commands.specs.Reading.{value_fault, list_fault, begin_fault, next_fault, is_complete, standing, IsHeader, AreFrames}
use Rattle.bfm_commands.specs.declared.commands.Known.{Known}
use Rattle.bfm_commands.specs.declared.commands.Known.TheVariants.{Mcs}
use Rattle.bfm_commands.specs.declared.role.Role.TheVariants as roles
use Rattle.bfm_commands.specs.declared.header.Header.{Header}
use Rattle.bfm_commands.specs.declared.frames.Frames.{Frames}
use Rattle.bfm_commands.proofs.ValueLemmas.{ill_formed, out_of_range, right, value_of-read, natural_in-value}

-- what is left to judge of a line whose value is right
abbrev pub behind_value : Result ℕ Cause → (ℕ → Option Cause) → Option Cause
behind_value (Err cause) later = Some cause
behind_value (Ok v) later = later v

-- a header command where a frame has begun
abbrev pub behind_frame : Bool → Cause → Option Cause
behind_frame cut cause = Some (cond cut FrameShort cause)

behind_short : (cut : Bool) (cause : Cause) → cond cut (Some FrameShort) (Some cause) ≡ behind_frame cut cause
behind_short true cause = refl
behind_short false cause = refl

module _ (lines : History) (known : Known) (rest : List ℕ) where
  pub known_cause-value : (l g : ℕ) → has_begun lines ≡ false → known_cause lines known (roles.Value l g) rest ≡ value_fault (value_of rest l g) (stands known (given_of lines))
  known_cause-value l g none =
      elim (value_of-read rest l g) [
        | ill_formed i r ↦ rw (i, r) refl
        | out_of_range i o r ↦ rw (i, o, r) refl
        | right v i o r ↦ rw (i, o, r, none) refl
      ]

  pub known_cause-list : has_begun lines ≡ false → known_cause lines known roles.List rest ≡ list_fault (is_bare rest) (stands known (given_of lines))
  known_cause-list none = rw none refl

  pub known_cause-late_value : (l g : ℕ) → has_begun lines ≡ true → known_cause lines known (roles.Value l g) rest ≡ behind_value (value_of rest l g) (λ v. behind_frame (is_cut_short lines) Misplaced)
  known_cause-late_value l g begun =
      elim (value_of-read rest l g) [
        | ill_formed i r ↦ rw (i, r) refl
        | out_of_range i o r ↦ rw (i, o, r) refl
        | right v i o r ↦ rw (i, o, r, begun) (behind_short _ Misplaced)
      ]

  pub known_cause-late_list : has_begun lines ≡ true → known_cause lines known roles.List rest ≡ cond (not (is_bare rest)) (Some BadLine) (behind_frame (is_cut_short lines) Misplaced)
  known_cause-late_list begun = rw begun (ap (cond (not (is_bare rest)) (Some BadLine)) (behind_short _ Misplaced))

  -- a command after which entries change the bonds
  pub known_cause-early_change : has_begun lines ≡ false → known_cause lines known roles.Change rest ≡ cond (not (is_bare rest)) (Some BadLine) (Some Misplaced)
  known_cause-early_change none = rw none refl

  pub known_cause-change : has_begun lines ≡ true → known_cause lines known roles.Change rest ≡ cond (not (is_bare rest)) (Some BadLine) (cond (is_cut_short lines) (Some FrameShort) None)
  known_cause-change begun = rw begun refl

  pub known_cause-unbuilt : known_cause lines known roles.Unbuilt rest ≡ behind_frame (is_cut_short lines) Unbuilt
  known_cause-unbuilt = behind_short _ Unbuilt

-- the line that ends the header
pub known_cause-first : (lines : History) (rest : List ℕ) (header : Header) → has_begun lines ≡ false → IsHeader header lines
    → known_cause lines Mcs roles.Frame rest ≡ behind_value (value_of rest 0 GREATEST_MCS) (λ v. begin_fault header)
known_cause-first lines rest header none h =
    elim (value_of-read rest 0 GREATEST_MCS) [
      | ill_formed i r ↦ rw (i, r) refl
      | out_of_range i o r ↦ rw (i, o, r) refl
      | right v i o r ↦ rw (i, o, r, none, h.settings, h.set, h.pairs, h.labels, h.valences, h.fixed) refl
    ]

-- a line that begins a later frame
pub known_cause-next : (lines : History) (rest : List ℕ) (frames : Frames) → AreFrames frames lines
    → known_cause lines Mcs roles.Frame rest ≡ behind_value (value_of rest 0 GREATEST_MCS) (next_fault frames)
known_cause-next lines rest frames f =
    elim (value_of-read rest 0 GREATEST_MCS) [
      | ill_formed i r ↦ rw (i, r) refl
      | out_of_range i o r ↦ rw (i, o, r) refl
      | right v i o r ↦
          let number = natural_in-value rest 0 GREATEST_MCS v r in
          rw (i, o, r, f.begun, number) (
          ap (λ d. cond (not (is_complete d)) (Some FrameShort) (cond (nat_lt v (mcs_of lines)) (Some McsOrder) None)) (sym f.draft)
          ∙ ap (λ n. cond (not (is_complete (standing frames.lines))) (Some FrameShort) (cond (nat_lt v n) (Some McsOrder) None)) (sym f.mcs)
          )
    ]
