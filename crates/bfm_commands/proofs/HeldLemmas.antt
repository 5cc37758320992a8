-- What a reader holds is what the bytes that it was fed leave to hold, and it is not too much.
use Rattle.std.proofs.Common.{◌≡◌, ℕ, ◌+◌, ◌≤◌, Bool, true, false, cond, ◌&&◌, List, [], ◌∷◌, length, Option, None, Some, MatchOption, refl, ap, sym, ◌∙◌, arith, length-append}
use Rattle.std.specs.Prelude.{◌==◌}
use Rattle.bfm_base.specs.declared.limits.TheConstants.{GREATEST_LIMIT}
use Rattle.bfm_world.specs.Draft.{Draft}
use Rattle.bfm_commands.specs.Forms.{pair_entry}
use Rattle.bfm_commands.specs.History.{History, owner_of, entry_of, given_in, with_listed, pairs_of, positions_of, draft_of, completes, last_whole, frames_of, first_positions}
use Rattle.bfm_commands.specs.Meaning.{meaning_of}
use Rattle.bfm_commands.specs.Verdict.{history_of}
use Rattle.bfm_commands.specs.Held.{pair_count, whole_places, present_places, places_held, whole_held, frames_held, stage_held, IsFew}
use Rattle.bfm_commands.specs.Reading.{AreNone, AreWhole, AreFrames, IsBeforeFrames, Sums}
use Rattle.bfm_commands.specs.declared.commands.Known.TheVariants.{Bonds}
use Rattle.bfm_commands.specs.declared.frames.Whole.{Whole}
use Rattle.bfm_commands.specs.declared.frames.Frames.{Frames}
use Rattle.bfm_commands.specs.declared.summary.Summary.{Summary}
use Rattle.bfm_commands.proofs.ProgressLemmas.{bytes_in-history, length-history}

-- without a whole frame nothing is kept of one
none_whole : (lines : History) → frames_of lines ≡ 0 → (first_positions lines ≡ []) × (last_whole lines ≡ [])
none_whole [] e = (refl, refl)
none_whole (line ∷ lines) e = by_test (completes line lines) e (none_whole lines)
  where
    first : (t : Bool) → cond (t && false) (positions_of (line ∷ lines)) (first_positions lines) ≡ first_positions lines
    first true = refl
    first false = refl

    by_test : (b : Bool) → cond b (frames_of lines + 1) (frames_of lines) ≡ 0
        → (frames_of lines ≡ 0 → (first_positions lines ≡ []) × (last_whole lines ≡ []))
        → (cond ((frames_of lines == 0) && b) (positions_of (line ∷ lines)) (first_positions lines) ≡ []) × (cond b (line ∷ lines) (last_whole lines) ≡ [])
    by_test true h others = absurd (omega (arith, h))
    by_test false h others = (first (frames_of lines == 0) ∙ (others h).0, (others h).1)

whole_held-places : (o : Option Whole) (lines : History) → MatchOption o (AreNone lines) (λ w. AreWhole w lines) → whole_held o ≡ whole_places lines
whole_held-places None lines k = let n = none_whole lines k.none in rw (n.0, n.1) refl
whole_held-places (Some w) lines k =
    ap (λ (d : Draft). length w.first.items + length d.world.positions + pair_count d.world.bonds) (sym k.world)
    ∙ ap (λ l. let d = draft_of (last_whole lines) in length l + length d.world.positions + pair_count d.world.bonds) k.first

frames_held-places : (f : Frames) (lines : History) → AreFrames f lines → frames_held f ≡ places_held lines
frames_held-places f lines a =
    ap (λ (d : Draft). length d.world.positions + pair_count d.world.bonds + whole_held f.whole) a.draft
    ∙ ap (λ n. present_places lines + n) (whole_held-places f.whole lines a.whole)
    ∙ sym (ap (λ b. cond b (present_places lines + whole_places lines) (length (pairs_of lines))) a.begun)

-- each pair that is listed has a line
pairs_of-few : (lines : History) → length (pairs_of lines) ≤ length lines
pairs_of-few [] = omega arith
pairs_of-few (line ∷ lines) = by_given (given_in pair_entry (entry_of Bonds (owner_of lines) (meaning_of line))) (pairs_of-few lines)
  where
    by_given : (o : Option (ℕ × ℕ)) → length (pairs_of lines) ≤ length lines → length (with_listed (pairs_of lines) o) ≤ length (line ∷ lines)
    by_given None few = omega (arith, few)
    by_given (Some pair) few = omega (arith, few, length-append (pairs_of lines) (pair ∷ []))

module _ (s : Summary) (bytes : List ℕ) (sums : Sums s (history_of bytes)) where
  pub stage_held-places : stage_held s.header s.frames ≡ places_held (history_of bytes)
  stage_held-places = by_stage s.frames sums.stage
    where
      by_stage : (o : Option Frames) → MatchOption o (IsBeforeFrames s.header (history_of bytes)) (λ f. AreFrames f (history_of bytes))
          → stage_held s.header o ≡ places_held (history_of bytes)
      by_stage None b =
          ap length b.gives.pairs
          ∙ sym (ap (λ t. cond t (present_places (history_of bytes) + whole_places (history_of bytes)) (length (pairs_of (history_of bytes)))) b.none)
      by_stage (Some f) a = frames_held-places f (history_of bytes) a

  -- it is counted without going past the greatest number
  pub held-fits : (held : ℕ) → held ≡ stage_held s.header s.frames → MatchOption s.frames (Unit {0}) (λ f. IsFew f held) → length bytes ≤ GREATEST_LIMIT → held ≤ GREATEST_LIMIT
  held-fits held is few l = by_stage s.frames is sums.stage few
    where
      by_stage : (o : Option Frames) → held ≡ stage_held s.header o → MatchOption o (IsBeforeFrames s.header (history_of bytes)) (λ f. AreFrames f (history_of bytes))
          → MatchOption o (Unit {0}) (λ f. IsFew f held) → held ≤ GREATEST_LIMIT
      by_stage None e b few =
          omega (arith, e, ap length b.gives.pairs, pairs_of-few (history_of bytes), length-history (history_of bytes), bytes_in-history bytes, l)
      by_stage (Some f) e a few = omega (arith, few.each, few.most)
