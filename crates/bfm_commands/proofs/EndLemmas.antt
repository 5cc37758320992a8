-- What a reader answers at the end.
use Rattle.std.proofs.Common.{◌≡◌, ◌≢◌, ℕ, ◌+◌, ◌≤◌, Bool, true, false, cond, List, [], ◌∷◌, length, Option, None, Some, MatchOption, option_map, Ok, Err, IfSome, IfOk, refl, ap, sym, ◌∙◌, subst, arith}
use Rattle.std.specs.Prelude.{◌==◌}
use Rattle.std.specs.Option.{ok_or}
use Rattle.std.proofs.lemmas.Bool.Decides.{nat_tests}
use Rattle.bfm_base.specs.declared.cause.Cause.TheVariants.{NoFrame}
use Rattle.bfm_base.specs.declared.place.P3.{P3}
use Rattle.bfm_world.specs.Configuration.{Configuration}
use Rattle.bfm_world.specs.Draft.{Draft}
use Rattle.bfm_commands.specs.History.{History, last_whole, frames_of, completes, draft_of, first_positions, mcs_of, skipped_of}
use Rattle.bfm_commands.specs.Verdict.{history_of, bytes_in, whole_of, whole_or, verdict_of, loaded_of}
use Rattle.bfm_commands.specs.Reading.{loaded_by, at_whole, AreNone, AreWhole, AreFrames, Follows, Ends, stop_of}
use Rattle.bfm_commands.specs.declared.fault.LineFault.TheVariants as faults
use Rattle.bfm_commands.specs.declared.loaded.Loaded.{Loaded}
use Rattle.bfm_commands.specs.declared.frames.Frames.{Frames}
use Rattle.bfm_commands.specs.declared.frames.Whole.{Whole}
use Rattle.bfm_commands.specs.declared.progress.Progress.{Progress}
use Rattle.bfm_commands.proofs.HistoryLemmas.{frames_of-none}
use Rattle.bfm_commands.proofs.ProgressLemmas.{bytes_in-history}
use Rattle.bfm_commands.proofs.StepLemmas.{stage-none, stage-some}

-- no more bytes are kept than there are
last_whole-fewer : (lines : History) → bytes_in (last_whole lines) ≤ bytes_in lines
last_whole-fewer [] = omega arith
last_whole-fewer (line ∷ lines) = by_test (completes line lines) (last_whole-fewer lines)
  where
    by_test : (b : Bool) → bytes_in (last_whole lines) ≤ bytes_in lines → bytes_in (cond b (line ∷ lines) (last_whole lines)) ≤ bytes_in (line ∷ lines)
    by_test true l = omega arith
    by_test false l = omega (arith, l)

abbrev by_fields : Configuration → List P3 → ℕ → ℕ → ℕ → ℕ → ℕ → Loaded
by_fields world first mcs frames kept total skipped = record { world = world; first = first; mcs = mcs; frames = frames; kept = kept; total = total; skipped = skipped }

module _ (progress : Progress) (bytes : List ℕ) (f : Follows progress bytes) (fed : progress.fed ≡ length bytes) where
  verdict-whole : verdict_of bytes ≡ whole_of (length bytes) (history_of bytes)
  verdict-whole = ap (whole_or (length bytes) (history_of bytes)) f.right

  -- no frame is whole
  pub Ends-none : frames_of (history_of bytes) ≡ 0 → Ends (Err (stop_of progress.lines (faults.Refused NoFrame))) (verdict_of bytes)
  Ends-none none =
      verdict-whole
      ∙ (ap (λ n. cond (n == 0) (Err (record { line = length (history_of bytes) + 1; cause = NoFrame })) (Ok (loaded_of (length bytes) (history_of bytes)))) none
      ∙ ap (λ n. Err (record { line = n + 1; cause = NoFrame })) (sym f.lines))

  pub Ends-header : progress.summary.frames ≡ None → Ends (Err (stop_of progress.lines (faults.Refused NoFrame))) (verdict_of bytes)
  Ends-header none = Ends-none (frames_of-none (history_of bytes) (stage-none progress.summary (history_of bytes) f.sums none).none)

  module _ (frames : Frames) (some : progress.summary.frames ≡ Some frames) where
    a : AreFrames frames (history_of bytes)
    a = stage-some progress.summary (history_of bytes) f.sums frames some

    Ends-whole : (o : Option Whole) → MatchOption o (AreNone (history_of bytes)) (λ w. AreWhole w (history_of bytes))
        → Ends (ok_or (option_map (loaded_by frames.lines.builder progress.fed progress.summary.skipped) o) (stop_of progress.lines (faults.Refused NoFrame))) (verdict_of bytes)
    Ends-whole None k = Ends-none k.none
    Ends-whole (Some w) k =
        let lines = history_of bytes in
        let last : (draft_of (last_whole lines)).world ≡ (at_whole frames.lines.builder w).world =
        ap (λ (d : Draft). d.world) (k.world ∙ ap (λ d. at_whole d w) (sym a.draft)) in
        let some_frame : (frames_of lines == 0) ≡ false = not_zero (frames_of lines) k.some in
        verdict-whole
        ∙ (ap (λ b. cond b (Err (record { line = length lines + 1; cause = NoFrame })) (Ok (loaded_of (length bytes) lines))) some_frame
        ∙ ap Ok (ap (λ (world : Configuration). by_fields world (first_positions lines) (mcs_of (last_whole lines)) (frames_of lines) (bytes_in (last_whole lines)) (length bytes) (skipped_of lines)) last
        ∙ rw (k.first, k.mcs, k.kept, k.frames, fed, f.sums.skipped) refl))
      where
        not_zero : (n : ℕ) → n ≢ 0 → (n == 0) ≡ false
        not_zero n other = grind (arith, nat_tests)

    pub Ends-frames : (result : Option Loaded) → result ≡ option_map (loaded_by frames.lines.builder progress.fed progress.summary.skipped) frames.whole
        → Ends (ok_or result (stop_of progress.lines (faults.Refused NoFrame))) (verdict_of bytes)
    Ends-frames result is = subst (λ o. Ends (ok_or o (stop_of progress.lines (faults.Refused NoFrame))) (verdict_of bytes)) (sym is) (Ends-whole frames.whole a.whole)

    pub kept-fewer : (result : Option Loaded) → result ≡ option_map (loaded_by frames.lines.builder progress.fed progress.summary.skipped) frames.whole → IfSome result (λ loaded. loaded.kept ≤ length bytes)
    kept-fewer result is = subst (λ o. IfSome o (λ loaded. loaded.kept ≤ length bytes)) (sym is) (by_whole frames.whole a.whole)
      where
        by_whole : (o : Option Whole) → MatchOption o (AreNone (history_of bytes)) (λ w. AreWhole w (history_of bytes))
            → IfSome (option_map (loaded_by frames.lines.builder progress.fed progress.summary.skipped) o) (λ loaded. loaded.kept ≤ length bytes)
        by_whole None k = tt
        by_whole (Some w) k = omega (arith, k.kept, last_whole-fewer (history_of bytes), bytes_in-history bytes)

pub IfOk-ok_or : {A E : Type 0} (o : Option A) (e : E) (P : A → Type 0) → IfSome o P → IfOk (ok_or o e) P
IfOk-ok_or None e P h = tt
IfOk-ok_or (Some a) e P h = h
