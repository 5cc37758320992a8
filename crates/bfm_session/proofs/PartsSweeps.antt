-- Sweeps and groups of a run in two parts.
use Rattle.std.proofs.Common.{◌≡◌, ℕ, zero, suc, ◌+◌, ◌*◌, ◌++◌, refl, sym, ap, ◌∙◌, append_assoc, append-nil, arith}
use Rattle.bfm_writer.specs.Text.{group_text}
use Rattle.sweep_run.specs.Sweep.{Progress, after_sweeps, begun_with, cleared}
use Rattle.sweep_run.proofs.SweepLemmas.{after_sweeps-add}
use Rattle.bfm_session.specs.Parts.{with_frames}
use Rattle.bfm_session.specs.Running.{after_frames, at_next_frame, groups_text}
use Rattle.bfm_session.specs.declared.order.RunOrder.{RunOrder}
use Rattle.bfm_session.proofs.GoingOnLemmas.{behind, after_sweeps-behind, after_sweeps-begun}

-- how many frames an order wants says nothing of the groups
pub groups_text-frames : (order : RunOrder) (wanted mcs frames : ℕ) (start : Progress) → groups_text (with_frames order wanted) mcs frames start ≡ groups_text order mcs frames start
groups_text-frames order wanted mcs zero start = refl
groups_text-frames order wanted mcs (suc frames) start =
    let now = at_next_frame order mcs frames start in
    ap (λ l. l ++ group_text now.world (mcs + suc frames * order.every) now.log) (groups_text-frames order wanted mcs frames start)

module _ (order : RunOrder) (mcs f : ℕ) (start : Progress) where
  -- where the first part ends, and the time then
  abbrev middle : Progress
  middle = after_frames order mcs f start

  abbrev later : ℕ
  later = mcs + f * order.every

  -- where the second part begins, and where it stands after so many frames
  abbrev again : Progress
  again = begun_with (after_frames order mcs f start).world

  abbrev second : ℕ → Progress
  second g = after_frames order (mcs + f * order.every) g (begun_with (after_frames order mcs f start).world)

  -- the run after the second part
  pub last_of-parts : (g : ℕ) → after_frames order mcs (f + g) start ≡ behind middle (after_frames order (mcs + f * order.every) g (begun_with middle.world))
  last_of-parts g =
      let same : (f + g) * order.every ≡ f * order.every + g * order.every = omega arith in
      ap (λ n. after_sweeps order.linking order.seed mcs n start) same
      ∙ (after_sweeps-add order.linking order.seed mcs (f * order.every) (g * order.every) start ∙ after_sweeps-begun order.linking order.seed later (g * order.every) middle)

  -- one more frame of it
  next_of-parts : (g : ℕ) → at_next_frame order mcs (f + g) start ≡ behind (cleared middle) (at_next_frame order later g again)
  next_of-parts g =
      let time : mcs + (f + g) * order.every ≡ later + g * order.every = omega arith in
      ap (λ t. after_sweeps order.linking order.seed t order.every (cleared (after_frames order mcs (f + g) start))) time
      ∙ (ap (λ r. after_sweeps order.linking order.seed (later + g * order.every) order.every (cleared r)) (last_of-parts g)
      ∙ after_sweeps-behind order.linking order.seed (later + g * order.every) order.every (cleared middle) (cleared (second g)))

  -- The groups of a run are those of its first part and then those of its second part.
  pub groups_text-parts : (g : ℕ) → groups_text order mcs (f + g) start ≡ groups_text order mcs f start ++ groups_text order (mcs + f * order.every) g (begun_with middle.world)
  groups_text-parts zero =
      let none : f + 0 ≡ f = omega arith in
      ap (λ n. groups_text order mcs n start) none ∙ sym (append-nil (groups_text order mcs f start))
  groups_text-parts (suc g) =
      let front = groups_text order mcs f start in
      let back = groups_text order later g again in
      let now = at_next_frame order mcs (f + g) start in
      let next = at_next_frame order later g again in
      let one : f + suc g ≡ suc (f + g) = omega arith in
      let time : mcs + suc (f + g) * order.every ≡ later + suc g * order.every = omega arith in
      ap (λ n. groups_text order mcs n start) one
      ∙ (ap (λ l. l ++ group_text now.world (mcs + suc (f + g) * order.every) now.log) (groups_text-parts g)
      ∙ (ap (λ (r : Progress). (front ++ back) ++ group_text r.world (mcs + suc (f + g) * order.every) r.log) (next_of-parts g)
      ∙ (ap (λ m. (front ++ back) ++ group_text next.world m next.log) time
      ∙ append_assoc front back (group_text next.world (later + suc g * order.every) next.log))))
