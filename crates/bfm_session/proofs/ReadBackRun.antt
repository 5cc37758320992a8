-- The groups that a run writes behind an accepted file, which ends with its last whole frame, are read back as its next frames.
use Rattle.std.proofs.Common.{◌≡◌, ℕ, zero, suc, ◌+◌, ◌*◌, ◌^◌, ◌≤◌, List, [], ◌++◌, length, Ok, refl, sym, ap, ◌∙◌, append_assoc, append-nil, arith}
use Rattle.std.proofs.Math.Nat.{mul-le-mul_left, mul-le-mul_right}
use Rattle.bfm_world.specs.Configuration.{IsValid, reach_of}
use Rattle.bfm_writer.specs.Text.{group_text}
use Rattle.sweep_run.specs.Sweep.{Progress, after_sweeps, begun_with, cleared}
use Rattle.sweep_run.proofs.SweepLemmas.{after_sweeps-add}
use Rattle.bfm_commands.specs.Verdict.{verdict_of}
use Rattle.bfm_commands.specs.declared.loaded.Loaded.{Loaded}
use Rattle.bfm_session.specs.Running.{after_frames, at_next_frame, groups_text}
use Rattle.bfm_session.specs.declared.order.RunOrder.{RunOrder}
use Rattle.bfm_session.proofs.GoingOnLemmas.{after_sweeps-cleared}
use Rattle.bfm_session.proofs.ReadBackGroup.{verdict_of-group}
use Rattle.bfm_session.proofs.ReadBackFile.{HoldsAll-verdict}
use Rattle.bfm_session.proofs.ReadBackSweeps.{grown_sweeps, IsMoved-sweeps}

-- what the file gives with the groups of so many frames of a run
abbrev pub with_groups : Loaded → RunOrder → ℕ → ℕ → Loaded
with_groups loaded order frames total = record {
  world = (after_frames order loaded.mcs frames (begun_with loaded.world)).world;
  first = loaded.first;
  mcs = loaded.mcs + frames * order.every;
  frames = loaded.frames + frames;
  kept = total;
  total = total;
  skipped = loaded.skipped;
}

-- one more round of sweeps
pub after_round : (order : RunOrder) (mcs frames : ℕ) (start : Progress) → after_frames order mcs (suc frames) start
    ≡ after_sweeps order.linking order.seed (mcs + frames * order.every) order.every (after_frames order mcs frames start)
after_round order mcs frames start =
    let same : suc frames * order.every ≡ frames * order.every + order.every = omega arith in
    ap (λ count. after_sweeps order.linking order.seed mcs count start) same ∙ after_sweeps-add order.linking order.seed mcs (frames * order.every) order.every start

-- the next frame is that of the run, but for the log
pub at_next_frame-cleared : (order : RunOrder) (mcs frames : ℕ) (start : Progress) → cleared (at_next_frame order mcs frames start) ≡ cleared (after_frames order mcs (suc frames) start)
at_next_frame-cleared order mcs frames start =
    after_sweeps-cleared order.linking order.seed (mcs + frames * order.every) order.every (after_frames order mcs frames start)
    ∙ ap cleared (sym (after_round order mcs frames start))

module _ (bytes : List ℕ) (loaded : Loaded) (verdict : verdict_of bytes ≡ Ok loaded) (kept : loaded.kept ≡ length bytes) (ok : IsValid loaded.world) (order : RunOrder) where
  abbrev start : Progress
  start = begun_with loaded.world

  abbrev groups : ℕ → List ℕ
  groups frames = groups_text order loaded.mcs frames (begun_with loaded.world)

  no_groups : verdict_of (bytes ++ []) ≡ Ok (with_groups loaded order 0 (length (bytes ++ [])))
  no_groups =
      let total = (HoldsAll-verdict bytes loaded verdict kept).total in
      let none : 0 ≡ 0 * order.every = omega arith in
      let mcs : loaded.mcs ≡ loaded.mcs + 0 * order.every = omega arith in
      let frames : loaded.frames ≡ loaded.frames + 0 = omega arith in
      let size : length bytes ≡ length (bytes ++ []) = ap length (sym (append-nil bytes)) in
      let world : loaded.world ≡ (after_frames order loaded.mcs 0 start).world = ap (λ count. (after_sweeps order.linking order.seed loaded.mcs count start).world) none in
      let part = kept ∙ size in
      let all = total ∙ size in
      ap verdict_of (append-nil bytes)
      ∙ (verdict ∙ (λ i. Ok (record { world = world i; first = loaded.first; mcs = mcs i; frames = frames i; kept = part i; total = all i; skipped = loaded.skipped })))

  -- The file with the groups of a run is accepted, and gives the world that the run came to.
  pub verdict_of-groups : (frames : ℕ) → reach_of loaded.world.positions + length loaded.world.positions * (frames * order.every) ≤ 2 ^ 44 → loaded.mcs + frames * order.every ≤ 2 ^ 40
      → verdict_of (bytes ++ groups_text order loaded.mcs frames (begun_with loaded.world))
      ≡ Ok (with_groups loaded order frames (length (bytes ++ groups_text order loaded.mcs frames (begun_with loaded.world))))
  verdict_of-groups zero near early = no_groups
  verdict_of-groups (suc frames) near early =
      let before = bytes ++ groups frames in
      let old = with_groups loaded order frames (length before) in
      let now = after_frames order loaded.mcs frames start in
      let next = at_next_frame order loaded.mcs frames start in
      let mcs = loaded.mcs + suc frames * order.every in
      let n = length loaded.world.positions in
      let fewer : frames * order.every ≤ suc frames * order.every = mul-le-mul_right order.every (omega arith) in
      let nearer : n * (frames * order.every) ≤ n * (suc frames * order.every) = mul-le-mul_left n fewer in
      let far : n * (suc frames * order.every) ≡ n * (frames * order.every) + n * order.every = omega arith in
      let read = verdict_of-groups frames (omega (arith, near, nearer)) (omega (arith, early, fewer)) in
      let past = grown_sweeps order.linking n order.seed loaded.mcs (frames * order.every) start refl ok in
      let more = grown_sweeps order.linking n order.seed (loaded.mcs + frames * order.every) order.every (cleared now) (sym past.size) past.valid in
      let moved = IsMoved-sweeps order.linking order.seed (loaded.mcs + frames * order.every) order.every now past.valid in
      let group = group_text next.world mcs next.log in
      let one = verdict_of-group before old read refl next.world next.log moved (omega (arith, near, far, past.near, more.near)) mcs (omega (arith, fewer)) early in
      let same : before ++ group ≡ bytes ++ groups (suc frames) = append_assoc bytes (groups frames) group in
      let world : next.world ≡ (after_frames order loaded.mcs (suc frames) start).world = ap (λ (r : Progress). r.world) (at_next_frame-cleared order loaded.mcs frames start) in
      let count : loaded.frames + frames + 1 ≡ loaded.frames + suc frames = omega arith in
      ap verdict_of (sym same)
      ∙ (one
      ∙ (λ i. Ok (record { world = world i; first = loaded.first; mcs = mcs; frames = count i; kept = length (same i); total = length (same i); skipped = loaded.skipped })))
