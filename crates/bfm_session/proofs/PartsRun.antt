-- A run in two parts writes in the end what one run writes.
use Rattle.std.proofs.Common.{◌≡◌, ℕ, ◌+◌, ◌*◌, ◌^◌, ◌≤◌, false, nat_lt, ◌||◌, List, ◌++◌, length, take, Ok, refl, sym, ap, ◌∙◌, append_assoc, arith}
use Rattle.std.proofs.lemmas.Bool.{or_parts}
use Rattle.std.proofs.lemmas.Bool.Decides.{nat_tests}
use Rattle.std.proofs.lemmas.List.{take_all}
use Rattle.bfm_world.specs.Configuration.{IsValid}
use Rattle.bfm_commands.specs.Verdict.{verdict_of}
use Rattle.bfm_commands.specs.declared.loaded.Loaded.{Loaded}
use Rattle.sweep_run.specs.Sweep.{Progress, begun_with}
use Rattle.bfm_session.specs.Running.{groups_text, is_too_far, last_mcs, last_of, last_reach, run_text}
use Rattle.bfm_session.specs.Loading.{accepted, limited_verdict, whole_verdict}
use Rattle.bfm_session.specs.Parts.{AreParts, GoesInParts, GoesOn, with_frames}
use Rattle.bfm_session.specs.declared.order.RunOrder.{RunOrder}
use Rattle.bfm_session.proofs.LimitLemmas.{limited-within}
use Rattle.bfm_session.proofs.PartsSweeps.{groups_text-frames, groups_text-parts, last_of-parts}
use Rattle.bfm_session.proofs.ReadBackFile.{Accepted-verdict}
use Rattle.bfm_session.proofs.ReadBackJob.{verdict_of-run}
use Rattle.bfm_session.proofs.ReadBackKept.{kept_loaded}
use Rattle.bfm_session.proofs.ReadBackRun.{with_groups}
use Rattle.bfm_session.proofs.ReadBackSweeps.{grown_sweeps}

-- an accepted file is accepted within each limit that it keeps
pub limited_verdict-accepted : (bytes : List ℕ) (loaded : Loaded) (limit : ℕ) → verdict_of bytes ≡ Ok loaded → length bytes ≤ limit → limited_verdict limit bytes ≡ accepted loaded
limited_verdict-accepted bytes loaded limit verdict short =
    limited-within bytes limit (record { within = short; right = (Accepted-verdict bytes loaded verdict).right }) ∙ ap whole_verdict verdict

-- a run does not come too far
record IsNear (loaded : Loaded) (order : RunOrder) : Type 0 where
  time : last_mcs loaded order ≤ 2 ^ 40
  reach : last_reach loaded order ≤ 2 ^ 44

at_most : (most n : ℕ) → nat_lt most n ≡ false → n ≤ most
at_most most n e = grind (arith, nat_tests)

near_of : (loaded : Loaded) (order : RunOrder) → is_too_far loaded order ≡ false → IsNear loaded order
near_of loaded order near =
    let limits = or_parts (nat_lt (2 ^ 40) (last_mcs loaded order)) (nat_lt (2 ^ 44) (last_reach loaded order)) near in
    record { time = at_most (2 ^ 40) (last_mcs loaded order) limits.0; reach = at_most (2 ^ 44) (last_reach loaded order) limits.1 }

not_far : (mcs reach : ℕ) → mcs ≤ 2 ^ 40 → reach ≤ 2 ^ 44 → (nat_lt (2 ^ 40) mcs || nat_lt (2 ^ 44) reach) ≡ false
not_far mcs reach early near = grind (arith, nat_tests)

near_is : (loaded : Loaded) (order : RunOrder) → IsNear loaded order → is_too_far loaded order ≡ false
near_is loaded order near = not_far (last_mcs loaded order) (last_reach loaded order) near.time near.reach

-- The output of a run of an accepted file, which does not come too far, is one from which a run can go on.
abbrev pub goes_on : (bytes : List ℕ) (loaded : Loaded) (order : RunOrder) → verdict_of bytes ≡ Ok loaded → IsValid loaded.world → is_too_far loaded order ≡ false
    → GoesOn loaded order (run_text loaded order (take loaded.kept bytes))
goes_on bytes loaded order verdict ok near = record {
  next = with_groups (kept_loaded bytes loaded) order order.frames (length (run_text loaded order (take loaded.kept bytes)));
  accepted = verdict_of-run bytes loaded order verdict ok near;
  world = refl;
  mcs = refl;
  first = refl;
  frames = refl;
  kept = refl;
}

module _ (bytes : List ℕ) (loaded : Loaded) (order : RunOrder) (verdict : verdict_of bytes ≡ Ok loaded) (ok : IsValid loaded.world) (near : is_too_far loaded order ≡ false)
    (f g : ℕ) (all : f + g ≡ order.frames) where
  abbrev first : RunOrder
  first = with_frames order f

  abbrev second : RunOrder
  second = with_frames order g

  abbrev kept : List ℕ
  kept = take loaded.kept bytes

  sweeps : f * order.every + g * order.every ≡ order.frames * order.every
  sweeps = let both : f * order.every + g * order.every ≡ (f + g) * order.every = omega arith in both ∙ ap (λ n. n * order.every) all

  attempts : length loaded.world.positions * (f * order.every) + length loaded.world.positions * (g * order.every) ≡ length loaded.world.positions * (order.frames * order.every)
  attempts =
      let n = length loaded.world.positions in
      let both : n * (f * order.every) + n * (g * order.every) ≡ n * (f * order.every + g * order.every) = omega arith in
      both ∙ ap (λ k. n * k) sweeps

  first_near : is_too_far loaded first ≡ false
  first_near =
      let far = near_of loaded order near in
      near_is loaded first (record { time = omega (arith, far.time, sweeps); reach = omega (arith, far.reach, attempts) })

  abbrev later : GoesOn loaded first (run_text loaded first kept)
  later = goes_on bytes loaded first verdict ok first_near

  second_near : is_too_far later.next second ≡ false
  second_near =
      let far = near_of loaded order near in
      let grown = grown_sweeps order.linking (length loaded.world.positions) order.seed loaded.mcs (f * order.every) (begun_with loaded.world) refl ok in
      let size : length (last_of loaded first).world.positions * (g * order.every) ≡ length loaded.world.positions * (g * order.every) = ap (λ n. n * (g * order.every)) (sym grown.size) in
      near_is later.next second (record { time = omega (arith, far.time, sweeps); reach = omega (arith, far.reach, attempts, grown.near, size) })

  -- the run in parts
  pub parts : AreParts loaded kept first second order
  parts =
      let start = begun_with loaded.world in
      let middle = begun_with (last_of loaded first).world in
      let front = groups_text-frames order f loaded.mcs f start in
      let back = groups_text-frames order g (loaded.mcs + f * order.every) g middle in
      let both = last_of-parts order loaded.mcs f start g in
      record {
        first_near = first_near;
        goes_on = later;
        second_near = second_near;
        same =
            ap (λ l. l ++ groups_text second (loaded.mcs + f * order.every) g middle) (take_all later.next.kept (run_text loaded first kept) (omega arith))
            ∙ (append_assoc kept (groups_text first loaded.mcs f start) (groups_text second (loaded.mcs + f * order.every) g middle)
            ∙ ((λ i. kept ++ (front i ++ back i))
            ∙ (ap (λ l. kept ++ l) (sym (groups_text-parts order loaded.mcs f start g))
            ∙ ap (λ n. kept ++ groups_text order loaded.mcs n start) all)));
        time = omega (arith, sweeps);
        moves = ap (λ (r : Progress). r.tally.accepted) (sym both) ∙ ap (λ n. (last_of loaded (with_frames order n)).tally.accepted) all;
        links = ap (λ (r : Progress). r.tally.links) (sym both) ∙ ap (λ n. (last_of loaded (with_frames order n)).tally.links) all;
      }

pub in_parts : (bytes : List ℕ) (loaded : Loaded) (order : RunOrder) → verdict_of bytes ≡ Ok loaded → IsValid loaded.world → is_too_far loaded order ≡ false
    → GoesInParts loaded order (take loaded.kept bytes)
in_parts bytes loaded order verdict ok near f g all = parts bytes loaded order verdict ok near f g all
