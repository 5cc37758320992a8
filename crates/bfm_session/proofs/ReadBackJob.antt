-- What a run of an accepted file writes is read back as the world that the run came to.
use Rattle.std.proofs.Common.{◌≡◌, ℕ, ◌^◌, ◌≤◌, false, nat_lt, List, length, take, Ok, refl, arith}
use Rattle.std.proofs.lemmas.Bool.{or_parts}
use Rattle.std.proofs.lemmas.Bool.Decides.{nat_tests}
use Rattle.bfm_world.specs.Configuration.{IsValid}
use Rattle.bfm_commands.specs.Verdict.{verdict_of}
use Rattle.bfm_commands.specs.declared.loaded.Loaded.{Loaded}
use Rattle.bfm_session.specs.Running.{run_text, is_too_far, last_mcs, last_reach}
use Rattle.bfm_session.specs.declared.order.RunOrder.{RunOrder}
use Rattle.bfm_session.proofs.ReadBackKept.{kept_loaded, verdict_of-kept}
use Rattle.bfm_session.proofs.ReadBackRun.{with_groups, verdict_of-groups}

at_most : (most n : ℕ) → nat_lt most n ≡ false → n ≤ most
at_most most n e = grind (arith, nat_tests)

-- The output of a run that does not come too far is accepted. It gives the world after the run, its time, and the frames that
-- the file had and those of the run.
pub verdict_of-run : (bytes : List ℕ) (loaded : Loaded) (order : RunOrder) → verdict_of bytes ≡ Ok loaded → IsValid loaded.world → is_too_far loaded order ≡ false
    → verdict_of (run_text loaded order (take loaded.kept bytes))
    ≡ Ok (with_groups (kept_loaded bytes loaded) order order.frames (length (run_text loaded order (take loaded.kept bytes))))
verdict_of-run bytes loaded order verdict ok near =
    let limits = or_parts (nat_lt (2 ^ 40) (last_mcs loaded order)) (nat_lt (2 ^ 44) (last_reach loaded order)) near in
    verdict_of-groups (take loaded.kept bytes) (kept_loaded bytes loaded) (verdict_of-kept bytes loaded verdict) refl ok order order.frames
    (at_most (2 ^ 44) (last_reach loaded order) limits.1) (at_most (2 ^ 40) (last_mcs loaded order) limits.0)
