-- What running a file comes to.
use Rattle.std.specs.Prelude.{◌≡◌, ℕ, zero, suc, ◌+◌, ◌*◌, Bool, true, false, ◌||◌, nat_lt, List, [], ◌++◌, length, Result, Ok, Err}
use Rattle.bfm_base.specs.Account.{Account, Delivered, TookPrefix}
use Rattle.bfm_base.specs.declared.limits.TheConstants.{GREATEST_MCS, RUN_REACH}
use Rattle.bfm_world.specs.Configuration.{reach_of}
use Rattle.crossing_check.specs.Verdict.{IsVerdict}
use Rattle.crossing_check.specs.declared.judgement.SetVerdict.{SetVerdict}
use Rattle.bfm_commands.specs.declared.loaded.Loaded.{Loaded}
use Rattle.bfm_writer.specs.Text.{group_text}
use Rattle.sweep_run.specs.Sweep.{Progress, after_sweeps, begun_with, cleared}
use Rattle.bfm_session.specs.declared.order.RunOrder.{RunOrder}
use Rattle.bfm_session.specs.declared.running.RunDone.{RunDone}
use Rattle.bfm_session.specs.declared.running.RunFault.{RunFault}
use Rattle.bfm_session.specs.declared.running.RunFault.TheVariants as faults

-- a run after so many frames, with as many sweeps before each as it says, from sweep `mcs` on
abbrev pub after_frames : RunOrder → ℕ → ℕ → Progress → Progress
after_frames order mcs frames start = after_sweeps order.linking order.seed mcs (frames * order.every) start

-- the same when the next frame has come, where the log holds the pairs that were linked since the frame before
abbrev pub at_next_frame : RunOrder → ℕ → ℕ → Progress → Progress
at_next_frame order mcs frames start =
    after_sweeps order.linking order.seed (mcs + frames * order.every) order.every (cleared (after_frames order mcs frames start))

-- the groups of a run, each with the pairs that were linked since the one before
abbrev pub groups_text : RunOrder → ℕ → ℕ → Progress → List ℕ
groups_text order mcs zero start = []
groups_text order mcs (suc frames) start =
    let now = at_next_frame order mcs frames start in
    groups_text order mcs frames start ++ group_text now.world (mcs + suc frames * order.every) now.log

-- the last time of a run, and how far from the origin a monomer might come in it: an attempt moves one by one unit
abbrev pub last_mcs : Loaded → RunOrder → ℕ
last_mcs loaded order = loaded.mcs + order.frames * order.every

abbrev pub last_reach : Loaded → RunOrder → ℕ
last_reach loaded order =
    reach_of loaded.world.positions + length loaded.world.positions * (order.frames * order.every)

-- the run would pass the greatest time, or might bring a monomer too far
abbrev pub is_too_far : Loaded → RunOrder → Bool
is_too_far loaded order = nat_lt GREATEST_MCS (last_mcs loaded order) || nat_lt RUN_REACH (last_reach loaded order)

-- the kept part of the input, and then the groups
abbrev pub run_text : Loaded → RunOrder → List ℕ → List ℕ
run_text loaded order kept = kept ++ groups_text order loaded.mcs order.frames (begun_with loaded.world)

-- what a run comes to
abbrev pub last_of : Loaded → RunOrder → Progress
last_of loaded order = after_frames order loaded.mcs order.frames (begun_with loaded.world)

-- what a run tells of itself, where this is the verdict on the world's set
abbrev pub run_done : Loaded → RunOrder → SetVerdict → RunDone
run_done loaded order verdict = record {
  mcs = last_mcs loaded order;
  tally = (last_of loaded order).tally;
  verdict = verdict;
}

-- What a run does to a sink: it refuses to begin, or the sink takes the text of the run and flushes it, or a prefix of it
-- until a call fails; or memory is wanting. A run that is begun has the verdict on the world's set. `untouched` says that the sink is as it was.
abbrev pub Runs : Result RunDone RunFault → Loaded → RunOrder → SetVerdict → List ℕ → Account → Account → Type 0 → Type 0
Runs (Ok done) loaded order verdict kept old new untouched =
    (is_too_far loaded order ≡ false) × IsVerdict loaded.world.set verdict × (done ≡ run_done loaded order verdict)
    × Delivered old new (run_text loaded order kept)
Runs (Err (faults.TooFar mcs reach)) loaded order verdict kept old new untouched =
    (is_too_far loaded order ≡ true) × (mcs ≡ last_mcs loaded order) × (reach ≡ last_reach loaded order) × untouched
Runs (Err faults.WriteFault) loaded order verdict kept old new untouched =
    (is_too_far loaded order ≡ false) × IsVerdict loaded.world.set verdict × TookPrefix old new (run_text loaded order kept)
Runs (Err faults.Memory) loaded order verdict kept old new untouched = (is_too_far loaded order ≡ false) × untouched
