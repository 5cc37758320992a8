-- What the program promises: what it did to its input, its output and its report.
use Rattle.std.specs.Prelude.{◌≡◌, ◌≢◌, ℕ, Bool, false, ◌⊎◌, List, Option, None, Some, Result, Ok, Err}
use Rattle.bfm_base.specs.Account.{Account, Delivered, TookPrefix}
use Rattle.bfm_base.specs.Faults.{Rose}
use Rattle.bfm_base.specs.declared.cause.Refused.{Refused}
use Rattle.bond_set.specs.Crossing.{IsFree}
use Rattle.bfm_world.specs.Configuration.{Configuration, IsValid}
use Rattle.crossing_check.specs.declared.judgement.SetVerdict.{SetVerdict}
use Rattle.bfm_commands.specs.Verdict.{verdict_of}
use Rattle.bfm_commands.specs.declared.loaded.Loaded.{Loaded}
use Rattle.sweep_run.specs.Sweep.{NoMoveCrosses, state_at, begun_with}
use Rattle.bfm_session.specs.Loading.{Supply, IsOpen, IsShown, ReadWhole, Takes, limited_verdict, too_long}
use Rattle.bfm_session.specs.Written.{IsReadBack}
use Rattle.bfm_session.specs.declared.order.RunOrder.{RunOrder}
use Rattle.bfm_cli.specs.Ending.{status_of, ended_status, ended_report}
use Rattle.bfm_cli.specs.Outcome.{Outcome, JudgesFor, JudgesInput, accepted_outcome, build_outcome, job_outcome, limit_of, trial_outcome}
use Rattle.bfm_cli.specs.Start.{trial_world, world_of}
use Rattle.bfm_cli.specs.declared.job.FileJob.{FileJob}
use Rattle.bfm_cli.specs.declared.job.FileJob.TheVariants.{Run, Look}
use Rattle.bfm_cli.specs.declared.job.Job.{Job}
use Rattle.bfm_cli.specs.declared.job.Job.TheVariants.{Build, File, Trial}
use Rattle.bfm_cli.specs.declared.start.Start.{Start}
use Rattle.bfm_cli.specs.declared.ending.Ending.{Ending}
use Rattle.bfm_cli.specs.declared.ending.Ending.TheVariants as ends
use Rattle.bfm_cli.specs.declared.ending.Fault.{Fault}
use Rattle.bfm_cli.specs.declared.ending.Fault.TheVariants as faults
use Rattle.bfm_cli.specs.declared.status.Status.{Status}
use Rattle.bfm_cli.specs.declared.status.Status.TheVariants as statuses

-- The input and the output of a job before it and after it. `unread` says that the input is as it was, `unwritten` that
-- the output is.
pub record Scene : Type 1 where
  pub input_before : Supply
  pub input_after : Supply
  pub unread : Type 0
  pub output_before : Account
  pub output_after : Account
  pub unwritten : Type 0

abbrev pub scene : Supply → Supply → Type 0 → Account → Account → Type 0 → Scene
scene input_before input_after unread output_before output_after unwritten = record {
  input_before = input_before;
  input_after = input_after;
  unread = unread;
  output_before = output_before;
  output_after = output_after;
  unwritten = unwritten;
}

-- A job came to the ending of its outcome, or a fault kept it from that. Wrong words are never told as a fault, and writing
-- fails only where there is an output.
abbrev pub Agrees : Result Ending Fault → Outcome → Type 0
Agrees (Ok ending) outcome = ending ≡ outcome.ending
Agrees (Err faults.Read) outcome = status_of outcome.ending ≢ statuses.BadWords
Agrees (Err faults.Write) outcome = status_of outcome.ending ≡ statuses.Done
Agrees (Err faults.Memory) outcome = status_of outcome.ending ≢ statuses.BadWords

-- a source has these bytes left, as far as it tells
abbrev pub Holds : Option (List ℕ) → List ℕ → Type 0
Holds None bytes = Unit {0}
Holds (Some left) bytes = left ≡ bytes

-- What a job with a file did to its input, of which it took these bytes. A wrong line and a file that is too long show in
-- them, and a call that fails comes before either.
abbrev pub Reads : Result Ending Fault → ℕ → List ℕ → Supply → Supply → Type 0
Reads (Ok (ends.Ran done)) limit taken before after = ReadWhole before after
Reads (Ok ends.Answered) limit taken before after = ReadWhole before after
Reads (Ok ends.Built) limit taken before after = ⊥
Reads (Ok (ends.BadWords word)) limit taken before after = ⊥
Reads (Ok (ends.BadFile wrong)) limit taken before after = (after.faults ≡ before.faults) × IsShown wrong limit taken after.left
Reads (Ok (ends.NoRoom need have)) limit taken before after = ⊥
Reads (Ok (ends.TooLong beyond)) limit taken before after = (after.faults ≡ before.faults) × (limited_verdict limit taken ≡ too_long)
Reads (Ok (ends.TooFar mcs reach)) limit taken before after = ReadWhole before after
Reads (Err faults.Read) limit taken before after = Rose before.faults after.faults × IsOpen limit taken
Reads (Err faults.Write) limit taken before after = ReadWhole before after
Reads (Err faults.Memory) limit taken before after = after.faults ≡ before.faults

-- What was done to the input, of which these bytes were taken. Wrong words, starts and trials need none: they leave it as
-- it was, and no call of it fails. `unread` says that the input is as it was.
abbrev pub Uses : Result Job ℕ → Result Ending Fault → List ℕ → Supply → Supply → Type 0 → Type 0
Uses (Ok (File job)) ended taken before after unread = Takes (limit_of job) before after taken × Reads ended (limit_of job) taken before after
Uses job ended taken before after unread = unread × (ended ≢ Err faults.Read)

-- What the job did to its output, which is to take this text. `unwritten` says that the output is as it was.
abbrev pub Writes : Result Ending Fault → List ℕ → Account → Account → Type 0 → Type 0
Writes (Ok (ends.Ran done)) text before after unwritten = Delivered before after text
Writes (Ok ends.Answered) text before after unwritten = Delivered before after text
Writes (Ok ends.Built) text before after unwritten = Delivered before after text
Writes (Ok (ends.BadWords word)) text before after unwritten = unwritten
Writes (Ok (ends.BadFile refused)) text before after unwritten = unwritten
Writes (Ok (ends.NoRoom need have)) text before after unwritten = unwritten
Writes (Ok (ends.TooLong limit)) text before after unwritten = unwritten
Writes (Ok (ends.TooFar mcs reach)) text before after unwritten = unwritten
Writes (Err faults.Read) text before after unwritten = unwritten
Writes (Err faults.Write) text before after unwritten = TookPrefix before after text
Writes (Err faults.Memory) text before after unwritten = unwritten

-- Each state of a run from this world, between its sweeps and within them, is a valid configuration: all monomers are
-- within the walls, no two overlap, and each bond has a vector of the set.
abbrev pub AreValidStates : Bool → ℕ → ℕ → Configuration → Type 0
AreValidStates linking seed mcs world = (count a : ℕ) → IsValid (state_at linking seed mcs count a (begun_with world)).world

-- the same of a run of an accepted file
abbrev pub HasValidStates : RunOrder → Result Loaded Refused → Type 0
HasValidStates order (Err wrong) = Unit {0}
HasValidStates order (Ok loaded) = AreValidStates order.linking order.seed loaded.mcs loaded.world

-- of a trial
abbrev pub IsValidTrial : ℕ → Type 0
IsValidTrial number = AreValidStates false number 0 trial_world

-- the world of a start is valid, and its file gives it back
abbrev pub IsValidStart : Start → Type 0
IsValidStart start = IsValid (world_of start) × IsReadBack (world_of start) 0

-- The worlds of a job are valid: each state of a run or of a trial, and the world of a start.
abbrev pub HasValidWorlds : Result Job ℕ → List ℕ → Type 0
HasValidWorlds (Err word) bytes = Unit {0}
HasValidWorlds (Ok (File (Run order))) bytes = HasValidStates order (verdict_of bytes)
HasValidWorlds (Ok (File (Look ask limit))) bytes = Unit {0}
HasValidWorlds (Ok (Build start)) bytes = IsValidStart start
HasValidWorlds (Ok (Trial number)) bytes = IsValidTrial number

-- the set of an accepted file is free
abbrev pub HasFreeSet : Result Loaded Refused → Type 0
HasFreeSet (Err wrong) = ⊥
HasFreeSet (Ok loaded) = IsFree loaded.world.set

-- no move of a run of an accepted file takes a bond through another that shares no monomer with it, in any image
abbrev pub CrossesNoBond : RunOrder → Result Loaded Refused → Type 0
CrossesNoBond order (Err wrong) = Unit {0}
CrossesNoBond order (Ok loaded) = NoMoveCrosses order.linking order.seed loaded.mcs loaded.world

-- the same of a run, and of a trial where the usual set is free, which its world has
abbrev pub HasNoCrossing : Result Job ℕ → List ℕ → Type 0
HasNoCrossing (Ok (File (Run order))) bytes = CrossesNoBond order (verdict_of bytes)
HasNoCrossing (Ok (Trial number)) bytes = IsFree trial_world.set → NoMoveCrosses false number 0 trial_world
HasNoCrossing job bytes = Unit {0}

-- what comes only where the output was called
abbrev pub IsBegun : Result Ending Fault → Type 0
IsBegun (Ok (ends.Ran done)) = Unit {0}
IsBegun (Ok ends.Answered) = Unit {0}
IsBegun (Ok ends.Built) = Unit {0}
IsBegun (Ok (ends.BadWords word)) = ⊥
IsBegun (Ok (ends.BadFile refused)) = ⊥
IsBegun (Ok (ends.NoRoom need have)) = ⊥
IsBegun (Ok (ends.TooLong limit)) = ⊥
IsBegun (Ok (ends.TooFar mcs reach)) = ⊥
IsBegun (Err faults.Read) = ⊥
IsBegun (Err faults.Write) = Unit {0}
IsBegun (Err faults.Memory) = ⊥

-- what comes only once there is a world, read or built
abbrev pub HasWorld : Result Ending Fault → Type 0
HasWorld (Ok (ends.Ran done)) = Unit {0}
HasWorld (Ok ends.Answered) = Unit {0}
HasWorld (Ok ends.Built) = Unit {0}
HasWorld (Ok (ends.BadWords word)) = ⊥
HasWorld (Ok (ends.BadFile refused)) = ⊥
HasWorld (Ok (ends.NoRoom need have)) = ⊥
HasWorld (Ok (ends.TooLong limit)) = ⊥
HasWorld (Ok (ends.TooFar mcs reach)) = Unit {0}
HasWorld (Err faults.Read) = ⊥
HasWorld (Err faults.Write) = Unit {0}
HasWorld (Err faults.Memory) = ⊥

-- what a file that was accepted may come to
abbrev pub IsOfFile : Result Ending Fault → Type 0
IsOfFile (Ok (ends.Ran done)) = Unit {0}
IsOfFile (Ok ends.Answered) = Unit {0}
IsOfFile (Ok ends.Built) = ⊥
IsOfFile (Ok (ends.BadWords word)) = ⊥
IsOfFile (Ok (ends.BadFile refused)) = ⊥
IsOfFile (Ok (ends.NoRoom need have)) = ⊥
IsOfFile (Ok (ends.TooLong limit)) = ⊥
IsOfFile (Ok (ends.TooFar mcs reach)) = Unit {0}
IsOfFile (Err faults.Read) = ⊥
IsOfFile (Err faults.Write) = Unit {0}
IsOfFile (Err faults.Memory) = Unit {0}

-- What a job did with an accepted file, of which this part is kept. Where it was begun, the verdict is one that it may tell.
pub record DoesAccepted (ended : Result Ending Fault) (job : FileJob) (loaded : Loaded) (kept : List ℕ) (before after : Account) (unwritten : Type 0) : Type 0 where
  pub verdict : SetVerdict
  pub judged : IsBegun ended → JudgesFor job loaded verdict
  pub agrees : Agrees ended (accepted_outcome job loaded kept verdict)
  pub of_file : IsOfFile ended
  pub writes : Writes ended (accepted_outcome job loaded kept verdict).output before after unwritten

-- What was done without input, of which no call is made. `valid` says that the worlds are valid.
pub record DoesAlone (ended : Result Ending Fault) (outcome : Outcome) (valid : Type 0) (before after : Account) (unwritten : Type 0) : Type 0 where
  pub agrees : Agrees ended outcome
  pub needs_no_input : ended ≢ Err faults.Read
  pub writes : Writes ended outcome.output before after unwritten
  pub worlds : HasWorld ended → valid

-- for a start, and for the trial with this number
abbrev pub DoesBuilt : Result Ending Fault → Start → Account → Account → Type 0 → Type 0
DoesBuilt ended start before after unwritten = DoesAlone ended (build_outcome start) (IsValidStart start) before after unwritten

abbrev pub DoesTried : Result Ending Fault → ℕ → Account → Account → Type 0 → Type 0
DoesTried ended number before after unwritten = DoesAlone ended (trial_outcome number) (IsValidTrial number) before after unwritten

-- All that was done for a job, over the bytes that the input had left, of which some were taken. Where the output was
-- called, the verdict is one that it may tell. Its worlds are valid.
pub record DoesOver (ended : Result Ending Fault) (job : Result Job ℕ) (scene : Scene) : Type 0 where
  pub bytes : List ℕ
  pub left : Holds scene.input_before.left bytes
  pub taken : List ℕ
  pub verdict : SetVerdict
  pub judged : IsBegun ended → JudgesInput job bytes verdict
  pub agrees : Agrees ended (job_outcome job bytes verdict)
  pub uses : Uses job ended taken scene.input_before scene.input_after scene.unread
  pub writes : Writes ended (job_outcome job bytes verdict).output scene.output_before scene.output_after scene.unwritten
  pub worlds : HasWorld ended → HasValidWorlds job bytes

-- a job that reads no file
abbrev pub NeedsNoInput : Result Job ℕ → Type 0
NeedsNoInput (Ok (File job)) = ⊥
NeedsNoInput job = Unit {0}

-- the report was made and flushed, or a prefix of it until a call failed
abbrev pub Reports : Result Ending Fault → Status → Account → Account → Type 0
Reports ended status old new =
    ((status ≡ ended_status ended) × Delivered old new (ended_report ended))
    ⊎ ((status ≡ statuses.ReportFault) × TookPrefix old new (ended_report ended))

-- How a job ended is told by its status and its report. Want of memory makes no report; `unreported` says that the
-- report is as it was.
abbrev pub Tells : Result Ending Fault → Status → Account → Account → Type 0 → Type 0
Tells (Ok ending) status old new unreported = Reports (Ok ending) status old new
Tells (Err faults.Read) status old new unreported = Reports (Err faults.Read) status old new
Tells (Err faults.Write) status old new unreported = Reports (Err faults.Write) status old new
Tells (Err faults.Memory) status old new unreported = (status ≡ statuses.Memory) × unreported
