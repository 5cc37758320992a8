-- What falls short where a call on the outside failed, and what stands of the input, the output and the report all the same.
use Rattle.std.specs.Prelude.{◌≡◌, ◌≢◌, ◌↔◌, ℕ, ◌<◌, ◌⊎◌, List, codes, Result, Ok, IsErr}
use Rattle.bfm_base.specs.Account.{Account, Delivered, TookPrefix}
use Rattle.bfm_base.specs.Faults.{Rose}
use Rattle.crossing_check.specs.declared.judgement.SetVerdict.{SetVerdict}
use Rattle.bfm_session.specs.Loading.{Supply, IsOpen, ReadWhole, Takes}
use Rattle.bfm_cli.specs.Ending.{report_of, status_of}
use Rattle.bfm_cli.specs.Outcome.{JudgesInput, job_outcome, limit_of}
use Rattle.bfm_cli.specs.Promise.{Holds, Scene, Uses}
use Rattle.bfm_cli.specs.declared.job.FileJob.{FileJob}
use Rattle.bfm_cli.specs.declared.job.Job.{Job}
use Rattle.bfm_cli.specs.declared.job.Job.TheVariants.{File}
use Rattle.bfm_cli.specs.declared.status.Status.{Status}
use Rattle.bfm_cli.specs.declared.status.Status.TheVariants as statuses

-- What was taken of a file decides nothing: it is within the limit, and none of its finished lines is wrong.
pub record IsUndecided (job : FileJob) (before after : Supply) : Type 0 where
  pub taken : List ℕ
  pub takes : Takes (limit_of job) before after taken
  pub nothing : IsOpen (limit_of job) taken

-- The input falls short: a call of it failed in a job with a file, before anything was decided. The output is as before.
pub record CutsInput (job : Result Job ℕ) (s : Scene) : Type 0 where
  pub file : FileJob
  pub of_file : job ≡ Ok (File file)
  pub undecided : IsUndecided file s.input_before s.input_after
  pub rose : Rose s.input_before.faults s.input_after.faults
  pub unwritten : s.unwritten

-- a file was read to its end, and no call of it failed; a job without one left the input as it was
abbrev pub IsReadFor : Result Job ℕ → Supply → Supply → Type 0 → Type 0
IsReadFor (Ok (File job)) before after unread = ReadWhole before after
IsReadFor job before after unread = unread

-- The output falls short: a call of it failed behind a prefix of the text of the outcome, which is Done. The verdict is one
-- that the job may tell.
pub record CutsOutput (job : Result Job ℕ) (bytes : List ℕ) (s : Scene) : Type 0 where
  pub verdict : SetVerdict
  pub judged : JudgesInput job bytes verdict
  pub done : status_of (job_outcome job bytes verdict).ending ≡ statuses.Done
  pub read : IsReadFor job s.input_before s.input_after s.unread
  pub prefix : TookPrefix s.output_before s.output_after (job_outcome job bytes verdict).output

-- Nothing falls short: the outcome was reached, which has this status and this report. Done, its output is whole and
-- flushed, and the verdict is one that the job may tell; else the output is as before.
pub record Reaches (status : Status) (text : List ℕ) (job : Result Job ℕ) (bytes : List ℕ) (s : Scene) : Type 0 where
  pub verdict : SetVerdict
  pub agrees : status_of (job_outcome job bytes verdict).ending ≡ status
  pub report : report_of (job_outcome job bytes verdict).ending ≡ text
  pub taken : List ℕ
  pub uses : Uses job (Ok (job_outcome job bytes verdict).ending) taken s.input_before s.input_after s.unread
  pub judged : status ≡ statuses.Done → JudgesInput job bytes verdict
  pub whole : status ≡ statuses.Done → Delivered s.output_before s.output_after (job_outcome job bytes verdict).output
  pub unwritten : status ≢ statuses.Done → s.unwritten

-- What stands of a status that is to be told, by a report of this text.
abbrev pub Stands : Status → List ℕ → Result Job ℕ → List ℕ → Scene → Type 0
Stands statuses.ReadFault text job bytes s = (text ≡ codes "read\n") × CutsInput job s
Stands statuses.WriteFault text job bytes s = (text ≡ codes "write\n") × CutsOutput job bytes s
Stands statuses.Memory text job bytes s = ⊥
Stands statuses.ReportFault text job bytes s = ⊥
Stands status text job bytes s = Reaches status text job bytes s

-- The report falls short: a call of it failed behind a prefix of its text. All stands of the status that it was to tell, which
-- is that of wrong words for these alone.
pub record CutsReport (job : Result Job ℕ) (s : Scene) (old new : Account) : Type 0 where
  pub bytes : List ℕ
  pub left : Holds s.input_before.left bytes
  pub status : Status
  pub text : List ℕ
  pub stands : Stands status text job bytes s
  pub words : (status ≡ statuses.BadWords) ↔ IsErr job
  pub prefix : TookPrefix old new text

-- no call failed of a source, a sink or a report
pub record IsCalm (s : Scene) (old new : Account) : Type 0 where
  pub input : s.input_after.faults ≡ s.input_before.faults
  pub output : s.output_after.faults ≡ s.output_before.faults
  pub report : new.faults ≡ old.faults

-- No fault is passed over: a count that is greater is told, by the fault of its object or by that of the report.
pub record TellsFaults (status : Status) (s : Scene) (old new : Account) : Type 0 where
  pub input : s.input_before.faults < s.input_after.faults → (status ≡ statuses.ReadFault) ⊎ (status ≡ statuses.ReportFault)
  pub output : s.output_before.faults < s.output_after.faults → (status ≡ statuses.WriteFault) ⊎ (status ≡ statuses.ReportFault)
  pub report : old.faults < new.faults → status ≡ statuses.ReportFault
