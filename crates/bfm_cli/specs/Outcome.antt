-- What words call for over the bytes of an input: a function of both, and of the verdict on the set of an accepted file.
use Rattle.std.specs.Prelude.{ℕ, nat_lt, List, [], take, Option, None, Some, Result, Ok, Err, if◌then◌else◌}
use Rattle.bfm_base.specs.declared.place.P3.{P3}
use Rattle.bfm_base.specs.declared.place.Dir.{Dir}
use Rattle.bfm_base.specs.declared.cause.Refused.{Refused}
use Rattle.crossing_check.specs.Verdict.{IsVerdict}
use Rattle.crossing_check.specs.declared.judgement.SetVerdict.{SetVerdict}
use Rattle.crossing_check.specs.declared.judgement.SetVerdict.TheVariants.{Free, Crossing}
use Rattle.bfm_commands.specs.Verdict.{verdict_of}
use Rattle.bfm_commands.specs.declared.loaded.Loaded.{Loaded}
use Rattle.bfm_session.specs.Analysis.{Judges, answer_text}
use Rattle.bfm_session.specs.Loading.{FileVerdict, accepted, refused, too_long, limited_verdict}
use Rattle.bfm_session.specs.Running.{is_too_far, last_mcs, last_reach, run_done, run_text}
use Rattle.bfm_session.specs.Trial.{trial_text}
use Rattle.bfm_session.specs.declared.order.RunOrder.{RunOrder}
use Rattle.bfm_session.specs.declared.running.RunDone.{RunDone}
use Rattle.bfm_cli.specs.Job.{job_of}
use Rattle.bfm_cli.specs.Start.{need_of, room_of, start_text, trial_world, world_of}
use Rattle.bfm_cli.specs.declared.job.FileJob.{FileJob}
use Rattle.bfm_cli.specs.declared.job.FileJob.TheVariants.{Run, Look}
use Rattle.bfm_cli.specs.declared.job.Job.{Job}
use Rattle.bfm_cli.specs.declared.job.Job.TheVariants.{Build, File, Trial}
use Rattle.bfm_cli.specs.declared.start.Start.{Start}
use Rattle.bfm_cli.specs.declared.ending.Ending.{Ending}
use Rattle.bfm_cli.specs.declared.ending.RunReport.{RunReport}
use Rattle.bfm_cli.specs.declared.ending.Ending.TheVariants.{Ran, Answered, Built, BadWords, BadFile, NoRoom, TooLong, TooFar}

-- an ending, and the text of the output
pub record Outcome : Type 0 where
  pub ending : Ending
  pub output : List ℕ

-- an ending with no output
abbrev pub nothing : Ending → Outcome
nothing ending = record { ending = ending; output = [] }

-- what a run tells of itself
abbrev pub run_report : ℕ → ℕ → RunOrder → RunDone → RunReport
run_report kept skipped order done = record { kept = kept; frames = order.frames; mcs = done.mcs; skipped = skipped; tally = done.tally; verdict = done.verdict }

-- a run of an accepted file, of which this part is kept
abbrev pub run_outcome : RunOrder → Loaded → List ℕ → SetVerdict → Outcome
run_outcome order loaded kept verdict =
    if is_too_far loaded order then nothing (TooFar (last_mcs loaded order) (last_reach loaded order))
    else record { ending = Ran (run_report loaded.kept loaded.skipped order (run_done loaded order verdict)); output = run_text loaded order kept }

-- what a job makes of an accepted file
abbrev pub accepted_outcome : FileJob → Loaded → List ℕ → SetVerdict → Outcome
accepted_outcome (Run order) loaded kept verdict = run_outcome order loaded kept verdict
accepted_outcome (Look ask limit) loaded kept verdict = record { ending = Answered; output = answer_text ask loaded verdict }

-- how many bytes of its input a job reads at most
abbrev pub limit_of : FileJob → ℕ
limit_of (Run order) = order.limit
limit_of (Look ask limit) = limit

-- what it makes of an input, by what that comes to within the limit
abbrev pub file_outcome : FileJob → List ℕ → SetVerdict → FileVerdict → Outcome
file_outcome job input verdict (refused wrong) = nothing (BadFile wrong)
file_outcome job input verdict too_long = nothing (TooLong (limit_of job))
file_outcome job input verdict (accepted loaded) = accepted_outcome job loaded (take loaded.kept input) verdict

-- what comes of a start: its file, where there is room for it
abbrev pub build_outcome : Start → Outcome
build_outcome start =
    if nat_lt (room_of start) (need_of start) then nothing (NoRoom (need_of start) (room_of start))
    else record { ending = Built; output = start_text (world_of start) }

-- what comes of the trial with this number
abbrev pub trial_outcome : ℕ → Outcome
trial_outcome number = record { ending = Answered; output = trial_text number trial_world }

abbrev pub job_outcome : Result Job ℕ → List ℕ → SetVerdict → Outcome
job_outcome (Err word) input verdict = nothing (BadWords word)
job_outcome (Ok (File job)) input verdict = file_outcome job input verdict (limited_verdict (limit_of job) input)
job_outcome (Ok (Build start)) input verdict = build_outcome start
job_outcome (Ok (Trial number)) input verdict = trial_outcome number

-- the outcome of words over input bytes, where this is the verdict on the file's set
abbrev pub outcome_of : List (List ℕ) → List ℕ → SetVerdict → Outcome
outcome_of words input verdict = job_outcome (job_of words) input verdict

-- the verdict is one on the set of an accepted file; of a refused one it may be any
abbrev pub JudgesSet : SetVerdict → Result Loaded Refused → Type 0
JudgesSet verdict (Err wrong) = Unit {0}
JudgesSet verdict (Ok loaded) = IsVerdict loaded.world.set verdict

abbrev pub JudgesSetOf : List ℕ → SetVerdict → Type 0
JudgesSetOf input verdict = JudgesSet verdict (verdict_of input)

-- the verdict that a job tells of an accepted file is one on its set; for a job that tells none it may be any
abbrev pub JudgesFor : FileJob → Loaded → SetVerdict → Type 0
JudgesFor (Run order) loaded verdict = IsVerdict loaded.world.set verdict
JudgesFor (Look ask limit) loaded verdict = Judges ask loaded.world.set verdict

abbrev pub JudgesFile : Result Job ℕ → SetVerdict → Result Loaded Refused → Type 0
JudgesFile (Ok (File job)) verdict (Ok loaded) = JudgesFor job loaded verdict
JudgesFile job verdict file = Unit {0}

abbrev pub JudgesInput : Result Job ℕ → List ℕ → SetVerdict → Type 0
JudgesInput job input verdict = JudgesFile job verdict (verdict_of input)

-- a verdict but for its weights, which alone are free: b, the direction, c and e of the first crossing
abbrev pub first_crossing : SetVerdict → Option (P3 × Dir × P3 × P3)
first_crossing Free = None
first_crossing (Crossing b dir c e weights) = Some (b, dir, c, e)
