-- A run in two parts: one with some of its frames, and then one with the others, over the output of the first, or over a front
-- of it, where it was cut off.
use Rattle.std.specs.Prelude.{◌≡◌, ℕ, ◌+◌, ◌-◌, ◌≤◌, List, length, take, Ok}
use Rattle.bfm_base.specs.Account.{Account, Delivered}
use Rattle.crossing_check.specs.declared.judgement.SetVerdict.{SetVerdict}
use Rattle.bfm_commands.specs.Verdict.{verdict_of}
use Rattle.bfm_commands.specs.declared.loaded.Loaded.{Loaded}
use Rattle.bfm_session.specs.Parts.{BeginsWith, HasGroups}
use Rattle.bfm_session.specs.declared.order.RunOrder.{RunOrder}
use Rattle.bfm_cli.specs.Outcome.{Outcome, job_outcome}
use Rattle.bfm_cli.specs.declared.job.FileJob.TheVariants.{Run}
use Rattle.bfm_cli.specs.declared.job.Job.TheVariants.{File}
use Rattle.bfm_cli.specs.declared.ending.Ending.TheVariants.{Ran}
use Rattle.bfm_cli.specs.declared.ending.RunReport.{RunReport}

-- the same run with so many frames, of which at most so many bytes of input are read
abbrev pub part_of : RunOrder → ℕ → ℕ → RunOrder
part_of order frames limit = record order { frames = frames; limit = limit }

-- what comes of a run of an input
abbrev pub outcome_of_run : RunOrder → List ℕ → SetVerdict → Outcome
outcome_of_run order input verdict = job_outcome (Ok (File (Run order))) input verdict

-- A whole run and its two parts are made. The second part comes to the output of the whole run, and to its last time; the moves
-- and links of both parts are those of the whole run.
pub record AreInParts (first second whole : Outcome) : Type 0 where
  pub first_report : RunReport
  pub second_report : RunReport
  pub whole_report : RunReport
  pub first_ran : first.ending ≡ Ran first_report
  pub second_ran : second.ending ≡ Ran second_report
  pub whole_ran : whole.ending ≡ Ran whole_report
  pub output : second.output ≡ whole.output
  pub mcs : second_report.mcs ≡ whole_report.mcs
  pub moves : first_report.tally.accepted + second_report.tally.accepted ≡ whole_report.tally.accepted
  pub links : first_report.tally.links + second_report.tally.links ≡ whole_report.tally.links

-- Whatever two parts a run of this input is made in, and whatever the verdicts on the set, the second part comes to the very
-- bytes that were written, where its limit admits the output of the first.
abbrev pub WroteAsInParts : RunOrder → List ℕ → Account → Account → Type 0
WroteAsInParts order input before after =
    (f g limit : ℕ) (a b c : SetVerdict) → f + g ≡ order.frames →
    let first = outcome_of_run (part_of order f order.limit) input a in
    let second = outcome_of_run (part_of order g limit) first.output b in
    length first.output ≤ limit → AreInParts first second (outcome_of_run order input c) × Delivered before after second.output

-- A front of what a run writes, with so many of its groups whole: that number is the only one, and the front is an accepted file
-- with as many frames more than the input. Whatever the verdicts on the set, a run with the missing frames over the front,
-- where its limit admits that, is the second part of the whole run, and the run of those groups its first.
pub record IsFinished (loaded : Loaded) (order : RunOrder) (input front : List ℕ) : Type 0 where
  pub groups : ℕ
  pub has : HasGroups loaded order (take loaded.kept input) front groups
  pub no_other : (n : ℕ) → HasGroups loaded order (take loaded.kept input) front n → n ≡ groups
  pub next : Loaded
  pub accepted : verdict_of front ≡ Ok next
  pub frames : next.frames ≡ loaded.frames + groups
  pub parts : (limit : ℕ) (a b c : SetVerdict) → length front ≤ limit
      → AreInParts (outcome_of_run (part_of order groups order.limit) input a) (outcome_of_run (part_of order (order.frames - groups) limit) front b) (outcome_of_run order input c)

-- Whatever the verdict on the set, the output of the run was written; and at whatever byte behind the kept part of this input it is
-- cut, what is left of it is finished in that way, to the same bytes.
abbrev pub WroteAsFromEachFront : RunOrder → List ℕ → Account → Account → Type 0
WroteAsFromEachFront order input before after =
    (loaded : Loaded) × (verdict_of input ≡ Ok loaded)
    × ((c : SetVerdict) → let whole = (outcome_of_run order input c).output in
    Delivered before after whole × ((front : List ℕ) → BeginsWith whole front → loaded.kept ≤ length front → IsFinished loaded order input front))
