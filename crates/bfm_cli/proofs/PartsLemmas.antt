-- A run in two parts comes to the output of one run.
use Rattle.std.proofs.Common.{◌≡◌, ℕ, ◌+◌, ◌≤◌, Bool, true, false, cond, List, length, take, IfSome, Result, Ok, refl, sym, ap, ◌∙◌, subst}
use Rattle.bfm_base.specs.Account.{Account, Delivered}
use Rattle.crossing_check.specs.declared.judgement.SetVerdict.{SetVerdict}
use Rattle.bfm_world.specs.Configuration.{IsValid}
use Rattle.bfm_commands.specs.Verdict.{verdict_of}
use Rattle.bfm_commands.specs.declared.loaded.Loaded.{Loaded}
use Rattle.bfm_session.specs.Loading.{FileVerdict, accepted, refused, too_long, limited_verdict}
use Rattle.bfm_session.specs.Running.{is_too_far, last_mcs, last_reach, run_done, run_text}
use Rattle.bfm_session.specs.declared.order.RunOrder.{RunOrder}
use Rattle.bfm_session.proofs.LimitLemmas.{limited-accepted}
use Rattle.bfm_session.proofs.PartsRun.{in_parts, limited_verdict-accepted}
use Rattle.bfm_cli.specs.Ending.{status_of}
use Rattle.bfm_cli.specs.Outcome.{Outcome, file_outcome, nothing, run_report}
use Rattle.bfm_cli.specs.Parts.{AreInParts, WroteAsInParts, outcome_of_run, part_of}
use Rattle.bfm_cli.specs.Promise.{Agrees, DoesOver, HasValidStates, HasWorld, Holds, Scene, Tells, Writes}
use Rattle.bfm_cli.specs.declared.job.FileJob.TheVariants.{Run}
use Rattle.bfm_cli.specs.declared.job.Job.{Job}
use Rattle.bfm_cli.specs.declared.job.Job.TheVariants.{File}
use Rattle.bfm_cli.specs.declared.ending.Ending.{Ending}
use Rattle.bfm_cli.specs.declared.ending.Ending.TheVariants as ends
use Rattle.bfm_cli.specs.declared.ending.Fault.{Fault}
use Rattle.bfm_cli.specs.declared.ending.RunReport.{RunReport}
use Rattle.bfm_cli.specs.declared.status.Status.{Status}
use Rattle.bfm_cli.specs.declared.status.Status.TheVariants as statuses
use Rattle.bfm_cli.proofs.OutcomeLemmas.{IfSome-held, told-done}

-- what a run reports that is made, and what it comes to
abbrev pub report : RunOrder → Loaded → SetVerdict → RunReport
report order loaded verdict = run_report loaded.kept loaded.skipped order (run_done loaded order verdict)

abbrev pub made : RunOrder → Loaded → List ℕ → SetVerdict → Outcome
made order loaded input verdict = record { ending = ends.Ran (report order loaded verdict); output = run_text loaded order (take loaded.kept input) }

abbrev far_or_made : Bool → RunOrder → Loaded → List ℕ → SetVerdict → Outcome
far_or_made far order loaded input verdict = cond far (nothing (ends.TooFar (last_mcs loaded order) (last_reach loaded order))) (made order loaded input verdict)

-- a run is made of an accepted file where it does not come too far
pub outcome_of_run-near : (order : RunOrder) (input : List ℕ) (loaded : Loaded) (verdict : SetVerdict) → limited_verdict order.limit input ≡ accepted loaded → is_too_far loaded order ≡ false
    → outcome_of_run order input verdict ≡ made order loaded input verdict
outcome_of_run-near order input loaded verdict file near = ap (file_outcome (Run order) input verdict) file ∙ ap (λ far. far_or_made far order loaded input verdict) near

-- and in no other case is it done
pub record IsMade (order : RunOrder) (file : FileVerdict) : Type 0 where
  pub loaded : Loaded
  pub is : file ≡ accepted loaded
  pub near : is_too_far loaded order ≡ false

near_done : (far : Bool) (order : RunOrder) (loaded : Loaded) (input : List ℕ) (verdict : SetVerdict) → status_of (far_or_made far order loaded input verdict).ending ≡ statuses.Done → far ≡ false
near_done true order loaded input verdict done = absurd (cc)
near_done false order loaded input verdict done = refl

pub made_done : (order : RunOrder) (input : List ℕ) (verdict : SetVerdict) (file : FileVerdict) → status_of (file_outcome (Run order) input verdict file).ending ≡ statuses.Done → IsMade order file
made_done order input verdict (refused wrong) done = absurd (cc)
made_done order input verdict too_long done = absurd (cc)
made_done order input verdict (accepted loaded) done = record { loaded = loaded; is = refl; near = near_done (is_too_far loaded order) order loaded input verdict done }

-- a run that is made, in two parts
module _ (order : RunOrder) (input : List ℕ) (m : IsMade order (limited_verdict order.limit input)) (valid : HasValidStates order (verdict_of input)) where
  read : verdict_of input ≡ Ok m.loaded
  read = limited-accepted order.limit input m.loaded m.is

  ok : IsValid m.loaded.world
  ok = (subst (HasValidStates order) read valid) 0 0

  AreInParts-made : (f g limit : ℕ) (a b c : SetVerdict) → f + g ≡ order.frames → length (outcome_of_run (part_of order f order.limit) input a).output ≤ limit
      → AreInParts (outcome_of_run (part_of order f order.limit) input a) (outcome_of_run (part_of order g limit) (outcome_of_run (part_of order f order.limit) input a).output b) (outcome_of_run order input c)
  AreInParts-made f g limit a b c all short =
      let first = part_of order f order.limit in
      let second = part_of order g limit in
      let parts = in_parts input m.loaded order read ok m.near f g all in
      let next = parts.goes_on.next in
      let middle = run_text m.loaded first (take m.loaded.kept input) in
      let first_is = outcome_of_run-near first input m.loaded a m.is parts.first_near in
      let written : (outcome_of_run first input a).output ≡ middle = ap (λ (o : Outcome). o.output) first_is in
      let admitted = limited_verdict-accepted middle next limit parts.goes_on.accepted (subst (λ l. length l ≤ limit) written short) in
      let second_is : outcome_of_run second (outcome_of_run first input a).output b ≡ made second next middle b =
      ap (λ l. outcome_of_run second l b) written ∙ outcome_of_run-near second middle next b admitted parts.second_near in
      let whole_is = outcome_of_run-near order input m.loaded c m.is m.near in
      record {
        first_report = report first m.loaded a;
        second_report = report second next b;
        whole_report = report order m.loaded c;
        first_ran = ap (λ (o : Outcome). o.ending) first_is;
        second_ran = ap (λ (o : Outcome). o.ending) second_is;
        whole_ran = ap (λ (o : Outcome). o.ending) whole_is;
        output = ap (λ (o : Outcome). o.output) second_is ∙ (parts.same ∙ sym (ap (λ (o : Outcome). o.output) whole_is));
        mcs = parts.time;
        moves = parts.moves;
        links = parts.links;
      }

-- what a run that is done has read and written
pub record IsRun (order : RunOrder) (s : Scene) : Type 0 where
  pub input : List ℕ
  pub left : Holds s.input_before.left input
  pub made : IsMade order (limited_verdict order.limit input)
  pub valid : HasValidStates order (verdict_of input)
  pub written : (verdict : SetVerdict) → Delivered s.output_before s.output_after (outcome_of_run order input verdict).output

pub run-told : (ended : Result Ending Fault) (job : Result Job ℕ) (order : RunOrder) (s : Scene) (status : Status) (old new : Account) (unreported : Type 0) → job ≡ Ok (File (Run order)) → DoesOver ended job s
    → Tells ended status old new unreported → status ≡ statuses.Done → IsRun order s
run-told ended job order s status old new unreported of_run does t e =
    let d = subst (λ j. DoesOver ended j s) of_run does in
    let outcome = outcome_of_run order d.bytes d.verdict in
    let told = told-done ended status old new unreported t e in
    let agrees : told.0 ≡ outcome.ending = subst (λ x. Agrees x outcome) told.1 d.agrees in
    let m = made_done order d.bytes d.verdict (limited_verdict order.limit d.bytes) (ap status_of (sym agrees) ∙ told.2) in
    let is = λ (c : SetVerdict). outcome_of_run-near order d.bytes m.loaded c m.is m.near in
    let ran : ended ≡ Ok (ends.Ran (report order m.loaded d.verdict)) = told.1 ∙ ap Ok (agrees ∙ ap (λ (o : Outcome). o.ending) (is d.verdict)) in
    let written = subst (λ x. Writes x outcome.output s.output_before s.output_after s.unwritten) ran d.writes in
    record {
      input = d.bytes;
      left = d.left;
      made = m;
      valid = d.worlds (subst HasWorld (sym ran) tt);
      written = λ c. subst (Delivered s.output_before s.output_after) (ap (λ (o : Outcome). o.output) (is d.verdict) ∙ sym (ap (λ (o : Outcome). o.output) (is c))) written;
    }

-- what a run that is done has written, it would have written in two parts
pub in_parts-told : (ended : Result Ending Fault) (job : Result Job ℕ) (order : RunOrder) (s : Scene) (status : Status) (old new : Account) (unreported : Type 0) → job ≡ Ok (File (Run order)) → DoesOver ended job s
    → Tells ended status old new unreported → status ≡ statuses.Done → IfSome s.input_before.left (λ input. WroteAsInParts order input s.output_before s.output_after)
in_parts-told ended job order s status old new unreported of_run does t e =
    let run = run-told ended job order s status old new unreported of_run does t e in
    IfSome-held s.input_before.left run.input _ run.left
    (λ f g limit a b c all short.
    let parts = AreInParts-made order run.input run.made run.valid f g limit a b c all short in
    (parts, subst (Delivered s.output_before s.output_after) (sym parts.output) (run.written c)))
