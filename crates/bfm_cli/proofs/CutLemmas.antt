-- A run that was cut at any byte behind the kept part comes to the output of one run.
use Rattle.std.proofs.Common.{◌≡◌, ℕ, ◌+◌, ◌-◌, ◌≤◌, List, ◌++◌, length, take, drop, IfSome, Result, Ok, sym, ap, ◌∙◌, subst, arith}
use Rattle.std.proofs.lemmas.List.{length-take, take-append-drop, take-append-le}
use Rattle.std.proofs.Math.Seq.{take-append_seam}
use Rattle.bfm_base.specs.Account.{Account}
use Rattle.crossing_check.specs.declared.judgement.SetVerdict.{SetVerdict}
use Rattle.bfm_world.specs.Configuration.{IsValid}
use Rattle.bfm_commands.specs.Verdict.{verdict_of}
use Rattle.bfm_session.specs.Loading.{limited_verdict}
use Rattle.bfm_session.specs.Parts.{BeginsWith, Finishes, HasGroups}
use Rattle.bfm_session.specs.Running.{run_text}
use Rattle.bfm_session.specs.declared.order.RunOrder.{RunOrder}
use Rattle.bfm_session.proofs.CutRun.{cut_run}
use Rattle.bfm_session.proofs.LimitLemmas.{limited-accepted}
use Rattle.bfm_session.proofs.PartsRun.{in_parts, limited_verdict-accepted}
use Rattle.bfm_cli.specs.Outcome.{Outcome}
use Rattle.bfm_cli.specs.Parts.{AreInParts, IsFinished, WroteAsFromEachFront, outcome_of_run, part_of}
use Rattle.bfm_cli.specs.Promise.{DoesOver, HasValidStates, Scene, Tells}
use Rattle.bfm_cli.specs.declared.job.FileJob.TheVariants.{Run}
use Rattle.bfm_cli.specs.declared.job.Job.{Job}
use Rattle.bfm_cli.specs.declared.job.Job.TheVariants.{File}
use Rattle.bfm_cli.specs.declared.ending.Ending.{Ending}
use Rattle.bfm_cli.specs.declared.ending.Fault.{Fault}
use Rattle.bfm_cli.specs.declared.status.Status.{Status}
use Rattle.bfm_cli.specs.declared.status.Status.TheVariants as statuses
use Rattle.bfm_cli.proofs.OutcomeLemmas.{IfSome-held}
use Rattle.bfm_cli.proofs.PartsLemmas.{IsMade, outcome_of_run-near, report, run-told}

-- of two fronts of a text, the longer begins with the shorter
BeginsWith-longer : (text more front : List ℕ) → BeginsWith (text ++ more) front → length text ≤ length front → BeginsWith front text
BeginsWith-longer text more front begins long =
    let part : take (length text) front ≡ text =
    sym (take-append-le (length text) front begins.rest long) ∙ (ap (take (length text)) (sym begins.whole) ∙ take-append_seam text more) in
    record { rest = drop (length text) front; whole = sym (take-append-drop (length text) front) ∙ ap (λ l. l ++ drop (length text) front) part }

-- a run that is made, of which a front is left
module _ (order : RunOrder) (input : List ℕ) (m : IsMade order (limited_verdict order.limit input)) (valid : HasValidStates order (verdict_of input)) where
  pub read : verdict_of input ≡ Ok m.loaded
  read = limited-accepted order.limit input m.loaded m.is

  ok : IsValid m.loaded.world
  ok = (subst (HasValidStates order) read valid) 0 0

  abbrev kept : List ℕ
  kept = take m.loaded.kept input

  AreInParts-finished : (front : List ℕ) (n : ℕ) → HasGroups m.loaded order kept front n → Finishes m.loaded order kept front n
      → (limit : ℕ) (a b c : SetVerdict) → length front ≤ limit
      → AreInParts (outcome_of_run (part_of order n order.limit) input a) (outcome_of_run (part_of order (order.frames - n) limit) front b) (outcome_of_run order input c)
  AreInParts-finished front n has finishes limit a b c short =
      let within = has.within in
      let all : n + (order.frames - n) ≡ order.frames = omega (arith, within) in
      let begun = in_parts input m.loaded order read ok m.near n (order.frames - n) all in
      let first = part_of order n order.limit in
      let second = part_of order (order.frames - n) limit in
      let next = finishes.next in
      let first_is = outcome_of_run-near first input m.loaded a m.is begun.first_near in
      let second_is = outcome_of_run-near second front next b (limited_verdict-accepted front next limit finishes.accepted short) finishes.near in
      let whole_is = outcome_of_run-near order input m.loaded c m.is m.near in
      record {
        first_report = report first m.loaded a;
        second_report = report second next b;
        whole_report = report order m.loaded c;
        first_ran = ap (λ (o : Outcome). o.ending) first_is;
        second_ran = ap (λ (o : Outcome). o.ending) second_is;
        whole_ran = ap (λ (o : Outcome). o.ending) whole_is;
        output = ap (λ (o : Outcome). o.output) second_is ∙ (finishes.same ∙ sym (ap (λ (o : Outcome). o.output) whole_is));
        mcs = finishes.time;
        moves = finishes.moves;
        links = finishes.links;
      }

  pub IsFinished-made : (verdict : SetVerdict) (front : List ℕ) → BeginsWith (outcome_of_run order input verdict).output front → m.loaded.kept ≤ length front → IsFinished m.loaded order input front
  IsFinished-made verdict front begins long =
      let written = ap (λ (o : Outcome). o.output) (outcome_of_run-near order input m.loaded verdict m.is m.near) in
      let whole : BeginsWith (run_text m.loaded order kept) front = subst (λ t. BeginsWith t front) written begins in
      let size : length kept ≤ length front = grind (arith, length-take) in
      let found = cut_run input m.loaded order read ok m.near front (BeginsWith-longer kept _ front whole size) whole in
      record {
        groups = found.0;
        has = found.1;
        no_other = found.3;
        next = found.2.next;
        accepted = found.2.accepted;
        frames = found.2.frames;
        parts = AreInParts-finished front found.0 found.1 found.2;
      }

-- what a run that is done has written is finished from each front
pub cut-told : (ended : Result Ending Fault) (job : Result Job ℕ) (order : RunOrder) (s : Scene) (status : Status) (old new : Account) (unreported : Type 0) → job ≡ Ok (File (Run order)) → DoesOver ended job s
    → Tells ended status old new unreported → status ≡ statuses.Done → IfSome s.input_before.left (λ input. WroteAsFromEachFront order input s.output_before s.output_after)
cut-told ended job order s status old new unreported of_run does t e =
    let run = run-told ended job order s status old new unreported of_run does t e in
    IfSome-held s.input_before.left run.input _ run.left
    (run.made.loaded, read order run.input run.made run.valid, λ c. (run.written c, IsFinished-made order run.input run.made run.valid c))
