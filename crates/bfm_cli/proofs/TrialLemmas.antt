-- What follows from the outcome of a trial.
use Rattle.std.proofs.Common.{◌≡◌, ℕ, false, Result, Ok, Err, ap, ◌∙◌, subst}
use Rattle.bfm_base.specs.Account.{Account, Delivered, TookPrefix}
use Rattle.bfm_world.specs.Configuration.{Configuration, IsValid}
use Rattle.sweep_run.specs.Sweep.{begun_with}
use Rattle.sweep_run.proofs.SweepLemmas.{IsValid-state}
use Rattle.bfm_session.specs.Trial.{trial_text}
use Rattle.bfm_cli.specs.Outcome.{trial_outcome}
use Rattle.bfm_cli.specs.Promise.{Agrees, AreValidStates, DoesOver, DoesTried, IsValidTrial, Scene, Tells, Writes}
use Rattle.bfm_cli.specs.Start.{trial_world}
use Rattle.bfm_cli.specs.declared.job.Job.{Job}
use Rattle.bfm_cli.specs.declared.job.Job.TheVariants.{Trial}
use Rattle.bfm_cli.specs.declared.ending.Ending.{Ending}
use Rattle.bfm_cli.specs.declared.ending.Ending.TheVariants as ends
use Rattle.bfm_cli.specs.declared.ending.Fault.{Fault}
use Rattle.bfm_cli.specs.declared.ending.Fault.TheVariants as faults
use Rattle.bfm_cli.specs.declared.status.Status.{Status}
use Rattle.bfm_cli.specs.declared.status.Status.TheVariants as statuses
use Rattle.bfm_cli.proofs.OutcomeLemmas.{told-done}

-- each state of a trial is valid, where its world is
IsValidTrial-from : (number : ℕ) (world : Configuration) → world ≡ trial_world → IsValid world → IsValidTrial number
IsValidTrial-from number world same valid =
    subst (AreValidStates false number 0) same (λ count a. IsValid-state false number 0 count a (begun_with world) valid)

-- its lines were written, or a prefix of them
pub DoesTried-whole : (number : ℕ) (world : Configuration) (before after : Account) (unwritten : Type 0) → world ≡ trial_world → IsValid world
    → Delivered before after (trial_text number world) → DoesTried (Ok ends.Answered) number before after unwritten
DoesTried-whole number world before after unwritten same valid d = record {
  agrees = λ i. ends.Answered;
  needs_no_input = λ e. cc;
  writes = subst (λ w. Delivered before after (trial_text number w)) same d;
  worlds = λ _. IsValidTrial-from number world same valid;
}

pub DoesTried-cut : (number : ℕ) (world : Configuration) (before after : Account) (unwritten : Type 0) → world ≡ trial_world → IsValid world
    → TookPrefix before after (trial_text number world) → DoesTried (Err faults.Write) number before after unwritten
DoesTried-cut number world before after unwritten same valid p = record {
  agrees = λ i. statuses.Done;
  needs_no_input = λ e. cc;
  writes = subst (λ w. TookPrefix before after (trial_text number w)) same p;
  worlds = λ _. IsValidTrial-from number world same valid;
}

-- a trial that is done was written whole
pub tried-told : (ended : Result Ending Fault) (job : Result Job ℕ) (number : ℕ) (s : Scene) (status : Status) (old new : Account) (unreported : Type 0) → job ≡ Ok (Trial number) → DoesOver ended job s
    → Tells ended status old new unreported → status ≡ statuses.Done → Delivered s.output_before s.output_after (trial_text number trial_world)
tried-told ended job number s status old new unreported of_trial does t e =
    let d = subst (λ j. DoesOver ended j s) of_trial does in
    let told = told-done ended status old new unreported t e in
    let agrees : told.0 ≡ ends.Answered = subst (λ x. Agrees x (trial_outcome number)) told.1 d.agrees in
    let answered : ended ≡ Ok ends.Answered = told.1 ∙ ap Ok agrees in
    subst (λ x. Writes x (trial_text number trial_world) s.output_before s.output_after s.unwritten) answered d.writes
