-- What is known of the moves of a run by the set of its file.
use Rattle.std.proofs.Common.{◌≡◌, ◌≢◌, ℕ, false, List, Result, Ok, Err, IfSome, ◌⊎◌, inl, inr, sym, ◌∙◌, subst}
use Rattle.bfm_base.specs.Account.{Account, Delivered}
use Rattle.bfm_base.specs.declared.cause.Refused.{Refused}
use Rattle.bond_set.specs.Crossing.{IsFree}
use Rattle.crossing_check.specs.Verdict.{IsVerdict}
use Rattle.crossing_check.specs.declared.judgement.SetVerdict.{SetVerdict}
use Rattle.crossing_check.specs.declared.judgement.SetVerdict.TheVariants.{Free}
use Rattle.sweep_run.specs.Sweep.{NoMoveCrosses}
use Rattle.sweep_run.proofs.SweepLemmas.{NoMoveCrosses-free}
use Rattle.bfm_commands.specs.Verdict.{verdict_of}
use Rattle.bfm_commands.specs.declared.loaded.Loaded.{Loaded}
use Rattle.bfm_session.specs.declared.order.RunOrder.{RunOrder}
use Rattle.bfm_cli.specs.Ending.{report_of, status_of}
use Rattle.bfm_cli.specs.Outcome.{JudgesFile, JudgesInput, job_outcome}
use Rattle.bfm_cli.specs.Promise.{Agrees, HasWorld, IsBegun, DoesOver, HasValidStates, HasValidWorlds, HasFreeSet, CrossesNoBond, HasNoCrossing, IsValidTrial, Scene, Tells}
use Rattle.bfm_cli.specs.Start.{trial_world}
use Rattle.bfm_cli.specs.declared.job.FileJob.TheVariants.{Run, Look}
use Rattle.bfm_cli.specs.declared.job.Job.{Job}
use Rattle.bfm_cli.specs.declared.job.Job.TheVariants.{Build, File, Trial}
use Rattle.bfm_cli.specs.declared.ending.Ending.{Ending}
use Rattle.bfm_cli.specs.declared.ending.Ending.TheVariants as ends
use Rattle.bfm_cli.specs.declared.ending.Fault.{Fault}
use Rattle.bfm_cli.specs.declared.ending.Fault.TheVariants as faults
use Rattle.bfm_cli.specs.declared.status.Status.{Status}
use Rattle.bfm_cli.specs.declared.status.Status.TheVariants as statuses
use Rattle.bfm_cli.proofs.OutcomeLemmas.{IfSome-held, told-done}

-- a run of an accepted file with a free set crosses no bond
crosses-free : (order : RunOrder) (file : Result Loaded Refused) → HasValidStates order file → HasFreeSet file → CrossesNoBond order file
crosses-free order (Err wrong) valid free = absurd free
crosses-free order (Ok loaded) valid free = NoMoveCrosses-free order.linking order.seed loaded.mcs loaded.world (valid 0 0) free

-- nor does a trial, where the set of its world is free
crosses-trial : (number : ℕ) → IsValidTrial number → IsFree trial_world.set → NoMoveCrosses false number 0 trial_world
crosses-trial number valid free = NoMoveCrosses-free false number 0 trial_world (valid 0 0) free

HasNoCrossing-free : (job : Result Job ℕ) (bytes : List ℕ) → HasValidWorlds job bytes → HasFreeSet (verdict_of bytes) → HasNoCrossing job bytes
HasNoCrossing-free (Err word) bytes valid free = tt
HasNoCrossing-free (Ok (File (Run order))) bytes valid free = crosses-free order (verdict_of bytes) valid free
HasNoCrossing-free (Ok (File (Look ask limit))) bytes valid free = tt
HasNoCrossing-free (Ok (Build start)) bytes valid free = tt
HasNoCrossing-free (Ok (Trial number)) bytes valid free = crosses-trial number valid

-- nor does one where the verdict on its set is that it is free
crosses-judged : (order : RunOrder) (verdict : SetVerdict) (file : Result Loaded Refused) → HasValidStates order file → JudgesFile (Ok (File (Run order))) verdict file → verdict ≡ Free → CrossesNoBond order file
crosses-judged order verdict (Err wrong) valid judged free = tt
crosses-judged order verdict (Ok loaded) valid judged free = NoMoveCrosses-free order.linking order.seed loaded.mcs loaded.world (valid 0 0) (subst (IsVerdict loaded.world.set) free judged)

HasNoCrossing-judged : (job : Result Job ℕ) (bytes : List ℕ) (verdict : SetVerdict) → HasValidWorlds job bytes → JudgesInput job bytes verdict → verdict ≡ Free → HasNoCrossing job bytes
HasNoCrossing-judged (Err word) bytes verdict valid judged free = tt
HasNoCrossing-judged (Ok (File (Run order))) bytes verdict valid judged free = crosses-judged order verdict (verdict_of bytes) valid judged free
HasNoCrossing-judged (Ok (File (Look ask limit))) bytes verdict valid judged free = tt
HasNoCrossing-judged (Ok (Build start)) bytes verdict valid judged free = tt
HasNoCrossing-judged (Ok (Trial number)) bytes verdict valid judged free = crosses-trial number valid

-- what is told of a job that has a world
abbrev pub IsTold : Status → Type 0
IsTold status = (status ≡ statuses.Done) ⊎ (status ≡ statuses.WriteFault)

ending-world : (ending : Ending) (status : Status) → IsTold status → status ≡ status_of ending → HasWorld (Ok ending)
ending-world (ends.Ran done) status told e = tt
ending-world ends.Answered status told e = tt
ending-world ends.Built status told e = tt
ending-world (ends.BadWords word) status (inl done) e = absurd (cc)
ending-world (ends.BadWords word) status (inr write) e = absurd (cc)
ending-world (ends.BadFile wrong) status (inl done) e = absurd (cc)
ending-world (ends.BadFile wrong) status (inr write) e = absurd (cc)
ending-world (ends.NoRoom need have) status (inl done) e = absurd (cc)
ending-world (ends.NoRoom need have) status (inr write) e = absurd (cc)
ending-world (ends.TooLong limit) status (inl done) e = absurd (cc)
ending-world (ends.TooLong limit) status (inr write) e = absurd (cc)
ending-world (ends.TooFar mcs reach) status told e = tt

other-status : (status other : Status) → IsTold status → status ≡ other → other ≢ statuses.Done → other ≢ statuses.WriteFault → ⊥
other-status status other (inl done) e not_done not_write = not_done (sym e ∙ done)
other-status status other (inr write) e not_done not_write = not_write (sym e ∙ write)

told-world : (ended : Result Ending Fault) (status : Status) (old new : Account) (unreported : Type 0) → Tells ended status old new unreported → IsTold status → HasWorld ended
told-world (Ok ending) status old new unreported t told =
    elim t [ inl said ↦ ending-world ending status told said.0 | inr failed ↦ absurd (other-status status statuses.ReportFault told failed.0 (λ e. cc) (λ e. cc)) ]
told-world (Err faults.Read) status old new unreported t told =
    elim t [
      | inl said ↦ absurd (other-status status statuses.ReadFault told said.0 (λ e. cc) (λ e. cc))
      | inr failed ↦ absurd (other-status status statuses.ReportFault told failed.0 (λ e. cc) (λ e. cc))
    ]
told-world (Err faults.Write) status old new unreported t told = tt
told-world (Err faults.Memory) status old new unreported t told = other-status status statuses.Memory told t.0 (λ e. cc) (λ e. cc)

pub uncrossed-told : (ended : Result Ending Fault) (job : Result Job ℕ) (s : Scene) (status : Status) (old new : Account) (unreported : Type 0) → DoesOver ended job s → Tells ended status old new unreported
    → IsTold status → IfSome s.input_before.left (λ bytes. HasFreeSet (verdict_of bytes) → HasNoCrossing job bytes)
uncrossed-told ended job s status old new unreported d t told =
    IfSome-held s.input_before.left d.bytes _ d.left (λ free. HasNoCrossing-free job d.bytes (d.worlds (told-world ended status old new unreported t told)) free)

-- what the report of a job that is done says of its verdict
pub done-begun : (ending : Ending) → status_of ending ≡ statuses.Done → IsBegun (Ok ending)
done-begun (ends.Ran done) e = tt
done-begun ends.Answered e = tt
done-begun ends.Built e = tt
done-begun (ends.BadWords word) e = cc
done-begun (ends.BadFile wrong) e = cc
done-begun (ends.NoRoom need have) e = cc
done-begun (ends.TooLong limit) e = cc
done-begun (ends.TooFar mcs reach) e = cc

report-done : (ending : Ending) (status : Status) (old new : Account) (unreported : Type 0) → Tells (Ok ending) status old new unreported → status ≡ statuses.Done → Delivered old new (report_of ending)
report-done ending status old new unreported t done =
    elim t [ inl said ↦ said.1 | inr failed ↦ absurd (let e : statuses.ReportFault ≡ statuses.Done = sym failed.0 ∙ done in cc) ]

pub free-told : (ended : Result Ending Fault) (job : Result Job ℕ) (s : Scene) (status : Status) (old new : Account) (unreported : Type 0) → DoesOver ended job s → Tells ended status old new unreported
    → status ≡ statuses.Done → IfSome s.input_before.left (λ bytes. (verdict : SetVerdict)
    × Delivered old new (report_of (job_outcome job bytes verdict).ending) × (verdict ≡ Free → HasNoCrossing job bytes))
free-told ended job s status old new unreported d t done =
    let told = told-done ended status old new unreported t done in
    let is : ended ≡ Ok told.0 = told.1 in
    let agrees : told.0 ≡ (job_outcome job d.bytes d.verdict).ending = subst (λ x. Agrees x (job_outcome job d.bytes d.verdict)) is d.agrees in
    let said = report-done told.0 status old new unreported (subst (λ x. Tells x status old new unreported) is t) done in
    let judged = d.judged (subst IsBegun (sym is) (done-begun told.0 told.2)) in
    let worlds = d.worlds (told-world ended status old new unreported t (inl done)) in
    IfSome-held s.input_before.left d.bytes _ d.left
    (d.verdict, subst (λ ending. Delivered old new (report_of ending)) agrees said, λ free. HasNoCrossing-judged job d.bytes d.verdict worlds judged free)
