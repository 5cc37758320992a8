-- What follows from the outcome of a job over an input.
use Rattle.std.proofs.Common.{◌≡◌, ◌≢◌, ℕ, Bool, true, false, cond, nat_lt, List, [], take, Option, Some, None, IfSome, Result, Ok, Err, IsErr, ◌⊎◌, inl, inr, refl, sym, ap, ◌∙◌, subst}
use Rattle.std.specs.Io.KnownBytes.{IsAtEnd}
use Rattle.bfm_world.specs.Configuration.{IsValid}
use Rattle.crossing_check.specs.declared.judgement.SetVerdict.{SetVerdict}
use Rattle.sweep_run.specs.Sweep.{begun_with}
use Rattle.sweep_run.proofs.SweepLemmas.{IsValid-state}
use Rattle.bfm_commands.specs.Verdict.{verdict_of}
use Rattle.bfm_commands.specs.declared.loaded.Loaded.{Loaded}
use Rattle.bfm_session.specs.Loading.{FileVerdict, accepted, refused, too_long, limited_verdict, Supply, ReadWhole}
use Rattle.bfm_session.specs.Running.{is_too_far, last_mcs, last_reach, run_done, run_text}
use Rattle.bfm_session.specs.declared.order.RunOrder.{RunOrder}
use Rattle.bfm_cli.specs.Ending.{status_of}
use Rattle.bfm_cli.specs.Outcome.{JudgesFile, JudgesFor, JudgesInput, nothing, run_report, limit_of, accepted_outcome, build_outcome, file_outcome, job_outcome}
use Rattle.bfm_base.specs.Account.{Account}
use Rattle.bfm_base.specs.Faults.{Rose}
use Rattle.bfm_cli.specs.Promise.{Holds, Reads, IsOfFile, DoesAlone, DoesOver, HasValidWorlds, HasValidStates, NeedsNoInput, Scene, Tells, Uses, scene}
use Rattle.bfm_cli.specs.Start.{need_of, room_of, start_text, world_of}
use Rattle.bfm_cli.specs.declared.job.FileJob.{FileJob}
use Rattle.bfm_cli.specs.declared.job.FileJob.TheVariants.{Run, Look}
use Rattle.bfm_cli.specs.declared.job.Job.{Job}
use Rattle.bfm_cli.specs.declared.job.Job.TheVariants.{Build, File, Trial}
use Rattle.bfm_cli.specs.declared.start.Start.{Start}
use Rattle.bfm_cli.specs.declared.ending.Ending.{Ending}
use Rattle.bfm_cli.specs.declared.ending.Ending.TheVariants as ends
use Rattle.bfm_cli.specs.declared.ending.Fault.{Fault}
use Rattle.bfm_cli.specs.declared.ending.Fault.TheVariants as faults
use Rattle.bfm_cli.specs.declared.status.Status.{Status}
use Rattle.bfm_cli.specs.declared.status.Status.TheVariants as statuses

-- the outcome of an accepted file
pub job_outcome-loaded : (job : FileJob) (bytes kept : List ℕ) (loaded : Loaded) (verdict : SetVerdict) → limited_verdict (limit_of job) bytes ≡ accepted loaded → kept ≡ take loaded.kept bytes
    → job_outcome (Ok (File job)) bytes verdict ≡ accepted_outcome job loaded kept verdict
job_outcome-loaded job bytes kept loaded verdict e k = ap (file_outcome job bytes verdict) e ∙ ap (λ kept. accepted_outcome job loaded kept verdict) (sym k)

-- a job is never told as wrong words
far_or_done : (far : Bool) (loaded : Loaded) (order : RunOrder) (kept : List ℕ) (verdict : SetVerdict)
    → status_of (cond far (nothing (ends.TooFar (last_mcs loaded order) (last_reach loaded order))) (record { ending = ends.Ran (run_report loaded.kept loaded.skipped order (run_done loaded order verdict)); output = run_text loaded order kept })).ending ≢ statuses.BadWords
far_or_done true loaded order kept verdict e = cc
far_or_done false loaded order kept verdict e = cc

pub accepted_outcome-words : (job : FileJob) (loaded : Loaded) (kept : List ℕ) (verdict : SetVerdict) → status_of (accepted_outcome job loaded kept verdict).ending ≢ statuses.BadWords
accepted_outcome-words (Run order) loaded kept verdict e = far_or_done (is_too_far loaded order) loaded order kept verdict e
accepted_outcome-words (Look ask limit) loaded kept verdict e = cc

file_outcome-words : (job : FileJob) (bytes : List ℕ) (verdict : SetVerdict) (file : FileVerdict) → status_of (file_outcome job bytes verdict file).ending ≢ statuses.BadWords
file_outcome-words job bytes verdict (refused wrong) e = cc
file_outcome-words job bytes verdict too_long e = cc
file_outcome-words job bytes verdict (accepted loaded) e = accepted_outcome-words job loaded (take loaded.kept bytes) verdict e

build_outcome-words : (start : Start) → status_of (build_outcome start).ending ≢ statuses.BadWords
build_outcome-words start e = over (nat_lt (room_of start) (need_of start)) e
  where
    over : (short : Bool) → status_of (cond short (nothing (ends.NoRoom (need_of start) (room_of start))) (record { ending = ends.Built; output = start_text (world_of start) })).ending ≢ statuses.BadWords
    over true e = cc
    over false e = cc

pub job_outcome-words : (job : Job) (bytes : List ℕ) (verdict : SetVerdict) → status_of (job_outcome (Ok job) bytes verdict).ending ≢ statuses.BadWords
job_outcome-words (File job) bytes verdict e = file_outcome-words job bytes verdict (limited_verdict (limit_of job) bytes) e
job_outcome-words (Build start) bytes verdict e = build_outcome-words start e
job_outcome-words (Trial number) bytes verdict e = cc

-- no verdict on the set changes the status
far_or_done-status : (far : Bool) (loaded : Loaded) (order : RunOrder) (kept : List ℕ) (a b : SetVerdict)
    → status_of (cond far (nothing (ends.TooFar (last_mcs loaded order) (last_reach loaded order))) (record { ending = ends.Ran (run_report loaded.kept loaded.skipped order (run_done loaded order a)); output = run_text loaded order kept })).ending
    ≡ status_of (cond far (nothing (ends.TooFar (last_mcs loaded order) (last_reach loaded order))) (record { ending = ends.Ran (run_report loaded.kept loaded.skipped order (run_done loaded order b)); output = run_text loaded order kept })).ending
far_or_done-status true loaded order kept a b = refl
far_or_done-status false loaded order kept a b = refl

file_outcome-status : (job : FileJob) (bytes : List ℕ) (a b : SetVerdict) (file : FileVerdict) → status_of (file_outcome job bytes a file).ending ≡ status_of (file_outcome job bytes b file).ending
file_outcome-status job bytes a b (refused wrong) = refl
file_outcome-status job bytes a b too_long = refl
file_outcome-status (Run order) bytes a b (accepted loaded) = far_or_done-status (is_too_far loaded order) loaded order (take loaded.kept bytes) a b
file_outcome-status (Look ask limit) bytes a b (accepted loaded) = refl

job_outcome-status : (job : Result Job ℕ) (bytes : List ℕ) (a b : SetVerdict) → status_of (job_outcome job bytes a).ending ≡ status_of (job_outcome job bytes b).ending
job_outcome-status (Err word) bytes a b = refl
job_outcome-status (Ok (File job)) bytes a b = file_outcome-status job bytes a b (limited_verdict (limit_of job) bytes)
job_outcome-status (Ok (Build start)) bytes a b = refl
job_outcome-status (Ok (Trial number)) bytes a b = refl

-- a run of an accepted file has valid states
pub HasValidWorlds-loaded : (job : FileJob) (bytes : List ℕ) (loaded : Loaded) → IsValid loaded.world → verdict_of bytes ≡ Ok loaded → HasValidWorlds (Ok (File job)) bytes
HasValidWorlds-loaded (Look ask limit) bytes loaded valid e = tt
HasValidWorlds-loaded (Run order) bytes loaded valid e =
    subst (HasValidStates order) (sym e) (λ count a. IsValid-state order.linking order.seed loaded.mcs count a (begun_with loaded.world) valid)

-- what an ending behind the reading says of the input
pub Reads-accepted : (ended : Result Ending Fault) (limit : ℕ) (taken : List ℕ) (before after : Supply) → IsOfFile ended → ReadWhole before after → Reads ended limit taken before after
Reads-accepted (Ok (ends.Ran done)) limit taken before after a r = r
Reads-accepted (Ok ends.Answered) limit taken before after a r = r
Reads-accepted (Ok ends.Built) limit taken before after a r = absurd a
Reads-accepted (Ok (ends.BadWords word)) limit taken before after a r = absurd a
Reads-accepted (Ok (ends.BadFile wrong)) limit taken before after a r = absurd a
Reads-accepted (Ok (ends.NoRoom need have)) limit taken before after a r = absurd a
Reads-accepted (Ok (ends.TooLong beyond)) limit taken before after a r = absurd a
Reads-accepted (Ok (ends.TooFar mcs reach)) limit taken before after a r = r
Reads-accepted (Err faults.Read) limit taken before after a r = absurd a
Reads-accepted (Err faults.Write) limit taken before after a r = r
Reads-accepted (Err faults.Memory) limit taken before after a r = r.calm

-- wrong words are no fault of the input
pub words-unread : (ended : Result Ending Fault) (word : ℕ) → ended ≡ Ok (ends.BadWords word) → ended ≢ Err faults.Read
words-unread ended word e read = cc

-- Wrong words come to nothing else.
pub words-only : (ended : Result Ending Fault) (job : Result Job ℕ) (scene : Scene) → DoesOver ended job scene → IsErr job → (word : ℕ) × (ended ≡ Ok (ends.BadWords word))
words-only ended (Ok job) scene d h = absurd (cc)
words-only (Ok ending) (Err word) scene d h = (word, ap Ok d.agrees)
words-only (Err faults.Read) (Err word) scene d h = absurd (d.agrees refl)
words-only (Err faults.Write) (Err word) scene d h = absurd (let e : statuses.BadWords ≡ statuses.Done = d.agrees in cc)
words-only (Err faults.Memory) (Err word) scene d h = absurd (d.agrees refl)

-- what is told of wrong words, and what they leave alone
pub words-told : (ended : Result Ending Fault) (word : ℕ) (job : Result Job ℕ) (scene : Scene) (status : Status) (old new : Account) (unreported : Type 0) → ended ≡ Ok (ends.BadWords word)
    → DoesOver ended job scene → Tells ended status old new unreported → ((status ≡ statuses.BadWords) ⊎ (status ≡ statuses.ReportFault)) × scene.unwritten
words-told ended word job scene status old new unreported e d t =
    let t' = subst (λ x. Tells x status old new unreported) e t in
    let d' = subst (λ x. DoesOver x job scene) e d in
    (elim t' [ inl told ↦ inl told.0 | inr failed ↦ inr failed.0 ], d'.writes)

-- what needs no input leaves it alone
pub unread-by : (ended : Result Ending Fault) (job : Result Job ℕ) (scene : Scene) → DoesOver ended job scene → NeedsNoInput job → scene.unread
unread-by ended (Err word) scene d n = d.uses.0
unread-by ended (Ok (Build start)) scene d n = d.uses.0
unread-by ended (Ok (Trial number)) scene d n = d.uses.0
unread-by ended (Ok (File job)) scene d n = absurd n

pub NeedsNoInput-words : (job : Result Job ℕ) → IsErr job → NeedsNoInput job
NeedsNoInput-words (Err word) h = tt
NeedsNoInput-words (Ok job) h = absurd (cc)

-- a job that reads no file uses no input, and tells no verdict
pub Uses-alone : (ended : Result Ending Fault) (job : Result Job ℕ) (taken : List ℕ) (before after : Supply) (unread : Type 0) → NeedsNoInput job → unread → ended ≢ Err faults.Read → Uses job ended taken before after unread
Uses-alone ended (Err word) taken before after unread n same calm = (same, calm)
Uses-alone ended (Ok (File job)) taken before after unread n same calm = absurd n
Uses-alone ended (Ok (Build start)) taken before after unread n same calm = (same, calm)
Uses-alone ended (Ok (Trial number)) taken before after unread n same calm = (same, calm)

JudgesInput-alone : (job : Result Job ℕ) (bytes : List ℕ) (verdict : SetVerdict) → NeedsNoInput job → JudgesInput job bytes verdict
JudgesInput-alone (Err word) bytes verdict n = tt
JudgesInput-alone (Ok (File job)) bytes verdict n = absurd n
JudgesInput-alone (Ok (Build start)) bytes verdict n = tt
JudgesInput-alone (Ok (Trial number)) bytes verdict n = tt

-- what was done without input, over one that was left alone
pub DoesOver-alone : (ended : Result Ending Fault) (job : Result Job ℕ) (bytes : List ℕ) (verdict : SetVerdict) (supply : Supply) (unread : Type 0) (before after : Account) (unwritten : Type 0)
    → NeedsNoInput job → Holds supply.left bytes → unread → DoesAlone ended (job_outcome job bytes verdict) (HasValidWorlds job bytes) before after unwritten
    → DoesOver ended job (scene supply supply unread before after unwritten)
DoesOver-alone ended job bytes verdict supply unread before after unwritten alone left same did = record {
  bytes = bytes;
  left = left;
  taken = [];
  verdict = verdict;
  judged = λ begun. JudgesInput-alone job bytes verdict alone;
  agrees = did.agrees;
  uses = Uses-alone ended job [] supply supply unread alone same did.needs_no_input;
  writes = did.writes;
  worlds = did.worlds;
}

-- no call of the input fails but where a file is read
read-rose : (job : Result Job ℕ) (s : Scene) (d : DoesOver (Err faults.Read) job s) → Rose s.input_before.faults s.input_after.faults
read-rose (Err word) s d = absurd (d.uses.1 refl)
read-rose (Ok (Build start)) s d = absurd (d.uses.1 refl)
read-rose (Ok (Trial number)) s d = absurd (d.uses.1 refl)
read-rose (Ok (File job)) s d = d.uses.1.0

-- what holds of the bytes that a source has left holds of those that it tells
pub IfSome-held : (left : Option (List ℕ)) (bytes : List ℕ) (P : List ℕ → Type 0) → Holds left bytes → P bytes → IfSome left P
IfSome-held None bytes P h p = tt
IfSome-held (Some all) bytes P h p = subst P (sym h) p

-- without faults the status is that of the outcome, or want of memory
status-told : (ended : Result Ending Fault) (job : Result Job ℕ) (s : Scene) (status : Status) (old new : Account) (unreported : Type 0) (verdict : SetVerdict) (d : DoesOver ended job s)
    → Tells ended status old new unreported → ¬ (Rose s.input_before.faults s.input_after.faults) → ¬ (Rose s.output_before.faults s.output_after.faults) → ¬ (Rose old.faults new.faults)
    → (status ≡ status_of (job_outcome job d.bytes verdict).ending) ⊎ ((status ≡ statuses.Memory) × (status_of (job_outcome job d.bytes verdict).ending ≢ statuses.BadWords))
status-told (Ok ending) job s status old new unreported verdict d t calm_in calm_out calm_report =
    elim t [
      | inl told ↦ inl (told.0 ∙ (ap status_of d.agrees ∙ job_outcome-status job d.bytes d.verdict verdict))
      | inr failed ↦ absurd (calm_report failed.1.rose)
    ]
status-told (Err faults.Read) job s status old new unreported verdict d t calm_in calm_out calm_report = absurd (calm_in (read-rose job s d))
status-told (Err faults.Write) job s status old new unreported verdict d t calm_in calm_out calm_report = absurd (calm_out d.writes.rose)
status-told (Err faults.Memory) job s status old new unreported verdict d t calm_in calm_out calm_report =
    inr (t.0, λ e. d.agrees (job_outcome-status job d.bytes d.verdict verdict ∙ e))

pub outcome-told : (ended : Result Ending Fault) (job : Result Job ℕ) (s : Scene) (status : Status) (old new : Account) (unreported : Type 0) → DoesOver ended job s
    → Tells ended status old new unreported → ¬ (Rose s.input_before.faults s.input_after.faults) → ¬ (Rose s.output_before.faults s.output_after.faults) → ¬ (Rose old.faults new.faults)
    → IfSome s.input_before.left (λ bytes. (verdict : SetVerdict) → (status ≡ status_of (job_outcome job bytes verdict).ending) ⊎ ((status ≡ statuses.Memory) × (status_of (job_outcome job bytes verdict).ending ≢ statuses.BadWords)))
outcome-told ended job s status old new unreported d t calm_in calm_out calm_report =
    IfSome-held s.input_before.left d.bytes _ d.left (λ verdict. status-told ended job s status old new unreported verdict d t calm_in calm_out calm_report)

-- a verdict for an accepted file is one for its bytes
pub JudgesInput-loaded : (job : FileJob) (bytes : List ℕ) (loaded : Loaded) (verdict : SetVerdict) → verdict_of bytes ≡ Ok loaded → JudgesFor job loaded verdict → JudgesInput (Ok (File job)) bytes verdict
JudgesInput-loaded job bytes loaded verdict e j = subst (JudgesFile (Ok (File job)) verdict) (sym e) j

-- done is told of an ending alone
pub told-done : (ended : Result Ending Fault) (status : Status) (old new : Account) (unreported : Type 0) → Tells ended status old new unreported → status ≡ statuses.Done
    → (ending : Ending) × (ended ≡ Ok ending) × (status_of ending ≡ statuses.Done)
told-done (Ok ending) status old new unreported t e =
    (ending, refl, elim t [ inl told ↦ sym told.0 ∙ e | inr failed ↦ absurd (let q : statuses.ReportFault ≡ statuses.Done = sym failed.0 ∙ e in cc) ])
told-done (Err faults.Read) status old new unreported t e =
    elim t [
      | inl told ↦ absurd (let q : statuses.ReadFault ≡ statuses.Done = sym told.0 ∙ e in cc)
      | inr failed ↦ absurd (let q : statuses.ReportFault ≡ statuses.Done = sym failed.0 ∙ e in cc)
    ]
told-done (Err faults.Write) status old new unreported t e =
    elim t [
      | inl told ↦ absurd (let q : statuses.WriteFault ≡ statuses.Done = sym told.0 ∙ e in cc)
      | inr failed ↦ absurd (let q : statuses.ReportFault ≡ statuses.Done = sym failed.0 ∙ e in cc)
    ]
told-done (Err faults.Memory) status old new unreported t e = absurd (let q : statuses.Memory ≡ statuses.Done = sym t.0 ∙ e in cc)

-- a job with a file that is done has read all of it
reads-done : (ending : Ending) (limit : ℕ) (taken : List ℕ) (before after : Supply) → status_of ending ≡ statuses.Done → Reads (Ok ending) limit taken before after → ReadWhole before after
reads-done (ends.Ran done) limit taken before after e r = r
reads-done ends.Answered limit taken before after e r = r
reads-done ends.Built limit taken before after e r = absurd r
reads-done (ends.BadWords word) limit taken before after e r = absurd r
reads-done (ends.BadFile wrong) limit taken before after e r = absurd (cc)
reads-done (ends.NoRoom need have) limit taken before after e r = absurd r
reads-done (ends.TooLong beyond) limit taken before after e r = absurd (cc)
reads-done (ends.TooFar mcs reach) limit taken before after e r = absurd (cc)

pub reads-all : (ended : Result Ending Fault) (job : Result Job ℕ) (s : Scene) (status : Status) (old new : Account) (unreported : Type 0) → DoesOver ended job s
    → Tells ended status old new unreported → status ≡ statuses.Done → NeedsNoInput job ⊎ IsAtEnd s.input_after.left
reads-all ended (Err word) s status old new unreported d t e = inl tt
reads-all ended (Ok (Build start)) s status old new unreported d t e = inl tt
reads-all ended (Ok (Trial number)) s status old new unreported d t e = inl tt
reads-all ended (Ok (File job)) s status old new unreported d t e =
    let told = told-done ended status old new unreported t e in
    let r = subst (λ x. Reads x (limit_of job) d.taken s.input_before s.input_after) told.1 d.uses.1 in
    inr (reads-done told.0 (limit_of job) d.taken s.input_before s.input_after told.2 r).end
