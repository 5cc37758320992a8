-- What stands of a job where a call on the outside failed.
use Rattle.std.proofs.Common.{◌≡◌, ◌≢◌, ℕ, List, codes, Result, Ok, Err, IsErr, ◌⊎◌, inl, inr, refl, sym, ap, ◌∙◌, subst, arith}
use Rattle.bfm_base.specs.Account.{Account, Delivered, TookPrefix}
use Rattle.bfm_session.specs.Loading.{Supply}
use Rattle.bfm_cli.specs.Ending.{ended_report, ended_status, report_of, status_of}
use Rattle.bfm_cli.specs.Outcome.{limit_of}
use Rattle.bfm_cli.specs.Promise.{Holds, DoesOver, Reads, Scene, Tells, Uses, Writes}
use Rattle.bfm_cli.specs.Shortfall.{IsReadFor, CutsInput, CutsOutput, CutsReport, IsCalm, Reaches, Stands, TellsFaults}
use Rattle.bfm_cli.specs.declared.job.Job.{Job}
use Rattle.bfm_cli.specs.declared.job.Job.TheVariants.{Build, File, Trial}
use Rattle.bfm_cli.specs.declared.ending.Ending.{Ending}
use Rattle.bfm_cli.specs.declared.ending.Ending.TheVariants as ends
use Rattle.bfm_cli.specs.declared.ending.Fault.{Fault}
use Rattle.bfm_cli.specs.declared.ending.Fault.TheVariants as faults
use Rattle.bfm_cli.specs.declared.status.Status.{Status}
use Rattle.bfm_cli.specs.declared.status.Status.TheVariants as statuses
use Rattle.bfm_cli.proofs.CrossingLemmas.{done-begun}
use Rattle.bfm_cli.proofs.OutcomeLemmas.{job_outcome-words, told-done, words-only}

-- an ending has no status of a fault
no_fault : (ending : Ending) → (status_of ending ≢ statuses.ReadFault) × (status_of ending ≢ statuses.WriteFault) × (status_of ending ≢ statuses.ReportFault)
no_fault (ends.Ran done) = (λ e. cc, λ e. cc, λ e. cc)
no_fault ends.Answered = (λ e. cc, λ e. cc, λ e. cc)
no_fault ends.Built = (λ e. cc, λ e. cc, λ e. cc)
no_fault (ends.BadWords word) = (λ e. cc, λ e. cc, λ e. cc)
no_fault (ends.BadFile wrong) = (λ e. cc, λ e. cc, λ e. cc)
no_fault (ends.NoRoom need have) = (λ e. cc, λ e. cc, λ e. cc)
no_fault (ends.TooLong limit) = (λ e. cc, λ e. cc, λ e. cc)
no_fault (ends.TooFar mcs reach) = (λ e. cc, λ e. cc, λ e. cc)

-- an ending that is done delivered its text, and any other left the output as it was
writes-done : (ending : Ending) (text : List ℕ) (before after : Account) (unwritten : Type 0) → Writes (Ok ending) text before after unwritten → status_of ending ≡ statuses.Done → Delivered before after text
writes-done (ends.Ran done) text before after unwritten w e = w
writes-done ends.Answered text before after unwritten w e = w
writes-done ends.Built text before after unwritten w e = w
writes-done (ends.BadWords word) text before after unwritten w e = absurd (cc)
writes-done (ends.BadFile wrong) text before after unwritten w e = absurd (cc)
writes-done (ends.NoRoom need have) text before after unwritten w e = absurd (cc)
writes-done (ends.TooLong limit) text before after unwritten w e = absurd (cc)
writes-done (ends.TooFar mcs reach) text before after unwritten w e = absurd (cc)

writes-else : (ending : Ending) (text : List ℕ) (before after : Account) (unwritten : Type 0) → Writes (Ok ending) text before after unwritten → status_of ending ≢ statuses.Done → unwritten
writes-else (ends.Ran done) text before after unwritten w n = absurd (n refl)
writes-else ends.Answered text before after unwritten w n = absurd (n refl)
writes-else ends.Built text before after unwritten w n = absurd (n refl)
writes-else (ends.BadWords word) text before after unwritten w n = w
writes-else (ends.BadFile wrong) text before after unwritten w n = w
writes-else (ends.NoRoom need have) text before after unwritten w n = w
writes-else (ends.TooLong limit) text before after unwritten w n = w
writes-else (ends.TooFar mcs reach) text before after unwritten w n = w

-- a job that came to its ending reached the outcome
reaches : (ending : Ending) (job : Result Job ℕ) (s : Scene) (d : DoesOver (Ok ending) job s) → Reaches (status_of ending) (report_of ending) job d.bytes s
reaches ending job s d = record {
  verdict = d.verdict;
  agrees = ap status_of (sym d.agrees);
  report = ap report_of (sym d.agrees);
  taken = d.taken;
  uses = subst (λ e. Uses job (Ok e) d.taken s.input_before s.input_after s.unread) d.agrees d.uses;
  judged = λ done. d.judged (done-begun ending done);
  whole = λ done. writes-done ending _ s.output_before s.output_after s.unwritten d.writes done;
  unwritten = λ n. writes-else ending _ s.output_before s.output_after s.unwritten d.writes n;
}

-- what a fault of the input leaves
input-cut : (job : Result Job ℕ) (s : Scene) → DoesOver (Err faults.Read) job s → CutsInput job s
input-cut (Err word) s d = absurd (d.uses.1 refl)
input-cut (Ok (Build start)) s d = absurd (d.uses.1 refl)
input-cut (Ok (Trial number)) s d = absurd (d.uses.1 refl)
input-cut (Ok (File job)) s d = record {
  file = job;
  of_file = refl;
  undecided = record { taken = d.taken; takes = d.uses.0; nothing = d.uses.1.1 };
  rose = d.uses.1.0;
  unwritten = d.writes;
}

-- and one of the output
read-for : (job : Result Job ℕ) (taken : List ℕ) (before after : Supply) (unread : Type 0) → Uses job (Err faults.Write) taken before after unread → IsReadFor job before after unread
read-for (Err word) taken before after unread u = u.0
read-for (Ok (Build start)) taken before after unread u = u.0
read-for (Ok (Trial number)) taken before after unread u = u.0
read-for (Ok (File job)) taken before after unread u = u.1

output-cut : (job : Result Job ℕ) (s : Scene) (d : DoesOver (Err faults.Write) job s) → CutsOutput job d.bytes s
output-cut job s d = record {
  verdict = d.verdict;
  judged = d.judged tt;
  done = d.agrees;
  read = read-for job d.taken s.input_before s.input_after s.unread d.uses;
  prefix = d.writes;
}

-- what stands of the status of a job
stands : (ended : Result Ending Fault) (job : Result Job ℕ) (s : Scene) (d : DoesOver ended job s) → ended ≢ Err faults.Memory → Stands (ended_status ended) (ended_report ended) job d.bytes s
stands (Ok (ends.Ran done)) job s d n = reaches (ends.Ran done) job s d
stands (Ok ends.Answered) job s d n = reaches ends.Answered job s d
stands (Ok ends.Built) job s d n = reaches ends.Built job s d
stands (Ok (ends.BadWords word)) job s d n = reaches (ends.BadWords word) job s d
stands (Ok (ends.BadFile wrong)) job s d n = reaches (ends.BadFile wrong) job s d
stands (Ok (ends.NoRoom need have)) job s d n = reaches (ends.NoRoom need have) job s d
stands (Ok (ends.TooLong limit)) job s d n = reaches (ends.TooLong limit) job s d
stands (Ok (ends.TooFar mcs reach)) job s d n = reaches (ends.TooFar mcs reach) job s d
stands (Err faults.Read) job s d n = (refl, input-cut job s d)
stands (Err faults.Write) job s d n = (refl, output-cut job s d)
stands (Err faults.Memory) job s d n = absurd (n refl)

-- a fault is told of itself alone
told-read : (ended : Result Ending Fault) (status : Status) (old new : Account) (unreported : Type 0) → Tells ended status old new unreported → status ≡ statuses.ReadFault
    → (ended ≡ Err faults.Read) × Delivered old new (codes "read\n")
told-read (Ok ending) status old new unreported t e =
    elim t [ inl told ↦ absurd ((no_fault ending).0 (sym told.0 ∙ e)) | inr failed ↦ absurd (let q : statuses.ReportFault ≡ statuses.ReadFault = sym failed.0 ∙ e in cc) ]
told-read (Err faults.Read) status old new unreported t e =
    elim t [ inl told ↦ (refl, told.1) | inr failed ↦ absurd (let q : statuses.ReportFault ≡ statuses.ReadFault = sym failed.0 ∙ e in cc) ]
told-read (Err faults.Write) status old new unreported t e =
    elim t [
      | inl told ↦ absurd (let q : statuses.WriteFault ≡ statuses.ReadFault = sym told.0 ∙ e in cc)
      | inr failed ↦ absurd (let q : statuses.ReportFault ≡ statuses.ReadFault = sym failed.0 ∙ e in cc)
    ]
told-read (Err faults.Memory) status old new unreported t e = absurd (let q : statuses.Memory ≡ statuses.ReadFault = sym t.0 ∙ e in cc)

told-write : (ended : Result Ending Fault) (status : Status) (old new : Account) (unreported : Type 0) → Tells ended status old new unreported → status ≡ statuses.WriteFault
    → (ended ≡ Err faults.Write) × Delivered old new (codes "write\n")
told-write (Ok ending) status old new unreported t e =
    elim t [ inl told ↦ absurd ((no_fault ending).1 (sym told.0 ∙ e)) | inr failed ↦ absurd (let q : statuses.ReportFault ≡ statuses.WriteFault = sym failed.0 ∙ e in cc) ]
told-write (Err faults.Write) status old new unreported t e =
    elim t [ inl told ↦ (refl, told.1) | inr failed ↦ absurd (let q : statuses.ReportFault ≡ statuses.WriteFault = sym failed.0 ∙ e in cc) ]
told-write (Err faults.Read) status old new unreported t e =
    elim t [
      | inl told ↦ absurd (let q : statuses.ReadFault ≡ statuses.WriteFault = sym told.0 ∙ e in cc)
      | inr failed ↦ absurd (let q : statuses.ReportFault ≡ statuses.WriteFault = sym failed.0 ∙ e in cc)
    ]
told-write (Err faults.Memory) status old new unreported t e = absurd (let q : statuses.Memory ≡ statuses.WriteFault = sym t.0 ∙ e in cc)

pub read-cut : (ended : Result Ending Fault) (job : Result Job ℕ) (s : Scene) (status : Status) (old new : Account) (unreported : Type 0) → DoesOver ended job s
    → Tells ended status old new unreported → status ≡ statuses.ReadFault → CutsInput job s × Delivered old new (codes "read\n")
read-cut ended job s status old new unreported d t e =
    let told = told-read ended status old new unreported t e in
    (input-cut job s (subst (λ x. DoesOver x job s) told.0 d), told.1)

pub write-cut : (ended : Result Ending Fault) (job : Result Job ℕ) (s : Scene) (status : Status) (old new : Account) (unreported : Type 0) → DoesOver ended job s
    → Tells ended status old new unreported → status ≡ statuses.WriteFault
    → (bytes : List ℕ) × Holds s.input_before.left bytes × CutsOutput job bytes s × Delivered old new (codes "write\n")
write-cut ended job s status old new unreported d t e =
    let told = told-write ended status old new unreported t e in
    let did = subst (λ x. DoesOver x job s) told.0 d in
    (did.bytes, did.left, output-cut job s did, told.1)

-- a fault of the report is one behind a prefix
told-cut : (ended : Result Ending Fault) (status : Status) (old new : Account) (unreported : Type 0) → Tells ended status old new unreported → status ≡ statuses.ReportFault
    → (ended ≢ Err faults.Memory) × TookPrefix old new (ended_report ended)
told-cut (Ok ending) status old new unreported t e =
    (λ m. cc, elim t [ inl told ↦ absurd ((no_fault ending).2 (sym told.0 ∙ e)) | inr failed ↦ failed.1 ])
told-cut (Err faults.Read) status old new unreported t e =
    (λ m. cc, elim t [ inl told ↦ absurd (let q : statuses.ReadFault ≡ statuses.ReportFault = sym told.0 ∙ e in cc) | inr failed ↦ failed.1 ])
told-cut (Err faults.Write) status old new unreported t e =
    (λ m. cc, elim t [ inl told ↦ absurd (let q : statuses.WriteFault ≡ statuses.ReportFault = sym told.0 ∙ e in cc) | inr failed ↦ failed.1 ])
told-cut (Err faults.Memory) status old new unreported t e = absurd (let q : statuses.Memory ≡ statuses.ReportFault = sym t.0 ∙ e in cc)

-- the status is that of wrong words for these alone
words-by : (ended : Result Ending Fault) (job : Result Job ℕ) (s : Scene) → DoesOver ended job s → ended_status ended ≡ statuses.BadWords → IsErr job
words-by ended (Err word) s d e = refl
words-by (Ok ending) (Ok job) s d e = absurd (job_outcome-words job d.bytes d.verdict (ap status_of (sym d.agrees) ∙ e))
words-by (Err faults.Read) (Ok job) s d e = absurd (cc)
words-by (Err faults.Write) (Ok job) s d e = absurd (cc)
words-by (Err faults.Memory) (Ok job) s d e = absurd (cc)

by-words : (ended : Result Ending Fault) (job : Result Job ℕ) (s : Scene) → DoesOver ended job s → IsErr job → ended_status ended ≡ statuses.BadWords
by-words ended job s d wrong = ap ended_status (words-only ended job s d wrong).1

pub report-cut : (ended : Result Ending Fault) (job : Result Job ℕ) (s : Scene) (status : Status) (old new : Account) (unreported : Type 0) → DoesOver ended job s
    → Tells ended status old new unreported → status ≡ statuses.ReportFault → CutsReport job s old new
report-cut ended job s status old new unreported d t e =
    let cut = told-cut ended status old new unreported t e in
    record {
      bytes = d.bytes;
      left = d.left;
      status = ended_status ended;
      text = ended_report ended;
      stands = stands ended job s d cut.0;
      words = (words-by ended job s d, by-words ended job s d);
      prefix = cut.1;
    }

-- no call of the input fails but where that is told
reads-calm : (ended : Result Ending Fault) (limit : ℕ) (taken : List ℕ) (before after : Supply) → Reads ended limit taken before after → (ended ≡ Err faults.Read) ⊎ (after.faults ≡ before.faults)
reads-calm (Ok (ends.Ran done)) limit taken before after r = inr r.calm
reads-calm (Ok ends.Answered) limit taken before after r = inr r.calm
reads-calm (Ok ends.Built) limit taken before after r = absurd r
reads-calm (Ok (ends.BadWords word)) limit taken before after r = absurd r
reads-calm (Ok (ends.BadFile wrong)) limit taken before after r = inr r.0
reads-calm (Ok (ends.NoRoom need have)) limit taken before after r = absurd r
reads-calm (Ok (ends.TooLong beyond)) limit taken before after r = inr r.0
reads-calm (Ok (ends.TooFar mcs reach)) limit taken before after r = inr r.calm
reads-calm (Err faults.Read) limit taken before after r = inl refl
reads-calm (Err faults.Write) limit taken before after r = inr r.calm
reads-calm (Err faults.Memory) limit taken before after r = inr r

input-calm : (ended : Result Ending Fault) (job : Result Job ℕ) (s : Scene) → DoesOver ended job s → (s.unread → s.input_after.faults ≡ s.input_before.faults)
    → (ended ≡ Err faults.Read) ⊎ (s.input_after.faults ≡ s.input_before.faults)
input-calm ended (Err word) s d same = inr (same d.uses.0)
input-calm ended (Ok (Build start)) s d same = inr (same d.uses.0)
input-calm ended (Ok (Trial number)) s d same = inr (same d.uses.0)
input-calm ended (Ok (File job)) s d same = reads-calm ended (limit_of job) d.taken s.input_before s.input_after d.uses.1

-- nor one of the output
output-calm : (ended : Result Ending Fault) (text : List ℕ) (before after : Account) (unwritten : Type 0) → Writes ended text before after unwritten → (unwritten → after.faults ≡ before.faults)
    → (ended ≡ Err faults.Write) ⊎ (after.faults ≡ before.faults)
output-calm (Ok (ends.Ran done)) text before after unwritten w same = inr w.calm
output-calm (Ok ends.Answered) text before after unwritten w same = inr w.calm
output-calm (Ok ends.Built) text before after unwritten w same = inr w.calm
output-calm (Ok (ends.BadWords word)) text before after unwritten w same = inr (same w)
output-calm (Ok (ends.BadFile wrong)) text before after unwritten w same = inr (same w)
output-calm (Ok (ends.NoRoom need have)) text before after unwritten w same = inr (same w)
output-calm (Ok (ends.TooLong limit)) text before after unwritten w same = inr (same w)
output-calm (Ok (ends.TooFar mcs reach)) text before after unwritten w same = inr (same w)
output-calm (Err faults.Read) text before after unwritten w same = inr (same w)
output-calm (Err faults.Write) text before after unwritten w same = inl refl
output-calm (Err faults.Memory) text before after unwritten w same = inr (same w)

-- nor one of the report
report-calm : (ended : Result Ending Fault) (status : Status) (old new : Account) (unreported : Type 0) → Tells ended status old new unreported → (unreported → new.faults ≡ old.faults)
    → (status ≡ statuses.ReportFault) ⊎ (new.faults ≡ old.faults)
report-calm (Ok ending) status old new unreported t same = elim t [ inl told ↦ inr told.1.calm | inr failed ↦ inl failed.0 ]
report-calm (Err faults.Read) status old new unreported t same = elim t [ inl told ↦ inr told.1.calm | inr failed ↦ inl failed.0 ]
report-calm (Err faults.Write) status old new unreported t same = elim t [ inl told ↦ inr told.1.calm | inr failed ↦ inl failed.0 ]
report-calm (Err faults.Memory) status old new unreported t same = inr (same t.1)

-- done, no call failed
pub calm-told : (ended : Result Ending Fault) (job : Result Job ℕ) (s : Scene) (status : Status) (old new : Account) (unreported : Type 0) → DoesOver ended job s → Tells ended status old new unreported
    → (s.unread → s.input_after.faults ≡ s.input_before.faults) → (s.unwritten → s.output_after.faults ≡ s.output_before.faults) → (unreported → new.faults ≡ old.faults)
    → status ≡ statuses.Done → IsCalm s old new
calm-told ended job s status old new unreported d t same_in same_out same_report e =
    let told = told-done ended status old new unreported t e in
    record {
      input = elim (input-calm ended job s d same_in) [ inl read ↦ absurd (let q : Ok told.0 ≡ Err faults.Read = sym told.1 ∙ read in cc) | inr calm ↦ calm ];
      output = elim (output-calm ended _ s.output_before s.output_after s.unwritten d.writes same_out) [ inl write ↦ absurd (let q : Ok told.0 ≡ Err faults.Write = sym told.1 ∙ write in cc) | inr calm ↦ calm ];
      report = elim (report-calm ended status old new unreported t same_report) [ inl cut ↦ absurd (let q : statuses.ReportFault ≡ statuses.Done = sym cut ∙ e in cc) | inr calm ↦ calm ];
    }

-- a fault of the input or of the output is told, or the report fails
told-fault : (fault : Fault) (ended : Result Ending Fault) (status : Status) (old new : Account) (unreported : Type 0) → Tells ended status old new unreported → ended ≡ Err fault → fault ≢ faults.Memory
    → (status ≡ ended_status (Err fault)) ⊎ (status ≡ statuses.ReportFault)
told-fault faults.Read ended status old new unreported t e n =
    let t' = subst (λ x. Tells x status old new unreported) e t in
    elim t' [ inl told ↦ inl told.0 | inr failed ↦ inr failed.0 ]
told-fault faults.Write ended status old new unreported t e n =
    let t' = subst (λ x. Tells x status old new unreported) e t in
    elim t' [ inl told ↦ inl told.0 | inr failed ↦ inr failed.0 ]
told-fault faults.Memory ended status old new unreported t e n = absurd (n refl)

pub faults-told : (ended : Result Ending Fault) (job : Result Job ℕ) (s : Scene) (status : Status) (old new : Account) (unreported : Type 0) → DoesOver ended job s → Tells ended status old new unreported
    → (s.unread → s.input_after.faults ≡ s.input_before.faults) → (s.unwritten → s.output_after.faults ≡ s.output_before.faults) → (unreported → new.faults ≡ old.faults) → TellsFaults status s old new
faults-told ended job s status old new unreported d t same_in same_out same_report = record {
  input = λ more. elim (input-calm ended job s d same_in) [
    | inl read ↦ told-fault faults.Read ended status old new unreported t read (λ m. cc)
    | inr calm ↦ absurd (omega arith)
  ];
  output = λ more. elim (output-calm ended _ s.output_before s.output_after s.unwritten d.writes same_out) [
    | inl write ↦ told-fault faults.Write ended status old new unreported t write (λ m. cc)
    | inr calm ↦ absurd (omega arith)
  ];
  report = λ more. elim (report-calm ended status old new unreported t same_report) [ inl cut ↦ cut | inr calm ↦ absurd (omega arith) ];
}
