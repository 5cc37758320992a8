-- What follows from the outcome of a start.
use Rattle.std.proofs.Common.{◌≡◌, ◌<◌, ◌≤◌, ℕ, Bool, true, false, cond, nat_lt, Result, Ok, Err, refl, sym, ap, ◌∙◌, subst, arith}
use Rattle.std.proofs.lemmas.Bool.Decides.{nat_tests}
use Rattle.bfm_base.specs.Account.{Account, Delivered, TookPrefix}
use Rattle.bfm_world.specs.Configuration.{Configuration, IsValid}
use Rattle.bfm_session.specs.Written.{IsReadBack}
use Rattle.bfm_cli.specs.Ending.{status_of}
use Rattle.bfm_cli.specs.Outcome.{Outcome, build_outcome, nothing}
use Rattle.bfm_cli.specs.Promise.{Agrees, HasWorld, DoesBuilt, DoesOver, Scene, Tells, Writes}
use Rattle.bfm_cli.specs.Start.{need_of, room_of, start_text, world_of}
use Rattle.bfm_cli.specs.declared.job.Job.{Job}
use Rattle.bfm_cli.specs.declared.job.Job.TheVariants.{Build}
use Rattle.bfm_cli.specs.declared.start.Start.{Start}
use Rattle.bfm_cli.specs.declared.ending.Ending.{Ending}
use Rattle.bfm_cli.specs.declared.ending.Ending.TheVariants as ends
use Rattle.bfm_cli.specs.declared.ending.Fault.{Fault}
use Rattle.bfm_cli.specs.declared.ending.Fault.TheVariants as faults
use Rattle.bfm_cli.specs.declared.status.Status.{Status}
use Rattle.bfm_cli.specs.declared.status.Status.TheVariants as statuses
use Rattle.bfm_cli.proofs.OutcomeLemmas.{told-done}

-- a start for which there is room comes to its file
build_outcome-fits : (start : Start) → ¬ (room_of start < need_of start) → build_outcome start ≡ record { ending = ends.Built; output = start_text (world_of start) }
build_outcome-fits start fits =
    let wide : nat_lt (room_of start) (need_of start) ≡ false = grind (arith, nat_tests) in
    ap (λ short. cond short (nothing (ends.NoRoom (need_of start) (room_of start))) (record { ending = ends.Built; output = start_text (world_of start) })) wide

-- its world was built, and its file written or a prefix of it
pub DoesBuilt-whole : (start : Start) (world : Configuration) (before after : Account) (unwritten : Type 0) → ¬ (room_of start < need_of start) → world ≡ world_of start → IsValid world → IsReadBack world 0
    → Delivered before after (start_text world) → DoesBuilt (Ok ends.Built) start before after unwritten
DoesBuilt-whole start world before after unwritten fits same valid back d =
    let outcome = build_outcome-fits start fits in
    record {
      agrees = sym (ap (λ (o : Outcome). o.ending) outcome);
      needs_no_input = λ e. cc;
      writes = subst (λ (o : Outcome). Delivered before after o.output) (sym outcome) (subst (λ w. Delivered before after (start_text w)) same d);
      worlds = λ _. (subst IsValid same valid, subst (λ w. IsReadBack w 0) same back);
    }

pub DoesBuilt-cut : (start : Start) (world : Configuration) (before after : Account) (unwritten : Type 0) → ¬ (room_of start < need_of start) → world ≡ world_of start → IsValid world → IsReadBack world 0
    → TookPrefix before after (start_text world) → DoesBuilt (Err faults.Write) start before after unwritten
DoesBuilt-cut start world before after unwritten fits same valid back p =
    let outcome = build_outcome-fits start fits in
    record {
      agrees = ap (λ (o : Outcome). status_of o.ending) outcome;
      needs_no_input = λ e. cc;
      writes = subst (λ (o : Outcome). TookPrefix before after o.output) (sym outcome) (subst (λ w. TookPrefix before after (start_text w)) same p);
      worlds = λ _. (subst IsValid same valid, subst (λ w. IsReadBack w 0) same back);
    }

-- a start whose outcome is done has room, and its outcome is its file
build_outcome-done : (start : Start) (short : Bool) → nat_lt (room_of start) (need_of start) ≡ short
    → let outcome = cond short (nothing (ends.NoRoom (need_of start) (room_of start))) (record { ending = ends.Built; output = start_text (world_of start) }) in
    status_of outcome.ending ≡ statuses.Done → (need_of start ≤ room_of start) × (outcome.ending ≡ ends.Built) × (outcome.output ≡ start_text (world_of start))
build_outcome-done start true e d = absurd (cc)
build_outcome-done start false e d = (grind (arith, nat_tests), refl, refl)

-- a start that is done was written whole, of a valid world for which there is room
pub built-told : (ended : Result Ending Fault) (job : Result Job ℕ) (start : Start) (s : Scene) (status : Status) (old new : Account) (unreported : Type 0) → job ≡ Ok (Build start) → DoesOver ended job s
    → Tells ended status old new unreported → status ≡ statuses.Done
    → (need_of start ≤ room_of start) × IsValid (world_of start) × Delivered s.output_before s.output_after (start_text (world_of start)) × IsReadBack (world_of start) 0
built-told ended job start s status old new unreported of_start does t e =
    let d = subst (λ j. DoesOver ended j s) of_start does in
    let told = told-done ended status old new unreported t e in
    let agrees : told.0 ≡ (build_outcome start).ending = subst (λ x. Agrees x (build_outcome start)) told.1 d.agrees in
    let outcome = build_outcome-done start _ refl (ap status_of (sym agrees) ∙ told.2) in
    let built : ended ≡ Ok ends.Built = told.1 ∙ ap Ok (agrees ∙ outcome.1) in
    let valid = subst HasWorld (sym built) tt in (
      outcome.0,
      (d.worlds valid).0,
      subst (Delivered s.output_before s.output_after) outcome.2 (subst (λ x. Writes x (build_outcome start).output s.output_before s.output_after s.unwritten) built d.writes),
      (d.worlds valid).1,
    )
