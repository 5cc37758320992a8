use Rattle.std.proofs.Common.{sym, ◌∙◌, refl, subst, ◌≤◌}
use Rattle.std.proofs.lemmas.Result.{err_from_is_err_and}
use Rattle.bfm_world.specs.Draft.{Draft}
use Rattle.bfm_commands.proofs.StepLemmas.{IsFault-same, time_cause, first_cause-ok, next_cause-ok, GivesFrame-next, GivesFrame-first}
use Rattle.bfm_commands.proofs.summary.Summary.begin_frame.Goals as goal

pub returns-in_err-mcs-clause-refused : goal.returns-in_err-mcs-clause-refused
returns-in_err-mcs-clause-refused c =
    let p = err_from_is_err_and c.from_residual.result c.from_residual.ensures.1 in
    rw (p.1, p.2) (λ before sums. time_cause c.args.self.now before sums c.args.rest.now _ (sym c.value_of.ensures.value ∙ c.in_err-mcs.was))

pub returns-in_err-next-in-Some-clause-refused : goal.returns-in_err-next-in-Some-clause-refused
returns-in_err-next-in-Some-clause-refused c =
    let p = err_from_is_err_and c.from_residual-in_err-next-in-Some.result c.from_residual-in_err-next-in-Some.ensures.1 in
    rw (p.1, p.2) (λ before sums.
    next_cause-ok c.args.self.now before sums c.args.rest.now c.in_ok-mcs.mcs (sym c.value_of.ensures.value ∙ c.in_ok-mcs.was) c.in-Some.frames c.in-Some.is ∙ (c.in_err-next-in-Some).ensures.refused)

pub returns-in_err-builder-in-None-clause-refused : goal.returns-in_err-builder-in-None-clause-refused
returns-in_err-builder-in-None-clause-refused c =
    let p = err_from_is_err_and c.from_residual-in_err-builder-in-None.result c.from_residual-in_err-builder-in-None.ensures.1 in
    rw (p.1, p.2) (λ before sums.
    IsFault-same c.in_err-builder-in-None.field-0.0 _ _ (c.in_err-builder-in-None).ensures.refused
    (first_cause-ok c.args.self.now before sums c.args.rest.now c.in_ok-mcs.mcs (sym c.value_of.ensures.value ∙ c.in_ok-mcs.was) c.in-None.is))

pub returns-in_ok-next-in-Some-clause-taken : goal.returns-in_ok-next-in-Some-clause-taken
returns-in_ok-next-in-Some-clause-taken c before sums =
    let value = sym c.value_of.ensures.value ∙ c.in_ok-mcs.was in
    let next = (c.in_ok-next-in-Some).ensures in (
      next_cause-ok c.args.self.now before sums c.args.rest.now c.in_ok-mcs.mcs value c.in-Some.frames c.in-Some.is ∙ next.taken,
      GivesFrame-next c.args.self.now before sums c.args.rest.now c.in_ok-mcs.mcs value c.in-Some.frames _ c.next.new.self c.in-Some.is next.taken refl refl next.frame next.mcs next.whole,
    )

pub returns-in_ok-builder-in-None-clause-taken : goal.returns-in_ok-builder-in-None-clause-taken
returns-in_ok-builder-in-None-clause-taken c before sums =
    let value = sym c.value_of.ensures.value ∙ c.in_ok-mcs.was in
    let begun = (c.in_ok-builder-in-None).ensures in (
      first_cause-ok c.args.self.now before sums c.args.rest.now c.in_ok-mcs.mcs value c.in-None.is ∙ begun.begun.0,
      GivesFrame-first c.args.self.now before sums c.args.rest.now c.in_ok-mcs.mcs value _ c.new.result c.in-None.is refl refl
          (c.new.ensures.frame ∙ begun.begun.1) (subst (λ (d : Draft). 1 ≤ d.count) (sym c.new.ensures.frame) begun.some) c.new.ensures.mcs c.new.ensures.none,
    )
