use Rattle.std.proofs.Common.{Some, ap, sym, ◌∙◌, refl, subst}
use Rattle.std.proofs.lemmas.Result.{err_from_is_err_and, MatchResult-weaker, on_ok_weaker}
use Rattle.bfm_base.specs.declared.cause.Cause.TheVariants.{Misplaced}
use Rattle.bfm_commands.specs.Reading.{IsFault}
use Rattle.bfm_commands.specs.Causes.{command_cause, is_cut_short}
use Rattle.bfm_commands.proofs.CauseLemmas.{behind_value, behind_frame}
use Rattle.bfm_commands.proofs.StepLemmas.{IsFault-same, value_cause-before, value_cause-late, GivesHeader-value}
use Rattle.bfm_commands.proofs.summary.Summary.take_value.Goals as goal

pub returns-in_err-value_of-in-Some-clause-refused : goal.returns-in_err-value_of-in-Some-clause-refused
returns-in_err-value_of-in-Some-clause-refused c =
    let p = err_from_is_err_and c.from_residual.result c.from_residual.ensures.1 in
    let s = c.args.self.now in
    rw (p.1, p.2) (λ before sums.
    value_cause-late s before sums c.args.command c.args.rest.now c.args.least c.args.greatest c.requires.role c.in-Some.field-0 c.in-Some.is
    ∙ ap (λ r. behind_value r (λ v. behind_frame (is_cut_short before) Misplaced)) (sym c.value_of.ensures.value ∙ (c.in_err-value_of-in-Some).was))

pub returns-in-None-clause-taken : goal.returns-in-None-clause-taken
returns-in-None-clause-taken c =
    on_ok_weaker c.take_value.result
    (λ taken before sums. (
      value_cause-before c.args.self.now before sums c.args.command c.args.rest.now c.args.least c.args.greatest c.requires.role c.in-None.is ∙ taken.0,
      GivesHeader-value c.args.self.now before sums c.args.command c.args.rest.now c.args.least c.args.greatest c.requires.role _ c.in-None.is refl refl taken.1,
    ))
    c.take_value.ensures.taken

pub returns-in-None-clause-refused : goal.returns-in-None-clause-refused
returns-in-None-clause-refused c =
    MatchResult-weaker c.take_value.result c.take_value.ensures.refused (λ _ h. h)
    (λ fault refused before sums.
    IsFault-same fault _ _ refused (value_cause-before c.args.self.now before sums c.args.command c.args.rest.now c.args.least c.args.greatest c.requires.role c.in-None.is))

pub returns-in_ok-value_of-in-Some-clause-refused : goal.returns-in_ok-value_of-in-Some-clause-refused
returns-in_ok-value_of-in-Some-clause-refused c before sums =
    subst (λ f. IsFault f (command_cause before (Some c.args.command) c.args.rest.now)) (sym (c.refusal_behind.ensures before sums))
    (value_cause-late c.args.self.now before sums c.args.command c.args.rest.now c.args.least c.args.greatest c.requires.role c.in-Some.field-0 c.in-Some.is
    ∙ ap (λ r. behind_value r (λ v. behind_frame (is_cut_short before) Misplaced)) (sym c.value_of.ensures.value ∙ (c.in_ok-value_of-in-Some).was))
