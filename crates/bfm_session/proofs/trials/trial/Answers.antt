use Rattle.std.proofs.Common.{◌∙◌, ap, subst}
use Rattle.std.proofs.lemmas.Result.{err_from_is_err_and}
use Rattle.bfm_base.specs.Account.{TookAll}
use Rattle.sweep_run.specs.Sweep.{Progress}
use Rattle.bfm_session.specs.Trial.{after_trial, radius_sum, trial_lines, trial_text}
use Rattle.bfm_session.proofs.TableLemmas.{Answers-flush}
use Rattle.bfm_session.proofs.trials.trial.Goals as goal

pub returns-in_err-flush : goal.returns-in_err-flush
returns-in_err-flush g c =
    let p = err_from_is_err_and c.from_residual-in_err-flush.result c.from_residual-in_err-flush.ensures.1 in
    let number = c.args.number in
    let text = trial_text number c.args.world in
    let old = g.O.Sink.account c.args.output.now in
    let mid = g.O.Sink.account c.trial_lines.new.sink in
    let last = ap (after_trial number) c.in-Ok.ensures.engine in
    let accepted = c.in_ok-figures.ensures.accepted ∙ ap (λ (run : Progress). run.tally.accepted) last in
    let radius = c.in_ok-figures.ensures.radius ∙ ap (λ (run : Progress). radius_sum run.world) last in
    let taken = subst (TookAll old mid) (λ i. trial_lines number (accepted i) (radius i)) c.in_ok-trial_lines.ensures in
    Answers-flush _ p.0 old mid _ text _ p.1 p.2 taken c.in_err-flush.ensures.failed
