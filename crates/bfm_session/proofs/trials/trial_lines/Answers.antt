use Rattle.std.proofs.Common.{[], ◌∷◌, ◌++◌, codes}
use Rattle.std.proofs.lemmas.Result.{err_from_is_err_and}
use Rattle.bfm_base.proofs.SendLemmas.{Sends-later, TookPrefix-append, TookPrefix-later}
use Rattle.bfm_session.specs.NumberLines.{number_line}
use Rattle.bfm_session.proofs.trials.trial_lines.Goals as goal

pub returns-in_err-number_line : goal.returns-in_err-number_line
returns-in_err-number_line g c =
    let p = err_from_is_err_and c.from_residual.result c.from_residual.ensures.1 in
    let rest = number_line (codes "accepted") (c.args.accepted ∷ []) ++ number_line (codes "radius") (c.args.radius ∷ []) in
    rw p.1 (TookPrefix-append _ _ _ rest c.in_err-number_line.ensures)

pub returns-in_err-number_line-2 : goal.returns-in_err-number_line-2
returns-in_err-number_line-2 g c =
    let p = err_from_is_err_and c.from_residual-in_err-number_line-2.result c.from_residual-in_err-number_line-2.ensures.1 in
    let rest = number_line (codes "radius") (c.args.radius ∷ []) in
    rw p.1 (TookPrefix-later _ _ _ _ _ c.in_ok-number_line.ensures (TookPrefix-append _ _ _ rest c.in_err-number_line-2.ensures))

pub returns : goal.returns
returns g c =
    Sends-later c.sum_line.result _ _ _ _ _ c.in_ok-number_line.ensures (Sends-later c.sum_line.result _ _ _ _ _ c.in_ok-number_line-2.ensures c.sum_line.ensures)
