use Rattle.std.proofs.Common.{◌++◌, codes}
use Rattle.std.specs.List.{flat_map}
use Rattle.std.proofs.lemmas.Result.{err_from_is_err_and}
use Rattle.bfm_base.proofs.SendLemmas.{Sends-later, TookPrefix-append, TookPrefix-later}
use Rattle.bfm_session.specs.NumberLines.{spaced_number}
use Rattle.bfm_session.proofs.lines.number_line.Goals as goal

pub returns-in_err-send : goal.returns-in_err-send
returns-in_err-send g c =
    let p = err_from_is_err_and c.from_residual.result c.from_residual.ensures.1 in
    rw p.1 (TookPrefix-append _ _ _ (flat_map spaced_number c.args.numbers.now ++ codes "\n") c.in_err-send.ensures.sent)

pub returns-in_err-spaced_numbers : goal.returns-in_err-spaced_numbers
returns-in_err-spaced_numbers g c =
    let p = err_from_is_err_and c.from_residual-in_err-spaced_numbers.result c.from_residual-in_err-spaced_numbers.ensures.1 in
    rw p.1 (TookPrefix-later _ _ _ _ _ c.in_ok-send.ensures.sent (TookPrefix-append _ _ _ (codes "\n") c.in_err-spaced_numbers.ensures))

pub returns : goal.returns
returns g c =
    Sends-later c.send-2.result _ _ _ _ _ c.in_ok-send.ensures.sent (Sends-later c.send-2.result _ _ _ _ _ c.in_ok-spaced_numbers.ensures c.send-2.ensures.sent)
