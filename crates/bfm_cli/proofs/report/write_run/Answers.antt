use Rattle.std.proofs.lemmas.Result.{err_from_is_err_and}
use Rattle.bfm_base.proofs.SendLemmas.{Sends-later, TookPrefix-append}
use Rattle.bfm_session.specs.CrossingText.{crossing_text}
use Rattle.bfm_cli.proofs.report.write_run.Goals as goal

pub returns-in_err-number_lines : goal.returns-in_err-number_lines
returns-in_err-number_lines g c =
    let p = err_from_is_err_and c.from_residual.result c.from_residual.ensures.1 in
    rw p.1 (TookPrefix-append _ _ _ (crossing_text c.args.done.now.verdict) c.in_err-number_lines.ensures)

pub returns : goal.returns
returns g c = Sends-later c.crossing_lines.result _ _ _ _ _ c.in_ok-number_lines.ensures c.crossing_lines.ensures
