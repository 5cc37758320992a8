use Rattle.std.specs.List.{flat_map}
use Rattle.std.proofs.lemmas.Result.{err_from_is_err_and}
use Rattle.bfm_base.proofs.SendLemmas.{Sends-later, TookPrefix-append}
use Rattle.bfm_session.specs.Tables.{drift_line, mean_line}
use Rattle.bfm_session.proofs.tables.move_lines.Goals as goal

pub returns-in_err-mean_line : goal.returns-in_err-mean_line
returns-in_err-mean_line g c =
    let p = err_from_is_err_and c.from_residual.result c.from_residual.ensures.1 in
    rw p.1 (TookPrefix-append _ _ (mean_line c.args.first.now c.args.world.now) (flat_map (drift_line c.args.first.now c.args.world.now) c.args.molecules.now) c.in_err-mean_line.ensures)

pub returns : goal.returns
returns g c = Sends-later c.drift_lines.result _ _ _ (mean_line c.args.first.now c.args.world.now) _ c.in_ok-mean_line.ensures c.drift_lines.ensures
