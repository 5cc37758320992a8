use Rattle.std.proofs.lemmas.Result.{err_from_is_err_and}
use Rattle.bfm_session.proofs.TableLemmas.{TookAll-row, TookPrefix-row}
use Rattle.bfm_session.proofs.tables.size_lines.Goals as goal

pub returns-in_err-size_line : goal.returns-in_err-size_line
returns-in_err-size_line g c =
    let p = err_from_is_err_and c.from_residual.result c.from_residual.ensures.1 in
    rw p.1 (TookPrefix-row c.rows-size-items.result.now c.args.sizes.now c.rows-size-items.ensures c.loop-size.size-index c.loop-size-test.true _ _ _ c.loop-size.invariant
    c.in_err-size_line.ensures)

pub loop-size-preserved : goal.loop-size-preserved
loop-size-preserved g c =
    TookAll-row c.rows-size-items.result.now c.args.sizes.now c.rows-size-items.ensures c.loop-size.size-index c.loop-size-test.true _ _ _ c.loop-size.invariant
    c.in_ok-size_line.ensures
