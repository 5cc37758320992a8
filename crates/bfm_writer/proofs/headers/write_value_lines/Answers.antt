use Rattle.std.proofs.Common.{◌+◌, ◌++◌, [], drop, ap}
use Rattle.std.specs.List.{flat_map}
use Rattle.std.proofs.lemmas.List.{drop_more}
use Rattle.std.proofs.lemmas.Result.{err_from_is_err_and}
use Rattle.bfm_writer.specs.Header.{value_line}
use Rattle.bfm_writer.proofs.BatchLemmas.{TookFirst-next, TookPrefix-next}
use Rattle.bfm_writer.proofs.headers.write_value_lines.Goals as goal

pub loop-command-preserved : goal.loop-command-preserved
loop-command-preserved g c =
    let i = c.loop-command.command-index in
    let values = c.args.values.now in
    TookFirst-next _ _ _ _ _ _ _ (flat_map (λ v. value_line (v.0.now, v.1)) (drop (i + 1) values)) _ c.loop-command.invariant
    (ap (λ l. c.loop-command.batch ++ flat_map (λ v. value_line (v.0.now, v.1)) l) (drop_more values i (record { ref_ptr = (0, 0); now = [] }, 0) c.loop-command-test.true)) c.in_ok-write_value.ensures

pub returns-in_err-write_value : goal.returns-in_err-write_value
returns-in_err-write_value g c =
    let p = err_from_is_err_and c.from_residual.result c.from_residual.ensures.1 in
    let i = c.loop-command.command-index in
    let values = c.args.values.now in
    rw p.1 (TookPrefix-next _ _ _ _ _ _ _ (flat_map (λ v. value_line (v.0.now, v.1)) (drop (i + 1) values)) c.loop-command.invariant
    (ap (λ l. c.loop-command.batch ++ flat_map (λ v. value_line (v.0.now, v.1)) l) (drop_more values i (record { ref_ptr = (0, 0); now = [] }, 0) c.loop-command-test.true)) c.in_err-write_value.ensures)
