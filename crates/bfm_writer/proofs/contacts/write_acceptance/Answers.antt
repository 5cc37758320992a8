use Rattle.std.proofs.Common.{◌≢◌, ◌++◌, codes, length, ap, ◌∙◌}
use Rattle.std.specs.List.{flat_map}
use Rattle.std.proofs.lemmas.Result.{err_from_is_err_and}
use Rattle.bfm_writer.specs.Header.{threshold_line}
use Rattle.bfm_writer.proofs.BatchLemmas.{TookFirst-none, TookFirst-next, TookPrefix-next, Passes-then}
use Rattle.bfm_writer.proofs.TableLemmas.{acceptance-some}
use Rattle.bfm_writer.proofs.contacts.write_acceptance.Goals as goal

pub returns-in_err-put : goal.returns-in_err-put
returns-in_err-put g c =
    let p = err_from_is_err_and c.from_residual.result c.from_residual.ensures.1 in
    let table = c.args.table.now in
    let some : length table.thresholds ≢ 0 = λ e. c.if-thresholds-eq0.false (c.thresholds.ensures.count ∙ e) in
    rw p.1 (TookPrefix-next _ _ _ _ _ c.args.batch.now (codes "!bfm_acceptance\n") (flat_map threshold_line table.thresholds) (TookFirst-none _ _)
    (ap (λ l. c.args.batch.now ++ l) (acceptance-some table some)) c.in_err-put.ensures)

pub returns : goal.returns
returns g c =
    let table = c.args.table.now in
    let some : length table.thresholds ≢ 0 = λ e. c.if-thresholds-eq0.false (c.thresholds.ensures.count ∙ e) in
    Passes-then _ _ _ _ _ _ _
    (TookFirst-next _ _ _ _ _ c.args.batch.now (codes "!bfm_acceptance\n") (flat_map threshold_line table.thresholds) _ (TookFirst-none _ _)
    (ap (λ l. c.args.batch.now ++ l) (acceptance-some table some)) c.in_ok-put.ensures) c.write_thresholds.ensures
