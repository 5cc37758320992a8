use Rattle.std.proofs.Common.{◌++◌, refl}
use Rattle.std.proofs.lemmas.Result.{err_from_is_err_and}
use Rattle.bfm_writer.specs.Header.{fixed_text, labels_text, valences_text}
use Rattle.bfm_writer.proofs.BatchLemmas.{TookFirst-none, TookFirst-next, TookPrefix-next, Passes-then}
use Rattle.bfm_writer.proofs.headers.write_all_marks.Goals as goal

pub returns-in_err-write_marks : goal.returns-in_err-write_marks
returns-in_err-write_marks g c =
    let p = err_from_is_err_and c.from_residual.result c.from_residual.ensures.1 in
    let w = c.args.world.now in
    rw p.1 (TookPrefix-next _ _ _ _ _ c.args.batch.now (labels_text w) (valences_text w ++ fixed_text w) (TookFirst-none _ _) refl c.in_err-write_marks.ensures)

pub returns-in_err-write_marks-2 : goal.returns-in_err-write_marks-2
returns-in_err-write_marks-2 g c =
    let p = err_from_is_err_and c.from_residual-in_err-write_marks-2.result c.from_residual-in_err-write_marks-2.ensures.1 in
    let w = c.args.world.now in
    let labels = TookFirst-next _ _ _ _ _ c.args.batch.now (labels_text w) (valences_text w ++ fixed_text w) _ (TookFirst-none _ _) refl c.in_ok-write_marks.ensures in
    rw p.1 (TookPrefix-next _ _ _ _ _ _ (valences_text w) (fixed_text w) labels refl c.in_err-write_marks-2.ensures)

pub returns : goal.returns
returns g c =
    let w = c.args.world.now in
    let labels = TookFirst-next _ _ _ _ _ c.args.batch.now (labels_text w) (valences_text w ++ fixed_text w) _ (TookFirst-none _ _) refl c.in_ok-write_marks.ensures in
    let valences = TookFirst-next _ _ _ _ _ _ (valences_text w) (fixed_text w) _ labels refl c.in_ok-write_marks-2.ensures in
    Passes-then _ _ _ _ _ _ _ valences c.write_fixed.ensures
