use Rattle.std.proofs.Common.{◌++◌, ◌∷◌, codes, decimal, refl}
use Rattle.std.proofs.lemmas.Result.{err_from_is_err_and}
use Rattle.bfm_writer.specs.Text.{position_text}
use Rattle.bfm_writer.proofs.BatchLemmas.{TookFirst-none, TookFirst-next, TookPrefix-next, Passes-then}
use Rattle.bfm_writer.proofs.headers.write_vector.Goals as goal

pub returns-in_err-write_position : goal.returns-in_err-write_position
returns-in_err-write_position g c =
    let p = err_from_is_err_and c.from_residual.result c.from_residual.ensures.1 in
    rw p.1 (TookPrefix-next _ _ _ _ _ c.args.batch.now (position_text c.args.v) (58 ∷ (decimal c.args.id ++ codes "\n")) (TookFirst-none _ _) refl c.in_err-write_position.ensures)

pub returns : goal.returns
returns g c =
    Passes-then _ _ _ _ _ _ _
    (TookFirst-next _ _ _ _ _ c.args.batch.now (position_text c.args.v) (58 ∷ (decimal c.args.id ++ codes "\n")) _ (TookFirst-none _ _) refl c.in_ok-write_position.ensures) c.write_vector_id.ensures
