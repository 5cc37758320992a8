use Rattle.std.proofs.Common.{◌+◌, ◌++◌, [], drop, ap}
use Rattle.std.specs.List.{flat_map}
use Rattle.std.proofs.lemmas.List.{drop_more}
use Rattle.std.proofs.lemmas.Result.{err_from_is_err_and}
use Rattle.bfm_writer.proofs.BatchLemmas.{TookFirst-next, TookPrefix-next}
use Rattle.bfm_writer.proofs.batch.Batch.put_pieces.Goals as goal

pub loop-piece-preserved : goal.loop-piece-preserved
loop-piece-preserved g c =
    let i = c.loop-piece.piece-index in
    let pieces = c.args.pieces.now in
    TookFirst-next _ _ _ _ _ _ _ _ _ c.loop-piece.invariant
    (ap (λ l. c.loop-piece.self ++ flat_map (λ piece. piece.now) l) (drop_more pieces i (record { ref_ptr = (0, 0); now = [] }) c.loop-piece-test.true)) c.in_ok-put.ensures

pub returns-in_err-put : goal.returns-in_err-put
returns-in_err-put g c =
    let p = err_from_is_err_and c.from_residual.result c.from_residual.ensures.1 in
    let i = c.loop-piece.piece-index in
    let pieces = c.args.pieces.now in
    rw p.1 (TookPrefix-next _ _ _ _ _ _ _ (flat_map (λ piece. piece.now) (drop (i + 1) pieces)) c.loop-piece.invariant
    (ap (λ l. c.loop-piece.self ++ flat_map (λ piece. piece.now) l) (drop_more pieces i (record { ref_ptr = (0, 0); now = [] }) c.loop-piece-test.true)) c.in_err-put.ensures)
