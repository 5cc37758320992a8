use Rattle.std.proofs.Common.{◌+◌, ◌++◌, ◌∷◌, [], drop, get_or, ap}
use Rattle.std.proofs.lemmas.List.{drop_more}
use Rattle.std.proofs.lemmas.Result.{err_from_is_err_and}
use Rattle.bfm_writer.proofs.BatchLemmas.{TookFirst-next, TookPrefix-next}
use Rattle.bfm_writer.proofs.batch.Batch.put.Goals as goal

pub loop-byte-preserved : goal.loop-byte-preserved
loop-byte-preserved g c =
    let i = c.loop-byte.byte-index in
    let bytes = c.args.bytes.now in
    TookFirst-next _ _ _ _ _ _ (get_or bytes i 0 ∷ []) _ _ c.loop-byte.invariant
    (ap (λ l. c.loop-byte.self ++ l) (drop_more bytes i 0 c.loop-byte-test.true)) c.in_ok-push.ensures

pub returns-in_err-push : goal.returns-in_err-push
returns-in_err-push g c =
    let p = err_from_is_err_and c.from_residual.result c.from_residual.ensures.1 in
    let i = c.loop-byte.byte-index in
    let bytes = c.args.bytes.now in
    rw p.1 (TookPrefix-next _ _ _ _ _ _ (get_or bytes i 0 ∷ []) (drop (i + 1) bytes) c.loop-byte.invariant
    (ap (λ l. c.loop-byte.self ++ l) (drop_more bytes i 0 c.loop-byte-test.true)) c.in_err-push.ensures)
