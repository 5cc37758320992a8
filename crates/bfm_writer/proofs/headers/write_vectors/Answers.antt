use Rattle.std.proofs.Common.{◌+◌, ◌++◌, drop, ap}
use Rattle.std.specs.List.{flat_map}
use Rattle.std.proofs.lemmas.Result.{err_from_is_err_and}
use Rattle.bfm_writer.specs.Header.{vector_line}
use Rattle.bfm_writer.proofs.BatchLemmas.{TookFirst-next, TookPrefix-next}
use Rattle.bfm_writer.proofs.ListingLemmas.{drop-pair}
use Rattle.bfm_writer.proofs.headers.write_vectors.Goals as goal

pub loop-k-preserved : goal.loop-k-preserved
loop-k-preserved g c =
    let k = c.loop-k.k in
    let set = c.args.set.now in
    TookFirst-next _ _ _ _ _ _ _ (flat_map vector_line (drop (k + 1) set)) _ c.loop-k.invariant
    (ap (λ l. c.loop-k.batch ++ flat_map vector_line l) (drop-pair set k c.vector.result c.id.result c.vector.ensures.value c.id.ensures)) c.in_ok-write_vector.ensures

pub returns-in_err-write_vector : goal.returns-in_err-write_vector
returns-in_err-write_vector g c =
    let p = err_from_is_err_and c.from_residual.result c.from_residual.ensures.1 in
    let k = c.loop-k.k in
    let set = c.args.set.now in
    rw p.1 (TookPrefix-next _ _ _ _ _ _ _ (flat_map vector_line (drop (k + 1) set)) c.loop-k.invariant
    (ap (λ l. c.loop-k.batch ++ flat_map vector_line l) (drop-pair set k c.vector.result c.id.result c.vector.ensures.value c.id.ensures)) c.in_err-write_vector.ensures)
