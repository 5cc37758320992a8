use Rattle.std.proofs.Common.{◌≢◌, ◌++◌, [], codes, ap, sym, ◌∙◌}
use Rattle.std.specs.List.{flat_map}
use Rattle.std.proofs.lemmas.Bool.{true≢false}
use Rattle.std.proofs.lemmas.Result.{err_from_is_err_and}
use Rattle.bfm_writer.specs.Header.{listed, vector_line}
use Rattle.bfm_writer.proofs.BatchLemmas.{TookFirst-none, TookFirst-next, TookPrefix-next, Passes-then}
use Rattle.bfm_writer.proofs.ListingLemmas.{listed-vectors}
use Rattle.bfm_writer.proofs.headers.write_set.Goals as goal

pub returns-in_err-put : goal.returns-in_err-put
returns-in_err-put g c =
    let p = err_from_is_err_and c.from_residual.result c.from_residual.ensures.1 in
    let set = c.set-set.result.now in
    let line = codes "!set_of_bondvectors\n" in
    let some : set ≢ [] = λ e. true≢false (sym (c.is_empty.ensures.1 e) ∙ c.if-is_empty.false) in
    let text = ap (λ s. listed line (flat_map vector_line s)) (sym c.set-set.ensures) ∙ listed-vectors line set some in
    rw p.1 (TookPrefix-next _ _ _ _ _ c.args.batch.now line (flat_map vector_line set) (TookFirst-none _ _)
    (ap (λ l. c.args.batch.now ++ l) text) c.in_err-put.ensures)

pub returns : goal.returns
returns g c =
    let set = c.set-set.result.now in
    let line = codes "!set_of_bondvectors\n" in
    let some : set ≢ [] = λ e. true≢false (sym (c.is_empty.ensures.1 e) ∙ c.if-is_empty.false) in
    let text = ap (λ s. listed line (flat_map vector_line s)) (sym c.set-set.ensures) ∙ listed-vectors line set some in
    Passes-then _ _ _ _ _ _ _
    (TookFirst-next _ _ _ _ _ c.args.batch.now line (flat_map vector_line set) _ (TookFirst-none _ _)
    (ap (λ l. c.args.batch.now ++ l) text) c.in_ok-put.ensures) c.write_vectors.ensures
