use Rattle.std.proofs.Common.{◌≡◌, ℕ, List, ◌+◌, ◌++◌, codes, drop, get_or, ap, sym, ◌∙◌}
use Rattle.std.specs.List.{flat_map}
use Rattle.std.proofs.lemmas.List.{drop_more}
use Rattle.std.proofs.lemmas.Result.{err_from_is_err_and}
use Rattle.bfm_world.specs.Bonds.{neighbours_of}
use Rattle.bfm_writer.specs.Header.{bond_entry}
use Rattle.bfm_writer.specs.Listing.{behind}
use Rattle.bfm_writer.proofs.ListingLemmas.{behind-more, TookFirst-entries, TookPrefix-entries}
use Rattle.bfm_writer.proofs.headers.write_bonds_of.Goals as goal

pub loop-j-preserved : goal.loop-j-preserved
loop-j-preserved g c =
    let w = c.args.world.now in
    let f : ℕ → List ℕ = bond_entry w c.args.i in
    let k = c.loop-j.j-index in
    let row = neighbours_of w.bonds c.args.i in
    let more = flat_map f (drop (k + 1) row) in
    let same = c.neighbours-j-items.ensures.row in
    let next : flat_map f (drop k row) ≡ f (get_or row k 0) ++ more = ap (flat_map f) (drop_more row k 0 (rw same at c.loop-j-test.true)) in
    let now : c.in_ok-written.written ≡ behind c.loop-j.written (f (get_or row k 0)) = rw same at c.in_ok-written.ensures.behind in (
      TookFirst-entries _ _ _ _ _ _ (codes "!bonds\n") _ _ (f (get_or row k 0)) more _ next now c.loop-j.invariant.0 (rw same at c.in_ok-written.ensures.entries),
      ap (λ l. behind l more) now ∙ (sym (behind-more c.loop-j.written (f (get_or row k 0)) more) ∙ (ap (behind c.loop-j.written) (sym next) ∙ c.loop-j.invariant.1)),
    )

pub returns-in_err-written-clause-entries : goal.returns-in_err-written-clause-entries
returns-in_err-written-clause-entries g c =
    let p = err_from_is_err_and c.from_residual.result c.from_residual.ensures.1 in
    let w = c.args.world.now in
    let f : ℕ → List ℕ = bond_entry w c.args.i in
    let k = c.loop-j.j-index in
    let row = neighbours_of w.bonds c.args.i in
    let more = flat_map f (drop (k + 1) row) in
    let same = c.neighbours-j-items.ensures.row in
    let next : flat_map f (drop k row) ≡ f (get_or row k 0) ++ more = ap (flat_map f) (drop_more row k 0 (rw same at c.loop-j-test.true)) in
    rw p.1 (TookPrefix-entries _ _ _ _ _ (codes "!bonds\n") _ _ (f (get_or row k 0)) more next c.loop-j.invariant.0 (rw same at c.in_err-written.ensures.entries))
