use Rattle.std.proofs.Common.{◌+◌, ◌++◌, drop, get_or, ap}
use Rattle.std.specs.List.{flat_map}
use Rattle.std.proofs.lemmas.List.{drop_more}
use Rattle.std.proofs.lemmas.Result.{err_from_is_err_and}
use Rattle.bfm_writer.specs.Text.{bond_line}
use Rattle.bfm_writer.proofs.BatchLemmas.{TookFirst-next, TookPrefix-next}
use Rattle.bfm_writer.proofs.groups.write_bonds.Goals as goal

pub loop-bond-preserved : goal.loop-bond-preserved
loop-bond-preserved g c =
    let i = c.loop-bond.bond-index in
    let bonds = c.args.bonds.now in
    TookFirst-next _ _ _ _ _ _ (bond_line (get_or bonds i (0, 0))) (flat_map bond_line (drop (i + 1) bonds)) _ c.loop-bond.invariant
    (ap (λ l. c.loop-bond.batch ++ flat_map bond_line l) (drop_more bonds i (0, 0) c.loop-bond-test.true)) c.in_ok-write_bond.ensures

pub returns-in_err-write_bond : goal.returns-in_err-write_bond
returns-in_err-write_bond g c =
    let p = err_from_is_err_and c.from_residual.result c.from_residual.ensures.1 in
    let i = c.loop-bond.bond-index in
    let bonds = c.args.bonds.now in
    rw p.1 (TookPrefix-next _ _ _ _ _ _ (bond_line (get_or bonds i (0, 0))) (flat_map bond_line (drop (i + 1) bonds)) c.loop-bond.invariant
    (ap (λ l. c.loop-bond.batch ++ flat_map bond_line l) (drop_more bonds i (0, 0) c.loop-bond-test.true)) c.in_err-write_bond.ensures)
