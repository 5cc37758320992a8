use Rattle.std.proofs.Common.{◌≡◌, [], length, arith}
use Rattle.std.proofs.lemmas.List.Sums.{sum_by_more}
use Rattle.bfm_world.specs.Bonds.{neighbours_of}
use Rattle.bfm_session.proofs.InfoLemmas.{length-neighbours}
use Rattle.bfm_session.proofs.info.bond_count.Goals as goal

pub loop-monomer-preserved : goal.loop-monomer-preserved
loop-monomer-preserved c =
    let world = c.args.world.now in
    let i = c.loop-monomer.monomer in
    let bonds = c.len-monomer-end.ensures.valid.bonds in
    let shown = c.neighbours.ensures in
    let same : length c.neighbours.result.now ≡ length (neighbours_of world.bonds i) =
    length-neighbours (length world.positions) world.bonds i c.neighbours.result.now bonds (omega arith) shown.listed shown.each_once in
    let more = sum_by_more length world.bonds i [] (omega (arith, bonds.rows)) in
    (omega (arith, c.loop-monomer.invariant.0, more, same), omega (arith, c.loop-monomer.invariant.1, shown.few))
