use Rattle.std.proofs.Common.{[], length, ap, arith}
use Rattle.std.proofs.lemmas.List.Sums.{sum_by_more}
use Rattle.bfm_commands.proofs.frames.pair_count.Goals as goal

pub loop-monomer-preserved : goal.loop-monomer-preserved
loop-monomer-preserved c =
    let bonds = c.args.bonds.now in
    let more = sum_by_more length bonds c.loop-monomer.monomer [] (omega (arith, c.requires)) in
    let row = ap length c.neighbours.ensures.value in
    (omega (arith, c.loop-monomer.invariant.0, more, row), omega (arith, c.loop-monomer.invariant.1, c.neighbours.ensures.few))
