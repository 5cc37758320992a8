use Rattle.std.proofs.Common.{arith}
use Rattle.network_builder.proofs.CellLemmas.{cell_along-below}
use Rattle.network_builder.proofs.NodeLemmas.{few_cells}
use Rattle.network_builder.proofs.strands.cell_along.Goals as goal

pub overflow_add-result-2 : goal.overflow_add-result-2
overflow_add-result-2 c =
    let below = cell_along-below c.args.nodes c.args.strand c.requires.network c.args.axis c.args.monomer c.requires.monomer in
    let few = few_cells c.args.nodes c.args.strand c.requires.network in
    rw (c.along.ensures, c.at-node.ensures, c.monomers_of_node.ensures, c.steps_along.ensures) (omega arith)
