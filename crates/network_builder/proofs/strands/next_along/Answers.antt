use Rattle.std.proofs.Common.{arith}
use Rattle.network_builder.proofs.CellLemmas.{inner_below, number_below, over_below}
use Rattle.network_builder.proofs.NodeLemmas.{few_numbers}
use Rattle.network_builder.proofs.strands.next_along.Goals as goal

pub number-requires : goal.number-requires
number-requires c =
    let few = few_numbers c.args.nodes c.args.strand _ c.requires.network (number_below c.args.nodes c.args.strand c.requires.network c.args.axis c.args.monomer c.requires.monomer c.requires.on) in
    rw (c.next-next.ensures, c.at.ensures, c.monomers_of_node.ensures) few

pub overflow_mul-result-else-steps-strand : goal.overflow_mul-result-else-steps-strand
overflow_mul-result-else-steps-strand c =
    let below = over_below c.args.nodes c.args.strand c.requires.network c.args.axis c.args.monomer c.requires.monomer c.requires.on in
    rw (c.number.ensures, c.next-next.ensures, c.at.ensures, c.monomers_of_node.ensures, c.monomers_of_node-else-steps-strand.ensures) (omega (arith, c.requires.network.few))

pub returns-then-steps-strand-clause-inside : goal.returns-then-steps-strand-clause-inside
returns-then-steps-strand-clause-inside c =
    let below = inner_below c.args.nodes c.args.strand c.requires.network c.args.axis c.args.monomer c.requires.monomer c.requires.on (omega (arith, c.steps_along-steps.ensures, c.if-steps-strand.true)) in
    rw (c.monomers_of_node.ensures, c.monomers_of_node-then-steps-strand.ensures, c.strands_before.ensures, c.steps_along-steps.ensures) below

pub returns-else-steps-strand-clause-inside : goal.returns-else-steps-strand-clause-inside
returns-else-steps-strand-clause-inside c =
    rw (c.number.ensures, c.next-next.ensures, c.at.ensures, c.monomers_of_node.ensures, c.monomers_of_node-else-steps-strand.ensures)
    (over_below c.args.nodes c.args.strand c.requires.network c.args.axis c.args.monomer c.requires.monomer c.requires.on)
