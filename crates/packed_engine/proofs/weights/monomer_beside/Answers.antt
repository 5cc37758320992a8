use Rattle.std.proofs.Common.{ap, ◌∙◌}
use Rattle.packed_lattice.specs.Owners.{owner_at}
use Rattle.packed_engine.proofs.OwnerLemmas.{owner_at-all, owner_at-there}
use Rattle.packed_engine.proofs.weights.monomer_beside.Goals as goal

pub returns-clause-there : goal.returns-clause-there
returns-clause-there c =
    let found = c.at.ensures ∙ ap (owner_at c.args.owners.now) c.shifted.ensures.value in
    rw found (owner_at-there c.args.world.now c.len.ensures.valid c.args.owners.now c.requires.owners c.args.p c.args.offset c.requires.near)

pub returns-clause-all : goal.returns-clause-all
returns-clause-all c j l d =
    c.at.ensures
    ∙ (ap (owner_at c.args.owners.now) c.shifted.ensures.value
    ∙ owner_at-all c.args.world.now c.len.ensures.valid c.args.owners.now c.requires.owners c.args.p c.args.offset c.requires.near j l d)
