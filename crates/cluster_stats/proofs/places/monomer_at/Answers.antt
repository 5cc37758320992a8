use Rattle.std.proofs.Common.{ap, ◌∙◌}
use Rattle.packed_lattice.specs.Owners.{owner_at}
use Rattle.bfm_world.specs.Configuration.{position_of}
use Rattle.cluster_stats.proofs.PlaceLemmas.{owner_at-all, owner_at-image, owner_at-there}
use Rattle.cluster_stats.proofs.places.monomer_at.Goals as goal

pub returns-clause-there : goal.returns-clause-there
returns-clause-there c =
    let image = owner_at-image c.args.owners.now c.args.world.now.shape (position_of c.args.world.now c.args.i) c.args.home c.args.offset c.requires.owners.shape c.len.ensures.valid.box c.requires.home in
    let found = c.at.ensures ∙ (ap (owner_at c.args.owners.now) c.shifted.ensures.value ∙ image) in
    rw found (owner_at-there c.args.world.now c.len.ensures.valid c.args.owners.now c.requires.owners c.args.i c.args.offset c.requires.near)

pub returns-clause-all : goal.returns-clause-all
returns-clause-all c j l v =
    let image = owner_at-image c.args.owners.now c.args.world.now.shape (position_of c.args.world.now c.args.i) c.args.home c.args.offset c.requires.owners.shape c.len.ensures.valid.box c.requires.home in
    let found = c.at.ensures ∙ (ap (owner_at c.args.owners.now) c.shifted.ensures.value ∙ image) in
    found ∙ owner_at-all c.args.world.now c.len.ensures.valid c.args.owners.now c.requires.owners c.args.i c.args.offset c.requires.near j l v
