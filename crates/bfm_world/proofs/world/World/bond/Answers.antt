use Rattle.bfm_world.specs.Configuration.{configuration_of}
use Rattle.bfm_world.proofs.ValidLemmas.{bond_keeps}
use Rattle.bfm_world.proofs.world.World.bond.Goals as goal

pub invariant_of-self : goal.invariant_of-self
invariant_of-self c =
    let r = c.requires in
    let kept =
    bond_keeps (configuration_of c.self.inside.parts) c.args.self.now c.args.i c.args.j c.self.view_is c.self.invariant.0 r.first r.second r.other r.unbonded r.vector r.first_room r.second_room in
    rw c.join.ensures.exact (kept, c.self.invariant.1)
