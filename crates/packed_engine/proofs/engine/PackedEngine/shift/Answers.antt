use Rattle.std.proofs.Common.{◌<◌, arith, length, subst, sym}
use Rattle.bond_set.specs.Crossing.{IsFree}
use Rattle.bfm_base.specs.declared.limits.TheConstants.{WORLD_REACH}
use Rattle.bfm_world.specs.Configuration.{Configuration, reach_of}
use Rattle.bfm_world.specs.Sweeping.{CrossesNone}
use Rattle.bfm_world.proofs.ReachLemmas.{extent_of-target}
use Rattle.packed_engine.proofs.engine.PackedEngine.shift.Goals as goal

pub shift-requires-clause-reach : goal.shift-requires-clause-reach
shift-requires-clause-reach c =
    let w = c.self.inside.world in
    let inside : c.args.monomer < length w.positions = subst (λ (v : Configuration). c.args.monomer < length v.positions) (sym c.self.view_is) c.requires.monomer in
    let reach : reach_of w.positions < WORLD_REACH = subst (λ (v : Configuration). reach_of v.positions < WORLD_REACH) (sym c.self.view_is) c.requires.reach in
    omega (arith, reach, extent_of-target w c.args.monomer c.args.dir inside)

pub returns-clause-uncrossed : goal.returns-clause-uncrossed
returns-clause-uncrossed c = subst (λ (w : Configuration). IsFree w.set → CrossesNone w c.args.monomer c.args.dir) c.self.view_is c.shift.ensures.uncrossed
