use Rattle.std.proofs.Common.{subst}
use Rattle.bfm_world.specs.Configuration.{Configuration, configuration_of, IsValid}
use Rattle.bfm_world.proofs.SweepingLemmas.{CrossesNone-free}
use Rattle.bfm_world.proofs.ValidLemmas.{shift_keeps}
use Rattle.bfm_world.proofs.world.World.shift.Goals as goal

pub invariant_of-self : goal.invariant_of-self
invariant_of-self c =
    shift_keeps (configuration_of c.self.inside.parts) c.args.self.now c.args.i c.args.dir c.target-target.result
    c.self.view_is c.self.invariant.0 c.self.invariant.1 c.requires.monomer c.requires.legal c.requires.reach c.target-target.ensures.target

pub returns-clause-uncrossed : goal.returns-clause-uncrossed
returns-clause-uncrossed c free =
    CrossesNone-free c.args.self.now c.args.i c.args.dir (subst (λ (w : Configuration). IsValid w) c.self.view_is c.self.invariant.0) free c.requires.legal
