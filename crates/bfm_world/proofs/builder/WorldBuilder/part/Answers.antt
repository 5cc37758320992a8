use Rattle.std.proofs.Common.{rules, arith, ◌≡◌, true}
use Rattle.bfm_world.specs.Bonds.{are_bonded}
use Rattle.bfm_world.specs.Configuration.{Configuration, configuration_of}
use Rattle.bfm_world.proofs.ValidLemmas.{IsSound-parted}
use Rattle.bfm_world.proofs.builder.WorldBuilder.part.Goals as goal

pub invariant_of-self : goal.invariant_of-self
invariant_of-self c =
    let w : Configuration = configuration_of c.self.inside.parts in
    let there : are_bonded w.bonds c.args.i c.args.j ≡ true = search rules in
    rw c.part.ensures.exact (
      IsSound-parted c.self.inside.count w c.args.i c.args.j c.self.invariant.0 c.if-i-j.false (omega arith) (omega arith) there,
      c.self.invariant.1,
      c.self.invariant.2,
      record { shape = c.self.invariant.3.shape; taken = c.self.invariant.3.taken },
    )

pub returns-clause-sound : goal.returns-clause-sound
returns-clause-sound c = (invariant_of-self c).0
