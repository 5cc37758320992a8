use Rattle.std.proofs.Common.{◌∙◌, arith}
use Rattle.bfm_world.specs.Configuration.{configuration_of}
use Rattle.bfm_world.proofs.ValidLemmas.{IsSound-unplaced}
use Rattle.bfm_world.proofs.builder.WorldBuilder.begin.Goals as goal

pub invariant_of-self : goal.invariant_of-self
invariant_of-self c =
    rw c.clear.ensures.items (
      IsSound-unplaced c.self.inside.count (configuration_of c.self.inside.parts) c.self.invariant.0,
      omega arith,
      omega (arith, c.self.invariant.2, c.clear.ensures.capacity),
      record { shape = c.lift_all.ensures.shape ∙ c.self.invariant.3.shape; taken = c.lift_all.ensures.none },
    )

pub returns-clause-sound : goal.returns-clause-sound
returns-clause-sound c = (invariant_of-self c).0
