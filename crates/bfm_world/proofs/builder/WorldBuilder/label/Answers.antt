use Rattle.bfm_world.specs.Configuration.{configuration_of}
use Rattle.bfm_world.proofs.ValidLemmas.{IsSound-labelled}
use Rattle.bfm_world.proofs.builder.WorldBuilder.label.Goals as goal

pub invariant_of-self : goal.invariant_of-self
invariant_of-self c = (
  IsSound-labelled c.self.inside.count (configuration_of c.self.inside.parts) c.args.i c.args.label c.self.invariant.0 c.requires.limit,
  c.self.invariant.1,
  c.self.invariant.2,
  record { shape = c.self.invariant.3.shape; taken = c.self.invariant.3.taken },
)

pub returns-clause-sound : goal.returns-clause-sound
returns-clause-sound c = (invariant_of-self c).0
