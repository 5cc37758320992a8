use Rattle.std.proofs.Common.{◌∙◌, ap}
use Rattle.bfm_world.specs.Configuration.{Configuration}
use Rattle.bfm_world.specs.Occupants.{monomer_at}
use Rattle.packed_engine.proofs.OwnerLemmas.{owner_at-monomer_at}
use Rattle.packed_engine.proofs.engine.PackedEngineEngine.at.Goals as goal

pub returns : goal.returns
returns c =
    c.at.ensures ∙ owner_at-monomer_at c.self.inside.world c.len.ensures.valid c.self.inside.owners c.args.place c.self.invariant.tracked.places
    ∙ ap (λ (w : Configuration). monomer_at w c.args.place) c.self.view_is
