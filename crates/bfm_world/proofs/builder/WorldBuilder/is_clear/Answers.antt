use Rattle.std.proofs.Common.{◌≡◌, ◌∙◌, ap, subst, sym, true}
use Rattle.bfm_geom.specs.Walls.{is_within_walls}
use Rattle.bfm_world.specs.Configuration.{Configuration, configuration_of, is_clear}
use Rattle.bfm_world.specs.Draft.{Draft}
use Rattle.bfm_world.proofs.SiteLemmas.{is_clear-filled}
use Rattle.bfm_world.proofs.builder.WorldBuilder.is_clear.Goals as goal

pub returns : goal.returns
returns c =
    let w : Configuration = configuration_of c.self.inside.parts in
    let walls : is_within_walls w.shape c.args.p ≡ true = subst (λ (d : Draft). is_within_walls d.world.shape c.args.p ≡ true) (sym c.self.view_is) c.requires.inside in
    is_clear-filled w c.self.inside.lattice c.args.p c.cube_free.result c.self.invariant.3 c.self.invariant.0.box c.self.invariant.0.inside walls c.cube_free.ensures
    ∙ ap (λ (d : Draft). is_clear d.world.shape d.world.positions c.args.p) c.self.view_is
