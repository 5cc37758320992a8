use Rattle.std.proofs.Common.{◌∙◌, ap, sym}
use Rattle.bfm_base.specs.declared.place.Shape.{Shape}
use Rattle.bfm_base.specs.Direction.{step_of}
use Rattle.bfm_geom.specs.Difference.{plus}
use Rattle.packed_lattice.specs.Sites.{site_of}
use Rattle.bfm_world.specs.Configuration.{position_of}
use Rattle.packed_engine.specs.Spots.{site_in}
use Rattle.packed_engine.proofs.SpotLemmas.{AreSpotsOf-moved}
use Rattle.packed_engine.proofs.renewal.shift_spot.Goals as goal

pub returns : goal.returns
returns c =
    let w = c.args.world.now in
    let m = c.args.monomer in
    let shape = c.shape.ensures.shape in
    let p = position_of w m in
    let here = ap site_in c.at-spot.ensures ∙ c.requires.spots.placed.sites m c.requires.monomer ∙ ap (λ (s : Shape). site_of s p) (sym shape) in
    AreSpotsOf-moved w m c.args.dir c.args.spots.now c.put.new.self c.stepped.result c.len.ensures.valid c.requires.monomer c.requires.spots
    (c.stepped.ensures p here ∙ ap (λ (s : Shape). site_of s (plus p (step_of c.args.dir))) shape) c.put.ensures
