use Rattle.std.proofs.Common.{◌∙◌, ap, arith}
use Rattle.std.proofs.lemmas.Int.{ints}
use Rattle.bfm_base.specs.declared.place.P3.{P3}
use Rattle.bfm_world.specs.Configuration.{position_of}
use Rattle.cluster_stats.proofs.PlaceLemmas.{IsImage-from}
use Rattle.cluster_stats.proofs.places.home_of.Goals as goal

pub returns-clause-image : goal.returns-clause-image
returns-clause-image c =
    let p = c.position-p.ensures.position in
    IsImage-from c.args.world.now.shape c.shape-shape.result (position_of c.args.world.now c.args.i) _ _ _ _ c.fold_along.result c.fold_along-2.result c.fold_along-3.result c.shape-shape.ensures.shape
    (omega (arith, ints) ∙ ap (λ (v : P3). v.x) p) (omega (arith, ints) ∙ ap (λ (v : P3). v.y) p) (omega (arith, ints) ∙ ap (λ (v : P3). v.z) p) (omega (arith, ints)) (omega (arith, ints)) (omega (arith, ints))
    c.fold_along.ensures.image c.fold_along-2.ensures.image c.fold_along-3.ensures.image
