use Rattle.std.proofs.Common.{◌≡◌, ◌≤◌, ◌∙◌, ℤ, ap, arith, nat_abs, of_z, to_z, w64}
use Rattle.std.proofs.lemmas.Int.{ints}
use Rattle.bfm_base.specs.declared.limits.TheConstants.{WORLD_REACH}
use Rattle.bfm_base.specs.declared.place.Shape.{Shape}
use Rattle.bfm_geom.specs.Difference.{side_of}
use Rattle.packed_lattice.specs.Sites.{folded, site_of}
use Rattle.packed_lattice.proofs.PackingLemmas.{Site-same}
use Rattle.packed_engine.specs.Tracking.{home_of}
use Rattle.packed_engine.proofs.SpotLemmas.{ArePlacedSoFar-more}
use Rattle.packed_engine.proofs.renewal.placed.Goals as goal

-- a coordinate as the code reads it
read : (c : ℤ) → nat_abs c ≤ WORLD_REACH → to_z w64 (of_z w64 c) ≡ c
read c h = omega (arith, ints)

pub loop-i-preserved : goal.loop-i-preserved
loop-i-preserved c =
    let w = c.args.world.now in
    let i = c.loop-i.i in
    let q = c.position-p.result in
    let near = c.position-p.ensures.reach in
    let same : site_of c.shape.result q ≡ home_of w i = ap (λ (s : Shape). site_of s q) c.shape.ensures.shape ∙ ap (site_of w.shape) c.position-p.ensures.position in
    let x = c.folded.ensures ∙ ap (folded (side_of c.shape.result 0)) (read q.x (omega (arith, near))) in
    let y = c.folded-in-loop-i.ensures ∙ ap (folded (side_of c.shape.result 1)) (read q.y (omega (arith, near))) in
    let z = c.folded-in-loop-i-2.ensures ∙ ap (folded (side_of c.shape.result 2)) (read q.z (omega (arith, near))) in
    ArePlacedSoFar-more w i c.loop-i.spots c.put.new.self _ (omega (arith, c.len-i-end.ensures.count)) c.loop-i.invariant (Site-same _ (site_of c.shape.result q) x y z ∙ same) c.put.ensures
