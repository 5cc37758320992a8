use Rattle.std.proofs.Common.{◌≡◌, ◌<◌, ◌≤◌, ◌∙◌, arith, ap, length, subst, sym}
use Rattle.std.proofs.lemmas.Int.{ints}
use Rattle.bfm_base.specs.declared.place.P3.{P3}
use Rattle.bfm_base.specs.Direction.{step_of}
use Rattle.bfm_base.specs.Place.{extent_of}
use Rattle.bfm_geom.specs.Difference.{plus}
use Rattle.bfm_world.specs.Acceptance.{delta_of, weight_at}
use Rattle.bfm_world.specs.Configuration.{Configuration, position_of, target_of}
use Rattle.packed_engine.specs.Spots.{place_in, spot_at}
use Rattle.packed_engine.proofs.BesideLemmas.{weight_at-image}
use Rattle.packed_engine.proofs.FoldedLemmas.{IsImage-plus}
use Rattle.packed_engine.proofs.SpotLemmas.{IsImage-spot, IsSite-spot}
use Rattle.packed_engine.proofs.StepLemmas.{step_short}
use Rattle.packed_engine.proofs.WeightLemmas.{delta_of-unclassed}
use Rattle.packed_engine.proofs.engine.PackedEngine.delta.Goals as goal

pub returns-then-class-eq0-clause-value : goal.returns-then-class-eq0-clause-value
returns-then-class-eq0-clause-value g c =
    let w = c.self.inside.world in
    sym (delta_of-unclassed w c.args.monomer c.args.dir c.len.ensures.valid.table (sym c.class.ensures.class ∙ c.if-class-eq0.true))
    ∙ ap (λ (v : Configuration). delta_of v c.args.monomer c.args.dir) c.self.view_is

-- the place of a spot in the box, and the one beside it, are near
pub weight_at-after-requires-clause-place : goal.weight_at-after-requires-clause-place
weight_at-after-requires-clause-place g c =
    let w = c.self.inside.world in
    let m = c.args.monomer in
    let spots = c.self.inside.spots in
    let box = c.len.ensures.valid.box.sides in
    let within : m < length w.positions = subst (λ (v : Configuration). m < length v.positions) (sym c.self.view_is) c.requires in
    let site = IsSite-spot w c.len.ensures.valid spots c.self.invariant.spots.placed m within in
    let near : extent_of (place_in (spot_at spots m)) ≤ 512 = omega (arith, site.x, site.y, site.z, box.x, box.y, box.z) in
    let from : extent_of c.place_in-from.result ≤ 512 = subst (λ (p : P3). extent_of p ≤ 512) (sym (c.place_in-from.ensures ∙ ap place_in c.at.ensures)) near in
    let step : extent_of c.step.result ≤ 1 = subst (λ (p : P3). extent_of p ≤ 1) (sym c.step.ensures) (step_short c.args.dir) in
    omega (arith, c.shifted-to.ensures.near, from, step)

pub returns-clause-value : goal.returns-clause-value
returns-clause-value g c =
    let w = c.self.inside.world in
    let m = c.args.monomer in
    let spots = c.self.inside.spots in
    let valid = c.len.ensures.valid in
    let within : m < length w.positions = subst (λ (v : Configuration). m < length v.positions) (sym c.self.view_is) c.requires in
    let image = IsImage-spot w valid spots c.self.invariant.spots.placed m within in
    let step = step_of c.args.dir in
    let from : c.place_in-from.result ≡ place_in (spot_at spots m) = c.place_in-from.ensures ∙ ap place_in c.at.ensures in
    let to : c.shifted-to.result ≡ plus (place_in (spot_at spots m)) step =
    c.shifted-to.ensures.value ∙ ap (λ (p : P3). plus p c.step.result) from ∙ ap (plus (place_in (spot_at spots m))) c.step.ensures in
    let before : c.weight_at-before.result ≡ weight_at w m (position_of w m) =
    c.weight_at-before.ensures.value ∙ ap (weight_at w m) from ∙ weight_at-image w m (position_of w m) (place_in (spot_at spots m)) valid.box.sides image in
    let after : c.weight_at-after.result ≡ weight_at w m (target_of w m c.args.dir) =
    c.weight_at-after.ensures.value ∙ ap (weight_at w m) to
    ∙ weight_at-image w m (target_of w m c.args.dir) (plus (place_in (spot_at spots m)) step) valid.box.sides (IsImage-plus w.shape (position_of w m) (place_in (spot_at spots m)) step image) in
    omega (arith, ints, c.weight_at-before.ensures.limit, c.weight_at-after.ensures.limit, before, after, ap (λ (v : Configuration). delta_of v m c.args.dir) c.self.view_is)
