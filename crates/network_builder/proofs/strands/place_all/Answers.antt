use Rattle.std.proofs.Common.{◌≡◌, ◌++◌, ◌∷◌, [], ◌≤◌, sym, ◌∙◌, subst, ap, arith, Ok, None, is_ok}
use Rattle.std.specs.Prelude.{MatchOption, OnOk, Err}
use Rattle.bfm_base.specs.declared.limits.TheConstants.{WORLD_REACH}
use Rattle.bfm_base.specs.Place.{extent_of}
use Rattle.bfm_world.specs.Draft.{Draft, with_positions, place_refusal}
use Rattle.bfm_world.proofs.StartLemmas.{MayStand, placed_so_far, place_refusal-next, placed_next}
use Rattle.network_builder.specs.Network.{place_of}
use Rattle.network_builder.proofs.GeometryLemmas.{MayStand-place_of, place_of-near}
use Rattle.network_builder.proofs.strands.place_all.Goals as goal

pub place-requires-clause-room : goal.place-requires-clause-room
place-requires-clause-room c =
    let count : c.loop-monomer.builder.count ≡ c.args.builder.now.count = ap (λ (d : Draft). d.count) c.loop-monomer.invariant in
    omega (arith, placed_so_far c.args.builder.now c.loop-monomer.builder (place_of c.args.nodes c.args.strand) c.loop-monomer.monomer c.loop-monomer.invariant)

pub place-requires-clause-reach : goal.place-requires-clause-reach
place-requires-clause-reach c =
    let near = place_of-near c.args.nodes c.args.strand c.requires.network c.loop-monomer.monomer (omega arith) in
    subst (λ p. extent_of p ≤ WORLD_REACH) (sym c.place_of.ensures) (omega arith)

pub unwrap-requires : goal.unwrap-requires
unwrap-requires c =
    let stands : MayStand c.args.builder.now.world.shape (place_of c.args.nodes c.args.strand) c.loop-monomer.monomer =
    subst (λ s. MayStand s (place_of c.args.nodes c.args.strand) c.loop-monomer.monomer) (sym c.requires.shape) (MayStand-place_of c.args.nodes c.args.strand c.requires.network c.loop-monomer.monomer (omega arith)) in
    let none : place_refusal c.loop-monomer.builder.world c.place_of.result ≡ None =
    ap (place_refusal c.loop-monomer.builder.world) c.place_of.ensures
    ∙ place_refusal-next c.args.builder.now c.loop-monomer.builder (place_of c.args.nodes c.args.strand) c.loop-monomer.monomer c.loop-monomer.invariant stands c.requires.unbonded in
    ap is_ok (subst (λ o. MatchOption o (c.place.result ≡ Ok tt) (λ cause. c.place.result ≡ Err cause)) none c.place.ensures.answer)

pub loop-monomer-preserved : goal.loop-monomer-preserved
loop-monomer-preserved c =
    let new = subst (λ r. OnOk r (c.place.new.self ≡ with_positions c.loop-monomer.builder (c.loop-monomer.builder.world.positions ++ c.place_of.result ∷ []))) c.unwrap.ensures c.place.ensures.ok in
    placed_next c.args.builder.now c.loop-monomer.builder (place_of c.args.nodes c.args.strand) c.loop-monomer.monomer c.loop-monomer.invariant c.place.new.self c.place_of.result c.place_of.ensures new
