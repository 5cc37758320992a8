use Rattle.std.proofs.Common.{◌≡◌, ◌++◌, ◌∷◌, [], ◌<◌, ◌≤◌, sym, ◌∙◌, subst, ap, arith, Ok, None, is_ok}
use Rattle.std.specs.Prelude.{MatchOption, OnOk, Err}
use Rattle.bfm_base.specs.declared.limits.TheConstants.{WORLD_REACH}
use Rattle.bfm_base.specs.Place.{extent_of}
use Rattle.bfm_world.specs.Draft.{Draft, with_positions, place_refusal}
use Rattle.bfm_world.proofs.StartLemmas.{MayStand, placed_so_far, place_refusal-next, placed_next}
use Rattle.melt_builder.specs.Melt.{cells_in, place_of}
use Rattle.melt_builder.proofs.PlaceLemmas.{MayStand-place_of, place_of-near}
use Rattle.melt_builder.proofs.cells.place_all.Goals as goal

pub place-requires-clause-room : goal.place-requires-clause-room
place-requires-clause-room c =
    let count : c.loop-cell.builder.count ≡ c.args.builder.now.count = ap (λ (d : Draft). d.count) c.loop-cell.invariant in
    omega (arith, placed_so_far c.args.builder.now c.loop-cell.builder (place_of c.shape-shape.result) c.loop-cell.cell c.loop-cell.invariant)

pub place-requires-clause-reach : goal.place-requires-clause-reach
place-requires-clause-reach c =
    let inside : c.loop-cell.cell < cells_in c.shape-shape.result = subst (λ s. c.loop-cell.cell < cells_in s) (sym c.shape-shape.ensures.shape) (omega arith) in
    let near = place_of-near c.shape-shape.result c.shape-shape.ensures.limits c.loop-cell.cell inside in
    subst (λ p. extent_of p ≤ WORLD_REACH) (sym c.place_of.ensures) (omega arith)

pub unwrap-requires : goal.unwrap-requires
unwrap-requires c =
    let inside : c.loop-cell.cell < cells_in c.shape-shape.result = subst (λ s. c.loop-cell.cell < cells_in s) (sym c.shape-shape.ensures.shape) (omega arith) in
    let stands = subst (λ s. MayStand s (place_of c.shape-shape.result) c.loop-cell.cell) c.shape-shape.ensures.shape (MayStand-place_of c.shape-shape.result c.shape-shape.ensures.limits c.loop-cell.cell inside) in
    let none : place_refusal c.loop-cell.builder.world c.place_of.result ≡ None =
    ap (place_refusal c.loop-cell.builder.world) c.place_of.ensures
    ∙ place_refusal-next c.args.builder.now c.loop-cell.builder (place_of c.shape-shape.result) c.loop-cell.cell c.loop-cell.invariant stands c.requires.unbonded in
    ap is_ok (subst (λ o. MatchOption o (c.place.result ≡ Ok tt) (λ cause. c.place.result ≡ Err cause)) none c.place.ensures.answer)

pub loop-cell-preserved : goal.loop-cell-preserved
loop-cell-preserved c =
    let new = subst (λ r. OnOk r (c.place.new.self ≡ with_positions c.loop-cell.builder (c.loop-cell.builder.world.positions ++ c.place_of.result ∷ []))) c.unwrap.ensures c.place.ensures.ok in
    placed_next c.args.builder.now c.loop-cell.builder (place_of c.shape-shape.result) c.loop-cell.cell c.loop-cell.invariant c.place.new.self c.place_of.result c.place_of.ensures new
