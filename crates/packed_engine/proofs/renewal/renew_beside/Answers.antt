use Rattle.std.proofs.Common.{◌≢◌, arith, get_or, inl, inr, subst, sym}
use Rattle.std.proofs.lemmas.Bool.{cases_eq}
use Rattle.std.proofs.lemmas.List.Elements.{Contains-get_or}
use Rattle.bfm_world.specs.Bonds.{are_bonded}
use Rattle.packed_engine.proofs.SpotLemmas.{AreSpotsOf-fewer, AreSpotsOf-renewed, unlisted}
use Rattle.packed_engine.proofs.renewal.renew_beside.Goals as goal

pub loop-neighbour-init : goal.loop-neighbour-init
loop-neighbour-init c =
    let items = c.neighbours-neighbour-items.result.now in
    AreSpotsOf-renewed c.args.world.now c.args.monomer _ _ c.args.spots.now c.renew.new.spots c.requires.spots c.renew.ensures
    (λ j t n. (n, unlisted items j (are_bonded c.args.world.now.bonds c.args.monomer j) (c.neighbours-neighbour-items.ensures.listed j).1 (λ k l. t k (omega arith) l)))

pub renew-requires-in-loop-neighbour-clause-monomer : goal.renew-requires-in-loop-neighbour-clause-monomer
renew-requires-in-loop-neighbour-clause-monomer c =
    let items = c.neighbours-neighbour-items.result.now in
    let j = get_or items c.loop-neighbour.neighbour-index 0 in
    let bond = (c.neighbours-neighbour-items.ensures.listed j).0 (Contains-get_or items c.loop-neighbour.neighbour-index 0 c.loop-neighbour-test.true) in
    (c.len.ensures.valid.bonds.others c.args.monomer j bond).0

pub loop-neighbour-preserved : goal.loop-neighbour-preserved
loop-neighbour-preserved c =
    let items = c.neighbours-neighbour-items.result.now in
    let n = c.loop-neighbour.neighbour-index in
    AreSpotsOf-renewed c.args.world.now (get_or items n 0) _ _ c.loop-neighbour.spots c.renew-in-loop-neighbour.new.spots c.loop-neighbour.invariant c.renew-in-loop-neighbour.ensures
    (λ j t differ k from within. elim (cases_eq k n) [
      | inl here ↦ subst (λ m. get_or items m 0 ≢ j) (sym here) (λ e. differ (sym e))
      | inr there ↦ t k (omega (arith, from, there)) within
    ])

pub returns : goal.returns
returns c =
    AreSpotsOf-fewer c.args.world.now _ _ c.loop-neighbour.spots c.loop-neighbour.invariant (λ i l t k from within. absurd (omega (arith, from, within, c.loop-neighbour-test.false)))
