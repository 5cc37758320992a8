use Rattle.std.proofs.Common.{◌≡◌, ◌∙◌, cond, pos, refl, sym, ap, arith}
use Rattle.std.proofs.lemmas.Bool.{eq-eqb, ne_eqb}
use Rattle.std.proofs.lemmas.Int.{ints}
use Rattle.contact_table.specs.Contacts.{weight_of}
use Rattle.bfm_world.specs.Configuration.{class_at}
use Rattle.packed_engine.proofs.WeightLemmas.{weight_beside-none, weight_beside-some}
use Rattle.packed_engine.proofs.weights.weight_beside.Goals as goal

pub returns-in-Some-clause-value : goal.returns-in-Some-clause-value
returns-in-Some-clause-value c =
    let w = c.args.world.now in
    let there = c.in-Some.ensures.there in
    let beside = weight_beside-some w c.args.monomer c.args.p c.args.offset _ c.in-Some.ensures.all c.in-Some.other refl there.0 there.1 c.requires.contact in
    let differ = ne_eqb c.in-Some.other c.args.monomer c.if-other-monomer.true in
    let weight : c.weight-weight.result ≡ weight_of w.table (class_at w c.args.monomer) (class_at w c.in-Some.other) = cc in
    let value : c.from.result ≡ c.weight-weight.result = omega (arith, ints) in
    omega (arith, ints, value, weight, beside, ap (λ t. cond t (pos 0) (weight_of w.table (class_at w c.args.monomer) (class_at w c.in-Some.other))) differ)

pub returns-in_default-clause-value : goal.returns-in_default-clause-value
returns-in_default-clause-value c =
    let w = c.args.world.now in
    let there = c.in-Some.ensures.there in
    let beside = weight_beside-some w c.args.monomer c.args.p c.args.offset _ c.in-Some.ensures.all c.in-Some.other refl there.0 there.1 c.requires.contact in
    let same = eq-eqb c.in-Some.other c.args.monomer c.if-other-monomer.false in
    sym (beside ∙ ap (λ t. cond t (pos 0) (weight_of w.table (class_at w c.args.monomer) (class_at w c.in-Some.other))) same)

pub returns-in_default-2-clause-value : goal.returns-in_default-2-clause-value
returns-in_default-2-clause-value c = sym (weight_beside-none c.args.world.now c.args.monomer c.args.p c.args.offset _ c.in_default.ensures.all refl)
