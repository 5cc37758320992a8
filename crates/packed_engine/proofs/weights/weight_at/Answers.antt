use Rattle.std.proofs.Common.{◌∙◌, arith, sym}
use Rattle.std.proofs.lemmas.Int.{ints}
use Rattle.packed_engine.proofs.WeightLemmas.{contacts_among-all, contacts_among-apart, contacts_among-contact, weight_around-all, weight_around-apart, weight_around-contact}
use Rattle.packed_engine.proofs.weights.weight_at.Goals as goal
use Rattle.packed_engine.proofs.weights.weight_at.Goals.{then-is_contact_offset, else-is_contact_offset}

pub loop-k-preserved : goal.loop-k-preserved
loop-k-preserved g c =
    let w = c.args.world.now in
    let o = c.offset_at-offset.result in
    let at = c.offset_at-offset.ensures in
    let before = c.loop-k.invariant in
    elim c.if-is_contact_offset.branch [
      | then-is_contact_offset b ↦
          let contact = sym c.is_contact_offset.ensures ∙ b.if-is_contact_offset.true in
          let beside = b.weight_beside-sum.ensures in
          record {
            sum = omega (arith, ints, weight_around-contact w c.args.monomer c.args.p o c.loop-k.k at, b.sum-is, beside.value, before.sum);
            small = omega (arith, ints, b.sum-is, beside.limit, before.small);
            looks = omega (arith, contacts_among-contact o c.loop-k.k at contact, b.steps-is, b.tick.ensures, before.looks);
          }
      | else-is_contact_offset b ↦
          let apart = sym c.is_contact_offset.ensures ∙ b.if-is_contact_offset.false in
          record {
            sum = omega (arith, ints, weight_around-apart w c.args.monomer c.args.p o c.loop-k.k at apart, b.sum-is, before.sum);
            small = omega (arith, ints, b.sum-is, before.small);
            looks = omega (arith, contacts_among-apart o c.loop-k.k at apart, b.steps-is, before.looks);
          }
    ]

pub returns-clause-value : goal.returns-clause-value
returns-clause-value g c =
    c.loop-k.invariant.sum ∙ weight_around-all c.args.world.now c.args.monomer c.args.p c.loop-k.k (omega arith)

pub returns-clause-cost : goal.returns-clause-cost
returns-clause-cost g c = omega (arith, contacts_among-all c.loop-k.k (omega arith), c.loop-k.invariant.looks)
