use Rattle.std.proofs.Common.{◌≡◌, ◌∙◌, sym, subst}
use Rattle.bond_set.specs.BondSet as bond_set
use Rattle.bond_set.specs.UsualSet as usual
use Rattle.bond_set.proofs.UsualLemmas.{Next-usual, usual-all, IsBondSet-usual, IsSymmetric-usual, Contains-usual}
use Rattle.bond_set.proofs.set.BondSet.usual.Goals as goal

pub push-requires : goal.push-requires
push-requires c =
    let next = Next-usual _ _ c.loop-v.v-index _ c.loop-v.invariant.0 c.loop-v.invariant.1 c.loop-v-test.true in
    rw c.len.ensures.count next.new

pub loop-v-preserved : goal.loop-v-preserved
loop-v-preserved c =
    let next = Next-usual _ _ c.loop-v.v-index _ c.loop-v.invariant.0 c.loop-v.invariant.1 c.loop-v-test.true in
    (c.loop-v.invariant.0, c.in_ok-push.ensures.ok ∙ (rw c.len.ensures.count next.more))

-- after the loop the set is whole
whole : (c : goal.After-drop-vectors-2) → usual.usual_set ≡ c.loop-v.set
whole c = sym (usual-all _ _ c.loop-v.v-index c.loop-v.invariant.0 c.loop-v.invariant.1 c.loop-v-test.false)

pub returns-clause-order : goal.returns-clause-order
returns-clause-order c = sym (whole c)

pub returns-clause-every_order_and_sign : goal.returns-clause-every_order_and_sign
returns-clause-every_order_and_sign c v = rw (← whole c) (Contains-usual v)

pub returns-clause-each_once : goal.returns-clause-each_once
returns-clause-each_once c = subst bond_set.IsBondSet (whole c) IsBondSet-usual

pub returns-clause-finished : goal.returns-clause-finished
returns-clause-finished c = subst bond_set.IsSymmetric (whole c) IsSymmetric-usual
