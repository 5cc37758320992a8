use Rattle.std.proofs.Common.{◌≡◌, ◌+◌, ◌∙◌, ap, arith, is_some, refl, subst, sym}
use Rattle.bond_set.specs.BondSet.{id_of}
use Rattle.packed_engine.proofs.StepLemmas.{KeptSoFar, KeptSoFar-all, KeptSoFar-more, is_kept, numbered_at}
use Rattle.packed_engine.proofs.allowed.steps_kept.Goals as goal
use Rattle.packed_engine.proofs.allowed.steps_kept.Goals.{then-is_some, else-is_some}

pub loop-n-preserved : goal.loop-n-preserved
loop-n-preserved c =
    let set = c.args.set.now in
    let v = c.args.v in
    let dir = c.of-dir.result in
    let kept : c.is_some.result ≡ is_kept set v dir = c.is_some.ensures ∙ ap is_some (c.id_of.ensures.value ∙ ap (id_of set) c.before-in-loop-n.ensures) in
    elim c.if-is_some.branch [
      | then-is_some b ↦
          subst (KeptSoFar set v (c.loop-n.n + 1)) (sym b.steps-is)
          (KeptSoFar-more set v c.loop-n.n c.loop-n.steps b.with_step-steps.result dir c.of-dir.ensures c.loop-n.invariant
          (b.with_step-steps.ensures.same ∙ sym b.if-is_some.true ∙ kept) b.with_step-steps.ensures.others)
      | else-is_some b ↦
          subst (KeptSoFar set v (c.loop-n.n + 1)) (sym b.steps-is)
          (KeptSoFar-more set v c.loop-n.n c.loop-n.steps c.loop-n.steps dir c.of-dir.ensures c.loop-n.invariant
          (c.loop-n.invariant.later dir (omega (arith, numbered_at c.loop-n.n dir c.of-dir.ensures)) ∙ sym b.if-is_some.false ∙ kept) (λ other n. refl))
    ]

pub returns : goal.returns
returns c = KeptSoFar-all c.args.set.now c.args.v c.loop-n.n c.loop-n.steps (omega (arith, c.loop-n-test.false)) c.loop-n.invariant
