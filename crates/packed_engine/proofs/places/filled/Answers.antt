use Rattle.std.proofs.Common.{◌∙◌, true, arith, subst, sym}
use Rattle.bfm_base.specs.declared.place.P3.{P3}
use Rattle.packed_lattice.specs.Sites.{AreFree, Marks, covers}
use Rattle.packed_engine.proofs.SiteLemmas.{AreFree-next, IsFilled-all, IsFilled-next, IsFilled-none}
use Rattle.packed_engine.proofs.places.filled.Goals as goal

pub loop-i-init : goal.loop-i-init
loop-i-init c = let made = c.in_ok-lattice.ensures in IsFilled-none c.args.world.now c.in_ok-lattice.lattice (made.shape ∙ c.shape.ensures.shape) made.free

pub place-requires-clause-free : goal.place-requires-clause-free
place-requires-clause-free c =
    let sites = c.loop-i.lattice in
    subst (λ (p : P3). AreFree sites (covers sites.shape p)) (sym c.position.ensures.position)
    (AreFree-next c.args.world.now c.len-i-end.ensures.valid c.loop-i.i (omega (arith, c.len-i-end.ensures.count)) sites c.loop-i.invariant)

pub loop-i-preserved : goal.loop-i-preserved
loop-i-preserved c =
    let sites = c.loop-i.lattice in
    IsFilled-next c.args.world.now c.len-i-end.ensures.valid c.loop-i.i (omega (arith, c.len-i-end.ensures.count)) sites c.place.new.self c.loop-i.invariant
    (subst (λ (p : P3). Marks sites c.place.new.self (covers sites.shape p) true) c.position.ensures.position c.place.ensures)

pub returns : goal.returns
returns c = IsFilled-all c.args.world.now c.loop-i.i c.loop-i.lattice (omega (arith, c.len-i-end.ensures.count)) c.loop-i.invariant
