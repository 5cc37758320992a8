use Rattle.std.proofs.Common.{Some, arith, subst}
use Rattle.bfm_base.specs.declared.place.P3.{P3}
use Rattle.packed_lattice.specs.Owners.{SetsOwner}
use Rattle.packed_engine.proofs.OwnerLemmas.{AreOwned-more}
use Rattle.packed_engine.proofs.places.owned.Goals as goal

pub loop-i-preserved : goal.loop-i-preserved
loop-i-preserved c =
    AreOwned-more c.args.world.now c.len-i-end.ensures.valid c.loop-i.i c.loop-i.owners c.set.new.self (omega (arith, c.len-i-end.ensures.count)) c.loop-i.invariant
    (subst (λ (p : P3). SetsOwner c.loop-i.owners c.set.new.self p (Some c.loop-i.i)) c.position.ensures.position c.set.ensures)
