use Rattle.std.proofs.Common.{◌≡◌, ◌≢◌, ◌<◌, false, length, subst, sym}
use Rattle.bfm_world.specs.Configuration.{Configuration}
use Rattle.packed_engine.specs.Beside.{WeighsNothing}
use Rattle.packed_engine.specs.Spots.{AreAllowed, AreSpotsOf}
use Rattle.packed_engine.specs.Tracking.{IsTracked}
use Rattle.packed_engine.proofs.SpotLemmas.{AreSpotsOf-bonded, AreSpotsOf-renewed}
use Rattle.packed_engine.proofs.engine.PackedEngineEngine.bond.Goals as goal

-- a bond moves nobody, and renews two spots
pub invariant_of-self : goal.invariant_of-self
invariant_of-self c =
    let old = c.self.inside.world in
    let w = c.bond.new.self in
    let i = c.args.i in
    let j = c.args.j in
    let kept = c.self.invariant in
    let back = sym c.bond.ensures.bonded in
    let before = subst (λ (v : Configuration). AreSpotsOf v (λ k. (k ≢ i) × (k ≢ j)) c.self.inside.spots) back (AreSpotsOf-bonded old i j c.self.inside.spots kept.spots) in
    let first = AreSpotsOf-renewed w i (λ k. (k ≢ i) × (k ≢ j)) (λ k. k ≢ j) c.self.inside.spots c.renew.new.spots before c.renew.ensures (λ k t n. (n, t)) in
    let spots = AreSpotsOf-renewed w j (λ k. k ≢ j) (λ k. k < length w.positions) c.renew.new.spots c.renew-2.new.spots first c.renew-2.ensures (λ k t n. n) in
    record {
      tracked = subst (λ (v : Configuration). IsTracked v c.self.inside.lattice c.self.inside.owners) back record {
        sites = record { shape = kept.tracked.sites.shape; taken = kept.tracked.sites.taken };
        places = record { shape = kept.tracked.places.shape; owned = kept.tracked.places.owned; others = kept.tracked.places.others };
      };
      spots = spots;
      allowed = subst (λ (v : Configuration). AreAllowed v.set c.self.inside.allowed) back kept.allowed;
      weightless = subst (λ (v : Configuration). c.self.inside.weighs ≡ false → WeighsNothing v.table) back kept.weightless;
    }
