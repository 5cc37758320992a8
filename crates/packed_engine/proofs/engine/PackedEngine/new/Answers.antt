use Rattle.std.proofs.Common.{◌≡◌, IfOk, false, length, subst}
use Rattle.contact_table.specs.Contacts.{ContactTable}
use Rattle.bfm_world.specs.Draft.{IsFilled}
use Rattle.packed_engine.specs.Beside.{WeighsNothing}
use Rattle.packed_engine.specs.Spots.{AreAllowed, AreSpots}
use Rattle.packed_engine.specs.Tracking.{AreOwned}
use Rattle.packed_engine.proofs.engine.PackedEngine.new.Goals as goal

pub all_spots-spots-requires : goal.all_spots-spots-requires
all_spots-spots-requires c = subst (λ set. AreAllowed set c.new-allowed.result) c.set.ensures c.new-allowed.ensures

pub invariant_of-result : goal.invariant_of-result
invariant_of-result c =
    let w = c.args.world in
    record {
      tracked = record {
        sites = subst (λ r. IfOk r (λ lattice. IsFilled w lattice)) c.in-Ok-Ok-Ok.is-0 c.filled-lattice.ensures;
        places = subst (λ r. IfOk r (λ owners. AreOwned w (length w.positions) owners)) c.in-Ok-Ok-Ok.is-1 c.owned-owners.ensures;
      };
      spots = subst (λ r. IfOk r (AreSpots w)) c.in-Ok-Ok-Ok.is-2 c.all_spots-spots.ensures;
      allowed = subst (λ set. AreAllowed set c.new-allowed.result) c.set.ensures c.new-allowed.ensures;
      weightless = subst (λ (t : ContactTable). c.weigh_anything-weighs.result ≡ false → WeighsNothing t) c.table.ensures c.weigh_anything-weighs.ensures;
    }
