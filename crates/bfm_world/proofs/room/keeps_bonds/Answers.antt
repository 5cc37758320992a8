use Rattle.std.proofs.Common.{subst, sym}
use Rattle.std.specs.Prelude.{IfSome}
use Rattle.bfm_base.specs.declared.limits.TheConstants.{PLACE_REACH}
use Rattle.bfm_geom.specs.Difference.{IsWithin}
use Rattle.bfm_world.proofs.ReachLemmas.{within_reach}
use Rattle.bfm_world.proofs.room.keeps_bonds.Goals as goal

pub may_reach-requires-clause-to : goal.may_reach-requires-clause-to
may_reach-requires-clause-to c =
    subst (λ o. IfSome o (IsWithin PLACE_REACH)) (sym c.position_in.ensures) (within_reach c.args.positions.now _ PLACE_REACH c.requires.positions)
