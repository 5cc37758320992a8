use Rattle.bfm_base.specs.declared.limits.TheConstants.{WORLD_REACH}
use Rattle.bfm_world.proofs.ReachLemmas.{IsWithin-from_extent}
use Rattle.chain_stats.proofs.VectorLemmas.{IsWithin-minus}
use Rattle.chain_stats.proofs.fraction.vector.Goals as goal

pub returns-clause-reach : goal.returns-clause-reach
returns-clause-reach c = rw c.plain_difference.ensures.value (IsWithin-minus c.args.to c.args.from WORLD_REACH WORLD_REACH (IsWithin-from_extent c.args.to WORLD_REACH c.requires.to) (IsWithin-from_extent c.args.from WORLD_REACH c.requires.from))
