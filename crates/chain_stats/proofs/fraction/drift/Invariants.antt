use Rattle.std.proofs.Common.{◌≡◌, ◌*◌, take}
use Rattle.bfm_geom.specs.Difference.{IsWithin}
use Rattle.chain_stats.specs.declared.vectors.TheConstants.{DISPLACEMENT_REACH}
use Rattle.chain_stats.specs.Fractions.{vector_sum, displacement_of}
use Rattle.chain_stats.proofs.fraction.drift.Given as goal

abbrev pub invariant-loop-i : goal.invariant-loop-i
invariant-loop-i l = record {
  sum : l.sum ≡ vector_sum (displacement_of l.first l.world) (take l.i-index l.members);
  within : IsWithin (l.i-index * DISPLACEMENT_REACH) l.sum;
}
