use Rattle.std.proofs.Common.{◌≡◌, ◌*◌, ◌≤◌, take}
use Rattle.bfm_geom.specs.Difference.{IsWithin, square_of}
use Rattle.bfm_world.specs.Configuration.{position_of}
use Rattle.chain_stats.specs.declared.vectors.TheConstants.{DISPLACEMENT_REACH}
use Rattle.chain_stats.specs.Fractions.{vector_sum, square_sum}
use Rattle.chain_stats.proofs.fraction.radius.Given as goal

abbrev pub invariant-loop-i : goal.invariant-loop-i
invariant-loop-i l = record {
  sum : l.sum ≡ vector_sum (position_of l.world) (take l.i-index l.members);
  squares : l.squares ≡ square_sum (position_of l.world) (take l.i-index l.members);
  within : IsWithin (l.i-index * DISPLACEMENT_REACH) l.sum;
  small : l.squares ≤ l.i-index * (3 * (DISPLACEMENT_REACH * DISPLACEMENT_REACH));
  spread : square_of l.sum ≤ l.i-index * l.squares;
}
