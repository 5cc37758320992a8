use Rattle.std.proofs.Common.{arith, rules}
use Rattle.chain_stats.specs.Fractions.{displacement_of}
use Rattle.chain_stats.proofs.VectorLemmas.{square_sum_more}
use Rattle.chain_stats.proofs.fraction.mean_square.Goals as goal

pub loop-i-preserved : goal.loop-i-preserved
loop-i-preserved c = record {
  squares = rw (square_sum_more (displacement_of c.args.first.now c.args.world.now) c.loop-i.i) (rw c.square-squares.ensures.value (rw c.displacement.ensures.value (rw c.loop-i.invariant.squares (search rules))));
  small = omega (arith, c.loop-i.invariant.small, c.square-squares.ensures.reach);
}
