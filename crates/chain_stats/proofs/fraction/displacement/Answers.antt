use Rattle.std.proofs.Common.{arith, pos}
use Rattle.bfm_world.proofs.ReachLemmas.{extent_at}
use Rattle.chain_stats.proofs.fraction.displacement.Goals as goal

pub vector-requires-clause-from : goal.vector-requires-clause-from
vector-requires-clause-from c =
    let near = extent_at c.args.first.now c.args.i (record { x = pos 0; y = pos 0; z = pos 0 }) (omega (arith, c.requires.monomer, c.requires.each)) in
    omega (arith, near, c.requires.reach)
