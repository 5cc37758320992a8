use Rattle.std.proofs.Common.{arith}
use Rattle.chain_stats.proofs.VectorLemmas.{few_members}
use Rattle.chain_stats.proofs.fraction.drift.Goals as goal

pub prove-unreachable-requires : goal.prove-unreachable-requires
prove-unreachable-requires c = omega (arith, few_members c.args.world.now c.args.members.now c.requires.members, c.len.ensures.count, c.if-prove.true)
