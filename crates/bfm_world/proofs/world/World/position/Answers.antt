use Rattle.std.proofs.Common.{arith, rules}
use Rattle.bfm_world.proofs.ReachLemmas.{extent_at}
use Rattle.bfm_world.proofs.world.World.position.Goals as goal

pub returns-clause-reach : goal.returns-clause-reach
returns-clause-reach c =
    let near = extent_at c.self.inside.parts.positions.items c.args.i c.index.result.now (search rules) in
    rw c.index.ensures (omega (arith, near, c.self.invariant.1))
