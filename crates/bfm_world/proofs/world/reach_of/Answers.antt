use Rattle.std.proofs.Common.{arith, pos}
use Rattle.bfm_world.proofs.ReachLemmas.{reach_of_more}
use Rattle.bfm_world.proofs.world.reach_of.Goals as goal

pub loop-p-preserved : goal.loop-p-preserved
loop-p-preserved c =
    let more = reach_of_more c.args.positions.now c.loop-p.p-index (record { x = pos 0; y = pos 0; z = pos 0 }) c.loop-p-test.true in
    omega (arith, more)
