use Rattle.std.proofs.Common.{◌<◌, length, arith, rules}
use Rattle.bfm_base.specs.declared.limits.TheConstants.{WORLD_REACH}
use Rattle.bfm_world.specs.Configuration.{reach_of}
use Rattle.bfm_world.proofs.ReachLemmas.{extent_of-target}
use Rattle.plain_move.proofs.PlainEngineEngine.attempt.Goals as goal

pub shift-requires-clause-reach : goal.shift-requires-clause-reach
shift-requires-clause-reach c =
    let w = c.self.inside.world in
    let inside : c.args.monomer < length w.positions = search rules in
    let reach : reach_of w.positions < WORLD_REACH = search rules in
    omega (arith, reach, extent_of-target w c.args.monomer c.args.dir inside)
