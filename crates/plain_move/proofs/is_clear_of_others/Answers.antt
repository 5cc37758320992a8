use Rattle.std.proofs.Common.{arith, ◌+◌}
use Rattle.std.proofs.lemmas.List.{take_rest}
use Rattle.bfm_world.proofs.ReachLemmas.{reach_of-parts}
use Rattle.plain_move.proofs.is_clear_of_others.Goals as goal

pub is_clear-requires-clause-others : goal.is_clear-requires-clause-others
is_clear-requires-clause-others c =
    omega (arith, (reach_of-parts c.args.positions.now c.args.monomer).0, c.requires.reach)

pub is_clear-requires-then-is_clear-clause-others : goal.is_clear-requires-then-is_clear-clause-others
is_clear-requires-then-is_clear-clause-others c =
    rw (take_rest c.args.positions.now (c.args.monomer + 1)) (omega (arith, (reach_of-parts c.args.positions.now (c.args.monomer + 1)).1, c.requires.reach))
