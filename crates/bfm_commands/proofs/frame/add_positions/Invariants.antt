use Rattle.std.proofs.Common.{◌≡◌, ◌+◌, ◌*◌, ◌≤◌, ◌++◌, drop}
use Rattle.bfm_base.specs.Place.{extent_of}
use Rattle.bfm_base.specs.declared.limits.TheConstants.{START_REACH}
use Rattle.bfm_commands.specs.History.{string_positions, walk}
use Rattle.bfm_commands.proofs.frame.add_positions.Given as goal

abbrev pub invariant-loop-identifier : goal.invariant-loop-identifier
invariant-loop-identifier l =
    (l.positions.items ++ walk l.set l.place (drop l.identifier-index l.identifiers) ≡ l.fn.positions.items ++ string_positions l.set (l.fn.first, l.identifiers))
    × (extent_of l.place ≤ START_REACH + 3 * l.identifier-index)
