use Rattle.std.proofs.Common.{◌≡◌, ◌≤◌, All}
use Rattle.bfm_commands.specs.History.{said_from}
use Rattle.bfm_commands.proofs.ranges.Ranges.of_each.Given as goal

abbrev pub invariant-loop-i : goal.invariant-loop-i
invariant-loop-i g l = (l.values.items ≡ said_from l.self 0 l.i) × All (λ value. value ≤ g.row.GREATEST) l.values.items
