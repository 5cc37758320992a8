use Rattle.std.proofs.Common.{◌≡◌, ◌*◌, ◌≤◌, length, take}
use Rattle.std.specs.List.{sum_by}
use Rattle.bfm_commands.proofs.frames.pair_count.Given as goal

-- the neighbours so far are counted
abbrev pub invariant-loop-monomer : goal.invariant-loop-monomer
invariant-loop-monomer l = (l.neighbours ≡ sum_by length (take l.monomer l.bonds)) × (l.neighbours ≤ 8 * l.monomer)
