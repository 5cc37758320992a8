use Rattle.std.proofs.Common.{◌≡◌, take, false}
use Rattle.bfm_world.specs.Draft.{with_bonds}
use Rattle.bfm_commands.specs.History.{with_pairs}
use Rattle.bfm_commands.specs.Causes.{is_overfull}
use Rattle.bfm_commands.proofs.header.join_all.Given as goal

abbrev pub invariant-loop-i : goal.invariant-loop-i
invariant-loop-i l =
    (l.builder ≡ with_bonds l.initial.builder (with_pairs l.initial.builder.world.bonds (take l.i-index l.pairs)))
    × (is_overfull (with_pairs l.initial.builder.world.bonds (take l.i-index l.pairs)) ≡ false)
