use Rattle.std.proofs.Common.{◌≡◌}
use Rattle.bfm_world.specs.Draft.{with_fixed_list}
use Rattle.bfm_commands.proofs.FixedLemmas.{told}
use Rattle.bfm_commands.proofs.fixed.FixedRanges.fix_all.Given as goal

abbrev pub invariant-loop-i : goal.invariant-loop-i
invariant-loop-i l = l.builder ≡ with_fixed_list l.initial.builder (told l.self l.i l.initial.builder.count)
