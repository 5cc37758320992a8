use Rattle.std.proofs.Common.{◌≡◌, length}
use Rattle.bfm_commands.specs.Reading.{with_valences}
use Rattle.bfm_commands.proofs.MarkLemmas.{AgreesBelow}
use Rattle.bfm_commands.proofs.header.value_all.Given as goal

abbrev pub invariant-loop-i : goal.invariant-loop-i
invariant-loop-i l =
    (l.builder ≡ with_valences l.initial.builder l.builder.world.valences) × (length l.builder.world.valences ≡ l.initial.builder.count) × AgreesBelow l.i l.builder.world.valences l.valences
