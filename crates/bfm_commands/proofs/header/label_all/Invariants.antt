use Rattle.std.proofs.Common.{◌≡◌, length}
use Rattle.bfm_commands.specs.Reading.{with_labels}
use Rattle.bfm_commands.proofs.MarkLemmas.{AgreesBelow}
use Rattle.bfm_commands.proofs.header.label_all.Given as goal

abbrev pub invariant-loop-i : goal.invariant-loop-i
invariant-loop-i l =
    (l.builder ≡ with_labels l.initial.builder l.builder.world.labels) × (length l.builder.world.labels ≡ l.initial.builder.count) × AgreesBelow l.i l.builder.world.labels l.labels
