use Rattle.std.proofs.Common.{◌≡◌}
use Rattle.bfm_world.specs.Draft.{with_positions}
use Rattle.brush_builder.specs.Brush.{brush_positions}
use Rattle.brush_builder.proofs.feet.place_all.Given as goal

abbrev pub invariant-loop-monomer : goal.invariant-loop-monomer
invariant-loop-monomer l = l.builder ≡ with_positions l.initial.builder (brush_positions l.shape l.spacing l.length l.monomer)
