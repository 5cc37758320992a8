use Rattle.std.proofs.Common.{◌≡◌}
use Rattle.bfm_world.specs.Draft.{with_positions}
use Rattle.melt_builder.specs.Melt.{melt_positions}
use Rattle.melt_builder.proofs.cells.place_all.Given as goal

abbrev pub invariant-loop-cell : goal.invariant-loop-cell
invariant-loop-cell l = l.builder ≡ with_positions l.initial.builder (melt_positions l.shape l.cell)
