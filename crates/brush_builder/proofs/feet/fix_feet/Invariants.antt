use Rattle.std.proofs.Common.{◌≡◌}
use Rattle.bfm_world.specs.Draft.{with_fixed_list}
use Rattle.brush_builder.proofs.FixLemmas.{told}
use Rattle.brush_builder.proofs.feet.fix_feet.Given as goal

abbrev pub invariant-loop-monomer : goal.invariant-loop-monomer
invariant-loop-monomer l = l.builder ≡ with_fixed_list l.initial.builder (told l.length l.monomer l.initial.builder.count)
