use Rattle.std.proofs.Common.{◌≡◌, length}
use Rattle.bfm_writer.proofs.tests.marked_world_of.Given as goal

-- the number of monomers stays, and none is placed before the labels, the valences and the bonds are there
abbrev pub invariant-loop-monomer : goal.invariant-loop-monomer
invariant-loop-monomer g l = (l.builder.count ≡ length l.places) × (length l.builder.world.positions ≡ 0)

abbrev pub invariant-loop-i : goal.invariant-loop-i
invariant-loop-i g l = (l.builder.count ≡ length l.places) × (length l.builder.world.positions ≡ 0)

abbrev pub invariant-loop-x : goal.invariant-loop-x
invariant-loop-x g l = (l.builder.count ≡ length l.places) × (length l.builder.world.positions ≡ l.x-index)
