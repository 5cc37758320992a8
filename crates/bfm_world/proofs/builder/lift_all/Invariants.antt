use Rattle.std.proofs.Common.{◌≡◌, drop}
use Rattle.packed_lattice.specs.Cover.{Covers}
use Rattle.bfm_world.proofs.builder.lift_all.Given as goal

-- the cubes that are taken are those of the monomers that are left to lift
abbrev pub invariant-loop-p : goal.invariant-loop-p
invariant-loop-p l = record {
  shape : l.lattice.shape ≡ l.fn.lattice.shape;
  taken : Covers (drop l.p-index l.positions) l.lattice;
}
