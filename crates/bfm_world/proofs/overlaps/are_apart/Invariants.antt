use Rattle.bfm_world.proofs.OverlapLemmas.{ApartSoFar}
use Rattle.bfm_world.proofs.overlaps.are_apart.Given as goal

abbrev pub invariant-loop-p : goal.invariant-loop-p
invariant-loop-p l = ApartSoFar l.fn.shape l.positions l.p-index l.lattice
