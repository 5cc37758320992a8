use Rattle.bfm_world.specs.Draft.{IsFilled}
use Rattle.packed_engine.proofs.SiteLemmas.{first_of}
use Rattle.packed_engine.proofs.places.filled.Given as goal

abbrev pub invariant-loop-i : goal.invariant-loop-i
invariant-loop-i l = IsFilled (first_of l.world l.i) l.lattice
