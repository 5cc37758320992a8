use Rattle.std.proofs.Common.{◌≡◌, take}
use Rattle.bond_set.specs.UsualSet.{usual_vectors, usual_set}
use Rattle.bond_set.proofs.set.BondSet.usual.Given as goal

abbrev pub invariant-loop-v : goal.invariant-loop-v
invariant-loop-v l = (l.v-items ≡ usual_vectors) × (l.set ≡ take l.v-index usual_set)
