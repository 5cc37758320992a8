use Rattle.std.proofs.Common.{◌≡◌, drop}
use Rattle.std.specs.List.{find}
use Rattle.bond_set.specs.BondSet as bond_set
use Rattle.bond_set.proofs.set.BondSet.finish.Given as goal

abbrev pub invariant-loop-k : goal.invariant-loop-k
invariant-loop-k l =
    find (bond_set.is_unpaired l.self) (drop l.k (bond_set.vectors_of l.self)) ≡ bond_set.first_unpaired l.self
