use Rattle.std.proofs.Common.{rules}
use Rattle.bond_set.proofs.TableLemmas.{AreTables-none}
use Rattle.bond_set.proofs.UsualLemmas.{IsBondSet-none}
use Rattle.bond_set.proofs.set.BondSet.new.Goals as goal

pub invariant_of-result : goal.invariant_of-result
invariant_of-result c = (search (rules, IsBondSet-none), rw c.new.ensures.empty (AreTables-none 512 256))
