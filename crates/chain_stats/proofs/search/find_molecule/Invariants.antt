use Rattle.std.proofs.Common.{◌+◌, length}
use Rattle.chain_stats.specs.Search.{IsSpreading, missing}
use Rattle.chain_stats.proofs.search.find_molecule.Given as goal

abbrev pub invariant-loop-i : goal.invariant-loop-i
invariant-loop-i l = IsSpreading l.world.bonds (length l.world.positions) l.number l.roots l.waiting.items

abbrev pub decreases-loop-i : goal.decreases-loop-i
decreases-loop-i l = missing (length l.world.positions) l.roots + length l.waiting.items
