use Rattle.std.proofs.Common.{◌≡◌, [], length}
use Rattle.chain_stats.specs.Search.{AreSearched}
use Rattle.chain_stats.proofs.search.find_all.Given as goal

abbrev pub invariant-loop-number : goal.invariant-loop-number
invariant-loop-number l = record {
  searched : AreSearched l.world.bonds (length l.world.positions) l.number l.roots;
  none : l.waiting.items ≡ [];
}
