use Rattle.std.proofs.Common.{◌≡◌, ℕ, ◌+◌, ◌<◌, ◌∷◌, length, get_or}
use Rattle.bfm_world.specs.Bonds.{neighbours_of}
use Rattle.chain_stats.specs.Search.{IsSpreading, root_of, missing}
use Rattle.chain_stats.proofs.search.go_on.Given as goal

abbrev pub invariant-loop-j : goal.invariant-loop-j
invariant-loop-j l = record {
  spreading : IsSpreading l.world.bonds (length l.world.positions) l.number l.roots (l.i ∷ l.waiting.items);
  reached : (k : ℕ) → k < l.j-index → root_of l.roots (get_or (neighbours_of l.world.bonds l.i) k 0) < length l.world.positions;
  work : missing (length l.world.positions) l.roots + length l.waiting.items ≡ missing (length l.world.positions) l.initial.roots + length l.initial.waiting.items;
}
