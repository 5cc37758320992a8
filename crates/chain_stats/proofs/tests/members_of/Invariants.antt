use Rattle.std.proofs.Common.{◌<◌, length}
use Rattle.std.specs.Prelude.{All, nat_eq}
use Rattle.std.specs.List.{IsDistinct}
use Rattle.chain_stats.proofs.tests.members_of.Given as goal

abbrev pub invariant-loop-i : goal.invariant-loop-i
invariant-loop-i g l = record {
  there : All (λ i. i < length l.world.positions) l.members.items;
  each_once : IsDistinct nat_eq l.members.items;
}
