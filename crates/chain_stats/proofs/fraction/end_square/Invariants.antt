use Rattle.std.proofs.Common.{◌≡◌, ◌<◌, min, max, length, take}
use Rattle.std.specs.Prelude.{slice_index}
use Rattle.std.specs.List.{fold}
use Rattle.chain_stats.proofs.fraction.end_square.Given as goal

abbrev pub invariant-loop-i : goal.invariant-loop-i
invariant-loop-i l = record {
  least : l.least ≡ fold min (slice_index l.members 0) (take l.i-index l.members);
  least_there : l.least < length l.world.positions;
  greatest : l.greatest ≡ fold max (slice_index l.members 0) (take l.i-index l.members);
  greatest_there : l.greatest < length l.world.positions;
}
