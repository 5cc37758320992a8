use Rattle.std.proofs.Common.{◌≡◌, map}
use Rattle.std.specs.List.{range_with_len}
use Rattle.bfm_world.specs.Draft.{with_positions}
use Rattle.network_builder.specs.Network.{place_of}
use Rattle.network_builder.proofs.strands.place_all.Given as goal

abbrev pub invariant-loop-monomer : goal.invariant-loop-monomer
invariant-loop-monomer l = l.builder ≡ with_positions l.initial.builder (map (place_of l.nodes l.strand) (range_with_len 0 l.monomer))
