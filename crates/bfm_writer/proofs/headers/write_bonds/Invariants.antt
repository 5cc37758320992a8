use Rattle.std.proofs.Common.{◌-◌, ◌++◌, codes, length}
use Rattle.std.specs.List.{flat_map, range_with_len}
use Rattle.bfm_writer.specs.Batch.{TookFirst}
use Rattle.bfm_writer.specs.Header.{bond_entries, bonds_text}
use Rattle.bfm_writer.specs.Listing.{entries_of}
use Rattle.bfm_writer.proofs.headers.write_bonds.Given as goal

-- what is gathered and the bonds of the monomers that follow are left of all
abbrev pub invariant-loop-i : goal.invariant-loop-i
invariant-loop-i g l =
    TookFirst (g.S.Sink.account l.initial.sink) (g.S.Sink.account l.sink) (l.initial.batch ++ bonds_text l.world)
    (l.batch ++ entries_of l.listing (codes "!bonds\n") (flat_map (bond_entries l.world) (range_with_len l.i (length l.world.positions - l.i))))
