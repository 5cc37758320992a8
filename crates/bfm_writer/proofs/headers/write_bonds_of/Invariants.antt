use Rattle.std.proofs.Common.{◌≡◌, ◌++◌, codes, drop}
use Rattle.std.specs.List.{flat_map}
use Rattle.bfm_world.specs.Bonds.{neighbours_of}
use Rattle.bfm_writer.specs.Batch.{TookFirst}
use Rattle.bfm_writer.specs.Header.{bond_entries, bond_entry}
use Rattle.bfm_writer.specs.Listing.{behind, entries_of}
use Rattle.bfm_writer.proofs.headers.write_bonds_of.Given as goal

-- What is gathered and the bonds to the neighbours that follow are left of all; behind these as much of the list is
-- written as behind all.
abbrev pub invariant-loop-j : goal.invariant-loop-j
invariant-loop-j g l =
    let left = flat_map (bond_entry l.world l.i) (drop l.j-index (neighbours_of l.world.bonds l.i)) in
    TookFirst (g.S.Sink.account l.initial.sink) (g.S.Sink.account l.sink)
    (l.initial.batch ++ entries_of l.fn.listing (codes "!bonds\n") (bond_entries l.world l.i)) (l.batch ++ entries_of l.written (codes "!bonds\n") left)
    × (behind l.written left ≡ behind l.fn.listing (bond_entries l.world l.i))
