use Rattle.std.proofs.Common.{◌-◌, ◌++◌, codes, length}
use Rattle.std.specs.List.{flat_map, range_with_len}
use Rattle.bfm_writer.specs.Batch.{TookFirst}
use Rattle.bfm_writer.specs.Header.{fixed_entry, fixed_text}
use Rattle.bfm_writer.specs.Listing.{entries_of}
use Rattle.bfm_writer.proofs.headers.write_fixed.Given as goal

-- what is gathered and the fixed ones of the monomers that follow are left of all
abbrev pub invariant-loop-i : goal.invariant-loop-i
invariant-loop-i g l =
    TookFirst (g.S.Sink.account l.initial.sink) (g.S.Sink.account l.sink) (l.initial.batch ++ fixed_text l.world)
    (l.batch ++ entries_of l.listing (codes "!bfm_fixed\n") (flat_map (fixed_entry l.world) (range_with_len l.i (length l.world.positions - l.i))))
