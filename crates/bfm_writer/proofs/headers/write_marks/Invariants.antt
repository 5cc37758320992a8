use Rattle.std.proofs.Common.{◌-◌, ◌++◌, length}
use Rattle.std.specs.List.{flat_map, range_with_len}
use Rattle.bfm_writer.specs.Batch.{TookFirst}
use Rattle.bfm_writer.specs.Header.{listed, mark_entry, monomers_of}
use Rattle.bfm_writer.specs.Listing.{command_of, entries_of, mark_of}
use Rattle.bfm_writer.proofs.headers.write_marks.Given as goal

-- what is gathered and the entries of the monomers that follow are left of all
abbrev pub invariant-loop-i : goal.invariant-loop-i
invariant-loop-i g l =
    TookFirst (g.S.Sink.account l.initial.sink) (g.S.Sink.account l.sink)
    (l.initial.batch ++ listed (command_of l.mark) (flat_map (λ i. mark_entry i (mark_of l.mark l.world i)) (monomers_of l.world)))
    (l.batch ++ entries_of l.listing (command_of l.mark) (flat_map (λ i. mark_entry i (mark_of l.mark l.world i)) (range_with_len l.i (length l.world.positions - l.i))))
