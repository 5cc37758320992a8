use Rattle.std.proofs.Common.{◌-◌, ◌++◌, codes}
use Rattle.std.specs.List.{flat_map, range_with_len}
use Rattle.contact_table.specs.Entries.{entries_of_class}
use Rattle.bfm_writer.specs.Batch.{TookFirst}
use Rattle.bfm_writer.specs.Header.{contact_line, contacts_text}
use Rattle.bfm_writer.specs.Listing.{entries_of}
use Rattle.bfm_writer.proofs.contacts.write_contacts.Given as goal

-- what is gathered and the pairs of the classes that follow are left of all
abbrev pub invariant-loop-a : goal.invariant-loop-a
invariant-loop-a g l =
    TookFirst (g.S.Sink.account l.initial.sink) (g.S.Sink.account l.sink) (l.initial.batch ++ contacts_text l.table)
    (l.batch ++ entries_of l.listing (codes "!bfm_contacts\n") (flat_map contact_line (flat_map (entries_of_class l.table) (range_with_len l.a (16 - l.a)))))
