use Rattle.std.proofs.Common.{◌≡◌, ◌-◌, ◌++◌, codes}
use Rattle.std.specs.List.{flat_map, range_with_len}
use Rattle.contact_table.specs.Entries.{entries_of_class, entry_of}
use Rattle.bfm_writer.specs.Batch.{TookFirst}
use Rattle.bfm_writer.specs.Header.{contact_line}
use Rattle.bfm_writer.specs.Listing.{behind, entries_of}
use Rattle.bfm_writer.proofs.contacts.write_contacts_of.Given as goal

-- What is gathered and the pairs with the classes that follow are left of all; behind these as much of the list is written
-- as behind all.
abbrev pub invariant-loop-b : goal.invariant-loop-b
invariant-loop-b g l =
    let all = flat_map contact_line (entries_of_class l.table l.a) in
    let left = flat_map contact_line (flat_map (entry_of l.table l.a) (range_with_len l.b (16 - l.b))) in
    TookFirst (g.S.Sink.account l.initial.sink) (g.S.Sink.account l.sink)
    (l.initial.batch ++ entries_of l.fn.listing (codes "!bfm_contacts\n") all) (l.batch ++ entries_of l.written (codes "!bfm_contacts\n") left)
    × (behind l.written left ≡ behind l.fn.listing all)
