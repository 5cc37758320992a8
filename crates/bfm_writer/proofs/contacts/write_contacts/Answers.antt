use Rattle.std.proofs.Common.{◌+◌, ◌-◌, ◌<◌, ◌++◌, codes, ap, arith}
use Rattle.std.specs.List.{flat_map, range_with_len}
use Rattle.std.proofs.lemmas.Result.{err_from_is_err_and}
use Rattle.contact_table.specs.Entries.{entries_of_class}
use Rattle.bfm_writer.specs.Header.{contact_line, listed}
use Rattle.bfm_writer.proofs.BatchLemmas.{TookFirst-same}
use Rattle.bfm_writer.proofs.ListingLemmas.{lines-first, TookFirst-entries, TookPrefix-entries}
use Rattle.bfm_writer.proofs.TableLemmas.{entries_of-classes}
use Rattle.bfm_writer.proofs.contacts.write_contacts.Goals as goal

pub loop-a-init : goal.loop-a-init
loop-a-init g c =
    TookFirst-same _ _ _ (ap (λ entries. c.args.batch.now ++ listed (codes "!bfm_contacts\n") (flat_map contact_line entries)) (entries_of-classes c.args.table.now))

pub loop-a-preserved : goal.loop-a-preserved
loop-a-preserved g c =
    let a = c.loop-a.a in
    let f = entries_of_class c.args.table.now in
    let inside : a < 16 = omega (arith, c.loop-a-test.true) in
    TookFirst-entries _ _ _ _ _ _ (codes "!bfm_contacts\n") _ _ (flat_map contact_line (f a)) (flat_map contact_line (flat_map f (range_with_len (a + 1) (16 - (a + 1))))) _
    (lines-first contact_line f a 16 inside) c.in_ok-listing.ensures.behind c.loop-a.invariant c.in_ok-listing.ensures.entries

pub returns-in_err-listing : goal.returns-in_err-listing
returns-in_err-listing g c =
    let p = err_from_is_err_and c.from_residual.result c.from_residual.ensures.1 in
    let a = c.loop-a.a in
    let f = entries_of_class c.args.table.now in
    let inside : a < 16 = omega (arith, c.loop-a-test.true) in
    rw p.1 (TookPrefix-entries _ _ _ _ _ (codes "!bfm_contacts\n") _ _ (flat_map contact_line (f a)) (flat_map contact_line (flat_map f (range_with_len (a + 1) (16 - (a + 1)))))
    (lines-first contact_line f a 16 inside) c.loop-a.invariant c.in_err-listing.ensures.entries)
