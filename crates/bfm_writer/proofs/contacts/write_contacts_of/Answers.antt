use Rattle.std.proofs.Common.{◌≡◌, ◌+◌, ◌-◌, ◌<◌, codes, ap, sym, ◌∙◌, arith}
use Rattle.std.specs.List.{flat_map, range_with_len}
use Rattle.std.proofs.lemmas.Result.{err_from_is_err_and}
use Rattle.contact_table.specs.Entries.{entry_of}
use Rattle.bfm_writer.specs.Header.{contact_line}
use Rattle.bfm_writer.specs.Listing.{behind}
use Rattle.bfm_writer.proofs.ListingLemmas.{behind-more, lines-first, TookFirst-entries, TookPrefix-entries}
use Rattle.bfm_writer.proofs.contacts.write_contacts_of.Goals as goal

pub loop-b-preserved : goal.loop-b-preserved
loop-b-preserved g c =
    let b = c.loop-b.b in
    let f = entry_of c.args.table.now c.args.a in
    let inside : b < 16 = omega (arith, c.loop-b-test.true) in
    let line = flat_map contact_line (f b) in
    let more = flat_map contact_line (flat_map f (range_with_len (b + 1) (16 - (b + 1)))) in
    let next = lines-first contact_line f b 16 inside in
    let now : c.in_ok-written.written ≡ behind c.loop-b.written line = c.in_ok-written.ensures.behind in (
      TookFirst-entries _ _ _ _ _ _ (codes "!bfm_contacts\n") _ _ line more _ next now c.loop-b.invariant.0 c.in_ok-written.ensures.entries,
      ap (λ l. behind l more) now ∙ (sym (behind-more c.loop-b.written line more) ∙ (ap (behind c.loop-b.written) (sym next) ∙ c.loop-b.invariant.1)),
    )

pub returns-in_err-written-clause-entries : goal.returns-in_err-written-clause-entries
returns-in_err-written-clause-entries g c =
    let p = err_from_is_err_and c.from_residual.result c.from_residual.ensures.1 in
    let b = c.loop-b.b in
    let f = entry_of c.args.table.now c.args.a in
    let inside : b < 16 = omega (arith, c.loop-b-test.true) in
    let line = flat_map contact_line (f b) in
    let more = flat_map contact_line (flat_map f (range_with_len (b + 1) (16 - (b + 1)))) in
    rw p.1 (TookPrefix-entries _ _ _ _ _ (codes "!bfm_contacts\n") _ _ line more (lines-first contact_line f b 16 inside) c.loop-b.invariant.0 c.in_err-written.ensures.entries)
