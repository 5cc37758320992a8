use Rattle.std.proofs.Common.{◌+◌, ◌-◌, ◌<◌, codes, length, ap, arith}
use Rattle.std.specs.List.{flat_map, range_with_len}
use Rattle.std.proofs.lemmas.Result.{err_from_is_err_and}
use Rattle.bfm_writer.specs.Header.{fixed_entry}
use Rattle.bfm_writer.proofs.ListingLemmas.{range_with_len-first, TookFirst-entries, TookPrefix-entries}
use Rattle.bfm_writer.proofs.headers.write_fixed.Goals as goal

pub loop-i-preserved : goal.loop-i-preserved
loop-i-preserved g c =
    let i = c.loop-i.i in
    let w = c.args.world.now in
    let n = length w.positions in
    let inside : i < n = omega (arith, c.loop-i-test.true, c.len-i-end.ensures.count) in
    TookFirst-entries _ _ _ _ _ _ (codes "!bfm_fixed\n") _ _ (fixed_entry w i) (flat_map (fixed_entry w) (range_with_len (i + 1) (n - (i + 1)))) _
    (ap (flat_map (fixed_entry w)) (range_with_len-first i n inside)) c.in_ok-listing.ensures.behind c.loop-i.invariant c.in_ok-listing.ensures.entries

pub returns-in_err-listing : goal.returns-in_err-listing
returns-in_err-listing g c =
    let p = err_from_is_err_and c.from_residual.result c.from_residual.ensures.1 in
    let i = c.loop-i.i in
    let w = c.args.world.now in
    let n = length w.positions in
    let inside : i < n = omega (arith, c.loop-i-test.true, c.len-i-end.ensures.count) in
    rw p.1 (TookPrefix-entries _ _ _ _ _ (codes "!bfm_fixed\n") _ _ (fixed_entry w i) (flat_map (fixed_entry w) (range_with_len (i + 1) (n - (i + 1))))
    (ap (flat_map (fixed_entry w)) (range_with_len-first i n inside)) c.loop-i.invariant c.in_err-listing.ensures.entries)
