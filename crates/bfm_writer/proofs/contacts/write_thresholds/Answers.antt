use Rattle.std.proofs.Common.{◌≡◌, ◌+◌, ◌-◌, ◌++◌, pos, drop, ap, arith, rules}
use Rattle.std.specs.List.{flat_map}
use Rattle.std.proofs.lemmas.Result.{err_from_is_err_and}
use Rattle.contact_table.specs.Contacts.{threshold_of}
use Rattle.bfm_writer.specs.Header.{threshold_line}
use Rattle.bfm_writer.proofs.BatchLemmas.{TookFirst-next, TookFirst-then, TookPrefix-next}
use Rattle.bfm_writer.proofs.TableLemmas.{thresholds-first, thresholds-last}
use Rattle.bfm_writer.proofs.contacts.write_thresholds.Goals as goal

pub loop-delta-preserved : goal.loop-delta-preserved
loop-delta-preserved g c =
    let delta = c.loop-delta.delta in
    let table = c.args.table.now in
    let is : c.threshold.result ≡ threshold_of table (pos delta) = search rules in
    let first = thresholds-first table delta c.threshold.result (omega (arith, c.loop-delta.auto.delta)) (omega (arith, c.loop-delta-test.true, c.thresholds-delta-end.ensures.count)) is in
    TookFirst-next _ _ _ _ _ _ (threshold_line c.threshold.result) (flat_map threshold_line (drop (delta + 1 - 1) table.thresholds)) _ c.loop-delta.invariant
    (ap (λ l. c.loop-delta.batch ++ flat_map threshold_line l) first) c.in_ok-write_threshold.ensures

pub returns-in_err-write_threshold : goal.returns-in_err-write_threshold
returns-in_err-write_threshold g c =
    let p = err_from_is_err_and c.from_residual.result c.from_residual.ensures.1 in
    let delta = c.loop-delta.delta in
    let table = c.args.table.now in
    let is : c.threshold.result ≡ threshold_of table (pos delta) = search rules in
    let first = thresholds-first table delta c.threshold.result (omega (arith, c.loop-delta.auto.delta)) (omega (arith, c.loop-delta-test.true, c.thresholds-delta-end.ensures.count)) is in
    rw p.1 (TookPrefix-next _ _ _ _ _ _ (threshold_line c.threshold.result) (flat_map threshold_line (drop (delta + 1 - 1) table.thresholds)) c.loop-delta.invariant
    (ap (λ l. c.loop-delta.batch ++ flat_map threshold_line l) first) c.in_err-write_threshold.ensures)

pub returns-in_ok-write_threshold : goal.returns-in_ok-write_threshold
returns-in_ok-write_threshold g c =
    let delta = c.loop-delta.delta in
    let table = c.args.table.now in
    let is : c.threshold.result ≡ threshold_of table (pos delta) = search rules in
    let last = thresholds-last table delta c.threshold.result (omega (arith, c.loop-delta.auto.delta)) (omega (arith, c.loop-delta-test.true, c.thresholds-delta-end.ensures.count)) is in
    TookFirst-then _ _ _ _ _ _ (rw last at c.loop-delta.invariant) c.in_ok-write_threshold.ensures
