use Rattle.std.proofs.Common.{◌≡◌, ◌++◌, List, ℕ, [], codes, refl, ap, sym}
use Rattle.std.specs.List.{flat_map}
use Rattle.std.proofs.lemmas.Result.{err_from_is_err_and}
use Rattle.bfm_base.specs.Account.{Account}
use Rattle.bfm_writer.specs.Batch.{TookFirst}
use Rattle.bfm_writer.specs.Rows.{rows_of}
use Rattle.bfm_writer.specs.Text.{added_text, frame_text, row_text, time_line}
use Rattle.bfm_writer.proofs.BatchLemmas.{TookFirst-none, TookFirst-next, TookPrefix-next, TookPrefix-then, TookFirst-then, Sends-rest}
use Rattle.bfm_writer.proofs.groups.group.Goals as goal

-- the empty line is put into an empty batch
empty_line : (a b : Account) (before after more : List ℕ) → before ≡ [] → TookFirst a b (before ++ codes "\n") after → TookFirst a b (codes "\n" ++ more) (after ++ more)
empty_line a b before after more e h = TookFirst-next a a b _ _ before (codes "\n") more after (TookFirst-none a _) (ap (λ l. l ++ (codes "\n" ++ more)) (sym e)) h

pub returns-in_err-write_added_bonds : goal.returns-in_err-write_added_bonds
returns-in_err-write_added_bonds g c =
    let p = err_from_is_err_and c.from_residual-in_err-write_added_bonds.result c.from_residual-in_err-write_added_bonds.ensures.1 in
    let added = added_text c.args.added.now in
    let frame = frame_text c.args.world.now c.args.mcs in
    let line = empty_line _ _ _ _ (added ++ frame) c.new-batch.ensures c.in_ok-push.ensures in
    rw p.1 (TookPrefix-next _ _ _ _ _ c.push.new.self added frame line refl c.in_err-write_added_bonds.ensures)

pub returns-in_err-write_time : goal.returns-in_err-write_time
returns-in_err-write_time g c =
    let p = err_from_is_err_and c.from_residual-in_err-write_time.result c.from_residual-in_err-write_time.ensures.1 in
    let added = added_text c.args.added.now in
    let time = time_line c.args.mcs in
    let rows = flat_map row_text (rows_of c.args.world.now) in
    let line = empty_line _ _ _ _ (added ++ (time ++ rows)) c.new-batch.ensures c.in_ok-push.ensures in
    let bonds = TookFirst-next _ _ _ _ _ c.push.new.self added (time ++ rows) _ line refl c.in_ok-write_added_bonds.ensures in
    rw p.1 (TookPrefix-next _ _ _ _ _ c.write_added_bonds.new.batch time rows bonds refl c.in_err-write_time.ensures)

pub returns-in_err-write_rows : goal.returns-in_err-write_rows
returns-in_err-write_rows g c =
    let p = err_from_is_err_and c.from_residual-in_err-write_rows.result c.from_residual-in_err-write_rows.ensures.1 in
    let added = added_text c.args.added.now in
    let time = time_line c.args.mcs in
    let rows = flat_map row_text (rows_of c.args.world.now) in
    let line = empty_line _ _ _ _ (added ++ (time ++ rows)) c.new-batch.ensures c.in_ok-push.ensures in
    let bonds = TookFirst-next _ _ _ _ _ c.push.new.self added (time ++ rows) _ line refl c.in_ok-write_added_bonds.ensures in
    let head = TookFirst-next _ _ _ _ _ c.write_added_bonds.new.batch time rows _ bonds refl c.in_ok-write_time.ensures in
    rw p.1 (TookPrefix-then _ _ _ _ _ head c.in_err-write_rows.ensures)

pub returns : goal.returns
returns g c =
    let added = added_text c.args.added.now in
    let time = time_line c.args.mcs in
    let rows = flat_map row_text (rows_of c.args.world.now) in
    let line = empty_line _ _ _ _ (added ++ (time ++ rows)) c.new-batch.ensures c.in_ok-push.ensures in
    let bonds = TookFirst-next _ _ _ _ _ c.push.new.self added (time ++ rows) _ line refl c.in_ok-write_added_bonds.ensures in
    let head = TookFirst-next _ _ _ _ _ c.write_added_bonds.new.batch time rows _ bonds refl c.in_ok-write_time.ensures in
    Sends-rest _ _ _ _ _ _ _ (TookFirst-then _ _ _ _ _ _ head c.in_ok-write_rows.ensures) c.flush.ensures.sent c.flush.ensures.empty
