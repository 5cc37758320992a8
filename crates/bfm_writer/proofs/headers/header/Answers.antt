use Rattle.std.proofs.Common.{◌≡◌, ◌++◌, List, ℕ, [], refl, ap, sym}
use Rattle.std.proofs.lemmas.Result.{err_from_is_err_and}
use Rattle.bfm_base.specs.Account.{Account}
use Rattle.bfm_writer.specs.Batch.{TookFirst}
use Rattle.bfm_writer.specs.Header.{bonds_text, set_text, marks_text, table_text, values_text, header_text}
use Rattle.bfm_writer.proofs.BatchLemmas.{TookFirst-none, TookFirst-next, TookFirst-then, TookPrefix-next, TookPrefix-then, Sends-rest}
use Rattle.bfm_writer.proofs.headers.header.Goals as goal

-- the first text is put into an empty batch
first_text : (a b : Account) (before text after more : List ℕ) → before ≡ [] → TookFirst a b (before ++ text) after → TookFirst a b (text ++ more) (after ++ more)
first_text a b before text after more e h = TookFirst-next a a b _ _ before text more after (TookFirst-none a _) (ap (λ l. l ++ (text ++ more)) (sym e)) h

pub returns-in_err-write_values : goal.returns-in_err-write_values
returns-in_err-write_values g c =
    let p = err_from_is_err_and c.from_residual.result c.from_residual.ensures.1 in
    let w = c.args.world.now in
    rw p.1 (TookPrefix-next _ _ _ _ _ _ (values_text w) (set_text w ++ (bonds_text w ++ (marks_text w ++ table_text w.table))) (TookFirst-none _ _)
    (ap (λ l. l ++ header_text w) (sym c.new-batch.ensures)) c.in_err-write_values.ensures)

pub returns-in_err-write_set : goal.returns-in_err-write_set
returns-in_err-write_set g c =
    let p = err_from_is_err_and c.from_residual-in_err-write_set.result c.from_residual-in_err-write_set.ensures.1 in
    let w = c.args.world.now in
    let values = first_text _ _ _ (values_text w) _ (set_text w ++ (bonds_text w ++ (marks_text w ++ table_text w.table))) c.new-batch.ensures c.in_ok-write_values.ensures in
    rw p.1 (TookPrefix-next _ _ _ _ _ _ (set_text w) (bonds_text w ++ (marks_text w ++ table_text w.table)) values refl c.in_err-write_set.ensures)

pub returns-in_err-write_bonds : goal.returns-in_err-write_bonds
returns-in_err-write_bonds g c =
    let p = err_from_is_err_and c.from_residual-in_err-write_bonds.result c.from_residual-in_err-write_bonds.ensures.1 in
    let w = c.args.world.now in
    let values = first_text _ _ _ (values_text w) _ (set_text w ++ (bonds_text w ++ (marks_text w ++ table_text w.table))) c.new-batch.ensures c.in_ok-write_values.ensures in
    let set = TookFirst-next _ _ _ _ _ _ (set_text w) (bonds_text w ++ (marks_text w ++ table_text w.table)) _ values refl c.in_ok-write_set.ensures in
    rw p.1 (TookPrefix-next _ _ _ _ _ _ (bonds_text w) (marks_text w ++ table_text w.table) set refl c.in_err-write_bonds.ensures)

pub returns-in_err-write_all_marks : goal.returns-in_err-write_all_marks
returns-in_err-write_all_marks g c =
    let p = err_from_is_err_and c.from_residual-in_err-write_all_marks.result c.from_residual-in_err-write_all_marks.ensures.1 in
    let w = c.args.world.now in
    let values = first_text _ _ _ (values_text w) _ (set_text w ++ (bonds_text w ++ (marks_text w ++ table_text w.table))) c.new-batch.ensures c.in_ok-write_values.ensures in
    let set = TookFirst-next _ _ _ _ _ _ (set_text w) (bonds_text w ++ (marks_text w ++ table_text w.table)) _ values refl c.in_ok-write_set.ensures in
    let bonds = TookFirst-next _ _ _ _ _ _ (bonds_text w) (marks_text w ++ table_text w.table) _ set refl c.in_ok-write_bonds.ensures in
    rw p.1 (TookPrefix-next _ _ _ _ _ _ (marks_text w) (table_text w.table) bonds refl c.in_err-write_all_marks.ensures)

pub returns-in_err-write_table : goal.returns-in_err-write_table
returns-in_err-write_table g c =
    let p = err_from_is_err_and c.from_residual-in_err-write_table.result c.from_residual-in_err-write_table.ensures.1 in
    let w = c.args.world.now in
    let values = first_text _ _ _ (values_text w) _ (set_text w ++ (bonds_text w ++ (marks_text w ++ table_text w.table))) c.new-batch.ensures c.in_ok-write_values.ensures in
    let set = TookFirst-next _ _ _ _ _ _ (set_text w) (bonds_text w ++ (marks_text w ++ table_text w.table)) _ values refl c.in_ok-write_set.ensures in
    let bonds = TookFirst-next _ _ _ _ _ _ (bonds_text w) (marks_text w ++ table_text w.table) _ set refl c.in_ok-write_bonds.ensures in
    let marks = TookFirst-next _ _ _ _ _ _ (marks_text w) (table_text w.table) _ bonds refl c.in_ok-write_all_marks.ensures in
    rw p.1 (TookPrefix-then _ _ _ _ _ marks (rw c.table.ensures at c.in_err-write_table.ensures))

pub returns : goal.returns
returns g c =
    let w = c.args.world.now in
    let values = first_text _ _ _ (values_text w) _ (set_text w ++ (bonds_text w ++ (marks_text w ++ table_text w.table))) c.new-batch.ensures c.in_ok-write_values.ensures in
    let set = TookFirst-next _ _ _ _ _ _ (set_text w) (bonds_text w ++ (marks_text w ++ table_text w.table)) _ values refl c.in_ok-write_set.ensures in
    let bonds = TookFirst-next _ _ _ _ _ _ (bonds_text w) (marks_text w ++ table_text w.table) _ set refl c.in_ok-write_bonds.ensures in
    let marks = TookFirst-next _ _ _ _ _ _ (marks_text w) (table_text w.table) _ bonds refl c.in_ok-write_all_marks.ensures in
    Sends-rest _ _ _ _ _ _ _ (TookFirst-then _ _ _ _ _ _ marks (rw c.table.ensures at c.in_ok-write_table.ensures)) c.flush.ensures.sent c.flush.ensures.empty
