use Rattle.std.proofs.Common.{refl}
use Rattle.std.proofs.lemmas.Result.{err_from_is_err_and}
use Rattle.bfm_writer.specs.Header.{acceptance_text, contacts_text}
use Rattle.bfm_writer.proofs.BatchLemmas.{TookFirst-none, TookFirst-next, TookPrefix-next, Passes-then}
use Rattle.bfm_writer.proofs.contacts.write_table.Goals as goal

pub returns-in_err-write_contacts : goal.returns-in_err-write_contacts
returns-in_err-write_contacts g c =
    let p = err_from_is_err_and c.from_residual.result c.from_residual.ensures.1 in
    let table = c.args.table.now in
    rw p.1 (TookPrefix-next _ _ _ _ _ c.args.batch.now (contacts_text table) (acceptance_text table) (TookFirst-none _ _) refl c.in_err-write_contacts.ensures)

pub returns : goal.returns
returns g c =
    let table = c.args.table.now in
    Passes-then _ _ _ _ _ _ _
    (TookFirst-next _ _ _ _ _ c.args.batch.now (contacts_text table) (acceptance_text table) _ (TookFirst-none _ _) refl c.in_ok-write_contacts.ensures) c.write_acceptance.ensures
