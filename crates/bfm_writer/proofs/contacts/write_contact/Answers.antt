use Rattle.std.proofs.Common.{◌≡◌, ◌++◌, ◌∷◌, codes, decimal, to_z, of_z, w32, ap, sym, ◌∙◌, rules}
use Rattle.std.specs.Fmt.{signed_decimal}
use Rattle.std.proofs.lemmas.Result.{err_from_is_err_and}
use Rattle.bfm_writer.specs.Listing.{behind}
use Rattle.bfm_writer.proofs.ListingLemmas.{behind-some, TookFirst-entry, TookPrefix-entry, TookPrefix-command}
use Rattle.bfm_writer.proofs.TableLemmas.{line-some}
use Rattle.bfm_writer.proofs.contacts.write_contact.Goals as goal

pub returns-in_err-write_command-clause-entries : goal.returns-in_err-write_command-clause-entries
returns-in_err-write_command-clause-entries g c =
    let p = err_from_is_err_and c.from_residual.result c.from_residual.ensures.1 in
    let is = line-some c.args.table.now c.args.pair.0 c.args.pair.1 c.weight-weight.result c.weight-weight.ensures.value (λ e. c.if-weight-eq0.false (ap (of_z w32) e)) in
    rw p.1 (TookPrefix-command _ _ _ _ _ _ _ _ _ is c.in_err-write_command.ensures)

pub returns-in_err-write_contact_line-clause-entries : goal.returns-in_err-write_contact_line-clause-entries
returns-in_err-write_contact_line-clause-entries g c =
    let p = err_from_is_err_and c.from_residual-in_err-write_contact_line.result c.from_residual-in_err-write_contact_line.ensures.1 in
    let is = line-some c.args.table.now c.args.pair.0 c.args.pair.1 c.weight-weight.result c.weight-weight.ensures.value (λ e. c.if-weight-eq0.false (ap (of_z w32) e)) in
    let weight : to_z w32 (of_z w32 c.weight-weight.result) ≡ c.weight-weight.result = search rules in
    rw p.1 (TookPrefix-entry _ _ _ _ _ _ _ _ _ _ _ is c.in_ok-write_command.ensures (rw weight at c.in_err-write_contact_line.ensures))

pub returns-clause-entries : goal.returns-clause-entries
returns-clause-entries g c =
    let is = line-some c.args.table.now c.args.pair.0 c.args.pair.1 c.weight-weight.result c.weight-weight.ensures.value (λ e. c.if-weight-eq0.false (ap (of_z w32) e)) in
    let weight : to_z w32 (of_z w32 c.weight-weight.result) ≡ c.weight-weight.result = search rules in
    TookFirst-entry _ _ _ _ _ _ _ _ _ _ _ _ is c.in_ok-write_command.ensures (rw weight at c.in_ok-write_contact_line.ensures)

pub returns-clause-behind : goal.returns-clause-behind
returns-clause-behind g c =
    let is = line-some c.args.table.now c.args.pair.0 c.args.pair.1 c.weight-weight.result c.weight-weight.ensures.value (λ e. c.if-weight-eq0.false (ap (of_z w32) e)) in
    sym (ap (behind c.args.listing) is
    ∙ behind-some c.args.listing (decimal c.args.pair.0) 32 (decimal c.args.pair.1 ++ 58 ∷ (signed_decimal c.weight-weight.result ++ codes "\n")))
