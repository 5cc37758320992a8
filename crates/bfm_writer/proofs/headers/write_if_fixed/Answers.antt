use Rattle.std.proofs.Common.{◌≡◌, ℕ, ◌+◌, true, ◌++◌, ◌∷◌, [], if◌then◌else◌, decimal, ap, sym, ◌∙◌, rules}
use Rattle.std.proofs.lemmas.Result.{err_from_is_err_and}
use Rattle.bfm_world.specs.Configuration.{Configuration, is_fixed}
use Rattle.bfm_writer.specs.Header.{fixed_entry, number_line}
use Rattle.bfm_writer.specs.Listing.{behind}
use Rattle.bfm_writer.proofs.ListingLemmas.{behind-some, TookFirst-entry, TookPrefix-entry, TookPrefix-command}
use Rattle.bfm_writer.proofs.headers.write_if_fixed.Goals as goal

entry-some : (w : Configuration) (i : ℕ) → is_fixed w i ≡ true → fixed_entry w i ≡ decimal (i + 1) ++ 10 ∷ []
entry-some w i h = ap (λ fixed. if fixed then number_line i else []) h

pub returns-in_err-write_command-clause-entries : goal.returns-in_err-write_command-clause-entries
returns-in_err-write_command-clause-entries g c =
    let p = err_from_is_err_and c.from_residual.result c.from_residual.ensures.1 in
    let fixed : is_fixed c.args.world.now c.args.i ≡ true = search rules in
    rw p.1 (TookPrefix-command _ _ _ _ _ _ _ _ _ (entry-some c.args.world.now c.args.i fixed) c.in_err-write_command.ensures)

pub returns-in_err-write_number_line-clause-entries : goal.returns-in_err-write_number_line-clause-entries
returns-in_err-write_number_line-clause-entries g c =
    let p = err_from_is_err_and c.from_residual-in_err-write_number_line.result c.from_residual-in_err-write_number_line.ensures.1 in
    let fixed : is_fixed c.args.world.now c.args.i ≡ true = search rules in
    rw p.1 (TookPrefix-entry _ _ _ _ _ _ _ _ _ _ _ (entry-some c.args.world.now c.args.i fixed) c.in_ok-write_command.ensures c.in_err-write_number_line.ensures)

pub returns-clause-entries : goal.returns-clause-entries
returns-clause-entries g c =
    let fixed : is_fixed c.args.world.now c.args.i ≡ true = search rules in
    TookFirst-entry _ _ _ _ _ _ _ _ _ _ _ _ (entry-some c.args.world.now c.args.i fixed) c.in_ok-write_command.ensures c.in_ok-write_number_line.ensures

pub returns-clause-behind : goal.returns-clause-behind
returns-clause-behind g c =
    let fixed : is_fixed c.args.world.now c.args.i ≡ true = search rules in
    sym (ap (behind c.args.listing) (entry-some c.args.world.now c.args.i fixed) ∙ behind-some c.args.listing (decimal (c.args.i + 1)) 10 [])
