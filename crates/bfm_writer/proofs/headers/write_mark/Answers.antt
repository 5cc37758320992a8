use Rattle.std.proofs.Common.{◌≡◌, ◌≢◌, ℕ, ◌+◌, false, nat_eq, ◌++◌, ◌∷◌, [], if◌then◌else◌, codes, decimal, ap, sym, ◌∙◌, arith}
use Rattle.std.proofs.lemmas.Bool.Decides.{nat_tests}
use Rattle.std.proofs.lemmas.Result.{err_from_is_err_and}
use Rattle.bfm_writer.specs.Header.{mark_entry, mark_line}
use Rattle.bfm_writer.specs.Listing.{behind}
use Rattle.bfm_writer.proofs.ListingLemmas.{behind-some, TookFirst-entry, TookPrefix-entry, TookPrefix-command}
use Rattle.bfm_writer.proofs.headers.write_mark.Goals as goal

entry-some : (i mark : ℕ) → mark ≢ 0 → mark_entry i mark ≡ decimal (i + 1) ++ 58 ∷ (decimal mark ++ codes "\n")
entry-some i mark h =
    let some : nat_eq mark 0 ≡ false = grind (arith, nat_tests) in
    ap (λ none. if none then [] else mark_line i mark) some

pub returns-in_err-write_command-clause-entries : goal.returns-in_err-write_command-clause-entries
returns-in_err-write_command-clause-entries g c =
    let p = err_from_is_err_and c.from_residual.result c.from_residual.ensures.1 in
    rw p.1 (TookPrefix-command _ _ _ _ _ _ _ _ _ (entry-some c.args.i c.args.value c.if-value-eq0.false) c.in_err-write_command.ensures)

pub returns-in_err-write_mark_line-clause-entries : goal.returns-in_err-write_mark_line-clause-entries
returns-in_err-write_mark_line-clause-entries g c =
    let p = err_from_is_err_and c.from_residual-in_err-write_mark_line.result c.from_residual-in_err-write_mark_line.ensures.1 in
    let is = entry-some c.args.i c.args.value c.if-value-eq0.false in
    rw p.1 (TookPrefix-entry _ _ _ _ _ _ _ _ _ _ _ is c.in_ok-write_command.ensures c.in_err-write_mark_line.ensures)

pub returns-clause-entries : goal.returns-clause-entries
returns-clause-entries g c =
    let is = entry-some c.args.i c.args.value c.if-value-eq0.false in
    TookFirst-entry _ _ _ _ _ _ _ _ _ _ _ _ is c.in_ok-write_command.ensures c.in_ok-write_mark_line.ensures

pub returns-clause-behind : goal.returns-clause-behind
returns-clause-behind g c =
    let is = entry-some c.args.i c.args.value c.if-value-eq0.false in
    sym (ap (behind c.args.listing) is ∙ behind-some c.args.listing (decimal (c.args.i + 1)) 58 (decimal c.args.value ++ codes "\n"))
