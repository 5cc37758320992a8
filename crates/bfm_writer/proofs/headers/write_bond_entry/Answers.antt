use Rattle.std.proofs.Common.{◌≡◌, ℕ, ◌+◌, min, max, true, ◌++◌, ◌∷◌, [], if◌then◌else◌, codes, decimal, ap, sym, ◌∙◌}
use Rattle.std.proofs.lemmas.Result.{err_from_is_err_and}
use Rattle.bfm_world.specs.Configuration.{Configuration}
use Rattle.bfm_writer.specs.Header.{bond_entry, is_listed}
use Rattle.bfm_writer.specs.Text.{bond_line}
use Rattle.bfm_writer.proofs.ListingLemmas.{TookFirst-entry, TookPrefix-entry, TookPrefix-command}
use Rattle.bfm_writer.proofs.headers.write_bond_entry.Goals as goal

entry-some : (w : Configuration) (b : ℕ × ℕ) → is_listed w b.0 b.1 ≡ true
    → bond_entry w b.0 b.1 ≡ decimal (min b.0 b.1 + 1) ++ 32 ∷ (decimal (max b.0 b.1 + 1) ++ codes "\n")
entry-some w b h = ap (λ some. if some then bond_line b else []) h

pub returns-in_err-write_command-clause-entries : goal.returns-in_err-write_command-clause-entries
returns-in_err-write_command-clause-entries g c =
    let p = err_from_is_err_and c.from_residual.result c.from_residual.ensures.1 in
    let is = entry-some c.args.world.now c.args.bond (sym c.is_listed.ensures ∙ c.if-not-is_listed.false) in
    rw p.1 (TookPrefix-command _ _ _ _ _ _ _ _ _ is c.in_err-write_command.ensures)

pub returns-in_err-write_bond-clause-entries : goal.returns-in_err-write_bond-clause-entries
returns-in_err-write_bond-clause-entries g c =
    let p = err_from_is_err_and c.from_residual-in_err-write_bond.result c.from_residual-in_err-write_bond.ensures.1 in
    let is = entry-some c.args.world.now c.args.bond (sym c.is_listed.ensures ∙ c.if-not-is_listed.false) in
    rw p.1 (TookPrefix-entry _ _ _ _ _ _ _ _ _ _ _ is c.in_ok-write_command.ensures c.in_err-write_bond.ensures)

pub returns-clause-entries : goal.returns-clause-entries
returns-clause-entries g c =
    let is = entry-some c.args.world.now c.args.bond (sym c.is_listed.ensures ∙ c.if-not-is_listed.false) in
    TookFirst-entry _ _ _ _ _ _ _ _ _ _ _ _ is c.in_ok-write_command.ensures c.in_ok-write_bond.ensures
