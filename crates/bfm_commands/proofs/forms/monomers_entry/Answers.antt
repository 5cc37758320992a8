use Rattle.std.proofs.Common.{◌≡◌, to_z, of_z, w64, sym, refl, rules}
use Rattle.bfm_commands.proofs.FormLemmas.{monomers_entry-read}
use Rattle.bfm_commands.proofs.forms.monomers_entry.Goals as goal

pub returns-in-Some-clause-entry : goal.returns-in-Some-clause-entry
returns-in-Some-clause-entry c =
    let first : to_z w64 (of_z w64 c.in-Some.first) ≡ c.in-Some.first = search rules in
    let last : to_z w64 (of_z w64 c.in-Some.last) ≡ c.in-Some.last = search rules in
    rw (c.limited_monomers.ensures.entry, first, last, monomers_entry-read c.args.line.now, sym c.in-Some.ensures) refl
