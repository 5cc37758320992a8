use Rattle.std.proofs.Common.{◌≡◌, to_z, of_z, w64, sym, refl, rules}
use Rattle.bfm_commands.proofs.FormLemmas.{contact_entry-read}
use Rattle.bfm_commands.proofs.forms.contact_entry.Goals as goal

pub returns-in-Some-clause-entry : goal.returns-in-Some-clause-entry
returns-in-Some-clause-entry c =
    let first : to_z w64 (of_z w64 c.in-Some.first) ≡ c.in-Some.first = search rules in
    let second : to_z w64 (of_z w64 c.in-Some.second) ≡ c.in-Some.second = search rules in
    let weight : to_z w64 (of_z w64 c.in-Some.weight) ≡ c.in-Some.weight = search rules in
    rw (c.limited_contact.ensures.entry, first, second, weight, contact_entry-read c.args.line.now, sym c.in-Some.ensures) refl
