use Rattle.std.proofs.Common.{◌≡◌, ◌<◌, ◌^◌, to_z, of_z, w64, sym, refl, rules}
use Rattle.bfm_commands.proofs.FormLemmas.{range_entry-read}
use Rattle.bfm_commands.proofs.forms.range_entry.Goals as goal

pub returns-in-Some-clause-entry : goal.returns-in-Some-clause-entry
returns-in-Some-clause-entry c =
    let below : c.args.greatest < 2 ^ 32 = search rules in
    let first : to_z w64 (of_z w64 c.in-Some.first) ≡ c.in-Some.first = search rules in
    let last : to_z w64 (of_z w64 c.in-Some.last) ≡ c.in-Some.last = search rules in
    let value : to_z w64 (of_z w64 c.in-Some.value) ≡ c.in-Some.value = search rules in
    rw (c.limited_range.ensures.entry, first, last, value, range_entry-read c.args.line.now c.args.greatest below, sym c.in-Some.ensures) refl
