use Rattle.std.proofs.Common.{◌≡◌, to_z, of_z, w64, sym, refl, rules}
use Rattle.bfm_commands.proofs.FormLemmas.{vector_numbers-read}
use Rattle.bfm_commands.proofs.forms.vector_numbers.Goals as goal

pub returns : goal.returns
returns c =
    let x : to_z w64 (of_z w64 c.in_ok-x.x) ≡ c.in_ok-x.x = search rules in
    let y : to_z w64 (of_z w64 c.in_ok-y.y) ≡ c.in_ok-y.y = search rules in
    let z : to_z w64 (of_z w64 c.in_ok-z.z) ≡ c.in_ok-z.z = search rules in
    let id : to_z w64 (of_z w64 c.in_ok-id.id) ≡ c.in_ok-id.id = search rules in
    rw (x, y, z, id, vector_numbers-read c.args.line.now, sym c.in_ok-x.ensures, sym c.in_ok-y.ensures, sym c.in_ok-z.ensures, sym c.in_ok-id.ensures) refl
