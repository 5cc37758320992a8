use Rattle.std.proofs.Common.{◌≡◌, false, true, option_map, neg_ℤ, pos, to_z, of_z, w64, ◌-ℤ◌, ◌∙◌, ap, sym, rules}
use Rattle.bfm_lexer.specs.Cursor.{begins_with, minus, plus}
use Rattle.bfm_lexer.proofs.FieldLemmas.{handed-signed, handed-unsigned}
use Rattle.bfm_lexer.proofs.numbers.number_at.Goals as goal

pub returns-in_err-size : goal.returns-in_err-size
returns-in_err-size c =
    let sign : begins_with 45 c.args.text.now ≡ true = cc in
    rw c.from_residual.ensures (ap (option_map minus) c.in_err-size.ensures.read ∙ sym (handed-signed c.args.text.now sign))

pub returns-in_err-size-2 : goal.returns-in_err-size-2
returns-in_err-size-2 c =
    let unsigned : begins_with 45 c.args.text.now ≡ false = cc in
    rw c.from_residual-in_err-size-2.ensures (ap (option_map plus) c.in_err-size-2.ensures.read ∙ sym (handed-unsigned c.args.text.now unsigned))

pub returns-in_ok-size : goal.returns-in_ok-size
returns-in_ok-size c =
    let sign : begins_with 45 c.args.text.now ≡ true = cc in
    let size = c.in_ok-size.size in
    let value : to_z w64 (of_z w64 (pos 0 -ℤ to_z w64 size)) ≡ neg_ℤ (pos size) = search rules in
    rw value (ap (option_map minus) c.in_ok-size.ensures.read ∙ sym (handed-signed c.args.text.now sign))

pub returns-in_ok-size-2 : goal.returns-in_ok-size-2
returns-in_ok-size-2 c =
    let unsigned : begins_with 45 c.args.text.now ≡ false = cc in
    let size = c.in_ok-size-2.size in
    let value : to_z w64 size ≡ pos size = search rules in
    rw value (ap (option_map plus) c.in_ok-size-2.ensures.read ∙ sym (handed-unsigned c.args.text.now unsigned))
