use Rattle.std.proofs.Common.{◌≡◌, true, sym, ap, ◌∙◌}
use Rattle.std.specs.Char.{is_ascii_digit}
use Rattle.std.specs.List.{list_all}
use Rattle.bfm_cli.proofs.WordLemmas.{parse-digits}
use Rattle.bfm_cli.proofs.words.whole_number.Goals as goal

pub returns : goal.returns
returns c =
    let digits : list_all is_ascii_digit c.args.digits.now ≡ true = ap (list_all is_ascii_digit) (sym c.as_bytes.ensures.value) ∙ (sym c.are_digits.ensures ∙ c.if-not-are_digits.false) in
    c.ok.ensures.value ∙ parse-digits c.args.digits.now c.parse.result c.parse.ensures.value.0 digits
