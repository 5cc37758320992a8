use Rattle.std.proofs.Common.{◌∙◌, sym, ap, option_and_then, option_map}
use Rattle.bfm_cli.proofs.WordLemmas.{said, value_of-split}
use Rattle.bfm_cli.proofs.words.value_of.Goals as goal

pub returns-in_err-before : goal.returns-in_err-before
returns-in_err-before c =
    let none = value_of-split c.args.name.now c.args.word.now c.split_once.result c.split_once.ensures.cases ∙ ap (option_and_then (said c.args.name.now)) c.in_err-before.was in
    ap (option_map (λ value. value.now)) c.from_residual.ensures ∙ sym none
