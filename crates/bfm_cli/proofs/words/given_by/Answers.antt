use Rattle.std.proofs.Common.{◌≡◌, ◌∙◌, true, false, is_some, ◌+◌, drop, sym, ap, map, string_bytes}
use Rattle.bfm_cli.specs.Keys.{key_of}
use Rattle.bfm_cli.specs.Words.{first_of, given}
use Rattle.bfm_cli.proofs.WordLemmas.{next_text, first_of-here, first_of-later}
use Rattle.bfm_cli.proofs.words.given_by.Goals as goal

pub returns-then-is_some-clause-number : goal.returns-then-is_some-clause-number
returns-then-is_some-clause-number c =
    let key = key_of c.args.key.now in
    let word = c.as_str.result.now in
    let next = next_text string_bytes c.args.words.now c.loop-word.word-index c.word-item.result word c.loop-word-test.true c.word-item.is c.as_str.ensures.value in
    let some : is_some (given key word) ≡ true = ap is_some (sym c.given-number.ensures.number) ∙ (sym c.is_some.ensures ∙ c.if-is_some.true) in
    c.given-number.ensures.number ∙ (sym (first_of-here (given key) word (drop (c.loop-word.word-index + 1) (map string_bytes c.args.words.now)) some) ∙ (ap (first_of (given key)) (sym next) ∙ c.loop-word.invariant))

pub loop-word-preserved : goal.loop-word-preserved
loop-word-preserved c =
    let key = key_of c.args.key.now in
    let word = c.as_str.result.now in
    let next = next_text string_bytes c.args.words.now c.loop-word.word-index c.word-item.result word c.loop-word-test.true c.word-item.is c.as_str.ensures.value in
    let none : is_some (given key word) ≡ false = ap is_some (sym c.given-number.ensures.number) ∙ (sym c.is_some.ensures ∙ c.if-is_some.false) in
    sym (first_of-later (given key) word (drop (c.loop-word.word-index + 1) (map string_bytes c.args.words.now)) none) ∙ (ap (first_of (given key)) (sym next) ∙ c.loop-word.invariant)
