use Rattle.std.proofs.Common.{◌≡◌, ◌∙◌, true, false, is_some, ◌+◌, drop, sym, ap, map, string_bytes}
use Rattle.bfm_cli.specs.Keys.{switch_of}
use Rattle.bfm_cli.specs.Words.{first_of, switched}
use Rattle.bfm_cli.proofs.WordLemmas.{next_text, first_of-here, first_of-later}
use Rattle.bfm_cli.proofs.words.switched_by.Goals as goal

pub returns-then-is_some : goal.returns-then-is_some
returns-then-is_some c =
    let switch = switch_of c.args.switch.now in
    let word = c.as_str.result.now in
    let next = next_text string_bytes c.args.words.now c.loop-word.word-index c.word-item.result word c.loop-word-test.true c.word-item.is c.as_str.ensures.value in
    let some : is_some (switched switch word) ≡ true = ap is_some (sym c.switched-state.ensures) ∙ (sym c.is_some.ensures ∙ c.if-is_some.true) in
    c.switched-state.ensures ∙ (sym (first_of-here (switched switch) word (drop (c.loop-word.word-index + 1) (map string_bytes c.args.words.now)) some) ∙ (ap (first_of (switched switch)) (sym next) ∙ c.loop-word.invariant))

pub loop-word-preserved : goal.loop-word-preserved
loop-word-preserved c =
    let switch = switch_of c.args.switch.now in
    let word = c.as_str.result.now in
    let next = next_text string_bytes c.args.words.now c.loop-word.word-index c.word-item.result word c.loop-word-test.true c.word-item.is c.as_str.ensures.value in
    let none : is_some (switched switch word) ≡ false = ap is_some (sym c.switched-state.ensures) ∙ (sym c.is_some.ensures ∙ c.if-is_some.false) in
    sym (first_of-later (switched switch) word (drop (c.loop-word.word-index + 1) (map string_bytes c.args.words.now)) none) ∙ (ap (first_of (switched switch)) (sym next) ∙ c.loop-word.invariant)
