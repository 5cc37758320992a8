use Rattle.std.proofs.Common.{◌≡◌, ◌∙◌, ◌+◌, ◌<◌, ◌++◌, [], ◌∷◌, Some, true, false, length, take, drop, get_or, sym, ap, map, string_bytes, arith, length-take}
use Rattle.std.proofs.lemmas.List.{take_more, take-map, get_or-map, length-map}
use Rattle.bfm_cli.specs.Keys.{key_of, switch_of}
use Rattle.bfm_cli.specs.Words.{first_wrong, is_right}
use Rattle.bfm_cli.proofs.WordLemmas.{next_text, first_wrong-here, first_wrong-later}
use Rattle.bfm_cli.proofs.words.first_wrong.Goals as goal

pub returns-then-not-is_right-clause-place : goal.returns-then-not-is_right-clause-place
returns-then-not-is_right-clause-place c =
    let keys = map key_of c.args.keys.now in
    let switches = map switch_of c.args.switches.now in
    let words = map string_bytes c.args.words.now in
    let i = c.loop-before.before in
    let word = c.as_str.result.now in
    let next = next_text string_bytes c.args.words.now i c.index-words-before.result word c.loop-before-test.true c.index-words-before.is c.as_str.ensures.value in
    let wrong : is_right keys switches (take i words) word ≡ false =
    ap (λ before. is_right keys switches before word) (take-map string_bytes i c.args.words.now) ∙ (sym c.is_right.ensures ∙ c.if-not-is_right.true) in
    let count : length (take i words) ≡ i = omega (arith, length-take i words, length-map c.args.words.now string_bytes) in
    ap Some (sym count) ∙ (sym (first_wrong-here keys switches (take i words) word (drop (i + 1) words) wrong) ∙ (ap (first_wrong keys switches (take i words)) (sym next) ∙ c.loop-before.invariant))

pub loop-before-preserved : goal.loop-before-preserved
loop-before-preserved c =
    let keys = map key_of c.args.keys.now in
    let switches = map switch_of c.args.switches.now in
    let words = map string_bytes c.args.words.now in
    let i = c.loop-before.before in
    let word = c.as_str.result.now in
    let next = next_text string_bytes c.args.words.now i c.index-words-before.result word c.loop-before-test.true c.index-words-before.is c.as_str.ensures.value in
    let right : is_right keys switches (take i words) word ≡ true =
    ap (λ before. is_right keys switches before word) (take-map string_bytes i c.args.words.now) ∙ (sym c.is_right.ensures ∙ c.if-not-is_right.false) in
    let below : i < length words = omega (arith, length-map c.args.words.now string_bytes) in
    let last : get_or words i word ≡ word =
    get_or-map string_bytes c.args.words.now i c.index-words-before.result word c.loop-before-test.true ∙ (ap string_bytes (sym c.index-words-before.is) ∙ sym c.as_str.ensures.value) in
    let more : take (i + 1) words ≡ take i words ++ word ∷ [] = take_more words i word below ∙ ap (λ w. take i words ++ w ∷ []) last in
    ap (λ before. first_wrong keys switches before (drop (i + 1) words)) more
    ∙ (sym (first_wrong-later keys switches (take i words) word (drop (i + 1) words) right) ∙ (ap (first_wrong keys switches (take i words)) (sym next) ∙ c.loop-before.invariant))
