use Rattle.std.proofs.Common.{◌≡◌, ◌∙◌, ◌||◌, true, false, sym, ap, map, string_bytes}
use Rattle.std.specs.List.{list_any}
use Rattle.bfm_cli.specs.Keys.{key_of, switch_of}
use Rattle.bfm_cli.specs.Words.{gives_first, sets_first}
use Rattle.bfm_cli.proofs.WordLemmas.{list_any-map}
use Rattle.bfm_cli.proofs.words.is_right.Goals as goal

pub returns-then-gives_one : goal.returns-then-gives_one
returns-then-gives_one c =
    let before = map string_bytes c.args.before.now in
    let word = c.args.word.now in
    let some : list_any (gives_first before word) (map key_of c.args.keys.now) ≡ true =
    list_any-map key_of (gives_first before word) c.args.keys.now ∙ (sym c.gives_one.ensures ∙ c.if-gives_one.true) in
    c.if-gives_one.true ∙ sym (ap (λ b. b || list_any (sets_first before word) (map switch_of c.args.switches.now)) some)

pub returns-else-gives_one : goal.returns-else-gives_one
returns-else-gives_one c =
    let before = map string_bytes c.args.before.now in
    let word = c.args.word.now in
    let none : list_any (gives_first before word) (map key_of c.args.keys.now) ≡ false =
    list_any-map key_of (gives_first before word) c.args.keys.now ∙ (sym c.gives_one.ensures ∙ c.if-gives_one.false) in
    c.sets_one.ensures ∙ (sym (list_any-map switch_of (sets_first before word) c.args.switches.now)
    ∙ sym (ap (λ b. b || list_any (sets_first before word) (map switch_of c.args.switches.now)) none))
