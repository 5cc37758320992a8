use Rattle.std.proofs.Common.{◌≡◌, true, cond, Some, None, drop, sym, ap, ◌∙◌}
use Rattle.std.proofs.lemmas.List.{take_rest}
use Rattle.bfm_lexer.specs.Cursor.{begins_with, mark_at}
use Rattle.bfm_lexer.proofs.FieldLemmas.{behind_mark-first}
use Rattle.bfm_lexer.proofs.fields.behind_mark.Goals as goal

pub returns-then-begins_with : goal.returns-then-begins_with
returns-then-begins_with c =
    let rest = c.after_blanks-rest.result.now in
    let here : begins_with c.args.mark rest ≡ true = cc in
    rw (take_rest rest 1)
    (sym (behind_mark-first c.args.mark c.args.text.now c.requires ∙ ap (mark_at c.args.mark) (sym c.after_blanks-rest.ensures) ∙ ap (λ b. cond b (Some (drop 1 rest)) None) here))
