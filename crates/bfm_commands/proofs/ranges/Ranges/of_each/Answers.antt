use Rattle.std.proofs.Common.{◌≡◌, ◌+◌, ◌≤◌, ◌∙◌, ◌++◌, ◌∷◌, [], ap, sym, subst, All, length, zero-add, arith}
use Rattle.std.proofs.lemmas.List.Elements.{All-push}
use Rattle.bfm_commands.specs.History.{last_said, said_from}
use Rattle.bfm_commands.specs.Strokes.{value_at}
use Rattle.bfm_commands.proofs.RangeLemmas.{said_from-more, length-said_from}
use Rattle.bfm_commands.proofs.ranges.Ranges.of_each.Goals as goal

pub loop-i-preserved : goal.loop-i-preserved
loop-i-preserved g c =
    let said = c.args.self.now in
    let i = c.loop-i.i in
    let value : c.value.result ≡ last_said said (0 + i) 0 =
    c.value.ensures.value ∙ (ap (value_at said) c.over.ensures ∙ (c.in_ok-strokes.ensures.values i ∙ ap (λ n. last_said said n 0) (sym (zero-add i)))) in (
      c.in_ok-push.ensures.items ∙ (ap (λ xs. xs ++ c.value.result ∷ []) c.loop-i.invariant.0 ∙ (ap (λ v. said_from said 0 i ++ v ∷ []) value ∙ sym (said_from-more said 0 i))),
      subst (All (λ value. value ≤ g.row.GREATEST)) (sym c.in_ok-push.ensures.items) (All-push (λ value. value ≤ g.row.GREATEST) c.loop-i.values.items c.value.result c.loop-i.invariant.1 c.value.ensures.limit),
    )

pub returns-clause-each : goal.returns-clause-each
returns-clause-each g c = omega (arith, ap length c.loop-i.invariant.0, length-said_from c.args.self.now 0 c.loop-i.i, c.loop-i-test.false, c.loop-i.auto.i-end)
