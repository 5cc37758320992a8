use Rattle.std.proofs.Common.{◌≡◌, ℕ, ◌+◌, ◌≤◌, Bool, true, false, cond, ap, ◌∙◌, arith}
use Rattle.bfm_commands.specs.Causes.{some_range_beyond}
use Rattle.bfm_commands.specs.Strokes.{stroke_over}
use Rattle.bfm_commands.proofs.RangeLemmas.{value_at-laid, range-present, nobody}
use Rattle.bfm_commands.proofs.ranges.Ranges.strokes.Goals as goal

pub lay-requires-clause-within : goal.lay-requires-clause-within
lay-requires-clause-within g c =
    let present : some_range_beyond c.args.count c.deref-range-items.result.now ≡ false =
    ap (some_range_beyond c.args.count) (c.deref-range-items.ensures.value ∙ c.self.view_is) ∙ c.requires.present in
    omega (arith, range-present c.deref-range-items.result.now c.args.count c.loop-turn.turn nobody present (omega arith), c.loop-turn.invariant.0)

at_most : (b : Bool) (s o n new : ℕ) → new ≡ cond b s o → s ≤ n → o ≤ n → new ≤ n
at_most true s o n new e l m = omega (arith, e, l)
at_most false s o n new e l m = omega (arith, e, m)

pub loop-turn-preserved : goal.loop-turn-preserved
loop-turn-preserved g c =
    let k = c.loop-turn.turn in
    let invariant = c.loop-turn.invariant in (
      c.lay.ensures.numbers ∙ invariant.0,
      c.lay.ensures.blocks ∙ invariant.1,
      λ i. at_most _ (k + 1) (stroke_over c.loop-turn.strokes i) (k + 1) (stroke_over c.lay.new.self i) (c.lay.ensures.over i) (omega arith) (omega (arith, invariant.2 i)),
      λ i. value_at-laid c.deref-range-items.result.now k i (stroke_over c.loop-turn.strokes i) (stroke_over c.lay.new.self i) (omega arith) (c.lay.ensures.over i) (invariant.3 i),
    )
