use Rattle.std.proofs.Common.{◌∙◌, arith}
use Rattle.bfm_commands.specs.Strokes.{stroke_over}
use Rattle.bfm_commands.proofs.FixedLemmas.{stroke-laid}
use Rattle.bfm_commands.proofs.fixed.FixedRanges.strokes.Goals as goal

pub loop-range-preserved : goal.loop-range-preserved
loop-range-preserved c =
    let invariant = c.loop-range.invariant in (
      c.lay.ensures.numbers ∙ invariant.0,
      c.lay.ensures.blocks ∙ invariant.1,
      λ i. stroke-laid c.deref-range-items.result.now c.loop-range.range-index i (stroke_over c.loop-range.strokes i) (stroke_over c.lay.new.self i) (omega arith) (c.lay.ensures.over i) (invariant.2 i),
    )
