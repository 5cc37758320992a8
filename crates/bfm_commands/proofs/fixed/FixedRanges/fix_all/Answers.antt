use Rattle.std.proofs.Common.{◌∙◌, true, ap, arith}
use Rattle.std.proofs.Math.ListN.{set}
use Rattle.bfm_world.specs.Draft.{Draft}
use Rattle.bfm_commands.specs.History.{is_in_some}
use Rattle.bfm_world.specs.Draft.{with_fixed_list}
use Rattle.bfm_commands.proofs.FixedLemmas.{told-fixed, told-passed, laid-some, laid-none}
use Rattle.bfm_commands.proofs.fixed.FixedRanges.fix_all.Goals as goal
use Rattle.bfm_commands.proofs.fixed.FixedRanges.fix_all.Goals.{then-over-gt0, else-over-gt0}

pub loop-i-preserved : goal.loop-i-preserved
loop-i-preserved c =
    let ranges = c.args.self.now in
    let builder : Draft = c.args.builder.now in
    let i = c.loop-i.i in
    let stroke = c.over.ensures ∙ c.in_ok-strokes.ensures.fixed i in
    elim c.if-over-gt0.branch [
      | then-over-gt0 w ↦
          w.builder-is
          ∙ (w.fix.ensures.fixed
          ∙ (ap (λ (d : Draft). with_fixed_list d (set d.world.fixed i true)) c.loop-i.invariant
          ∙ ap (with_fixed_list builder) (told-fixed ranges i builder.count (omega (arith, c.loop-i-test.true, c.count-count.ensures.count)) (laid-some (is_in_some ranges i) c.over.result stroke w.if-over-gt0.true))))
      | else-over-gt0 w ↦
          w.builder-is
          ∙ (c.loop-i.invariant
          ∙ ap (with_fixed_list builder) (told-passed ranges i builder.count (omega (arith, c.loop-i-test.true, c.count-count.ensures.count)) (laid-none (is_in_some ranges i) c.over.result stroke w.if-over-gt0.false)))
    ]
