use Rattle.std.proofs.Common.{◌≡◌, ◌∙◌, true, false, ap, arith}
use Rattle.std.proofs.Math.ListN.{set}
use Rattle.std.proofs.lemmas.Bool.Decides.{nat_tests}
use Rattle.bfm_world.specs.Draft.{Draft, with_fixed_list}
use Rattle.brush_builder.specs.Brush.{is_foot}
use Rattle.brush_builder.proofs.FixLemmas.{told-fixed, told-passed}
use Rattle.brush_builder.proofs.feet.fix_feet.Goals as goal
use Rattle.brush_builder.proofs.feet.fix_feet.Goals.{then-monomer-length-eq0, else-monomer-length-eq0}

pub loop-monomer-preserved : goal.loop-monomer-preserved
loop-monomer-preserved c =
    let draft : Draft = c.args.builder.now in
    let size = c.args.length in
    let k = c.loop-monomer.monomer in
    elim c.if-monomer-length-eq0.branch [
      | then-monomer-length-eq0 w ↦
          let foot : is_foot size k ≡ true = grind (arith, nat_tests, w.if-monomer-length-eq0.true) in
          w.builder-is
          ∙ (w.fix.ensures.fixed
          ∙ (ap (λ (d : Draft). with_fixed_list d (set d.world.fixed k true)) c.loop-monomer.invariant
          ∙ ap (with_fixed_list draft) (told-fixed size k draft.count (omega (arith, c.loop-monomer-test.true, c.count-monomer-end.ensures.count)) foot)))
      | else-monomer-length-eq0 w ↦
          let foot : is_foot size k ≡ false = grind (arith, nat_tests, w.if-monomer-length-eq0.false) in
          w.builder-is
          ∙ (c.loop-monomer.invariant
          ∙ ap (with_fixed_list draft) (told-passed size k draft.count (omega (arith, c.loop-monomer-test.true, c.count-monomer-end.ensures.count)) foot))
    ]
