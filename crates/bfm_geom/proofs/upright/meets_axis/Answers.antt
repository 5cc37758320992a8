use Rattle.std.proofs.Common.{refl, arith, subst, sym, ◌∙◌, pos, ◌*ℤ◌, to_z-of_z}
use Rattle.bfm_geom.specs.declared.meeting.Weights.{Weights}
use Rattle.bfm_geom.specs.declared.stretch.SegmentPoint.{SegmentPoint}
use Rattle.bfm_geom.specs.Stretch.{value_at}
use Rattle.bfm_geom.specs.Upright.{IsAxisPoint}
use Rattle.bfm_geom.proofs.IntegerLemmas.{sums}
use Rattle.bfm_geom.proofs.UprightLemmas.{AreAxisBounds, Weights-same, axis_apart_along, axis_apart_beside, axis_found_along}
use Rattle.bfm_geom.proofs.upright.meets_axis.Goals as goal

pub returns-in_err-axis-clause-none_missed : goal.returns-in_err-axis-clause-none_missed
returns-in_err-axis-clause-none_missed c =
    let bounds : AreAxisBounds c.args.c c.args.d c.along_x-x.result c.opposite.result c.along_y-y.result c.opposite-2.result =
    record { x_is = c.along_x-x.ensures.value; across_x_is = c.opposite.ensures.value; y_is = c.along_y-y.ensures.value; across_y_is = c.opposite-2.ensures.value } in
    rw c.from_residual.ensures
    (axis_apart_beside c.args.top c.args.c c.args.d c.along_x-x.result c.opposite.result c.along_y-y.result c.opposite-2.result c.requires.above bounds c.in_err-axis.ensures.ruled_out)

pub returns-in_err-point-clause-none_missed : goal.returns-in_err-point-clause-none_missed
returns-in_err-point-clause-none_missed c =
    let bounds : AreAxisBounds c.args.c c.args.d c.along_x-x.result c.opposite.result c.along_y-y.result c.opposite-2.result =
    record { x_is = c.along_x-x.ensures.value; across_x_is = c.opposite.ensures.value; y_is = c.along_y-y.ensures.value; across_y_is = c.opposite-2.ensures.value } in
    rw c.from_residual-in_err-point.ensures
    (axis_apart_along c.args.top c.args.c c.args.d c.along_x-x.result c.opposite.result c.along_y-y.result c.opposite-2.result c.depth-below_top.result c.height-above_origin.result c.in_ok-axis.axis
    c.requires.above bounds (simp (to_z-of_z, c.ranges.top) at c.depth-below_top.ensures.value) c.height-above_origin.ensures.value c.in_ok-axis.ensures.found c.in_err-point.ensures.ruled_out)

pub returns-clause-found : goal.returns-clause-found
returns-clause-found c =
    let bounds : AreAxisBounds c.args.c c.args.d c.along_x-x.result c.opposite.result c.along_y-y.result c.opposite-2.result =
    record { x_is = c.along_x-x.ensures.value; across_x_is = c.opposite.ensures.value; y_is = c.along_y-y.ensures.value; across_y_is = c.opposite-2.ensures.value } in
    let point : SegmentPoint = c.in_ok-point.field-0.from in
    let shown : Weights = record {
      u = value_at c.depth-below_top.result point;
      v = value_at c.height-above_origin.result point;
      w = pos 0;
      p = c.args.top *ℤ point.p;
      q = c.args.top *ℤ point.q;
    } in
    subst (IsAxisPoint c.args.top c.args.c c.args.d)
    (Weights-same shown _ (sym c.value.ensures ∙ omega (arith, sums)) (sym c.value-2.ensures ∙ omega (arith, sums)) refl
    (sym (simp (to_z-of_z, c.ranges.top) at c.scaled-ends.ensures.p) ∙ omega (arith, sums)) (sym (simp (to_z-of_z, c.ranges.top) at c.scaled-ends.ensures.q) ∙ omega (arith, sums)))
    (axis_found_along c.args.top c.args.c c.args.d c.along_x-x.result c.opposite.result c.along_y-y.result c.opposite-2.result c.depth-below_top.result c.height-above_origin.result c.in_ok-axis.axis c.in_ok-point.field-0
    c.requires.above bounds (simp (to_z-of_z, c.ranges.top) at c.depth-below_top.ensures.value) c.height-above_origin.ensures.value c.in_ok-axis.ensures.found c.in_ok-point.ensures.found)
