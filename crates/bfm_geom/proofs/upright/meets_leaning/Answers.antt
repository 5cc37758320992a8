use Rattle.std.proofs.Common.{arith, subst, sym, ◌∙◌, pos, ◌*ℤ◌, w64, FitsSigned, to_z-of_z}
use Rattle.bfm_geom.specs.declared.meeting.Weights.{Weights}
use Rattle.bfm_geom.specs.declared.stretch.SegmentPoint.{SegmentPoint}
use Rattle.bfm_geom.specs.Stretch.{value_at}
use Rattle.bfm_geom.specs.Upright.{IsUprightPoint}
use Rattle.bfm_geom.proofs.IntegerLemmas.{sums}
use Rattle.bfm_geom.proofs.StretchLemmas.{small_two, small_three}
use Rattle.bfm_geom.proofs.UprightLemmas.{AreCornerBounds, Weights-same, leaning_apart_aside, leaning_apart_corners, leaning_found_corners}
use Rattle.bfm_geom.proofs.upright.meets_leaning.Goals as goal

pub returns-in_err-line-clause-none_missed : goal.returns-in_err-line-clause-none_missed
returns-in_err-line-clause-none_missed c =
    rw c.from_residual.ensures
    (leaning_apart_aside c.args.b c.args.c c.args.d c.aside-beside.result c.opposite.result c.requires.corner c.aside-beside.ensures.value c.opposite.ensures.value c.in_err-line.ensures.ruled_out)

pub narrowed-requires-clause-bounds : goal.narrowed-requires-clause-bounds
narrowed-requires-clause-bounds c = small_two c.aside-beside.result c.opposite.result c.aside-beside.ensures.size c.opposite.ensures.size

pub narrowed-requires-2-clause-bounds : goal.narrowed-requires-2-clause-bounds
narrowed-requires-2-clause-bounds c =
    small_three c.origin_weight-at_origin.result c.lower_weight-lower.result c.upper_weight-upper.result c.origin_weight-at_origin.ensures.size c.lower_weight-lower.ensures.size
    record { first = omega (arith, sums, c.upper_weight-upper.ensures.size); second = omega (arith, sums, c.upper_weight-upper.ensures.size) }

pub returns-in_err-point-clause-none_missed : goal.returns-in_err-point-clause-none_missed
returns-in_err-point-clause-none_missed c =
    let corners : AreCornerBounds c.args.b c.args.c c.args.d c.origin_weight-at_origin.result c.lower_weight-lower.result c.upper_weight-upper.result =
    record { first = c.origin_weight-at_origin.ensures.value; second = c.lower_weight-lower.ensures.value; third = c.upper_weight-upper.ensures.value } in
    rw c.from_residual-in_err-point.ensures
    (leaning_apart_corners c.args.b c.args.c c.args.d c.aside-beside.result c.opposite.result c.origin_weight-at_origin.result c.lower_weight-lower.result c.upper_weight-upper.result c.in_ok-line.line
    c.requires.corner c.aside-beside.ensures.value c.opposite.ensures.value corners c.in_ok-line.ensures.found c.in_err-point.ensures.ruled_out)

pub returns-clause-found : goal.returns-clause-found
returns-clause-found c =
    let corners : AreCornerBounds c.args.b c.args.c c.args.d c.origin_weight-at_origin.result c.lower_weight-lower.result c.upper_weight-upper.result =
    record { first = c.origin_weight-at_origin.ensures.value; second = c.lower_weight-lower.ensures.value; third = c.upper_weight-upper.ensures.value } in
    let point : SegmentPoint = c.in_ok-point.field-0.from in
    let shown : Weights = record {
      u = value_at c.origin_weight-at_origin.result point;
      v = value_at c.lower_weight-lower.result point;
      w = value_at c.upper_weight-upper.result point;
      p = c.args.b.x *ℤ point.p;
      q = c.args.b.x *ℤ point.q;
    } in
    let fits : FitsSigned w64 c.args.b.x = omega (arith, sums) in
    subst (IsUprightPoint c.args.b (pos 1) c.args.c c.args.d)
    (Weights-same shown _ (sym c.value.ensures ∙ omega (arith, sums)) (sym c.value-2.ensures ∙ omega (arith, sums)) (sym c.value-3.ensures ∙ omega (arith, sums))
    (sym (simp to_z-of_z at c.scaled-ends.ensures.p) ∙ omega (arith, sums)) (sym (simp to_z-of_z at c.scaled-ends.ensures.q) ∙ omega (arith, sums)))
    (leaning_found_corners c.args.b c.args.c c.args.d c.aside-beside.result c.opposite.result c.origin_weight-at_origin.result c.lower_weight-lower.result c.upper_weight-upper.result c.in_ok-line.line c.in_ok-point.field-0
    c.requires.corner c.aside-beside.ensures.value c.opposite.ensures.value corners c.in_ok-line.ensures.found c.in_ok-point.ensures.found)
