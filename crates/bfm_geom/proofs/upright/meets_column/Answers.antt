use Rattle.std.proofs.Common.{Option, None, Some, IfNone, arith, subst, pos, ◌+ℤ◌, ◌-ℤ◌, w64, FitsSigned, to_z-of_z}
use Rattle.std.proofs.lemmas.Option.{IfSome_then}
use Rattle.bfm_geom.specs.declared.meeting.Weights.{Weights}
use Rattle.bfm_geom.specs.Upright.{IsUprightPoint}
use Rattle.bfm_geom.proofs.IntegerLemmas.{sums}
use Rattle.bfm_geom.proofs.UprightLemmas.{Weights-same, column_apart, column_found, hanging_apart, hanging_found}
use Rattle.bfm_geom.proofs.upright.meets_column.Goals as goal

IfNone_then : {P Q : Type 0} (o : Option Weights) → IfNone o P → (P → Q) → IfNone o Q
IfNone_then None h f = f h
IfNone_then (Some x) h f = tt

pub returns-then-b-lt0-clause-found : goal.returns-then-b-lt0-clause-found
returns-then-b-lt0-clause-found c =
    let fits : FitsSigned w64 c.args.b.z = omega (arith, sums) in
    let turned_fits : FitsSigned w64 (pos 0 -ℤ c.args.b.z) = omega (arith, sums) in
    IfSome_then c.meets_axis.result (simp to_z-of_z at c.meets_axis.ensures.found) (λ k h.
    hanging_found c.args.b c.args.c c.args.d c.upside_down.result c.upside_down-then-b-lt0.result (pos 0 -ℤ c.args.b.z) k c.requires.column (omega (arith, sums)) c.upside_down.ensures.value c.upside_down-then-b-lt0.ensures.value h)

pub returns-then-b-lt0-clause-none_missed : goal.returns-then-b-lt0-clause-none_missed
returns-then-b-lt0-clause-none_missed c =
    let fits : FitsSigned w64 c.args.b.z = omega (arith, sums) in
    let turned_fits : FitsSigned w64 (pos 0 -ℤ c.args.b.z) = omega (arith, sums) in
    IfNone_then c.meets_axis.result (simp to_z-of_z at c.meets_axis.ensures.none_missed)
    (hanging_apart c.args.b c.args.c c.args.d c.upside_down.result c.upside_down-then-b-lt0.result (pos 0 -ℤ c.args.b.z) c.requires.column (omega (arith, sums)) (omega (arith, sums)) c.upside_down.ensures.value c.upside_down-then-b-lt0.ensures.value)

pub returns-in_err-shown-clause-none_missed : goal.returns-in_err-shown-clause-none_missed
returns-in_err-shown-clause-none_missed c =
    let fits : FitsSigned w64 c.args.b.z = omega (arith, sums) in
    let top_fits : FitsSigned w64 (c.args.b.z +ℤ pos 1) = omega (arith, sums) in
    rw c.from_residual.ensures
    (column_apart c.args.b c.args.c c.args.d (c.args.b.z +ℤ pos 1) c.requires.column (omega (arith, sums)) (omega (arith, sums)) (simp to_z-of_z at c.in_err-shown.ensures.none_missed))

pub returns-clause-found : goal.returns-clause-found
returns-clause-found c =
    let fits : FitsSigned w64 c.args.b.z = omega (arith, sums) in
    let top_fits : FitsSigned w64 (c.args.b.z +ℤ pos 1) = omega (arith, sums) in
    let shown : Weights = record { u = c.in_ok-shown.shown.u; v = pos 0; w = c.in_ok-shown.shown.v; p = c.in_ok-shown.shown.p; q = c.in_ok-shown.shown.q } in
    subst (IsUprightPoint c.args.b (pos 1) c.args.c c.args.d)
    (Weights-same shown _ (omega (arith, sums)) (omega (arith, sums)) (omega (arith, sums)) (omega (arith, sums)) (omega (arith, sums)))
    (column_found c.args.b c.args.c c.args.d (c.args.b.z +ℤ pos 1) c.in_ok-shown.shown c.requires.column (omega (arith, sums)) (simp to_z-of_z at c.in_ok-shown.ensures.found))
