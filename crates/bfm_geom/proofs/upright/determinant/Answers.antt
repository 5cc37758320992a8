use Rattle.std.proofs.Common.{arith, to_z-of_z}
use Rattle.bfm_geom.proofs.IntegerLemmas.{sums, nat_abs-*ℤ_most}
use Rattle.bfm_geom.proofs.upright.determinant.Goals as goal

pub overflow_sub-result : goal.overflow_sub-result
overflow_sub-result c =
    let left = nat_abs-*ℤ_most c.args.a c.args.d _ _ c.requires.first.0 c.requires.second.1 in
    let right = nat_abs-*ℤ_most c.args.b c.args.c _ _ c.requires.first.1 c.requires.second.0 in
    simp (to_z-of_z, c.ranges.a, c.ranges.b, c.ranges.c, c.ranges.d) (omega (arith, sums))

pub returns-clause-value : goal.returns-clause-value
returns-clause-value c =
    let left = nat_abs-*ℤ_most c.args.a c.args.d _ _ c.requires.first.0 c.requires.second.1 in
    let right = nat_abs-*ℤ_most c.args.b c.args.c _ _ c.requires.first.1 c.requires.second.0 in
    simp (to_z-of_z, c.ranges.a, c.ranges.b, c.ranges.c, c.ranges.d) (omega (arith, sums))

pub returns-clause-size : goal.returns-clause-size
returns-clause-size c =
    let left = nat_abs-*ℤ_most c.args.a c.args.d _ _ c.requires.first.0 c.requires.second.1 in
    let right = nat_abs-*ℤ_most c.args.b c.args.c _ _ c.requires.first.1 c.requires.second.0 in
    simp (to_z-of_z, c.ranges.a, c.ranges.b, c.ranges.c, c.ranges.d) (omega (arith, sums))
