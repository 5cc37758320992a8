use Rattle.std.proofs.Common.{arith, to_z-of_z}
use Rattle.bfm_geom.proofs.IntegerLemmas.{sums}
use Rattle.bfm_geom.proofs.StretchLemmas.{products-sizes}
use Rattle.bfm_geom.proofs.stretch.sum_of_products.Goals as goal

pub overflow_add-result : goal.overflow_add-result
overflow_add-result c =
    let size = products-sizes c.args.a c.args.b c.args.c c.args.d c.requires.left c.requires.right in
    simp (to_z-of_z, c.ranges.a, c.ranges.b, c.ranges.c, c.ranges.d) (omega (arith, sums))

pub returns : goal.returns
returns c =
    let size = products-sizes c.args.a c.args.b c.args.c c.args.d c.requires.left c.requires.right in
    simp (to_z-of_z, c.ranges.a, c.ranges.b, c.ranges.c, c.ranges.d) (omega (arith, sums))
