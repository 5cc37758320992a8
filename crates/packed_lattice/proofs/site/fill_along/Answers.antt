use Rattle.std.proofs.Common.{arith, w64}
use Rattle.std.specs.Prelude.{FitsSigned}
use Rattle.std.proofs.lemmas.Int.{to_z-of_z}
use Rattle.packed_lattice.proofs.CubeLemmas.{pair_at-is}
use Rattle.packed_lattice.proofs.site.fill_along.Goals as goal

pub returns-clause-value : goal.returns-clause-value
returns-clause-value c =
    let fits : FitsSigned w64 c.args.c = c.ranges.c in
    pair_at-is c.args.side c.args.c c.fold-near.result c.next-far.result (omega arith) (simp to_z-of_z at c.fold-near.ensures.value) c.next-far.ensures.value
