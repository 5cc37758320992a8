use Rattle.std.proofs.Common.{◌≡◌, ◌*◌, ◌∙◌, ap, arith}
use Rattle.bfm_geom.specs.Difference.{side_of}
use Rattle.packed_lattice.specs.Packing.{words_along}
use Rattle.packed_lattice.proofs.PackingLemmas.{IsEmpty-zeros}
use Rattle.packed_lattice.proofs.lattice.Lattice.new.Goals as goal

pub returns-clause-free : goal.returns-clause-free
returns-clause-free c =
    let row : c.div_ceil-row.result ≡ words_along (side_of c.args.shape 0) = omega (arith, c.div_ceil-row.ensures, c.side.ensures) in
    let count : c.side-2.result * c.side-3.result * c.div_ceil-row.result ≡ side_of c.args.shape 2 * side_of c.args.shape 1 * c.div_ceil-row.result =
    ap (λ n. n * c.side-3.result * c.div_ceil-row.result) c.side-2.ensures ∙ ap (λ n. side_of c.args.shape 2 * n * c.div_ceil-row.result) c.side-3.ensures in
    IsEmpty-zeros c.args.shape c.div_ceil-row.result _ c.in_ok-words.words.items row count (c.in_ok-words.ensures.items_if_clones_equal (λ y e. e))
