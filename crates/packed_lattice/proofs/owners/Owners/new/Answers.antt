use Rattle.std.proofs.Common.{◌≡◌, ◌*◌, ◌∙◌, ap, arith}
use Rattle.bfm_geom.specs.Difference.{side_of}
use Rattle.packed_lattice.specs.Sites.{site_count}
use Rattle.packed_lattice.proofs.OwnerLemmas.{IsUnowned-zeros}
use Rattle.packed_lattice.proofs.owners.Owners.new.Goals as goal

pub returns-clause-none : goal.returns-clause-none
returns-clause-none c =
    let shape = c.args.shape in
    let count : c.side.result * c.side-2.result * c.side-3.result ≡ site_count shape =
    ap (λ n. n * c.side-2.result * c.side-3.result) c.side.ensures ∙ ap (λ n. side_of shape 2 * n * c.side-3.result) c.side-2.ensures ∙ ap (λ n. side_of shape 2 * side_of shape 1 * n) c.side-3.ensures in
    IsUnowned-zeros shape c.in_ok-kept.kept.items _ (omega (arith, count, c.in_ok-kept.ensures.len, c.in_ok-kept.kept.ok.0)) (c.in_ok-kept.ensures.items_if_clones_equal (λ y e. e)) count
