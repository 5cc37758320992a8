use Rattle.std.proofs.Common.{◌≡◌, arith, negsuc, pos, subst, sym, ap}
use Rattle.bfm_base.specs.declared.place.Dir.{Dir}
use Rattle.bfm_base.specs.Direction.{step_of}
use Rattle.bfm_geom.specs.Difference.{plus, side_of}
use Rattle.packed_lattice.specs.declared.site.Site.{Site}
use Rattle.packed_lattice.specs.Sites.{site_of}
use Rattle.packed_engine.specs.Spots.{site_in}
use Rattle.packed_engine.proofs.FoldedLemmas.{folded-next, folded-previous, site_of-x, site_of-y, site_of-z}
use Rattle.packed_engine.proofs.spots.stepped.Goals as goal

pub returns-in-XUp : goal.returns-in-XUp
returns-in-XUp c p e =
    let shape = c.args.shape.now in
    let here = ap (λ (s : Site). s.x) e in
    let there = folded-next (side_of shape 0) p.x c.args.spot.x c.next.result (omega (arith, c.requires.shape.sides.x)) here c.next.ensures in
    subst (λ (dir : Dir). site_in (record c.args.spot { x = c.next.result }) ≡ site_of shape (plus p (step_of dir))) (sym c.in-XUp.is) (site_of-x shape (site_in c.args.spot) p e c.next.result (pos 1) there)

pub returns-in-XDown : goal.returns-in-XDown
returns-in-XDown c p e =
    let shape = c.args.shape.now in
    let here = ap (λ (s : Site). s.x) e in
    let there = folded-previous (side_of shape 0) p.x c.args.spot.x c.previous.result (omega (arith, c.requires.shape.sides.x)) here c.previous.ensures in
    subst (λ (dir : Dir). site_in (record c.args.spot { x = c.previous.result }) ≡ site_of shape (plus p (step_of dir))) (sym c.in-XDown.is) (site_of-x shape (site_in c.args.spot) p e c.previous.result (negsuc 0) there)

pub returns-in-YUp : goal.returns-in-YUp
returns-in-YUp c p e =
    let shape = c.args.shape.now in
    let here = ap (λ (s : Site). s.y) e in
    let there = folded-next (side_of shape 1) p.y c.args.spot.y c.next-in-YUp.result (omega (arith, c.requires.shape.sides.y)) here c.next-in-YUp.ensures in
    subst (λ (dir : Dir). site_in (record c.args.spot { y = c.next-in-YUp.result }) ≡ site_of shape (plus p (step_of dir))) (sym c.in-YUp.is) (site_of-y shape (site_in c.args.spot) p e c.next-in-YUp.result (pos 1) there)

pub returns-in-YDown : goal.returns-in-YDown
returns-in-YDown c p e =
    let shape = c.args.shape.now in
    let here = ap (λ (s : Site). s.y) e in
    let there = folded-previous (side_of shape 1) p.y c.args.spot.y c.previous-in-YDown.result (omega (arith, c.requires.shape.sides.y)) here c.previous-in-YDown.ensures in
    subst (λ (dir : Dir). site_in (record c.args.spot { y = c.previous-in-YDown.result }) ≡ site_of shape (plus p (step_of dir))) (sym c.in-YDown.is) (site_of-y shape (site_in c.args.spot) p e c.previous-in-YDown.result (negsuc 0) there)

pub returns-in-ZUp : goal.returns-in-ZUp
returns-in-ZUp c p e =
    let shape = c.args.shape.now in
    let here = ap (λ (s : Site). s.z) e in
    let there = folded-next (side_of shape 2) p.z c.args.spot.z c.next-in-ZUp.result (omega (arith, c.requires.shape.sides.z)) here c.next-in-ZUp.ensures in
    subst (λ (dir : Dir). site_in (record c.args.spot { z = c.next-in-ZUp.result }) ≡ site_of shape (plus p (step_of dir))) (sym c.in-ZUp.is) (site_of-z shape (site_in c.args.spot) p e c.next-in-ZUp.result (pos 1) there)

pub returns-in-ZDown : goal.returns-in-ZDown
returns-in-ZDown c p e =
    let shape = c.args.shape.now in
    let here = ap (λ (s : Site). s.z) e in
    let there = folded-previous (side_of shape 2) p.z c.args.spot.z c.previous-in-ZDown.result (omega (arith, c.requires.shape.sides.z)) here c.previous-in-ZDown.ensures in
    subst (λ (dir : Dir). site_in (record c.args.spot { z = c.previous-in-ZDown.result }) ≡ site_of shape (plus p (step_of dir))) (sym c.in-ZDown.is) (site_of-z shape (site_in c.args.spot) p e c.previous-in-ZDown.result (negsuc 0) there)
