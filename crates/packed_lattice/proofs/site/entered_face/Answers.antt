use Rattle.std.proofs.Common.{◌∙◌, ap, sym, pos, negsuc}
use Rattle.bfm_base.specs.declared.place.Dir.{Dir}
use Rattle.bfm_geom.specs.Difference.{side_of}
use Rattle.packed_lattice.specs.declared.site.Cube.{Cube}
use Rattle.packed_lattice.specs.Sites.{newly_covers}
use Rattle.packed_lattice.specs.Cube.{next_along, previous_along}
use Rattle.packed_lattice.proofs.CubeLemmas.{enters-down, enters-up, enters_x, enters_y, enters_z}
use Rattle.packed_lattice.proofs.site.entered_face.Goals as goal

pub returns-in-XUp-clause-sites : goal.returns-in-XUp-clause-sites
returns-in-XUp-clause-sites c = λ p e s i.
    let shape = c.args.shape.now in
    let at = c.next.ensures.value ∙ ap (λ m. next_along m c.args.cube.xs.far) c.side.ensures ∙ ap (λ (q : Cube). next_along (side_of shape 0) q.xs.far) e in
    enters_x shape p c.args.cube c.flat.result (pos 1) c.next.result s e c.flat.ensures (enters-up (side_of shape 0) p.x c.next.result s.x c.requires.shape.sides.x at)
    ∙ ap (λ (dir : Dir). newly_covers shape p dir s) (sym c.in-XUp.is)

pub returns-in-XDown-clause-sites : goal.returns-in-XDown-clause-sites
returns-in-XDown-clause-sites c = λ p e s i.
    let shape = c.args.shape.now in
    let at = c.previous.ensures.value ∙ ap (λ m. previous_along m c.args.cube.xs.near) c.side-in-XDown.ensures ∙ ap (λ (q : Cube). previous_along (side_of shape 0) q.xs.near) e in
    enters_x shape p c.args.cube c.flat-in-XDown.result (negsuc 0) c.previous.result s e c.flat-in-XDown.ensures (enters-down (side_of shape 0) p.x c.previous.result s.x c.requires.shape.sides.x at)
    ∙ ap (λ (dir : Dir). newly_covers shape p dir s) (sym c.in-XDown.is)

pub returns-in-YUp-clause-sites : goal.returns-in-YUp-clause-sites
returns-in-YUp-clause-sites c = λ p e s i.
    let shape = c.args.shape.now in
    let at = c.next-in-YUp.ensures.value ∙ ap (λ m. next_along m c.args.cube.ys.far) c.side-in-YUp.ensures ∙ ap (λ (q : Cube). next_along (side_of shape 1) q.ys.far) e in
    enters_y shape p c.args.cube c.flat-in-YUp.result (pos 1) c.next-in-YUp.result s e c.flat-in-YUp.ensures (enters-up (side_of shape 1) p.y c.next-in-YUp.result s.y c.requires.shape.sides.y at)
    ∙ ap (λ (dir : Dir). newly_covers shape p dir s) (sym c.in-YUp.is)

pub returns-in-YDown-clause-sites : goal.returns-in-YDown-clause-sites
returns-in-YDown-clause-sites c = λ p e s i.
    let shape = c.args.shape.now in
    let at = c.previous-in-YDown.ensures.value ∙ ap (λ m. previous_along m c.args.cube.ys.near) c.side-in-YDown.ensures ∙ ap (λ (q : Cube). previous_along (side_of shape 1) q.ys.near) e in
    enters_y shape p c.args.cube c.flat-in-YDown.result (negsuc 0) c.previous-in-YDown.result s e c.flat-in-YDown.ensures (enters-down (side_of shape 1) p.y c.previous-in-YDown.result s.y c.requires.shape.sides.y at)
    ∙ ap (λ (dir : Dir). newly_covers shape p dir s) (sym c.in-YDown.is)

pub returns-in-ZUp-clause-sites : goal.returns-in-ZUp-clause-sites
returns-in-ZUp-clause-sites c = λ p e s i.
    let shape = c.args.shape.now in
    let at = c.next-in-ZUp.ensures.value ∙ ap (λ m. next_along m c.args.cube.zs.far) c.side-in-ZUp.ensures ∙ ap (λ (q : Cube). next_along (side_of shape 2) q.zs.far) e in
    enters_z shape p c.args.cube c.flat-in-ZUp.result (pos 1) c.next-in-ZUp.result s e c.flat-in-ZUp.ensures (enters-up (side_of shape 2) p.z c.next-in-ZUp.result s.z c.requires.shape.sides.z at)
    ∙ ap (λ (dir : Dir). newly_covers shape p dir s) (sym c.in-ZUp.is)

pub returns-in-ZDown-clause-sites : goal.returns-in-ZDown-clause-sites
returns-in-ZDown-clause-sites c = λ p e s i.
    let shape = c.args.shape.now in
    let at = c.previous-in-ZDown.ensures.value ∙ ap (λ m. previous_along m c.args.cube.zs.near) c.side-in-ZDown.ensures ∙ ap (λ (q : Cube). previous_along (side_of shape 2) q.zs.near) e in
    enters_z shape p c.args.cube c.flat-in-ZDown.result (negsuc 0) c.previous-in-ZDown.result s e c.flat-in-ZDown.ensures (enters-down (side_of shape 2) p.z c.previous-in-ZDown.result s.z c.requires.shape.sides.z at)
    ∙ ap (λ (dir : Dir). newly_covers shape p dir s) (sym c.in-ZDown.is)
