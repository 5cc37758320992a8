use Rattle.std.proofs.Common.{◌∙◌, ap, sym, pos, negsuc}
use Rattle.bfm_base.specs.declared.place.Dir.{Dir}
use Rattle.bfm_geom.specs.Difference.{side_of}
use Rattle.packed_lattice.specs.declared.site.Cube.{Cube}
use Rattle.packed_lattice.specs.Sites.{newly_leaves}
use Rattle.packed_lattice.proofs.CubeLemmas.{leaves-down, leaves-up, leaves_x, leaves_y, leaves_z}
use Rattle.packed_lattice.proofs.site.left_face.Goals as goal

pub returns-in-XUp-clause-sites : goal.returns-in-XUp-clause-sites
returns-in-XUp-clause-sites c = λ shape p box e s i.
    leaves_x shape p c.args.cube c.flat.result (pos 1) c.args.cube.xs.near s e c.flat.ensures (leaves-up (side_of shape 0) p.x c.args.cube.xs.near s.x box.sides.x (ap (λ (q : Cube). q.xs.near) e))
    ∙ ap (λ (dir : Dir). newly_leaves shape p dir s) (sym c.in-XUp.is)

pub returns-in-XDown-clause-sites : goal.returns-in-XDown-clause-sites
returns-in-XDown-clause-sites c = λ shape p box e s i.
    leaves_x shape p c.args.cube c.flat-in-XDown.result (negsuc 0) c.args.cube.xs.far s e c.flat-in-XDown.ensures (leaves-down (side_of shape 0) p.x c.args.cube.xs.far s.x box.sides.x (ap (λ (q : Cube). q.xs.far) e))
    ∙ ap (λ (dir : Dir). newly_leaves shape p dir s) (sym c.in-XDown.is)

pub returns-in-YUp-clause-sites : goal.returns-in-YUp-clause-sites
returns-in-YUp-clause-sites c = λ shape p box e s i.
    leaves_y shape p c.args.cube c.flat-in-YUp.result (pos 1) c.args.cube.ys.near s e c.flat-in-YUp.ensures (leaves-up (side_of shape 1) p.y c.args.cube.ys.near s.y box.sides.y (ap (λ (q : Cube). q.ys.near) e))
    ∙ ap (λ (dir : Dir). newly_leaves shape p dir s) (sym c.in-YUp.is)

pub returns-in-YDown-clause-sites : goal.returns-in-YDown-clause-sites
returns-in-YDown-clause-sites c = λ shape p box e s i.
    leaves_y shape p c.args.cube c.flat-in-YDown.result (negsuc 0) c.args.cube.ys.far s e c.flat-in-YDown.ensures (leaves-down (side_of shape 1) p.y c.args.cube.ys.far s.y box.sides.y (ap (λ (q : Cube). q.ys.far) e))
    ∙ ap (λ (dir : Dir). newly_leaves shape p dir s) (sym c.in-YDown.is)

pub returns-in-ZUp-clause-sites : goal.returns-in-ZUp-clause-sites
returns-in-ZUp-clause-sites c = λ shape p box e s i.
    leaves_z shape p c.args.cube c.flat-in-ZUp.result (pos 1) c.args.cube.zs.near s e c.flat-in-ZUp.ensures (leaves-up (side_of shape 2) p.z c.args.cube.zs.near s.z box.sides.z (ap (λ (q : Cube). q.zs.near) e))
    ∙ ap (λ (dir : Dir). newly_leaves shape p dir s) (sym c.in-ZUp.is)

pub returns-in-ZDown-clause-sites : goal.returns-in-ZDown-clause-sites
returns-in-ZDown-clause-sites c = λ shape p box e s i.
    leaves_z shape p c.args.cube c.flat-in-ZDown.result (negsuc 0) c.args.cube.zs.far s e c.flat-in-ZDown.ensures (leaves-down (side_of shape 2) p.z c.args.cube.zs.far s.z box.sides.z (ap (λ (q : Cube). q.zs.far) e))
    ∙ ap (λ (dir : Dir). newly_leaves shape p dir s) (sym c.in-ZDown.is)
