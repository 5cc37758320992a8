use Rattle.std.proofs.Common.{◌≡◌, ◌∙◌, ap, subst}
use Rattle.bfm_base.specs.declared.place.Shape.{Shape}
use Rattle.bfm_geom.specs.Difference.{IsBox}
use Rattle.packed_lattice.specs.Sites.{newly_covers}
use Rattle.packed_lattice.specs.Cube.{AreSites, cube_at}
use Rattle.packed_lattice.proofs.CubeLemmas.{Shifts-faces}
use Rattle.packed_lattice.proofs.lattice.Lattice.shift.Goals as goal

pub returns : goal.returns
returns c =
    let shape = c.args.self.now.shape in
    let p = c.args.p in
    let e : c.shape-shape.result ≡ shape = c.shape-shape.ensures.value in
    let cube : c.fill_cube-cube.result ≡ cube_at shape p = c.fill_cube-cube.ensures.value ∙ ap (λ (shape : Shape). cube_at shape p) e in
    let box : IsBox shape = subst IsBox e c.shape-shape.ensures.limits in
    let entered = subst (λ (shape : Shape). AreSites shape c.entered_face.result (newly_covers shape p c.args.dir)) e (c.entered_face.ensures.sites p c.fill_cube-cube.ensures.value) in
    Shifts-faces c.args.self.now c.mark_face.new.self c.mark_face-2.new.self p c.args.dir c.left_face.result c.entered_face.result c.requires.taken (c.left_face.ensures.sites shape p box cube) entered c.mark_face.ensures c.mark_face-2.ensures
