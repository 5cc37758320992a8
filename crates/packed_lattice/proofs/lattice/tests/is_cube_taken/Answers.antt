use Rattle.std.proofs.Common.{◌∙◌, true, ap, subst}
use Rattle.bfm_base.specs.declared.place.Shape.{Shape}
use Rattle.packed_lattice.specs.declared.site.Cube.{Cube}
use Rattle.packed_lattice.specs.Sites.{AreTaken}
use Rattle.packed_lattice.specs.Cube.{cube_at, is_in}
use Rattle.packed_lattice.proofs.CubeLemmas.{all-halves}
use Rattle.packed_lattice.proofs.lattice.tests.is_cube_taken.Goals as goal

pub returns-then-is_face_taken : goal.returns-then-is_face_taken
returns-then-is_face_taken g c = λ t.
    let sites = c.args.lattice.now in
    let cube = c.fill_cube-cube.ensures.value ∙ ap (λ (shape : Shape). cube_at shape c.args.p) c.shape.ensures.value in
    let lower = subst (λ (q : Cube). AreTaken sites (is_in q)) c.lower_face.ensures (c.is_face_taken.ensures c.if-is_face_taken.true) in
    let upper = subst (λ (q : Cube). AreTaken sites (is_in q)) c.upper_face.ensures (c.is_face_taken-then-is_face_taken.ensures t) in
    subst (λ (q : Cube). AreTaken sites (is_in q)) cube ((all-halves sites true c.fill_cube-cube.result).0 (lower, upper))
