use Rattle.std.proofs.Common.{◌↔◌, IsTrue, false, sym, subst}
use Rattle.packed_lattice.specs.declared.site.Cube.{Cube}
use Rattle.packed_lattice.specs.Sites.{AreFree}
use Rattle.packed_lattice.specs.Cube.{is_in}
use Rattle.packed_lattice.proofs.CubeLemmas.{all-halves, both-free, lower-taken, lower_of, upper_of}
use Rattle.packed_lattice.proofs.lattice.Lattice.is_cube_free.Goals as goal
use Rattle.packed_lattice.proofs.lattice.Lattice.is_cube_free.Goals.{then-is_face_free, else-is_face_free}

pub returns : goal.returns
returns g c =
    let sites = c.args.self.now in
    let cube = c.args.cube in
    let lower = subst (λ (q : Cube). IsTrue c.is_face_free.result ↔ AreFree sites (is_in q)) c.lower_face.ensures c.is_face_free.ensures.value in
    elim c.if-is_face_free.branch [
      | then-is_face_free w ↦
          let upper = subst (λ (q : Cube). IsTrue w.is_face_free-then-is_face_free.result ↔ AreFree sites (is_in q)) w.upper_face.ensures w.is_face_free-then-is_face_free.ensures.value in
          both-free (AreFree sites (is_in (lower_of cube))) (AreFree sites (is_in (upper_of cube))) (AreFree sites (is_in cube)) c.is_face_free.result c.if-is_face_free.result (all-halves sites false cube) lower w.if-is_face_free.true (subst (λ r. IsTrue r ↔ AreFree sites (is_in (upper_of cube))) (sym w.result-is) upper)
      | else-is_face_free w ↦
          lower-taken (AreFree sites (is_in (lower_of cube))) (AreFree sites (is_in (upper_of cube))) (AreFree sites (is_in cube)) c.is_face_free.result c.if-is_face_free.result (all-halves sites false cube) lower w.if-is_face_free.false w.result-is
    ]
