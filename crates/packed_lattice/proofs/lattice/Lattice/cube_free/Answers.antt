use Rattle.std.proofs.Common.{◌↔◌, ◌∙◌, IsTrue, subst, ap}
use Rattle.bfm_base.specs.declared.place.Shape.{Shape}
use Rattle.packed_lattice.specs.declared.site.Cube.{Cube}
use Rattle.packed_lattice.specs.Sites.{AreFree}
use Rattle.packed_lattice.specs.Cube.{cube_at, is_in}
use Rattle.packed_lattice.proofs.lattice.Lattice.cube_free.Goals as goal

pub returns : goal.returns
returns c =
    let cube = c.fill_cube-cube.ensures.value ∙ ap (λ (shape : Shape). cube_at shape c.args.p) c.shape.ensures.value in
    subst (λ (q : Cube). IsTrue c.is_cube_free.result ↔ AreFree c.args.self.now (is_in q)) cube c.is_cube_free.ensures
