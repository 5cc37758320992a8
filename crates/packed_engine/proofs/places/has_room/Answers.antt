use Rattle.std.proofs.Common.{◌≡◌, ◌∙◌, ◌↔◌, IsTrue, ap, refl, subst, sym, true}
use Rattle.bfm_base.specs.declared.place.P3.{P3}
use Rattle.bfm_base.specs.declared.place.Shape.{Shape}
use Rattle.bfm_base.specs.Direction.{step_of}
use Rattle.bfm_geom.specs.Difference.{HasSides, plus}
use Rattle.bfm_geom.specs.Walls.{is_within_walls}
use Rattle.packed_lattice.specs.Sites.{AreFree, newly_covers}
use Rattle.bfm_world.specs.Configuration.{position_of}
use Rattle.bfm_world.specs.Sweeping.{IsImage}
use Rattle.packed_engine.specs.Spots.{place_in}
use Rattle.packed_engine.proofs.FoldedLemmas.{face-image}
use Rattle.packed_engine.proofs.SiteLemmas.{leaves_room}
use Rattle.packed_engine.proofs.SpotLemmas.{IsImage-home, inside-home}
use Rattle.packed_engine.proofs.places.has_room.Goals as goal

pub face_free-requires-clause-inside : goal.face_free-requires-clause-inside
face_free-requires-clause-inside g c =
    let w = c.args.world.now in
    subst (λ (s : Shape). is_within_walls s c.place_in.result ≡ true) (sym c.requires.sites.shape)
    (ap (is_within_walls w.shape) c.place_in.ensures ∙ inside-home w c.len.ensures.valid c.args.monomer c.requires.monomer c.args.spot c.requires.spot)

pub returns-clause-value : goal.returns-clause-value
returns-clause-value g c =
    let w = c.args.world.now in
    let valid = c.len.ensures.valid in
    let sites = c.args.lattice.now in
    let p = position_of w c.args.monomer in
    let i = place_in c.args.spot in
    let same = sym c.requires.sites.shape in
    let image = subst (λ (s : Shape). IsImage s p i) same (IsImage-home w valid c.args.monomer c.requires.monomer c.args.spot c.requires.spot) in
    let told = subst (λ (q : P3). IsTrue c.face_free.result ↔ ((is_within_walls sites.shape (plus q (step_of c.args.dir)) ≡ true) × AreFree sites (newly_covers sites.shape q c.args.dir))) c.place_in.ensures c.face_free.ensures.value in
    leaves_room w valid c.args.monomer c.requires.monomer p refl c.args.dir sites c.face_free.result c.requires.sites
    (face-image sites p i c.args.dir c.face_free.result (subst HasSides same valid.box.sides) image told)
