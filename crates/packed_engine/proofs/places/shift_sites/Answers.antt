use Rattle.std.proofs.Common.{◌≡◌, ◌∙◌, ap, refl, subst, sym, true}
use Rattle.bfm_base.specs.declared.place.P3.{P3}
use Rattle.bfm_base.specs.declared.place.Shape.{Shape}
use Rattle.bfm_base.specs.Direction.{step_of}
use Rattle.bfm_geom.specs.Difference.{HasSides, plus}
use Rattle.bfm_geom.specs.Walls.{is_within_walls}
use Rattle.packed_lattice.specs.Sites.{AreFree, AreTaken, Shifts, covers, newly_covers}
use Rattle.bfm_world.specs.Configuration.{position_of}
use Rattle.bfm_world.specs.Sweeping.{IsImage}
use Rattle.packed_engine.specs.Spots.{place_in}
use Rattle.packed_engine.proofs.FoldedLemmas.{AreFree-image, AreTaken-image, Shifts-image}
use Rattle.packed_engine.proofs.SiteLemmas.{AreFree-legal, AreTaken-own, IsFilled-moved}
use Rattle.packed_engine.proofs.SpotLemmas.{IsImage-home, inside-home, stays-home}
use Rattle.packed_engine.proofs.places.shift_sites.Goals as goal

pub shift-requires-clause-inside : goal.shift-requires-clause-inside
shift-requires-clause-inside c =
    let w = c.args.world.now in
    subst (λ (s : Shape). is_within_walls s c.place_in.result ≡ true) (sym c.requires.sites.shape)
    (ap (is_within_walls w.shape) c.place_in.ensures ∙ inside-home w c.len.ensures.valid c.args.monomer c.requires.monomer c.args.spot c.requires.spot)

pub shift-requires-clause-stays : goal.shift-requires-clause-stays
shift-requires-clause-stays c =
    let w = c.args.world.now in
    subst (λ (s : Shape). is_within_walls s (plus c.place_in.result (step_of c.args.dir)) ≡ true) (sym c.requires.sites.shape)
    (ap (λ (p : P3). is_within_walls w.shape (plus p (step_of c.args.dir))) c.place_in.ensures
    ∙ stays-home w c.len.ensures.valid c.args.monomer c.requires.monomer c.args.spot c.requires.spot c.args.dir c.requires.legal)

pub shift-requires-clause-taken : goal.shift-requires-clause-taken
shift-requires-clause-taken c =
    let w = c.args.world.now in
    let valid = c.len.ensures.valid in
    let sites = c.args.lattice.now in
    let p = position_of w c.args.monomer in
    let same = sym c.requires.sites.shape in
    let image = subst (λ (s : Shape). IsImage s p (place_in c.args.spot)) same (IsImage-home w valid c.args.monomer c.requires.monomer c.args.spot c.requires.spot) in
    subst (λ (q : P3). AreTaken sites (covers sites.shape q)) (sym c.place_in.ensures)
    (AreTaken-image sites p (place_in c.args.spot) (subst HasSides same valid.box.sides) image (AreTaken-own w valid c.args.monomer c.requires.monomer p refl sites c.requires.sites))

pub shift-requires-clause-free : goal.shift-requires-clause-free
shift-requires-clause-free c =
    let w = c.args.world.now in
    let valid = c.len.ensures.valid in
    let sites = c.args.lattice.now in
    let p = position_of w c.args.monomer in
    let same = sym c.requires.sites.shape in
    let image = subst (λ (s : Shape). IsImage s p (place_in c.args.spot)) same (IsImage-home w valid c.args.monomer c.requires.monomer c.args.spot c.requires.spot) in
    subst (λ (q : P3). AreFree sites (newly_covers sites.shape q c.args.dir)) (sym c.place_in.ensures)
    (AreFree-image sites p (place_in c.args.spot) c.args.dir (subst HasSides same valid.box.sides) image
    (AreFree-legal w valid c.args.monomer c.requires.monomer p refl c.args.dir sites c.requires.sites c.requires.legal))

pub returns : goal.returns
returns c =
    let w = c.args.world.now in
    let valid = c.len.ensures.valid in
    let sites = c.args.lattice.now in
    let p = position_of w c.args.monomer in
    let same = sym c.requires.sites.shape in
    let image = subst (λ (s : Shape). IsImage s p (place_in c.args.spot)) same (IsImage-home w valid c.args.monomer c.requires.monomer c.args.spot c.requires.spot) in
    IsFilled-moved w valid c.args.monomer c.requires.monomer c.args.dir sites c.shift.new.self c.requires.sites
    (Shifts-image sites c.shift.new.self p (place_in c.args.spot) c.args.dir (subst HasSides same valid.box.sides) image
    (subst (λ (q : P3). Shifts sites c.shift.new.self q c.args.dir) c.place_in.ensures c.shift.ensures))
