use Rattle.std.proofs.Common.{◌≡◌, ◌∙◌, None, Some, ap, subst, sym, true}
use Rattle.bfm_base.specs.declared.place.P3.{P3}
use Rattle.bfm_base.specs.declared.place.Shape.{Shape}
use Rattle.bfm_geom.specs.Difference.{HasSides}
use Rattle.bfm_geom.specs.Walls.{is_within_walls}
use Rattle.packed_lattice.specs.Owners.{SetsOwner}
use Rattle.packed_lattice.specs.Sites.{IsSite, site_of}
use Rattle.bfm_world.specs.Configuration.{position_of, target_of}
use Rattle.bfm_world.specs.Sweeping.{IsImage}
use Rattle.packed_engine.specs.Spots.{place_in, site_in}
use Rattle.packed_engine.proofs.FoldedLemmas.{SetsOwner-image}
use Rattle.packed_engine.proofs.OwnerLemmas.{AreOwned-moved}
use Rattle.packed_engine.proofs.SpotLemmas.{IsImage-home, IsImage-target, IsSite-home, inside-home, walls-target}
use Rattle.packed_engine.proofs.places.shift_owner.Goals as goal

pub stepped-target-requires-clause-spot : goal.stepped-target-requires-clause-spot
stepped-target-requires-clause-spot c =
    subst (λ (s : Shape). IsSite s (site_in c.args.spot)) (sym c.shape.ensures.shape)
    (IsSite-home c.args.world.now c.len.ensures.valid c.args.monomer c.requires.monomer c.args.spot c.requires.spot)

pub set-requires-clause-inside : goal.set-requires-clause-inside
set-requires-clause-inside c =
    let w = c.args.world.now in
    subst (λ (s : Shape). is_within_walls s c.place_in.result ≡ true) (sym c.requires.owners.shape)
    (ap (is_within_walls w.shape) c.place_in.ensures ∙ inside-home w c.len.ensures.valid c.args.monomer c.requires.monomer c.args.spot c.requires.spot)

pub set-requires-2-clause-inside : goal.set-requires-2-clause-inside
set-requires-2-clause-inside c =
    let w = c.args.world.now in
    let m = c.args.monomer in
    let shape = c.shape.ensures.shape in
    let here = c.requires.spot ∙ ap (λ (s : Shape). site_of s (position_of w m)) (sym shape) in
    let there = c.stepped-target.ensures (position_of w m) here ∙ ap (λ (s : Shape). site_of s (target_of w m c.args.dir)) shape in
    subst (λ (s : Shape). is_within_walls s c.place_in-2.result ≡ true) (sym (c.set.ensures.shape ∙ c.requires.owners.shape))
    (ap (is_within_walls w.shape) c.place_in-2.ensures
    ∙ walls-target w c.len.ensures.valid m c.requires.monomer c.args.spot c.requires.spot c.args.dir c.requires.legal c.stepped-target.result there)

pub returns : goal.returns
returns c =
    let w = c.args.world.now in
    let m = c.args.monomer in
    let valid = c.len.ensures.valid in
    let owners = c.args.owners.now in
    let left = c.set.new.self in
    let entered = c.set-2.new.self in
    let shape = c.shape.ensures.shape in
    let here = c.requires.spot ∙ ap (λ (s : Shape). site_of s (position_of w m)) (sym shape) in
    let there = c.stepped-target.ensures (position_of w m) here ∙ ap (λ (s : Shape). site_of s (target_of w m c.args.dir)) shape in
    let before = sym c.requires.owners.shape in
    let after = sym (c.set.ensures.shape ∙ c.requires.owners.shape) in
    let image = IsImage-home w valid m c.requires.monomer c.args.spot c.requires.spot in
    let target = IsImage-target w valid m c.requires.monomer c.args.spot c.requires.spot c.args.dir c.requires.legal c.stepped-target.result there in
    AreOwned-moved w valid m c.args.dir c.requires.monomer c.requires.legal owners left entered c.requires.owners
    (SetsOwner-image owners left (position_of w m) (place_in c.args.spot) None (subst HasSides before valid.box.sides) (subst (λ (s : Shape). IsImage s (position_of w m) (place_in c.args.spot)) before image)
    (subst (λ (p : P3). SetsOwner owners left p None) c.place_in.ensures c.set.ensures))
    (SetsOwner-image left entered (target_of w m c.args.dir) (place_in c.stepped-target.result) (Some m) (subst HasSides after valid.box.sides)
    (subst (λ (s : Shape). IsImage s (target_of w m c.args.dir) (place_in c.stepped-target.result)) after target)
    (subst (λ (p : P3). SetsOwner left entered p (Some m)) c.place_in-2.ensures c.set-2.ensures))
