use Rattle.std.proofs.Common.{◌≡◌, ◌+◌, ◌*◌, ◌∙◌, if◌then◌else◌, refl, ap, subst}
use Rattle.std.proofs.Math.ListN.{set}
use Rattle.bfm_geom.specs.Difference.{side_of}
use Rattle.packed_lattice.specs.declared.site.Site.{Site}
use Rattle.packed_lattice.specs.Sites.{is_same_site, site_number}
use Rattle.packed_lattice.specs.Owners.{OwnedPlaces, SetsOwner, owner_of}
use Rattle.packed_lattice.proofs.OwnerLemmas.{owner_of-set, places_of}
use Rattle.packed_lattice.proofs.owners.Owners.set.Goals as goal

pub returns : goal.returns
returns c =
    let shape = c.self.inside.shape in
    let kept = c.self.inside.kept.items in
    let s = c.fold_place-site.result in
    let at = (s.z * c.side.result + s.y) * c.side-2.result + s.x in
    let number : at ≡ site_number shape s = ap (λ m. (s.z * m + s.y) * c.side-2.result + s.x) c.side.ensures ∙ ap (λ m. (s.z * side_of shape 1 + s.y) * m + s.x) c.side-2.ensures in
    let written : SetsOwner (places_of shape kept) (places_of shape (set kept at c.keep.result)) c.args.p c.args.owner = record {
      shape = refl;
      places = λ t i. subst (λ (q : Site). owner_of (places_of shape (set kept at c.keep.result)) t ≡ (if is_same_site q t then c.args.owner else owner_of (places_of shape kept) t)) c.fold_place-site.ensures.value
          (owner_of-set shape kept s at c.keep.result c.args.owner t c.self.invariant.1 c.fold_place-site.ensures.range number c.keep.ensures i);
    } in
    subst (λ (v : OwnedPlaces). SetsOwner v (places_of shape (set kept at c.keep.result)) c.args.p c.args.owner) c.self.view_is written
