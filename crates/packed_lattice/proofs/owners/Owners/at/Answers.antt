use Rattle.std.proofs.Common.{◌≡◌, ◌+◌, ◌*◌, ◌<◌, ◌∙◌, true, cond, None, length, get_or, sym, ap, arith}
use Rattle.std.proofs.lemmas.List.{get_or_read}
use Rattle.bfm_geom.specs.Difference.{side_of}
use Rattle.bfm_geom.specs.Walls.{is_within_walls}
use Rattle.packed_lattice.specs.Sites.{site_number, site_of}
use Rattle.packed_lattice.specs.Owners.{OwnedPlaces, owner_at, owner_kept_as, owner_of}
use Rattle.packed_lattice.proofs.OwnerLemmas.{owner_of-places_of, places_of}
use Rattle.packed_lattice.proofs.PackingLemmas.{site_number-lt}
use Rattle.packed_lattice.proofs.owners.Owners.at.Goals as goal

pub returns : goal.returns
returns c =
    let shape = c.self.inside.shape in
    let kept = c.self.inside.kept.items in
    let s = c.fold_place-site.result in
    let p = c.args.p in
    let at = (s.z * c.side.result + s.y) * c.side-2.result + s.x in
    let number : at ≡ site_number shape s = ap (λ m. (s.z * m + s.y) * c.side-2.result + s.x) c.side.ensures ∙ ap (λ m. (s.z * side_of shape 1 + s.y) * m + s.x) c.side-2.ensures in
    let below : at < length kept = omega (arith, site_number-lt shape s c.fold_place-site.ensures.range, number, c.self.invariant.1) in
    let inside : is_within_walls shape p ≡ true = sym c.is_inside.ensures ∙ c.if-not-is_inside.false in
    c.restore.ensures
    ∙ ap owner_kept_as (get_or_read kept at c.index.result.now below c.index.ensures 0 ∙ ap (λ n. get_or kept n 0) number)
    ∙ sym (owner_of-places_of shape kept s c.self.invariant.1 c.fold_place-site.ensures.range)
    ∙ ap (owner_of (places_of shape kept)) c.fold_place-site.ensures.value
    ∙ sym (ap (λ b. cond b (owner_of (places_of shape kept) (site_of shape p)) None) inside)
    ∙ ap (λ (v : OwnedPlaces). owner_at v p) c.self.view_is
