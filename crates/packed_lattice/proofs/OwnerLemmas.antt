-- Owners by the numbers of their sites.
use Rattle.std.proofs.Common.{◌≡◌, ◌≢◌, ℕ, ◌<◌, inl, inr, cond, List, length, get_or, map, replicate, Option, None, sym, ◌∙◌, ap, arith}
use Rattle.std.proofs.Math.ListN.{set}
use Rattle.std.proofs.lemmas.List.{get_or-map, get_or-replicate, get_or-set_other, get_or-set_same, length-set}
use Rattle.bfm_base.specs.declared.place.Shape.{Shape}
use Rattle.bfm_geom.specs.Difference.{side_of}
use Rattle.packed_lattice.specs.declared.site.Site.{Site}
use Rattle.packed_lattice.specs.Sites.{IsSite, is_same_site, site_count, site_number}
use Rattle.packed_lattice.specs.Owners.{IsUnowned, OwnedPlaces, owner_kept_as, owner_of}
use Rattle.packed_lattice.proofs.PackingLemmas.{is_same_site-cases, place_in_row-same, site_number-lt, Site-same}

-- the places of a box whose owners are kept in a list
abbrev pub places_of : Shape → List ℕ → OwnedPlaces
places_of shape kept = record { shape = shape; owners = map owner_kept_as kept }

pub owner_of-places_of : (shape : Shape) (kept : List ℕ) (s : Site) → length kept ≡ site_count shape → IsSite shape s → owner_of (places_of shape kept) s ≡ owner_kept_as (get_or kept (site_number shape s) 0)
owner_of-places_of shape kept s e h = get_or-map owner_kept_as kept (site_number shape s) 0 None (omega (arith, site_number-lt shape s h))

-- zeros keep no owner
pub IsUnowned-zeros : (shape : Shape) (kept : List ℕ) (n : ℕ) → length kept ≡ site_count shape → kept ≡ replicate n 0 → n ≡ site_count shape → IsUnowned (places_of shape kept)
IsUnowned-zeros shape kept n e z c s h =
    owner_of-places_of shape kept s e h ∙ ap owner_kept_as (ap (λ ks. get_or ks (site_number shape s) 0) z ∙ get_or-replicate n (site_number shape s) 0 0 (omega (arith, site_number-lt shape s h)))

-- one number is written: the owner of its site alone changes
pub owner_of-set : (shape : Shape) (kept : List ℕ) (t : Site) (at w : ℕ) (owner : Option ℕ) (s : Site) → length kept ≡ site_count shape → IsSite shape t → at ≡ site_number shape t
    → owner_kept_as w ≡ owner → IsSite shape s
    → owner_of (places_of shape (set kept at w)) s ≡ cond (is_same_site t s) owner (owner_of (places_of shape kept) s)
owner_of-set shape kept t at w owner s e h a o i =
    let below : at < length kept = omega (arith, site_number-lt shape t h) in
    let written : owner_of (places_of shape (set kept at w)) s ≡ owner_kept_as (get_or (set kept at w) (site_number shape s) 0) = owner_of-places_of shape (set kept at w) s (omega (arith, length-set {A = ℕ})) i in
    elim (is_same_site-cases t s) [
      | inl q ↦ written ∙ ap owner_kept_as (ap (λ n. get_or (set kept at w) n 0) (ap (site_number shape) q.1 ∙ sym a) ∙ get_or-set_same kept at w 0 below) ∙ o ∙ sym (ap (λ b. cond b owner (owner_of (places_of shape kept) s)) q.0)
      | inr q ↦
          let other : site_number shape s ≢ at = λ m. q.1 (same s i (m ∙ a)) in
          written ∙ ap owner_kept_as (get_or-set_other kept at (site_number shape s) w 0 other) ∙ sym (owner_of-places_of shape kept s e i) ∙ sym (ap (λ b. cond b owner (owner_of (places_of shape kept) s)) q.0)
    ]
  where
    same : (s : Site) → IsSite shape s → site_number shape s ≡ site_number shape t → s ≡ t
    same s i m =
        let q = place_in_row-same (side_of shape 1) (side_of shape 0) s.z s.y s.x t.z t.y t.x i.y h.y i.x h.x m in
        Site-same s t q.2 q.1 q.0
