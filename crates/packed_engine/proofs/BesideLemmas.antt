-- Places that differ by whole sides along periodic axes: the same monomers stand beside each, at the same offsets.
use Rattle.std.proofs.Common.{◌≡◌, ◌<◌, ℕ, Bool, true, false, cond, length, nat_eq, ℤ, pos, neg_ℤ, ◌+ℤ◌, ◌-ℤ◌, ap, arith}
use Rattle.std.proofs.lemmas.Int.{ints}
use Rattle.bfm_base.specs.declared.place.P3.{P3}
use Rattle.bfm_base.specs.declared.place.Shape.{Shape}
use Rattle.bfm_geom.specs.Difference.{HasSides, IsNearest, is_periodic, minus, side_of, wrapped, wrapped_along}
use Rattle.bfm_geom.proofs.DifferenceLemmas.{IsWrappedAlong-unique, P3-same, wrapped_along-is}
use Rattle.contact_table.specs.Contacts.{weight_of}
use Rattle.bfm_world.specs.Acceptance.{contact_weight, weight_at}
use Rattle.bfm_world.specs.Configuration.{Configuration, class_at, position_of}
use Rattle.bfm_world.specs.Sweeping.{IsImage, IsImageAlong}
use Rattle.packed_engine.specs.Beside.{is_contact_offset}
use Rattle.packed_engine.proofs.PlaceLemmas.{turns_less}
use Rattle.packed_engine.proofs.WeightLemmas.{total-same}

-- a place and its image have the same wrapped difference to another place
wrapped_along-image : (periodic : Bool) (side : ℕ) (c image d : ℤ) → 0 < side → IsImageAlong periodic side c image → wrapped_along periodic side (d -ℤ image) ≡ wrapped_along periodic side (d -ℤ c)
wrapped_along-image false side c image d h e = ap (λ n. d -ℤ n) e
wrapped_along-image true side c image d h e =
    let f = wrapped_along-is true side (d -ℤ image) h in
    let near : IsNearest side (d -ℤ c) (wrapped_along true side (d -ℤ image)) =
    record { turns = (f.turns.0 +ℤ neg_ℤ e.0, omega (arith, ints, f.turns.1, e.1, turns_less side f.turns.0 e.0)); above = f.above; below = f.below } in
    IsWrappedAlong-unique true side (d -ℤ c) _ _ near (wrapped_along-is true side (d -ℤ c) h)

wrapped-image : (shape : Shape) (p image q : P3) → HasSides shape → IsImage shape p image → wrapped shape (minus q image) ≡ wrapped shape (minus q p)
wrapped-image shape p image q sides h =
    P3-same _ _
    (wrapped_along-image (is_periodic shape 0) (side_of shape 0) p.x image.x q.x (omega (arith, sides.x)) h.x)
    (wrapped_along-image (is_periodic shape 1) (side_of shape 1) p.y image.y q.y (omega (arith, sides.y)) h.y)
    (wrapped_along-image (is_periodic shape 2) (side_of shape 2) p.z image.z q.z (omega (arith, sides.z)) h.z)

-- so the contacts at either weigh the same
pub weight_at-image : (w : Configuration) (i : ℕ) (p image : P3) → HasSides w.shape → IsImage w.shape p image → weight_at w i image ≡ weight_at w i p
weight_at-image w i p image sides h =
    total-same (contact_weight w i image) (contact_weight w i p) (length w.positions)
    (λ j l. ap (λ (v : P3). cond (nat_eq j i) (pos 0) (cond (is_contact_offset v) (weight_of w.table (class_at w i) (class_at w j)) (pos 0)))
    (wrapped-image w.shape p image (position_of w j) sides h))
