-- The wrapped form of a difference along an axis: it is the nearest one, and there is one alone.
use Rattle.std.proofs.Common.{◌≡◌, ℕ, zero, suc, ◌+◌, ◌/◌, ◌<◌, ◌≤◌, Bool, true, false, cond, refl, sym, ◌∙◌, ap, subst, arith, ℤ, pos, negsuc, neg_ℤ, ◌+ℤ◌, ◌-ℤ◌, ◌*ℤ◌, ◌<ℤ◌, ◌≤ℤ◌, nat_abs, nat_le, ◌&&◌}
use Rattle.std.specs.Int.{int_rem_euclid}
use Rattle.std.specs.Prelude.{int_le}
use Rattle.std.proofs.lemmas.Int.{ints, by_lt_z}
use Rattle.std.proofs.Math.IntN.{*ℤ_comm}
use Rattle.bfm_geom.proofs.IntegerLemmas.{*ℤ-neg_ℤ, *ℤ-+ℤ}
use Rattle.bfm_base.specs.declared.place.P3.{P3}
use Rattle.bfm_base.specs.declared.place.Shape.{Shape}
use Rattle.bfm_base.specs.Place.{extent_of}
use Rattle.bfm_geom.specs.Difference.{HasSides, IsNearest, IsWrapped, IsWrappedAlong, plus, minus, overlaps, side_of, is_periodic, wrapped, wrapped_along}

-- what the remainder leaves is a whole number of sides, and it lies from 0 to below the side
pub folded_is : (side : ℕ) (d : ℤ) → 0 < side → (k : ℤ) × ((int_rem_euclid d (pos side) ≡ d +ℤ k *ℤ pos side) × (pos 0 ≤ℤ int_rem_euclid d (pos side)) × (int_rem_euclid d (pos side) <ℤ pos side))
folded_is side (pos a) h =
    (neg_ℤ (pos (a / side)), (omega (arith, ints, *ℤ_comm (neg_ℤ (pos (a / side))) (pos side) ∙ *ℤ-neg_ℤ (pos side) (pos (a / side))), omega (arith, ints), omega (arith, ints)))
folded_is side (negsuc a) h = (pos (a / side + 1), (omega (arith, ints), omega (arith, ints), omega (arith, ints)))

-- at or below half the side the remainder itself is nearest, above it the remainder less one side
nearest_of_folded : (side : ℕ) (d k r : ℤ) → r ≡ d +ℤ k *ℤ pos side → pos 0 ≤ℤ r → r <ℤ pos side → (low : Bool) → int_le (pos 2 *ℤ r) (pos side) ≡ low
    → IsNearest side d (cond low r (r -ℤ pos side))
nearest_of_folded side d k r e h l true t = record { turns = (k, e); above = omega (arith, ints); below = omega (arith, ints) }
nearest_of_folded side d k r e h l false t =
    let turn : (k -ℤ pos 1) *ℤ pos side ≡ k *ℤ pos side -ℤ pos side = omega (arith, ints, *ℤ_comm (k -ℤ pos 1) (pos side), *ℤ_comm k (pos side), *ℤ-+ℤ (pos side) k (negsuc 0)) in
    record { turns = (k -ℤ pos 1, omega (arith, ints)); above = omega (arith, ints); below = omega (arith, ints) }

-- the wrapped form is what makes a wrapped difference the right one
pub wrapped_along-is : (periodic : Bool) (side : ℕ) (d : ℤ) → 0 < side → IsWrappedAlong periodic side d (wrapped_along periodic side d)
wrapped_along-is false side d h = refl
wrapped_along-is true side d h =
    let f = folded_is side d h in
    nearest_of_folded side d f.0 (int_rem_euclid d (pos side)) f.1.0 f.1.1 f.1.2 (int_le (pos 2 *ℤ int_rem_euclid d (pos side)) (pos side)) refl

-- a multiple of the side that is below one side in absolute value is 0
pub no_turn : (side : ℕ) (k m : ℤ) → m ≡ k *ℤ pos side → neg_ℤ (pos side) <ℤ m → m <ℤ pos side → m ≡ pos 0
no_turn side (pos zero) m e l h = omega (arith, ints)
no_turn side (pos (suc k)) m e l h = omega (arith, ints)
no_turn side (negsuc k) m e l h = omega (arith, ints)

-- and no other number is
pub IsWrappedAlong-unique : (periodic : Bool) (side : ℕ) (d v w : ℤ) → IsWrappedAlong periodic side d v → IsWrappedAlong periodic side d w → v ≡ w
IsWrappedAlong-unique false side d v w p q = p ∙ sym q
IsWrappedAlong-unique true side d v w p q =
    let turn : (p.turns.0 -ℤ q.turns.0) *ℤ pos side ≡ p.turns.0 *ℤ pos side -ℤ q.turns.0 *ℤ pos side = omega (arith, ints, *ℤ_comm (p.turns.0 -ℤ q.turns.0) (pos side), *ℤ_comm p.turns.0 (pos side), *ℤ_comm q.turns.0 (pos side), *ℤ-+ℤ (pos side) p.turns.0 (neg_ℤ q.turns.0), *ℤ-neg_ℤ (pos side) q.turns.0) in
    let e : v -ℤ w ≡ (p.turns.0 -ℤ q.turns.0) *ℤ pos side = omega (arith, ints, p.turns.1, q.turns.1, turn) in
    let z : v -ℤ w ≡ pos 0 = no_turn side _ (v -ℤ w) e (omega (arith, ints)) (omega (arith, ints)) in
    omega (arith, ints)

-- what is nearest to d is, turned round, nearest to minus d, but at half the side
pub IsNearest-neg : (side : ℕ) (d w : ℤ) → IsNearest side d w → (pos 2 *ℤ w) <ℤ pos side → IsNearest side (neg_ℤ d) (neg_ℤ w)
IsNearest-neg side d w p h = record {
  turns = (neg_ℤ p.turns.0, omega (arith, ints, p.turns.1, *ℤ_comm (neg_ℤ p.turns.0) (pos side), *ℤ_comm p.turns.0 (pos side), *ℤ-neg_ℤ (pos side) p.turns.0));
  above = omega (arith, ints);
  below = omega (arith, ints);
}

-- at half the side it is nearest to both
IsNearest-half : (side : ℕ) (d w : ℤ) → IsNearest side d w → pos side ≤ℤ (pos 2 *ℤ w) → IsNearest side (neg_ℤ d) w
IsNearest-half side d w p h =
    let turn : (pos 1 -ℤ p.turns.0) *ℤ pos side ≡ pos side -ℤ p.turns.0 *ℤ pos side = omega (arith, ints, *ℤ_comm (pos 1 -ℤ p.turns.0) (pos side), *ℤ_comm p.turns.0 (pos side), *ℤ-+ℤ (pos side) (pos 1) (neg_ℤ p.turns.0), *ℤ-neg_ℤ (pos side) p.turns.0) in
    record { turns = (pos 1 -ℤ p.turns.0, omega (arith, ints, p.turns.1, turn)); above = p.above; below = p.below }

-- a difference turned round has a wrapped form of the same absolute value
pub nat_abs-wrapped_along-neg : (periodic : Bool) (side : ℕ) (d : ℤ) → 0 < side → nat_abs (wrapped_along periodic side (neg_ℤ d)) ≡ nat_abs (wrapped_along periodic side d)
nat_abs-wrapped_along-neg false side d h = omega (arith, ints)
nat_abs-wrapped_along-neg true side d h =
    let w : ℤ = wrapped_along true side d in
    let p : IsNearest side d w = wrapped_along-is true side d h in
    let q : IsNearest side (neg_ℤ d) (wrapped_along true side (neg_ℤ d)) = wrapped_along-is true side (neg_ℤ d) h in
    by_lt_z (pos 2 *ℤ w) (pos side)
    (λ l. ap nat_abs (IsWrappedAlong-unique true side (neg_ℤ d) _ (neg_ℤ w) q (IsNearest-neg side d w p l)) ∙ nat_abs-neg_ℤ w)
    (λ l. ap nat_abs (IsWrappedAlong-unique true side (neg_ℤ d) _ w q (IsNearest-half side d w p l)))
  where
    nat_abs-neg_ℤ : (z : ℤ) → nat_abs (neg_ℤ z) ≡ nat_abs z
    nat_abs-neg_ℤ z = omega (arith, ints)

-- a difference that is nearest to itself is its own wrapped form
pub wrapped_along-near : (side : ℕ) (d : ℤ) → 0 < side → neg_ℤ (pos side) <ℤ (pos 2 *ℤ d) → (pos 2 *ℤ d) ≤ℤ pos side → wrapped_along true side d ≡ d
wrapped_along-near side d h above below =
    IsWrappedAlong-unique true side d _ d (wrapped_along-is true side d h) record { turns = (pos 0, omega (arith, ints)); above = above; below = below }

-- so has the difference of two coordinates, taken the other way
pub nat_abs-wrapped-turned : (shape : Shape) (axis : ℕ) (p q : ℤ) → 0 < side_of shape axis
    → nat_abs (wrapped_along (is_periodic shape axis) (side_of shape axis) (q -ℤ p)) ≡ nat_abs (wrapped_along (is_periodic shape axis) (side_of shape axis) (p -ℤ q))
nat_abs-wrapped-turned shape axis p q h =
    ap (λ d. nat_abs (wrapped_along (is_periodic shape axis) (side_of shape axis) d)) (omega (arith, ints))
    ∙ nat_abs-wrapped_along-neg (is_periodic shape axis) (side_of shape axis) (p -ℤ q) h

-- overlap does not ask which of the two monomers comes first
pub overlaps-symmetric : (shape : Shape) (a b : P3) → HasSides shape → overlaps shape a b ≡ overlaps shape b a
overlaps-symmetric shape a b box =
    let near : ℕ → ℕ → ℕ → Bool = λ x y z. nat_le x 1 && nat_le y 1 && nat_le z 1 in
    let to = wrapped shape (minus b a) in
    let from = wrapped shape (minus a b) in
    ap (λ x. near x (nat_abs to.y) (nat_abs to.z)) (nat_abs-wrapped-turned shape 0 a.x b.x (omega (arith, box.x)))
    ∙ ap (λ y. near (nat_abs from.x) y (nat_abs to.z)) (nat_abs-wrapped-turned shape 1 a.y b.y (omega (arith, box.y)))
    ∙ ap (λ z. near (nat_abs from.x) (nat_abs from.y) z) (nat_abs-wrapped-turned shape 2 a.z b.z (omega (arith, box.z)))

-- the wrapped form meets what makes a wrapped difference the right one
pub IsWrapped-wrapped : (shape : Shape) (d w : P3) → HasSides shape → w ≡ wrapped shape d → IsWrapped shape d w
IsWrapped-wrapped shape d w box e = subst (IsWrapped shape d) (sym e) record {
  x = wrapped_along-is (is_periodic shape 0) (side_of shape 0) d.x (omega (arith, box.x));
  y = wrapped_along-is (is_periodic shape 1) (side_of shape 1) d.y (omega (arith, box.y));
  z = wrapped_along-is (is_periodic shape 2) (side_of shape 2) d.z (omega (arith, box.z));
}

-- places with the same coordinates are one
pub P3-same : (a b : P3) → a.x ≡ b.x → a.y ≡ b.y → a.z ≡ b.z → a ≡ b
P3-same a b x y z =
    let at : ℤ → ℤ → ℤ → P3 = λ x y z. record { x = x; y = y; z = z } in
    ap (λ n. at n a.y a.z) x ∙ ap (λ n. at b.x n a.z) y ∙ ap (at b.x b.y) z

nat_abs-sum : (a b : ℤ) → nat_abs (a +ℤ b) ≤ nat_abs a + nat_abs b
nat_abs-sum a b = omega (arith, ints)

-- a vector leads no further than it reaches
pub extent_of-plus : (q p v : P3) → q ≡ plus p v → extent_of q ≤ extent_of p + extent_of v
extent_of-plus q p v e =
    omega (arith, nat_abs-sum p.x v.x, nat_abs-sum p.y v.y, nat_abs-sum p.z v.z, ap (λ (r : P3). nat_abs r.x) e, ap (λ (r : P3). nat_abs r.y) e, ap (λ (r : P3). nat_abs r.z) e)
