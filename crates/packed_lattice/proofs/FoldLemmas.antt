-- Coordinates folded into the box.
use Rattle.std.proofs.Common.{◌≡◌, ◌≢◌, ℕ, ◌+◌, ◌-◌, ◌<◌, ◌⊎◌, inl, inr, cond, ap, arith, ℤ, pos, negsuc, neg_ℤ, ◌+ℤ◌, ◌-ℤ◌, ◌*ℤ◌}
use Rattle.std.proofs.lemmas.Int.{ints}
use Rattle.std.proofs.lemmas.Bool.{cases_eq, eq-eqb, ne_eqb}
use Rattle.std.proofs.Math.IntN.{*ℤ_comm}
use Rattle.bfm_geom.proofs.IntegerLemmas.{*ℤ-neg_ℤ, *ℤ-+ℤ}
use Rattle.bfm_geom.proofs.DifferenceLemmas.{folded_is, no_turn}
use Rattle.packed_lattice.specs.Sites.{folded}
use Rattle.packed_lattice.specs.Cube.{next_along, previous_along}

-- a folded coordinate is below the side, and differs from the coordinate by whole sides
pub folded_turns : (side : ℕ) (c : ℤ) → 0 < side → (k : ℤ) × ((pos (folded side c) ≡ c +ℤ k *ℤ pos side) × (folded side c < side))
folded_turns side c h = let f = folded_is side c h in (f.0, (omega (arith, ints, f.1), omega (arith, ints, f.1)))

-- and no other number is
pub folded-unique : (side : ℕ) (c k : ℤ) (x : ℕ) → x < side → pos x ≡ c +ℤ k *ℤ pos side → folded side c ≡ x
folded-unique side c k x h e =
    let f = folded_turns side c (omega arith) in
    let turn : (f.0 -ℤ k) *ℤ pos side ≡ f.0 *ℤ pos side -ℤ k *ℤ pos side =
    omega (arith, ints, *ℤ_comm (f.0 -ℤ k) (pos side), *ℤ_comm f.0 (pos side), *ℤ_comm k (pos side), *ℤ-+ℤ (pos side) f.0 (neg_ℤ k), *ℤ-neg_ℤ (pos side) k) in
    let z : pos (folded side c) -ℤ pos x ≡ pos 0 = no_turn side (f.0 -ℤ k) (pos (folded side c) -ℤ pos x) (omega (arith, ints, f.1, turn)) (omega (arith, ints, f.1)) (omega (arith, ints, f.1)) in
    omega (arith, ints)

-- the coordinate after x is x + 1, but at the boundary
pub next_along-cases : (side x : ℕ) → ((x + 1 ≡ side) × (next_along side x ≡ 0)) ⊎ ((x + 1 ≢ side) × (next_along side x ≡ x + 1))
next_along-cases side x = elim (cases_eq (x + 1) side) [ inl e ↦ inl (e, ap (λ b. cond b 0 (x + 1)) (eq-eqb (x + 1) side e)) | inr n ↦ inr (n, ap (λ b. cond b 0 (x + 1)) (ne_eqb (x + 1) side n)) ]

pub previous_along-cases : (side x : ℕ) → ((x ≡ 0) × (previous_along side x ≡ side - 1)) ⊎ ((x ≢ 0) × (previous_along side x ≡ x - 1))
previous_along-cases side x = elim (cases_eq x 0) [ inl e ↦ inl (e, ap (λ b. cond b (side - 1) (x - 1)) (eq-eqb x 0 e)) | inr n ↦ inr (n, ap (λ b. cond b (side - 1) (x - 1)) (ne_eqb x 0 n)) ]

-- one turn more or less
one_turn : (side : ℕ) (k : ℤ) → ((k +ℤ pos 1) *ℤ pos side ≡ k *ℤ pos side +ℤ pos side) × ((k -ℤ pos 1) *ℤ pos side ≡ k *ℤ pos side -ℤ pos side)
one_turn side k = (omega (arith, ints, *ℤ_comm (k +ℤ pos 1) (pos side), *ℤ_comm k (pos side), *ℤ-+ℤ (pos side) k (pos 1)), omega (arith, ints, *ℤ_comm (k -ℤ pos 1) (pos side), *ℤ_comm k (pos side), *ℤ-+ℤ (pos side) k (negsuc 0)))

-- a step up leads to the next coordinate through the boundary, and a step down to the one before
pub folded-up : (side : ℕ) (c : ℤ) → 0 < side → folded side (c +ℤ pos 1) ≡ next_along side (folded side c)
folded-up side c h =
    let f = folded_turns side c h in
    let t = one_turn side f.0 in
    elim (next_along-cases side (folded side c)) [
      | inl n ↦ folded-unique side (c +ℤ pos 1) (f.0 -ℤ pos 1) _ (omega arith) (omega (arith, ints, f.1, t, n))
      | inr n ↦ folded-unique side (c +ℤ pos 1) f.0 _ (omega (arith, f.1, n)) (omega (arith, ints, f.1, n))
    ]

pub folded-down : (side : ℕ) (c : ℤ) → 0 < side → folded side (c -ℤ pos 1) ≡ previous_along side (folded side c)
folded-down side c h =
    let f = folded_turns side c h in
    let t = one_turn side f.0 in
    elim (previous_along-cases side (folded side c)) [
      | inl n ↦ folded-unique side (c -ℤ pos 1) (f.0 +ℤ pos 1) _ (omega (arith, n)) (omega (arith, ints, f.1, t, n))
      | inr n ↦ folded-unique side (c -ℤ pos 1) f.0 _ (omega (arith, f.1, n)) (omega (arith, ints, f.1, n))
    ]
