-- Sums and differences of vectors, and how large they are.
use Rattle.std.proofs.Common.{◌≡◌, ℕ, zero, suc, ◌+◌, ◌*◌, ◌-◌, ◌<◌, ◌≤◌, List, [], ◌∷◌, length, get_or, ℤ, nat_abs, ◌+ℤ◌, ◌-ℤ◌, arith, subst, ⊎_elim}
use Rattle.std.specs.List.{range_with_len}
use Rattle.std.proofs.lemmas.List.Elements.{All-contains}
use Rattle.std.proofs.lemmas.Map.Views.{Contains-from_any}
use Rattle.std.proofs.Math.Nat.{mul-le-mul, le_of_mul-le-mul_left}
use Rattle.std.proofs.lemmas.Int.{ints}
use Rattle.std.proofs.lemmas.Bool.{cases_lt, eqb-true}
use Rattle.std.proofs.lemmas.List.{map-id}
use Rattle.std.proofs.lemmas.List.FromFn.{sum_by-map-range_with_len_more}
use Rattle.std.proofs.lemmas.Map.Steps.{length-le_from_distinct_below}
use Rattle.bfm_base.specs.declared.place.P3.{P3}
use Rattle.bfm_geom.specs.Difference.{IsWithin, plus, minus, square_of}
use Rattle.bfm_world.specs.Configuration.{Configuration, reach_of}
use Rattle.bfm_world.proofs.ReachLemmas.{IsWithin-from_extent}
use Rattle.chain_stats.specs.Fractions.{square_sum, AreMembers}

nat_abs-plus : (a b : ℤ) → nat_abs (a +ℤ b) ≤ nat_abs a + nat_abs b
nat_abs-plus a b = omega (arith, ints)

nat_abs-minus : (a b : ℤ) → nat_abs (a -ℤ b) ≤ nat_abs a + nat_abs b
nat_abs-minus a b = omega (arith, ints)

-- a sum is no longer than its parts together
pub IsWithin-plus : (a b : P3) (m n : ℕ) → IsWithin m a → IsWithin n b → IsWithin (m + n) (plus a b)
IsWithin-plus a b m n f g = record {
  x = omega (arith, nat_abs-plus a.x b.x, f.x, g.x);
  y = omega (arith, nat_abs-plus a.y b.y, f.y, g.y);
  z = omega (arith, nat_abs-plus a.z b.z, f.z, g.z);
}

pub IsWithin-minus : (a b : P3) (m n : ℕ) → IsWithin m a → IsWithin n b → IsWithin (m + n) (minus a b)
IsWithin-minus a b m n f g = record {
  x = omega (arith, nat_abs-minus a.x b.x, f.x, g.x);
  y = omega (arith, nat_abs-minus a.y b.y, f.y, g.y);
  z = omega (arith, nat_abs-minus a.z b.z, f.z, g.z);
}

pub IsWithin-more : (a : P3) (m n : ℕ) → m ≤ n → IsWithin m a → IsWithin n a
IsWithin-more a m n h f = record { x = omega (arith, f.x); y = omega (arith, f.y); z = omega (arith, f.z) }

-- each place of a list is within its reach
pub IsWithin-at : (places : List P3) (i n : ℕ) (d : P3) → reach_of places ≤ n → i < length places → IsWithin n (get_or places i d)
IsWithin-at [] i n d h l = absurd (omega arith)
IsWithin-at (p ∷ ps) zero n d h l = IsWithin-from_extent p n (omega arith)
IsWithin-at (p ∷ ps) (suc i) n d h l = IsWithin-at ps i n d (omega arith) (omega arith)

-- no more members than monomers
pub few_members : (w : Configuration) (members : List ℕ) → AreMembers w members → length members ≤ length w.positions
few_members w members m =
    length-le_from_distinct_below members (length w.positions) m.each_once
    (λ q h. All-contains (λ i. i < length w.positions) members q m.there (Contains-from_any eqb-true q members h))

two_products_above : (a d : ℕ) → 2 * (a * (a + d)) ≤ a * a + (a + d) * (a + d)
two_products_above a d = omega arith

two_products_below : (b d : ℕ) → 2 * ((b + d) * b) ≤ (b + d) * (b + d) + b * b
two_products_below b d = omega arith

above : (a b : ℕ) → a < b → a + (b - a) ≡ b
above a b h = omega arith

below : (a b : ℕ) → b ≤ a → b + (a - b) ≡ a
below a b h = omega arith

-- twice a product is at most the sum of the squares
two_products : (a b : ℕ) → 2 * (a * b) ≤ a * a + b * b
two_products a b =
    ⊎_elim
    (λ h. subst (λ (n : ℕ). 2 * (a * n) ≤ a * a + n * n) (above a b h) (two_products_above a (b - a)))
    (λ h. subst (λ (n : ℕ). 2 * (n * b) ≤ n * n + b * b) (below a b h) (two_products_below b (a - b)))
    (cases_lt a b)

product_none : (a b : ℕ) → a * a ≤ 0 → a * b ≡ 0
product_none zero b h = omega arith
product_none (suc a) b h = absurd (omega arith)

-- the same of three, where the squares of the first are at most k times q
products_spread : (a₁ a₂ a₃ b₁ b₂ b₃ k q : ℕ) → a₁ * a₁ + a₂ * a₂ + a₃ * a₃ ≤ k * q →
    2 * (a₁ * b₁ + a₂ * b₂ + a₃ * b₃) ≤ k * (b₁ * b₁ + b₂ * b₂ + b₃ * b₃) + q
products_spread a₁ a₂ a₃ b₁ b₂ b₃ zero q h =
    omega (arith, product_none a₁ b₁ (omega (arith, h)), product_none a₂ b₂ (omega (arith, h)), product_none a₃ b₃ (omega (arith, h)))
products_spread a₁ a₂ a₃ b₁ b₂ b₃ (suc k) q h =
    let n = suc k in
    let all : n * (2 * (a₁ * b₁ + a₂ * b₂ + a₃ * b₃)) ≤ n * (n * (b₁ * b₁ + b₂ * b₂ + b₃ * b₃) + q) =
    omega (arith, h, two_products a₁ (n * b₁), two_products a₂ (n * b₂), two_products a₃ (n * b₃)) in
    le_of_mul-le-mul_left all (omega arith)

-- the square of a sum
square-plus : (a b : ℤ) → nat_abs (a +ℤ b) * nat_abs (a +ℤ b) ≤ nat_abs a * nat_abs a + 2 * (nat_abs a * nat_abs b) + nat_abs b * nat_abs b
square-plus a b = let h = mul-le-mul (nat_abs-plus a b) (nat_abs-plus a b) in omega (arith, h)

-- the square of a sum of vectors is at most their number times the sum of their squares (Cauchy and Schwarz): one vector more
pub spread_more : (s v : P3) (k q : ℕ) → square_of s ≤ k * q → square_of (plus s v) ≤ (k + 1) * (q + square_of v)
spread_more s v k q h =
    let more = products_spread (nat_abs s.x) (nat_abs s.y) (nat_abs s.z) (nat_abs v.x) (nat_abs v.y) (nat_abs v.z) k q h in
    omega (arith, h, more, square-plus s.x v.x, square-plus s.y v.y, square-plus s.z v.z)

-- one monomer more of all
pub square_sum_more : (vector : ℕ → P3) (n : ℕ) → square_sum vector (range_with_len 0 (n + 1)) ≡ square_sum vector (range_with_len 0 n) + square_of (vector n)
square_sum_more vector n =
    let h = sum_by-map-range_with_len_more (λ i. square_of (vector i)) (λ i. i) 0 n n (omega arith) in
    simp map-id at h
