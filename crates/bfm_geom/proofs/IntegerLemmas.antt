-- The laws of the product of whole numbers, and of its order.
use Rattle.std.proofs.Common.{◌≡◌, ℕ, zero, suc, ◌*◌, ◌≤◌, sym, ◌∙◌, ap, arith, ℤ, pos, negsuc, neg_ℤ, ◌+ℤ◌, ◌*ℤ◌, ◌<ℤ◌, ◌≤ℤ◌, nat_abs}
use Rattle.std.proofs.lemmas.Int.{ints, unsigned_abs-mul}
use Rattle.std.proofs.lemmas.Nat.{mul-le}
use Rattle.std.proofs.Math.IntN.{*ℤ_comm, neg_ℤ-+ℤ, neg_ℤ-neg_ℤ, *ℤ-zero, zero-*ℤ}
use borrow.Author.Differences.{up, down, fits_out, fits_in, abs_is, mag_is, back_is, small_is, read_fits, bits_is, true_is_lt, false_is_lt, true_is_le, false_is_le, same_in, same_out, sum_is_lem, neg_is, product_is, Apart-out, lt_T, le_T, lt_not, le_not, lt-true, lt-false, le-true, le-false, true-lt, false-lt, true-le, false-le, lt_out, le_out, lt_in, le_in, below_in, at_most_in}

-- omega's reading of whole numbers, with each product taken as it stands
pub ruleset sums = (fits_out, fits_in, abs_is, mag_is, back_is, small_is, read_fits, bits_is, true_is_lt, false_is_lt, true_is_le, false_is_le, same_out, Apart-out, lt_T, le_T, lt_not, le_not, lt-true, lt-false, le-true, le-false, true-lt, false-lt, true-le, false-le, lt_out, le_out, same_in, lt_in, le_in, below_in, at_most_in, sum_is_lem, neg_is)

-- a product with a sum, and with a negative
pub *ℤ-+ℤ : (a b c : ℤ) → a *ℤ (b +ℤ c) ≡ a *ℤ b +ℤ a *ℤ c
*ℤ-+ℤ a b c = omega (arith, ints, ap (λ n. up a * n) (sum_is_lem b c), ap (λ n. down a * n) (sum_is_lem b c))

pub +ℤ-*ℤ : (a b c : ℤ) → (a +ℤ b) *ℤ c ≡ a *ℤ c +ℤ b *ℤ c
+ℤ-*ℤ a b c = omega (arith, ints, ap (λ n. up c * n) (sum_is_lem a b), ap (λ n. down c * n) (sum_is_lem a b))

pub *ℤ-neg_ℤ : (a b : ℤ) → a *ℤ neg_ℤ b ≡ neg_ℤ (a *ℤ b)
*ℤ-neg_ℤ a b = omega (arith, ints, ap (λ n. up a * n) (neg_is b).0, ap (λ n. down a * n) (neg_is b).0, ap (λ n. up a * n) (neg_is b).1, ap (λ n. down a * n) (neg_is b).1)

pub neg_ℤ-*ℤ : (a b : ℤ) → neg_ℤ a *ℤ b ≡ neg_ℤ (a *ℤ b)
neg_ℤ-*ℤ a b = *ℤ_comm (neg_ℤ a) b ∙ *ℤ-neg_ℤ b a ∙ ap neg_ℤ (*ℤ_comm b a)

-- factors in another order
pub *ℤ_assoc : (a b c : ℤ) → (a *ℤ b) *ℤ c ≡ a *ℤ (b *ℤ c)
*ℤ_assoc a b c =
    omega (
      arith,
      ints,
      ap (λ n. n * up c) (product_is a b).0,
      ap (λ n. n * down c) (product_is a b).0,
      ap (λ n. n * up c) (product_is a b).1,
      ap (λ n. n * down c) (product_is a b).1,
      ap (λ n. up a * n) (product_is b c).0,
      ap (λ n. down a * n) (product_is b c).0,
      ap (λ n. up a * n) (product_is b c).1,
      ap (λ n. down a * n) (product_is b c).1,
    )

pub *ℤ_left_comm : (a b c : ℤ) → a *ℤ (b *ℤ c) ≡ b *ℤ (a *ℤ c)
*ℤ_left_comm a b c = sym (*ℤ_assoc a b c) ∙ ap (λ t. t *ℤ c) (*ℤ_comm a b) ∙ *ℤ_assoc b a c

-- a factor of 1
pub *ℤ-pos_one : (a : ℤ) → a *ℤ pos 1 ≡ a
*ℤ-pos_one a = omega (arith, ints)

pub pos_one-*ℤ : (a : ℤ) → pos 1 *ℤ a ≡ a
pos_one-*ℤ a = omega (arith, ints)

-- multiplies out, and sorts each product's factors
pub ruleset products = (*ℤ-+ℤ, +ℤ-*ℤ, *ℤ-neg_ℤ, neg_ℤ-*ℤ, neg_ℤ-+ℤ, neg_ℤ-neg_ℤ, *ℤ_assoc, *ℤ_comm, *ℤ_left_comm, *ℤ-zero, zero-*ℤ, *ℤ-pos_one, pos_one-*ℤ)

-- a product of numbers that are at least 0, or above 0
pub *ℤ_nonnegative : (a b : ℤ) → pos 0 ≤ℤ a → pos 0 ≤ℤ b → pos 0 ≤ℤ (a *ℤ b)
*ℤ_nonnegative (pos a) (pos b) h k = omega (arith, ints)
*ℤ_nonnegative (pos a) (negsuc b) h k = absurd (omega (arith, ints))
*ℤ_nonnegative (negsuc a) b h k = absurd (omega (arith, ints))

pub *ℤ_positive : (a b : ℤ) → pos 0 <ℤ a → pos 0 <ℤ b → pos 0 <ℤ (a *ℤ b)
*ℤ_positive (pos zero) b h k = absurd (omega (arith, ints))
*ℤ_positive (pos (suc a)) (pos zero) h k = absurd (omega (arith, ints))
*ℤ_positive (pos (suc a)) (pos (suc b)) h k = omega (arith, ints)
*ℤ_positive (pos a) (negsuc b) h k = absurd (omega (arith, ints))
*ℤ_positive (negsuc a) b h k = absurd (omega (arith, ints))

-- how large a product is
pub nat_abs-*ℤ_most : (a b : ℤ) (m n : ℕ) → nat_abs a ≤ m → nat_abs b ≤ n → nat_abs (a *ℤ b) ≤ m * n
nat_abs-*ℤ_most a b m n h k = rw unsigned_abs-mul (mul-le (nat_abs a) (nat_abs b) m n h k)
