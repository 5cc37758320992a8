-- A stroke over a range, by the numbers at its ends and the blocks between them.
use Rattle.std.proofs.Common.{◌≡◌, ℕ, ◌+◌, ◌*◌, ◌<◌, ◌≤◌, Bool, true, false, cond, inl, inr, ◌⊎◌, max, refl, arith}
use Rattle.std.proofs.lemmas.Bool.Decides.{nat_tests}
use Rattle.bfm_commands.specs.Strokes.{is_from_to, is_within}

inside : (from to i : ℕ) → from ≤ i → i < to → is_within from to i ≡ true
inside from to i l m = grind (arith, nat_tests)

before : (from to i : ℕ) → i < from → is_within from to i ≡ false
before from to i l = grind (arith, nat_tests)

behind : (from to i : ℕ) → to ≤ i → is_within from to i ≡ false
behind from to i l = grind (arith, nat_tests)

spanned : (first last i : ℕ) → first ≤ i → i ≤ last → is_from_to first last i ≡ true
spanned first last i l m = grind (arith, nat_tests)

short_of : (first last i : ℕ) → i < first → is_from_to first last i ≡ false
short_of first last i l = grind (arith, nat_tests)

beyond : (first last i : ℕ) → last < i → is_from_to first last i ≡ false
beyond first last i l = grind (arith, nat_tests)

-- the stroke is the greatest
greatest : (s o b : ℕ) → max o b ≤ s → (x y z : Bool) → (x ≡ true) ⊎ ((y ≡ true) ⊎ (z ≡ true)) → max (cond z s (cond x s o)) (cond y s b) ≡ s
greatest s o b l true true true h = omega arith
greatest s o b l true true false h = omega arith
greatest s o b l true false true h = omega (arith, l)
greatest s o b l true false false h = omega (arith, l)
greatest s o b l false true true h = omega arith
greatest s o b l false true false h = omega (arith, l)
greatest s o b l false false true h = omega (arith, l)
greatest s o b l false false false (inl e) = absurd (cc)
greatest s o b l false false false (inr (inl e)) = absurd (cc)
greatest s o b l false false false (inr (inr e)) = absurd (cc)

either : (a b : ℕ) → (a < b) ⊎ (b ≤ a)
either a b = grind (arith, nat_tests)

module _ (first last from to i q s o b : ℕ) (l : max o b ≤ s) (low : q * 512 ≤ i) (high : i < q * 512 + 512) where
  -- the ends, and whole blocks between them
  pub over-blocks : first ≤ from * 512 → from < to → to * 512 ≤ last + 1
      → max (cond (is_within (to * 512) (last + 1) i) s (cond (is_within first (from * 512) i) s o)) (cond (is_within from to q) s b) ≡ cond (is_from_to first last i) s (max o b)
  over-blocks f m t =
      elim (either i first) [
        | inl x ↦ rw (short_of first last i x, before first (from * 512) i x, before (to * 512) (last + 1) i (omega (arith, f, m, x)), before from to q (omega (arith, f, low, x))) refl
        | inr x ↦ elim (either last i) [
          | inl y ↦ rw (beyond first last i y, behind first (from * 512) i (omega (arith, m, t, y)), behind (to * 512) (last + 1) i (omega (arith, y)), behind from to q (omega (arith, t, high, y))) refl
          | inr y ↦ rw (spanned first last i x y) (greatest s o b l (is_within first (from * 512) i) (is_within from to q) (is_within (to * 512) (last + 1) i) (elim (either i (from * 512)) [
            | inl z ↦ inl (inside first (from * 512) i x z)
            | inr z ↦ elim (either i (to * 512)) [
              | inl u ↦ inr (inl (inside from to q (omega (arith, high, z)) (omega (arith, low, u))))
              | inr u ↦ inr (inr (inside (to * 512) (last + 1) i u (omega (arith, y))))
            ]
          ]))
        ]
      ]

-- no whole block
pub over-ones : (first last i s o b : ℕ) → max o b ≤ s → max (cond (is_within first (last + 1) i) s o) b ≡ cond (is_from_to first last i) s (max o b)
over-ones first last i s o b l =
    elim (either i first) [
      | inl x ↦ rw (short_of first last i x, before first (last + 1) i x) refl
      | inr x ↦ elim (either last i) [
        | inl y ↦ rw (beyond first last i y, behind first (last + 1) i (omega (arith, y))) refl
        | inr y ↦ rw (spanned first last i x y, inside first (last + 1) i x (omega (arith, y))) (omega (arith, l))
      ]
    ]
