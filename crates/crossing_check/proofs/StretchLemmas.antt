-- A search through numbers in ascending order, and the order of lists of numbers.
use Rattle.std.proofs.Common.{◌≡◌, ◌≤◌, ℤ, pos, negsuc, nat_abs, ◌+ℤ◌, ◌<ℤ◌, ◌≤ℤ◌, ◌⊎◌, inl, inr, List, [], ◌∷◌, true, false, to_z, of_z, w64, sym, subst, arith}
use Rattle.std.proofs.lemmas.Int.{ints, by_lt_z}
use Rattle.std.specs.Int.Signed.{lt_z}
use Rattle.bond_set.specs.Crossing.{Precedes}

-- The search for the first number with a property has come to a number: none before it has the property, nor has any from the end on.
pub record Searched (P : ℤ → Type 0) (now end : ℤ) : Type 0 where
  pub from : negsuc 5 ≤ℤ now
  pub to : end ≤ℤ pos 7
  pub all : (n : ℤ) → P n → n <ℤ end
  pub none : (n : ℤ) → n <ℤ now → ¬ (P n)

-- a small number as the code holds it
pub coded : (z : ℤ) → nat_abs z ≤ 7 → to_z w64 (of_z w64 z) ≡ z
coded z h = omega (arith, ints)

-- it begins where no number before has the property
pub Searched-begin : (P : ℤ → Type 0) (from end : ℤ) → (nat_abs from ≤ 6) × (nat_abs end ≤ 7) → ((n : ℤ) → P n → (from ≤ℤ n) × (n <ℤ end)) → Searched P from end
Searched-begin P from end reach all = record {
  from = omega (arith, ints, reach.0);
  to = omega (arith, ints, reach.1);
  all = λ n p. (all n p).1;
  none = λ n below p. let within : from ≤ℤ n = (all n p).0 in omega (arith, ints);
}

-- the next number, as the code holds it
pub Searched-next : (P : ℤ → Type 0) (now end : ℤ) → Searched P now end → lt_z now end ≡ true → ¬ (P now) → Searched P (to_z w64 (of_z w64 (now +ℤ pos 1))) end
Searched-next P now end s within here =
    let from : negsuc 5 ≤ℤ now = s.from in
    let to : end ≤ℤ pos 7 = s.to in
    let sum : to_z w64 (of_z w64 (now +ℤ pos 1)) ≡ now +ℤ pos 1 = coded (now +ℤ pos 1) (small now end from to within) in
    subst (λ n. Searched P n end) (sym sum) (record {
      from = omega (arith, ints);
      to = to;
      all = s.all;
      none = λ n below p. elim (cases n now below) [ inl before ↦ s.none n before p | inr same ↦ here (subst P same p) ];
    })
  where
    small : (now end : ℤ) → negsuc 5 ≤ℤ now → end ≤ℤ pos 7 → lt_z now end ≡ true → nat_abs (now +ℤ pos 1) ≤ 7
    small now end h k l = grind (arith, ints)

    cases : (n now : ℤ) → n <ℤ (now +ℤ pos 1) → (n <ℤ now) ⊎ (n ≡ now)
    cases n now h = by_lt_z n now (λ less. inl less) (λ more. inr (omega (arith, ints)))

-- at the end no number has the property
pub Searched-end : (P : ℤ → Type 0) (now end : ℤ) → Searched P now end → lt_z now end ≡ false → (n : ℤ) → ¬ (P n)
Searched-end P now end s h n p = s.none n (before n now end (s.all n p) h) p
  where
    before : (n now end : ℤ) → n <ℤ end → lt_z now end ≡ false → n <ℤ now
    before n now end h k = grind (arith, ints)

-- ---- order
-- the same number first
pub Precedes-same : (x y : ℤ) (xs ys : List ℤ) → x ≡ y → Precedes (x ∷ xs) (y ∷ ys) → Precedes xs ys
Precedes-same x y xs ys e (inl less) = absurd (omega (arith, ints))
Precedes-same x y xs ys e (inr rest) = rest.1

-- a single number is before another where it is less
pub Precedes-last : (x y : ℤ) → Precedes (x ∷ []) (y ∷ []) → x <ℤ y
Precedes-last x y (inl less) = less
Precedes-last x y (inr rest) = absurd rest.1
