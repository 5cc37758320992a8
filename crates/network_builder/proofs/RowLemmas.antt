-- Rows of neighbours in ascending order: two with the same members are one.
use Rattle.std.proofs.Common.{◌≡◌, ℕ, zero, suc, ◌+◌, ◌<◌, ◌≤◌, Bool, true, false, cond, ◌||◌, nat_eq, ◌⊎◌, inl, inr, List, [], ◌∷◌, refl, ap, sym, ◌∙◌, subst, arith}
use Rattle.std.specs.List.{filter, range_with_len, AllByRecursion}
use Rattle.std.proofs.lemmas.Bool.{cases_order, cases_lt}
use Rattle.std.proofs.lemmas.Bool.Decides.{nat_tests}
use Rattle.bfm_world.specs.Bonds.{IsAscending}
use Rattle.bfm_world.proofs.BondLemmas.{has, eq-test}

-- a number below all others is not among them
has-below : (j : ℕ) (row : List ℕ) → AllByRecursion (λ m. j < m) row → has j row ≡ false
has-below j [] h = refl
has-below j (k ∷ ks) h = let other : nat_eq k j ≡ false = grind (arith, nat_tests, h.0) in ap (λ t. t || has j ks) other ∙ has-below j ks h.1

below-from : (j k : ℕ) (row : List ℕ) → j ≤ k → AllByRecursion (λ m. k < m) row → AllByRecursion (λ m. j < m) row
below-from j k [] l h = tt
below-from j k (m ∷ ms) l h = (omega (arith, h.0), below-from j k ms l h.1)

has-first : (j : ℕ) (row : List ℕ) → has j (j ∷ row) ≡ true
has-first j row = ap (λ t. t || has j row) (eq-test j)

not_both : (b : Bool) → b ≡ true → b ≡ false → ⊥
not_both b h k = let e = sym h ∙ k in absurd (cc)

has-up_to : (k j : ℕ) (row : List ℕ) → j ≤ k → AllByRecursion (λ m. k < m) row → has j row ≡ false
has-up_to k j row l h = has-below j row (below-from j k row l h)

-- the members of two rows that begin alike
rest_same : (x : ℕ) (xs ys : List ℕ) → AllByRecursion (λ m. x < m) xs → AllByRecursion (λ m. x < m) ys → ((j : ℕ) → has j (x ∷ xs) ≡ has j (x ∷ ys)) → (j : ℕ) → has j xs ≡ has j ys
rest_same x xs ys a b same j = by_place (cases_lt x j)
  where
    by_place : (x < j) ⊎ (j ≤ x) → has j xs ≡ has j ys
    by_place (inl l) =
        let other : nat_eq x j ≡ false = grind (arith, nat_tests) in
        sym (ap (λ t. t || has j xs) other) ∙ (same j ∙ ap (λ t. t || has j ys) other)
    by_place (inr l) = has-up_to x j xs l a ∙ sym (has-up_to x j ys l b)

pub ascending_same : (xs ys : List ℕ) → IsAscending xs → IsAscending ys → ((j : ℕ) → has j xs ≡ has j ys) → xs ≡ ys
ascending_same [] [] a b same = refl
ascending_same [] (y ∷ ys) a b same = absurd (not_both _ (has-first y ys) (sym (same y)))
ascending_same (x ∷ xs) [] a b same = absurd (not_both _ (has-first x xs) (same x))
ascending_same (x ∷ xs) (y ∷ ys) a b same =
    elim (cases_order x y) [
      | inl e ↦
          let above : AllByRecursion (λ m. x < m) ys = subst (λ z. AllByRecursion (λ m. z < m) ys) (sym e) b.0 in
          let members : (j : ℕ) → has j (x ∷ xs) ≡ has j (x ∷ ys) = λ j. same j ∙ ap (λ z. has j (z ∷ ys)) (sym e) in
          ap (λ z. z ∷ xs) e ∙ ap (λ zs. y ∷ zs) (ascending_same xs ys a.1 b.1 (rest_same x xs ys a.0 above members))
      | inr (inl l) ↦ absurd (not_both _ (has-first x xs) (same x ∙ has-below x (y ∷ ys) (l, below-from x y ys (omega arith) b.0)))
      | inr (inr l) ↦ absurd (not_both _ (has-first y ys) (sym (same y) ∙ has-below y (x ∷ xs) (l, below-from y x xs (omega arith) a.0)))
    ]

-- ---- the numbers of a range that pass a test
module _ (p : ℕ → Bool) where
  abbrev kept : ℕ → ℕ → List ℕ
  kept a n = filter p (range_with_len a n)

  above-filter : (k a n : ℕ) → k < a → AllByRecursion (λ m. k < m) (kept a n)
  above-filter k a zero l = tt
  above-filter k a (suc n) l =
      let rest = above-filter k (a + 1) n (omega arith) in
      elim (p a) as (λ t. AllByRecursion (λ m. k < m) (cond t (a ∷ kept (a + 1) n) (kept (a + 1) n))) [ true ↦ (l, rest) | false ↦ rest ]

  pub IsAscending-filter : (a n : ℕ) → IsAscending (kept a n)
  IsAscending-filter a zero = tt
  IsAscending-filter a (suc n) =
      let rest = IsAscending-filter (a + 1) n in
      elim (p a) as (λ t. IsAscending (cond t (a ∷ kept (a + 1) n) (kept (a + 1) n))) [ true ↦ (above-filter a (a + 1) n (omega arith), rest) | false ↦ rest ]

  below-filter : (a n j : ℕ) → j < a → has j (kept a n) ≡ false
  below-filter a n j l = has-below j (kept a n) (above-filter j a n l)

  pub beyond-filter : (a n j : ℕ) → a + n ≤ j → has j (kept a n) ≡ false
  beyond-filter a zero j l = refl
  beyond-filter a (suc n) j l =
      let rest = beyond-filter (a + 1) n j (omega arith) in
      let other : nat_eq a j ≡ false = grind (arith, nat_tests) in
      elim (p a) as (λ t. has j (cond t (a ∷ kept (a + 1) n) (kept (a + 1) n)) ≡ false) [ true ↦ ap (λ t. t || has j (kept (a + 1) n)) other ∙ rest | false ↦ rest ]

  -- the first of the range is kept where it passes, and the others are not it
  first-filter : (a n j : ℕ) → a ≡ j → (t : Bool) → t ≡ p j → has j (cond t (a ∷ kept (a + 1) n) (kept (a + 1) n)) ≡ p j
  first-filter a n j e true h = let same : nat_eq a j ≡ true = grind (arith, nat_tests) in ap (λ t. t || has j (kept (a + 1) n)) same ∙ h
  first-filter a n j e false h = below-filter (a + 1) n j (omega arith) ∙ h

  later-filter : (a n j : ℕ) → a < j → has j (kept (a + 1) n) ≡ p j → (t : Bool) → has j (cond t (a ∷ kept (a + 1) n) (kept (a + 1) n)) ≡ p j
  later-filter a n j l rest true = let other : nat_eq a j ≡ false = grind (arith, nat_tests) in ap (λ t. t || has j (kept (a + 1) n)) other ∙ rest
  later-filter a n j l rest false = rest

  pub inside-filter : (a n j : ℕ) → a ≤ j → j < a + n → has j (kept a n) ≡ p j
  inside-filter a zero j l h = absurd (omega arith)
  inside-filter a (suc n) j l h = elim (cases_lt a j) [
    | inl k ↦ later-filter a n j k (inside-filter (a + 1) n j (omega arith) (omega arith)) (p a)
    | inr k ↦ let here : a ≡ j = omega arith in first-filter a n j here (p a) (ap p here)
  ]
