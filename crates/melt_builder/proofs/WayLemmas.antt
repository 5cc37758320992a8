-- Going to and fro along the lines of a field: no place comes twice, and each is beside the one before it.
use Rattle.std.proofs.Common.{◌≡◌, ℕ, ◌+◌, ◌-◌, ◌*◌, ◌/◌, ◌%◌, ◌<◌, Bool, true, false, cond, not, nat_eq, inl, inr, refl, ap, sym, ◌∙◌, arith}
use Rattle.std.proofs.Math.Nat.{mul_comm, mul_assoc}
use Rattle.std.proofs.lemmas.Bool.{cases_lt}
use Rattle.std.proofs.lemmas.Bool.Decides.{nat_tests}
use Rattle.std.proofs.lemmas.Nat.{mod_below, div_below, div-add-mod', div-mul-add, mod-mul-add}
use Rattle.melt_builder.specs.Melt.{to_and_fro}

pub to_and_fro-below : (n k : ℕ) → 0 < n → to_and_fro n k < n
to_and_fro-below n k h = by_line (nat_eq (k / n % 2) 0)
  where
    by_line : (even : Bool) → cond even (k % n) (n - 1 - k % n) < n
    by_line true = mod_below k n h
    by_line false = omega arith

-- on one line, no place comes twice
pub to_and_fro-same : (n j k : ℕ) → 0 < n → j / n ≡ k / n → to_and_fro n j ≡ to_and_fro n k → j ≡ k
to_and_fro-same n j k h line place =
    let same : j % n ≡ k % n = by_line (nat_eq (k / n % 2) 0) (ap (λ g. cond (nat_eq (g % 2) 0) (j % n) (n - 1 - j % n)) (sym line) ∙ place) in
    sym (div-add-mod' j n) ∙ (ap (λ g. g * n + j % n) line ∙ (ap (λ c. k / n * n + c) same ∙ div-add-mod' k n))
  where
    by_line : (even : Bool) → cond even (j % n) (n - 1 - j % n) ≡ cond even (k % n) (n - 1 - k % n) → j % n ≡ k % n
    by_line true e = e
    by_line false e = omega (arith, mod_below j n h, mod_below k n h)

-- The next step leads one place along the line, or over to the next line.
pub data NextStep (n k : ℕ) : Type 0 where
  forth : (k + 1) / n ≡ k / n → to_and_fro n (k + 1) ≡ to_and_fro n k + 1 → NextStep n k
  back : (k + 1) / n ≡ k / n → to_and_fro n k ≡ to_and_fro n (k + 1) + 1 → NextStep n k
  over : (k + 1) / n ≡ k / n + 1 → to_and_fro n (k + 1) ≡ to_and_fro n k → NextStep n k

to_and_fro-at : (n k g c : ℕ) → k / n ≡ g → k % n ≡ c → to_and_fro n k ≡ cond (nat_eq (g % 2) 0) c (n - 1 - c)
to_and_fro-at n k g c line place =
    ap (λ g. cond (nat_eq (g % 2) 0) (k % n) (n - 1 - k % n)) line ∙ ap (λ c. cond (nat_eq (g % 2) 0) c (n - 1 - c)) place

even_next : (g : ℕ) → nat_eq ((g + 1) % 2) 0 ≡ not (nat_eq (g % 2) 0)
even_next g = grind (arith, nat_tests)

pub next_step : (n k : ℕ) → 0 < n → NextStep n k
next_step n k h =
    elim (cases_lt (k % n + 1) n) [
      | inl l ↦
          let e : k + 1 ≡ k / n * n + (k % n + 1) = omega (arith, div-add-mod' k n) in
          let line : (k + 1) / n ≡ k / n = ap (λ m. m / n) e ∙ div-mul-add (k / n) n (k % n + 1) l in
          let place : (k + 1) % n ≡ k % n + 1 = ap (λ m. m % n) e ∙ mod-mul-add (k / n) n (k % n + 1) l in
          on_line l line (to_and_fro-at n (k + 1) (k / n) (k % n + 1) line place) (nat_eq (k / n % 2) 0) refl
      | inr l ↦
          let last : k % n ≡ n - 1 = omega (arith, mod_below k n h) in
          let e : k + 1 ≡ (k / n + 1) * n + 0 = omega (arith, div-add-mod' k n) in
          let line : (k + 1) / n ≡ k / n + 1 = ap (λ m. m / n) e ∙ div-mul-add (k / n + 1) n 0 h in
          let place : (k + 1) % n ≡ 0 = ap (λ m. m % n) e ∙ mod-mul-add (k / n + 1) n 0 h in
          over line (
          to_and_fro-at n (k + 1) (k / n + 1) 0 line place
          ∙ (ap (λ even. cond even 0 (n - 1 - 0)) (even_next (k / n))
          ∙ (turned (nat_eq (k / n % 2) 0) ∙ sym (to_and_fro-at n k (k / n) (n - 1) refl last)))
          )
    ]
  where
    on_line : k % n + 1 < n → (k + 1) / n ≡ k / n → to_and_fro n (k + 1) ≡ cond (nat_eq (k / n % 2) 0) (k % n + 1) (n - 1 - (k % n + 1)) → (even : Bool) → nat_eq (k / n % 2) 0 ≡ even → NextStep n k
    on_line l line e true t =
        forth line (e ∙ (ap (λ even. cond even (k % n + 1) (n - 1 - (k % n + 1))) t ∙ ap (λ even. cond even (k % n) (n - 1 - k % n) + 1) (sym t)))
    on_line l line e false t =
        let here : to_and_fro n k ≡ n - 1 - k % n = ap (λ even. cond even (k % n) (n - 1 - k % n)) t in
        let there : to_and_fro n (k + 1) ≡ n - 1 - (k % n + 1) = e ∙ ap (λ even. cond even (k % n + 1) (n - 1 - (k % n + 1))) t in
        back line (here ∙ ((omega arith) ∙ ap (λ m. m + 1) (sym there)))

    turned : (even : Bool) → cond (not even) 0 (n - 1 - 0) ≡ cond even (n - 1) (n - 1 - (n - 1))
    turned true = omega arith
    turned false = omega arith

-- so many lines fill a layer, and so many layers the field
pub layer_below : (a b c k : ℕ) → 0 < a → 0 < b → k < a * b * c → k / a / b < c
layer_below a b c k ha hb l =
    let turned : a * b * c ≡ c * b * a = ap (λ m. m * c) (mul_comm a b) ∙ (mul_comm (b * a) c ∙ sym (mul_assoc c b a)) in
    div_below (k / a) b c hb (div_below k a (c * b) ha (omega arith))
