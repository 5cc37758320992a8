-- Monomers that ranges fix, one range after the other and one monomer after the other.
use Rattle.std.proofs.Common.{◌≡◌, ℕ, zero, suc, ◌+◌, ◌-◌, ◌<◌, ◌≤◌, Bool, true, false, cond, ◌||◌, List, [], ◌∷◌, ◌++◌, length, get_or, take, replicate, refl, ap, sym, ◌∙◌, arith, add-zero, zero-add}
use Rattle.std.proofs.Math.ListN.{set}
use Rattle.std.proofs.lemmas.List.{take_more}
use Rattle.bfm_commands.specs.History.{is_among, is_in_some, in_some_from}
use Rattle.bfm_commands.specs.declared.forms.Range.{Range}

abbrev pub nowhere : Range
nowhere = record { first = 0; last = 0 }

-- one range more
is_in_some-append : (ranges : List Range) (range : Range) (i : ℕ) → is_in_some (ranges ++ range ∷ []) i ≡ (is_among range i || is_in_some ranges i)
is_in_some-append [] range i = refl
is_in_some-append (r ∷ ranges) range i = ap (λ b. is_among r i || b) (is_in_some-append ranges range i) ∙ turned (is_among r i) (is_among range i)
  where
    turned : (a b : Bool) → (a || (b || is_in_some ranges i)) ≡ (b || (a || is_in_some ranges i))
    turned true true = refl
    turned true false = refl
    turned false b = refl

-- the stroke over a monomer that a range has or not, where so much was there before
abbrev laid : Bool → ℕ → ℕ
laid b old = cond b 1 old

-- the stroke of one range more
pub stroke-laid : (ranges : List Range) (k i old new : ℕ) → k < length ranges → new ≡ laid (is_among (get_or ranges k nowhere) i) old
    → old ≡ laid (is_in_some (take k ranges) i) 0 → new ≡ laid (is_in_some (take (k + 1) ranges) i) 0
stroke-laid ranges k i old new l is h =
    is
    ∙ (ap (laid (is_among (get_or ranges k nowhere) i)) h
    ∙ (by_test (is_among (get_or ranges k nowhere) i) (is_in_some (take k ranges) i)
    ∙ sym (ap (λ rs. laid (is_in_some rs i) 0) (take_more ranges k nowhere l) ∙ ap (λ b. laid b 0) (is_in_some-append (take k ranges) (get_or ranges k nowhere) i))))
  where
    by_test : (a b : Bool) → laid a (laid b 0) ≡ laid (a || b) 0
    by_test true b = refl
    by_test false b = refl

pub laid-some : (b : Bool) (n : ℕ) → n ≡ laid b 0 → 0 < n → b ≡ true
laid-some true n e l = refl
laid-some false n e l = absurd (omega (arith, e, l))

pub laid-none : (b : Bool) (n : ℕ) → n ≡ laid b 0 → n ≤ 0 → b ≡ false
laid-none true n e l = absurd (omega (arith, e, l))
laid-none false n e l = refl

-- one monomer more
in_some_from-more : (ranges : List Range) (i n : ℕ) → in_some_from ranges i (n + 1) ≡ in_some_from ranges i n ++ is_in_some ranges (i + n) ∷ []
in_some_from-more ranges i zero = ap (λ m. is_in_some ranges m ∷ []) (sym (add-zero i))
in_some_from-more ranges i (suc n) =
    let one : suc n + 1 ≡ suc (n + 1) = omega arith in
    let place : i + 1 + n ≡ i + suc n = omega arith in
    ap (in_some_from ranges i) one
    ∙ (ap (λ xs. is_in_some ranges i ∷ xs) (in_some_from-more ranges (i + 1) n) ∙ ap (λ m. is_in_some ranges i ∷ (in_some_from ranges (i + 1) n ++ is_in_some ranges m ∷ [])) place)

pub length-in_some_from : (ranges : List Range) (i n : ℕ) → length (in_some_from ranges i n) ≡ n
length-in_some_from ranges i zero = refl
length-in_some_from ranges i (suc n) = ap suc (length-in_some_from ranges (i + 1) n)

-- the marks of so many monomers, of which the first are told, and the others are not fixed
abbrev pub told : List Range → ℕ → ℕ → List Bool
told ranges i n = in_some_from ranges 0 i ++ replicate (n - i) false

mark-next : (xs : List Bool) (m : ℕ) → set (xs ++ replicate (suc m) false) (length xs) true ≡ (xs ++ true ∷ []) ++ replicate m false
mark-next [] m = refl
mark-next (x ∷ xs) m = ap (λ ys. x ∷ ys) (mark-next xs m)

pass-next : (xs : List Bool) (m : ℕ) → xs ++ replicate (suc m) false ≡ (xs ++ false ∷ []) ++ replicate m false
pass-next [] m = refl
pass-next (x ∷ xs) m = ap (λ ys. x ∷ ys) (pass-next xs m)

module _ (ranges : List Range) (i n : ℕ) (l : i < n) where
  left : n - i ≡ suc (n - (i + 1))
  left = omega arith

  more : (b : Bool) → is_in_some ranges i ≡ b → told ranges (i + 1) n ≡ (in_some_from ranges 0 i ++ b ∷ []) ++ replicate (n - (i + 1)) false
  more b e = ap (λ xs. xs ++ replicate (n - (i + 1)) false) (in_some_from-more ranges 0 i ∙ ap (λ x. in_some_from ranges 0 i ++ x ∷ []) (ap (is_in_some ranges) (zero-add i) ∙ e))

  pub told-fixed : is_in_some ranges i ≡ true → set (told ranges i n) i true ≡ told ranges (i + 1) n
  told-fixed e =
      let front = in_some_from ranges 0 i in
      ap (λ m. set (front ++ replicate m false) i true) left
      ∙ (ap (λ k. set (front ++ replicate (suc (n - (i + 1))) false) k true) (sym (length-in_some_from ranges 0 i))
      ∙ (mark-next front (n - (i + 1)) ∙ sym (more true e)))

  pub told-passed : is_in_some ranges i ≡ false → told ranges i n ≡ told ranges (i + 1) n
  told-passed e =
      let front = in_some_from ranges 0 i in
      ap (λ m. front ++ replicate m false) left ∙ (pass-next front (n - (i + 1)) ∙ sym (more false e))
