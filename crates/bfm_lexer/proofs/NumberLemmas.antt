-- The digits at the start of a text, and the number that they make.
use Rattle.std.proofs.Common.{◌≡◌, ℕ, IsSomeAnd, MatchOption, unwrap_or, cond, ◌&&◌, nat_eq, nat_lt, option_map, ℤ, pos, negsuc, neg_ℤ, unsigned_abs, ◌+◌, ◌*◌, ◌<◌, ◌≤◌, ◌^◌, min, true, false, List, [], ◌∷◌, length, take, drop, get_or, take_all, ◌-◌, Option, Some, None, refl, sym, ap, ◌∙◌, ⊎_elim, arith}
use Rattle.std.specs.List.{list_all}
use Rattle.std.specs.Str.Parse.{digits_value_after}
use Rattle.std.specs.Char.{is_ascii_digit, digit_value}
use Rattle.std.proofs.lemmas.Bool.{cases_Bool}
use Rattle.std.proofs.lemmas.Bool.Decides.{nat_tests}
use Rattle.bfm_base.specs.declared.cause.Cause.{Cause}
use Rattle.bfm_base.specs.declared.cause.Cause.TheVariants.{BadLine, OutOfLimit}
use Rattle.bfm_lexer.specs.Numbers.{natural_of, number_of}
use Rattle.bfm_lexer.specs.Fields.{◌>>=◌}
use Rattle.bfm_lexer.specs.Cursor.{digits_from, begins_with_digit, natural_at, number_at, minus, plus, capped, handed, handed_natural}

-- up to the limit two texts whose digits follow numbers give the same number, and the same stands behind them
pub record SameDigits (n : ℕ) (xs : List ℕ) (m : ℕ) (ys : List ℕ) : Type 0 where
  pub number : min (digits_from n xs).0 (2 ^ 62 + 1) ≡ min (digits_from m ys).0 (2 ^ 62 + 1)
  pub rest : (digits_from n xs).1 ≡ (digits_from m ys).1

-- numbers that are the same up to the limit stay so with the same digits behind them
pub digits_from-capped : (n m : ℕ) (ds : List ℕ) → min n (2 ^ 62 + 1) ≡ min m (2 ^ 62 + 1) → SameDigits n ds m ds
digits_from-capped n m [] same = record { number = same; rest = refl }
digits_from-capped n m (d ∷ ds) same =
    let more = digits_from-capped (n * 10 + digit_value d) (m * 10 + digit_value d) ds (omega (arith, same)) in
    ⊎_elim
    (λ digit. record { number = rw digit more.number; rest = rw digit more.rest })
    (λ other. record { number = rw other same; rest = rw other refl })
    (cases_Bool (is_ascii_digit d))

-- one digit more, where k stands for the number that it makes
pub SameDigits-step : (n k m : ℕ) (xs ys : List ℕ) → begins_with_digit xs ≡ true
    → min k (2 ^ 62 + 1) ≡ min (n * 10 + digit_value (get_or xs 0 0)) (2 ^ 62 + 1) → SameDigits n xs m ys
    → SameDigits k (take (length xs - 1) (drop 1 xs)) m ys
SameDigits-step n k m [] ys digit same reads = absurd (cc)
SameDigits-step n k m (d ∷ ds) ys digit same reads =
    let one = digits_from-capped k (n * 10 + digit_value d) ds same in
    let all : take (length (d ∷ ds) - 1) ds ≡ ds = take_all _ ds (omega arith) in
    rw all (record {
      number = one.number ∙ (rw digit at reads.number);
      rest = one.rest ∙ (rw digit at reads.rest);
    })

-- where the digits end
pub handed_natural-end : (k : ℕ) (xs text : List ℕ) → begins_with_digit text ≡ true → begins_with_digit xs ≡ false
    → SameDigits k xs 0 text → Some (min k (2 ^ 62 + 1), xs) ≡ handed_natural (natural_at text)
unfolding handed_natural
handed_natural-end k [] text digit other reads = rw (reads.number, reads.rest, digit) refl
handed_natural-end k (x ∷ xs) text digit other reads =
    let number = rw other at reads.number in
    let rest = rw other at reads.rest in
    rw (number, rest, digit) refl

-- no number is at the start of a text that begins with no digit
pub handed_natural-none : (text : List ℕ) → begins_with_digit text ≡ false → None ≡ handed_natural (natural_at text)
unfolding handed_natural
handed_natural-none text other = rw other refl

-- the first digit is its byte less that of the digit 0
pub digit_value-first : (xs : List ℕ) → begins_with_digit xs ≡ true → digit_value (get_or xs 0 0) + 48 ≡ get_or xs 0 0
digit_value-first [] digit = absurd (cc)
digit_value-first (d ∷ ds) digit = grind (arith, nat_tests)

-- the whole of a text was read
pub whole : {A : Type 0} → A × List ℕ → Option A
whole (number, []) = Some number
whole (number, b ∷ bs) = None

digits_whole : (n : ℕ) (text : List ℕ) → cond (list_all is_ascii_digit text) (Some (digits_value_after 10 n text)) None ≡ whole (digits_from n text)
unfolding whole
digits_whole n [] = refl
digits_whole n (d ∷ ds) =
    ⊎_elim
    (λ (digit : is_ascii_digit d ≡ true). rw digit (digits_whole (n * 10 + digit_value d) ds))
    (λ (other : is_ascii_digit d ≡ false). rw other refl)
    (cases_Bool (is_ascii_digit d))

natural_whole : (text : List ℕ) → natural_of text ≡ (natural_at text >>= whole)
natural_whole [] = refl
natural_whole (d ∷ ds) =
    let some : nat_lt 0 (length (d ∷ ds)) ≡ true = grind (arith, nat_tests) in
    ap (λ t. cond (t && (is_ascii_digit d && list_all is_ascii_digit ds)) (Some (digits_value_after 10 (0 * 10 + digit_value d) ds)) None) some
    ∙ ⊎_elim
    (λ (digit : is_ascii_digit d ≡ true). rw digit (digits_whole (0 * 10 + digit_value d) ds))
    (λ (other : is_ascii_digit d ≡ false). rw other refl)
    (cases_Bool (is_ascii_digit d))

whole-minus : (o : Option (ℕ × List ℕ)) → option_map (λ n. neg_ℤ (pos n)) (o >>= whole) ≡ (option_map minus o >>= whole)
unfolding whole
whole-minus None = refl
whole-minus (Some (n, [])) = refl
whole-minus (Some (n, b ∷ bs)) = refl

whole-plus : (o : Option (ℕ × List ℕ)) → option_map (λ n. pos n) (o >>= whole) ≡ (option_map plus o >>= whole)
unfolding whole
whole-plus None = refl
whole-plus (Some (n, [])) = refl
whole-plus (Some (n, b ∷ bs)) = refl

-- a whole text as a number
number_whole : (text : List ℕ) → number_of text ≡ (number_at text >>= whole)
number_whole [] = refl
number_whole (b ∷ bs) =
    ⊎_elim
    (λ (sign : nat_eq b 45 ≡ true).
    let first : nat_eq 45 b ≡ true = grind (arith, nat_tests) in
    rw (first, sign) (ap (option_map (λ n. neg_ℤ (pos n))) (natural_whole bs) ∙ whole-minus (natural_at bs)))
    (λ (unsigned : nat_eq b 45 ≡ false).
    let first : nat_eq 45 b ≡ false = grind (arith, nat_tests) in
    rw (first, unsigned) (ap (option_map (λ n. pos n)) (natural_whole (b ∷ bs)) ∙ whole-plus (natural_at (b ∷ bs))))
    (cases_Bool (nat_eq b 45))

-- what is handed on of a number has its size up to the limit
pub unsigned_abs-capped : (n : ℤ) → unsigned_abs (capped n) ≡ min (unsigned_abs n) (2 ^ 62 + 1)
unsigned_abs-capped (pos n) = refl
unsigned_abs-capped (negsuc n) = omega arith

-- a number within the limit is handed on as it is
pub capped-within : (n : ℤ) → unsigned_abs n ≤ 2 ^ 62 → capped n ≡ n
capped-within (pos n) near = ap pos (omega arith)
capped-within (negsuc n) near = ap negsuc (omega arith)

-- what was read is one number and one rest
pub read_parts : (a b : ℤ) (xs ys : List ℕ) → ◌≡◌ {A = Option (ℤ × List ℕ)} (Some (a, xs)) (Some (b, ys)) → (a ≡ b) × (xs ≡ ys)
read_parts a b xs ys e =
    let other : ℤ × List ℕ = (b, ys) in
    let same = ap (λ o. unwrap_or o other) e in
    (ap (λ read. read.0) same, ap (λ read. read.1) same)

whole_within : (o : Option (ℤ × List ℕ)) (n : ℤ) → Some (n, []) ≡ handed o → unsigned_abs n ≤ 2 ^ 62 → (o >>= whole) ≡ Some n
unfolding handed whole
whole_within None n e near =
    let no : Some (n, []) ≡ None = e in
    absurd (cc)
whole_within (Some (m, [])) n e near =
    let same = (read_parts n (capped m) [] [] e).0 in
    let size : unsigned_abs m ≤ 2 ^ 62 = omega (arith, unsigned_abs-capped m, rw same at near) in
    ap (λ (z : ℤ). Some z) (sym (same ∙ capped-within m size))
whole_within (Some (m, b ∷ bs)) n e near =
    let rest = (read_parts n (capped m) [] (b ∷ bs) e).1 in
    absurd (cc)

whole_beyond : (o : Option (ℤ × List ℕ)) (n : ℤ) → Some (n, []) ≡ handed o → 2 ^ 62 < unsigned_abs n → IsSomeAnd (o >>= whole) (λ m. 2 ^ 62 < unsigned_abs m)
unfolding handed whole
whole_beyond None n e far =
    let no : Some (n, []) ≡ None = e in
    absurd (cc)
whole_beyond (Some (m, [])) n e far =
    let same = (read_parts n (capped m) [] [] e).0 in
    omega (arith, unsigned_abs-capped m, rw same at far)
whole_beyond (Some (m, b ∷ bs)) n e far =
    let rest = (read_parts n (capped m) [] (b ∷ bs) e).1 in
    absurd (cc)

whole_other : (o : Option (ℤ × List ℕ)) (n : ℤ) (b : ℕ) (bs : List ℕ) → Some (n, b ∷ bs) ≡ handed o → (o >>= whole) ≡ None
unfolding handed whole
whole_other None n b bs e =
    let no : Some (n, b ∷ bs) ≡ None = e in
    absurd (cc)
whole_other (Some (m, [])) n b bs e =
    let rest = (read_parts n (capped m) (b ∷ bs) [] e).1 in
    absurd (cc)
whole_other (Some (m, d ∷ ds)) n b bs e = refl

whole_none : (o : Option (ℤ × List ℕ)) → None ≡ handed o → (o >>= whole) ≡ None
unfolding handed whole
whole_none None e = refl
whole_none (Some (m, bs)) e =
    let no : None ≡ Some (capped m, bs) = e in
    absurd (cc)

-- The number that a whole text is, by what was handed on of it.

pub number_of-within : (text rest : List ℕ) (n : ℤ) → ◌≡◌ {A = Option (ℤ × List ℕ)} (Some (n, rest)) (handed (number_at text)) → length rest < 1 → unsigned_abs n ≤ 2 ^ 62 → number_of text ≡ Some n
number_of-within text [] n e end near = number_whole text ∙ whole_within (number_at text) n e near
number_of-within text (b ∷ bs) n e end near = absurd (omega arith)

-- what `number` says of a text, where it gives no number
abbrev pub Refuses : Cause → List ℕ → Type 0
Refuses cause text = MatchOption (number_of text) (cause ≡ BadLine) (λ n. (cause ≡ OutOfLimit) × (2 ^ 62 < unsigned_abs n))

far : (o : Option ℤ) → IsSomeAnd o (λ m. 2 ^ 62 < unsigned_abs m) → MatchOption o (OutOfLimit ≡ BadLine) (λ n. (OutOfLimit ≡ OutOfLimit) × (2 ^ 62 < unsigned_abs n))
far None h = absurd h
far (Some n) h = (refl, h)

pub number_of-beyond : (text rest : List ℕ) (n : ℤ) → ◌≡◌ {A = Option (ℤ × List ℕ)} (Some (n, rest)) (handed (number_at text)) → length rest < 1 → 2 ^ 62 < unsigned_abs n → Refuses OutOfLimit text
number_of-beyond text [] n e end near = far (number_of text) (rw (number_whole text) (whole_beyond (number_at text) n e near))
number_of-beyond text (b ∷ bs) n e end near = absurd (omega arith)

pub number_of-other : (text rest : List ℕ) (n : ℤ) → ◌≡◌ {A = Option (ℤ × List ℕ)} (Some (n, rest)) (handed (number_at text)) → 1 ≤ length rest → Refuses BadLine text
number_of-other text [] n e more = absurd (omega arith)
number_of-other text (b ∷ bs) n e more =
    let none = number_whole text ∙ whole_other (number_at text) n b bs e in
    rw none refl

pub number_of-none : (text : List ℕ) → None ≡ handed (number_at text) → Refuses BadLine text
number_of-none text e =
    let none = number_whole text ∙ whole_none (number_at text) e in
    rw none refl
