-- The decimal text of a number is read back as that number, where no digit stands behind it.
use Rattle.std.proofs.Common.{◌≡◌, ℕ, suc, ◌+◌, ◌*◌, ◌^◌, ◌<◌, true, false, nat_eq, List, [], ◌∷◌, ◌++◌, Some, option_map, ℤ, pos, negsuc, nat_abs, decimal, refl, ap, subst, ◌∙◌, append-nil, arith}
use Rattle.std.specs.Fmt.{signed_decimal}
use Rattle.std.specs.Char.{is_ascii_digit, digit_value}
use Rattle.std.specs.Str.Parse.{AllDigits, IsNumeral, digits_value_after}
use Rattle.std.proofs.lemmas.Fmt.{decimal_is_IsNumeral_wide}
use Rattle.std.proofs.lemmas.Str.Parse.{digit_from_value}
use Rattle.std.proofs.lemmas.Bool.{and_parts, or_parts, not-true}
use Rattle.std.proofs.lemmas.Bool.Decides.{nat_tests}
use Rattle.bfm_lexer.specs.Kinds.{is_blank, is_bare}
use Rattle.bfm_lexer.specs.Cursor.{digits_from, begins_with_digit, natural_at, number_at, plus, minus, ends}
use Rattle.bfm_lexer.specs.Fields.{◌>>=◌, after_blanks, is_mark, behind_mark, alone, number_field, lone_number, number_before}
use Rattle.bfm_lexer.proofs.FieldLemmas.{number_field-at, lone_number-at, number_before-at, behind_mark-at, closed, marked}

-- Digits.

pub digit_byte : (b : ℕ) → digit_value b < 10 → is_ascii_digit b ≡ true
digit_byte b small = let range = digit_from_value b small in grind (arith, nat_tests, range)

digits_from-digits : (n : ℕ) (ds rest : List ℕ) → AllDigits 10 ds → begins_with_digit rest ≡ false → digits_from n (ds ++ rest) ≡ (digits_value_after 10 n ds, rest)
digits_from-digits n [] [] all none = refl
digits_from-digits n [] (b ∷ bs) all none = rw none refl
digits_from-digits n (d ∷ ds) rest all none =
    let digit = digit_byte d all.0 in
    rw digit (digits_from-digits (n * 10 + digit_value d) ds rest all.1 none)

natural_at-digits : (ds rest : List ℕ) → IsNumeral 10 ds → begins_with_digit rest ≡ false → natural_at (ds ++ rest) ≡ Some (digits_value_after 10 0 ds, rest)
natural_at-digits [] rest is none = absurd (omega (arith, is.0))
natural_at-digits (d ∷ ds) rest is none =
    let digit = digit_byte d is.1.0 in
    rw digit (ap (λ (r : ℕ × List ℕ). Some r) (digits_from-digits (0 * 10 + digit_value d) ds rest is.1.1 none))

pub natural_at-decimal : (n : ℕ) (rest : List ℕ) → n < 10 ^ 64 → begins_with_digit rest ≡ false → natural_at (decimal n ++ rest) ≡ Some (n, rest)
natural_at-decimal n rest small none =
    let is = decimal_is_IsNumeral_wide n small in
    natural_at-digits (decimal n) rest is.0 none ∙ ap (λ (m : ℕ). Some (m, rest)) is.1

-- what no digit begins is neither a sign nor a blank, so that digits begin a field
digit_first : (b : ℕ) → is_ascii_digit b ≡ true → (nat_eq b 45 ≡ false) × (is_blank b ≡ false)
digit_first b digit = (grind (arith, nat_tests), grind (arith, nat_tests))

number_at-digits : (ds rest : List ℕ) → IsNumeral 10 ds → begins_with_digit rest ≡ false → number_at (ds ++ rest) ≡ Some (pos (digits_value_after 10 0 ds), rest)
number_at-digits [] rest is none = absurd (omega (arith, is.0))
number_at-digits (d ∷ ds) rest is none =
    let other = (digit_first d (digit_byte d is.1.0)).0 in
    rw other (ap (λ o. option_map plus o) (natural_at-digits (d ∷ ds) rest is none))

pub number_at-signed : (z : ℤ) (rest : List ℕ) → nat_abs z < 10 ^ 64 → begins_with_digit rest ≡ false → number_at (signed_decimal z ++ rest) ≡ Some (z, rest)
number_at-signed (pos n) rest small none =
    let is = decimal_is_IsNumeral_wide n small in
    number_at-digits (decimal n) rest is.0 none ∙ ap (λ (m : ℕ). Some (pos m, rest)) is.1
number_at-signed (negsuc n) rest small none = ap (λ o. option_map minus o) (natural_at-decimal (suc n) rest small none)

-- no blank stands before it
after_blanks-digits : (ds rest : List ℕ) → IsNumeral 10 ds → after_blanks (ds ++ rest) ≡ ds ++ rest
after_blanks-digits [] rest is = absurd (omega (arith, is.0))
after_blanks-digits (d ∷ ds) rest is = let other = (digit_first d (digit_byte d is.1.0)).1 in rw other refl

pub after_blanks-signed : (z : ℤ) (rest : List ℕ) → nat_abs z < 10 ^ 64 → after_blanks (signed_decimal z ++ rest) ≡ signed_decimal z ++ rest
after_blanks-signed (pos n) rest small = after_blanks-digits (decimal n) rest (decimal_is_IsNumeral_wide n small).0
after_blanks-signed (negsuc n) rest small = refl

-- A number of at most 64 digits stands at the start of a text behind blanks, and this stands behind it.
pub record Starts (text : List ℕ) (z : ℤ) (rest : List ℕ) : Type 0 where
  pub short : nat_abs z < 10 ^ 64
  pub there : after_blanks text ≡ signed_decimal z ++ rest

pub Starts-signed : (z : ℤ) (rest : List ℕ) → nat_abs z < 10 ^ 64 → Starts (signed_decimal z ++ rest) z rest
Starts-signed z rest short = record { short = short; there = after_blanks-signed z rest short }

pub Starts-spaced : (z : ℤ) (rest : List ℕ) → nat_abs z < 10 ^ 64 → Starts (32 ∷ signed_decimal z ++ rest) z rest
Starts-spaced z rest short = record { short = short; there = after_blanks-signed z rest short }

-- nothing stands behind it
pub Starts-alone : (z : ℤ) → nat_abs z < 10 ^ 64 → Starts (signed_decimal z) z []
Starts-alone z short = subst (λ text. Starts text z []) (append-nil (signed_decimal z)) (Starts-signed z [] short)

pub Starts-spaced_alone : (z : ℤ) → nat_abs z < 10 ^ 64 → Starts (32 ∷ signed_decimal z) z []
Starts-spaced_alone z short = subst (λ text. Starts (32 ∷ text) z []) (append-nil (signed_decimal z)) (Starts-spaced z [] short)

pub Starts-number : (text : List ℕ) (z : ℤ) (rest : List ℕ) → Starts text z rest → begins_with_digit rest ≡ false → number_at (after_blanks text) ≡ Some (z, rest)
Starts-number text z rest s none = ap number_at s.there ∙ number_at-signed z rest s.short none

-- a blank is no digit
ends_digit : (rest : List ℕ) → ends rest ≡ true → begins_with_digit rest ≡ false
ends_digit [] e = refl
ends_digit (b ∷ bs) e = grind (arith, nat_tests)

bare_digit : (rest : List ℕ) → is_bare rest ≡ true → begins_with_digit rest ≡ false
bare_digit [] e = refl
bare_digit (b ∷ bs) e = ends_digit (b ∷ bs) (and_parts (is_blank b) (is_bare bs) e).0

mark_digit : (c : ℕ) → is_mark c ≡ true → is_ascii_digit c ≡ false
mark_digit c mark = (or_parts (is_blank c) (is_ascii_digit c) (not-true _ mark)).1

-- a mark at the start of a text
pub behind_mark-here : (c : ℕ) (rest : List ℕ) → is_mark c ≡ true → behind_mark c (c ∷ rest) ≡ Some rest
behind_mark-here c rest mark =
    let other = (or_parts (is_blank c) (is_ascii_digit c) (not-true _ mark)).0 in
    let same : nat_eq c c ≡ true = grind (arith, nat_tests) in
    behind_mark-at c (c ∷ rest) other ∙ rw (other, same) refl

-- The number is a field where a blank or nothing stands behind it.
pub number_field-back : (text : List ℕ) (z : ℤ) (rest : List ℕ) → Starts text z rest → ends rest ≡ true → number_field text ≡ Some (z, rest)
number_field-back text z rest s e =
    number_field-at text ∙ ap (λ o. o >>= closed) (Starts-number text z rest s (ends_digit rest e)) ∙ rw e refl

-- It is a lone field where only blanks stand behind it.
pub lone_number-back : (text : List ℕ) (z : ℤ) (rest : List ℕ) → Starts text z rest → is_bare rest ≡ true → lone_number text ≡ Some z
lone_number-back text z rest s e =
    lone_number-at text ∙ ap (λ o. o >>= alone) (Starts-number text z rest s (bare_digit rest e)) ∙ rw e refl

-- It is the lone field before a mark that stands behind it.
pub number_before-back : (c : ℕ) (text : List ℕ) (z : ℤ) (rest : List ℕ) → is_mark c ≡ true → nat_eq c 45 ≡ false → Starts text z (c ∷ rest) → number_before c text ≡ Some (z, rest)
number_before-back c text z rest mark plain s =
    number_before-at c text mark plain ∙ ap (λ o. o >>= marked c) (Starts-number text z (c ∷ rest) s (mark_digit c mark))
    ∙ ap (λ o. option_map (λ rest. (z, rest)) o) (behind_mark-here c rest mark)
