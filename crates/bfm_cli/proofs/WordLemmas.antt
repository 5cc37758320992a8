-- The words of a job, one after another.
use Rattle.std.proofs.Common.{◌≡◌, ℕ, ◌+◌, ◌-◌, ◌<◌, ◌≤◌, ◌^◌, Bool, true, false, cond, ◌&&◌, nat_lt, List, [], ◌∷◌, ◌++◌, length, drop, get_or, map, Option, None, Some, is_some, option_and_then, eqb, not, lit<, Bor, if◌then◌else◌, Result, Ok, Err, refl, sym, ap, ◌∙◌, suc, add-one, drop-cons, rules, arith, ◌||◌}
use Rattle.std.specs.List.{list_all, list_any, position_or_len}
use Rattle.std.specs.Char.{is_ascii_digit}
use Rattle.std.specs.Result.{OkIff, result_ok}
use Rattle.std.specs.Str.Parse.{digits_value, ParsesUnsigned}
use Rattle.std.proofs.lemmas.Bool.Decides.{nat_tests}
use Rattle.std.proofs.lemmas.Str.Parse.{IsNumeralModel, numerals_by_value, parse_digits}
use Rattle.std.proofs.lemmas.Str.Pattern.{IsSplitOnceResult, split_once_first}
use Rattle.bfm_lexer.specs.Numbers.{natural_of}
use Rattle.std.proofs.lemmas.List.{drop-map}
use Rattle.std.specs.Str.{bytes_eq}
use Rattle.bfm_cli.specs.Words.{Key, within, name_in, value_in, value_of, first_of, is_right, first_wrong, Switch}

own : IsNumeralModel (λ ds. list_all is_ascii_digit ds ≡ true) (digits_value 10)
own = numerals_by_value _ (search rules)

within-fits : (v : ℕ) → v < 2 ^ 64 → within 0 (2 ^ 64 - 1) (Some v) ≡ Some v
within-fits v h = grind (arith, nat_tests)

within-over : (v : ℕ) → 2 ^ 64 ≤ v → within 0 (2 ^ 64 - 1) (Some v) ≡ None
within-over v h = grind (arith, nat_tests)

natural_of-digits : (digits : List ℕ) → list_all is_ascii_digit digits ≡ true → natural_of digits ≡ cond (nat_lt 0 (length digits)) (Some (digits_value 10 digits)) None
natural_of-digits digits h = elim (nat_lt 0 (length digits)) as (λ b. cond (b && list_all is_ascii_digit digits) (Some (digits_value 10 digits)) None ≡ cond b (Some (digits_value 10 digits)) None) [
  | true ↦ ap (λ b. cond b (Some (digits_value 10 digits)) None) h
  | false ↦ refl
]

parsed : {E : Type 0} (digits : List ℕ) (r : Result ℕ E) (some fits : Bool) → nat_lt 0 (length digits) ≡ some → nat_lt (digits_value 10 digits) (2 ^ 64) ≡ fits
    → OkIff r ((0 < length digits) × (digits_value 10 digits < 2 ^ 64)) (digits_value 10 digits) → result_ok r ≡ within 0 (2 ^ 64 - 1) (cond some (Some (digits_value 10 digits)) None)
parsed digits (Ok x) some fits a b h =
    let is_some : some ≡ true = grind (arith, nat_tests, h.0.0) in
    ap Some h.1 ∙ (sym (within-fits (digits_value 10 digits) h.0.1) ∙ ap (λ s. within 0 (2 ^ 64 - 1) (cond s (Some (digits_value 10 digits)) None)) (sym is_some))
parsed digits (Err e) false fits a b h = refl
parsed digits (Err e) true true a b h = absurd (h (grind (arith, nat_tests), grind (arith, nat_tests)))
parsed digits (Err e) true false a b h = sym (within-over (digits_value 10 digits) (grind (arith, nat_tests)))

-- what `parse` gives of digits
pub parse-digits : {E : Type 0} (digits : List ℕ) (r : Result ℕ E) → ParsesUnsigned 64 10 digits r → list_all is_ascii_digit digits ≡ true → result_ok r ≡ within 0 (2 ^ 64 - 1) (natural_of digits)
parse-digits digits r h d =
    parsed digits r _ _ refl refl (parse_digits own 64 digits r h d) ∙ ap (within 0 (2 ^ 64 - 1)) (sym (natural_of-digits digits d))

-- what stands before an end
below-none : (n : ℕ) → true ≡ nat_lt 0 (suc n)
below-none n = grind (arith, nat_tests)

below-more : (m n : ℕ) → nat_lt m n ≡ nat_lt (1 + m) (suc n)
below-more m n = grind (arith, nat_tests)

-- an element passes where the first place of one is before the end
any-first : {X : Type 0} (p : X → Bool) (xs : List X) → list_any p xs ≡ nat_lt (position_or_len p xs) (length xs)
any-first p [] = refl
any-first p (x ∷ xs) = elim (p x) as (λ b. (b || list_any p xs) ≡ nat_lt (cond (not b) (1 + position_or_len p xs) 0) (suc (length xs))) [
  | true ↦ below-none (length xs)
  | false ↦ any-first p xs ∙ below-more (position_or_len p xs) (length xs)
]

-- what a word that is split at its first `=` says of a name
abbrev pub said : List ℕ → Bor (List ℕ) × Bor (List ℕ) → Option (List ℕ)
said name parts = if bytes_eq parts.0.now name then Some parts.1.now else None

pub value_of-split : (name word : List ℕ) (r : Option (Bor (List ℕ) × Bor (List ℕ))) → IsSplitOnceResult 61 word r → value_of name word ≡ option_and_then (said name) r
value_of-split name word None h =
    let at = split_once_first 61 word None h (lit< tt) in
    let none : list_any (λ b. eqb b 61) word ≡ false = any-first _ word ∙ grind (arith, nat_tests) in
    ap (λ b. cond (b && bytes_eq (name_in word) name) (Some (value_in word)) None) none
value_of-split name word (Some x) h =
    let at = split_once_first 61 word (Some x) h (lit< tt) in
    let some : list_any (λ b. eqb b 61) word ≡ true = any-first _ word ∙ grind (arith, nat_tests) in
    ap (λ b. cond (b && bytes_eq (name_in word) name) (Some (value_in word)) None) some
    ∙ (ap (λ n. cond (bytes_eq n name) (Some (value_in word)) None) (sym at.1) ∙ ap (λ v. cond (bytes_eq x.0.now name) (Some v) None) (sym at.2))

-- the first of what is left, and the rest
pub next_of : {X Y : Type 0} (f : X → Y) (xs : List X) (i : ℕ) (d : X) → i < length xs → drop i (map f xs) ≡ f (get_or xs i d) ∷ drop (i + 1) (map f xs)
next_of f xs i d h =
    drop-map f i xs ∙ (ap (map f) (drop-cons xs i d h) ∙ (ap (λ ys. f (get_or xs i d) ∷ ys) (sym (drop-map f (suc i) xs)) ∙ rw (add-one i) refl))

pub next_text : {X Y : Type 0} (text : X → Y) (words : List X) (i : ℕ) (w : X) (t : Y) → i < length words → w ≡ get_or words i w → t ≡ text w
    → drop i (map text words) ≡ t ∷ drop (i + 1) (map text words)
next_text text words i w t h e f = next_of text words i w h ∙ ap (λ u. u ∷ drop (i + 1) (map text words)) (ap text (sym e) ∙ sym f)

-- a word gives something, or the words behind it are asked
pub first_of-here : {A : Type 0} (gives : List ℕ → Option A) (word : List ℕ) (words : List (List ℕ)) → is_some (gives word) ≡ true → first_of gives (word ∷ words) ≡ gives word
first_of-here gives word words h = ap (λ b. cond b (gives word) (first_of gives words)) h

pub first_of-later : {A : Type 0} (gives : List ℕ → Option A) (word : List ℕ) (words : List (List ℕ)) → is_some (gives word) ≡ false → first_of gives (word ∷ words) ≡ first_of gives words
first_of-later gives word words h = ap (λ b. cond b (gives word) (first_of gives words)) h

-- a test of what becomes of elements
pub list_any-map : {X Y : Type 0} (f : X → Y) (p : Y → Bool) (xs : List X) → list_any p (map f xs) ≡ list_any (λ x. p (f x)) xs
list_any-map f p [] = refl
list_any-map f p (x ∷ xs) = ap (λ b. p (f x) || b) (list_any-map f p xs)

-- a word is wrong, or the words behind it are judged
pub first_wrong-here : (keys : List Key) (switches : List Switch) (before : List (List ℕ)) (word : List ℕ) (words : List (List ℕ)) → is_right keys switches before word ≡ false
    → first_wrong keys switches before (word ∷ words) ≡ Some (length before)
first_wrong-here keys switches before word words h = ap (λ b. cond b (first_wrong keys switches (before ++ word ∷ []) words) (Some (length before))) h

pub first_wrong-later : (keys : List Key) (switches : List Switch) (before : List (List ℕ)) (word : List ℕ) (words : List (List ℕ)) → is_right keys switches before word ≡ true
    → first_wrong keys switches before (word ∷ words) ≡ first_wrong keys switches (before ++ word ∷ []) words
first_wrong-later keys switches before word words h = ap (λ b. cond b (first_wrong keys switches (before ++ word ∷ []) words) (Some (length before))) h
