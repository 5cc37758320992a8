-- Text that is written row by row has those rows as its lines.
use Rattle.std.proofs.Common.{◌≡◌, ℕ, ◌-◌, ◌^◌, ◌<◌, ◌≤◌, Bool, true, false, not, ◌&&◌, nat_eq, List, [], ◌∷◌, ◌++◌, length, get_or, flat_map, map, ℤ, pos, negsuc, nat_abs, zero, suc, decimal, refl, sym, ap, ◌∙◌, append_assoc, arith}
use Rattle.std.specs.Fmt.{signed_decimal}
use Rattle.std.specs.List.{list_all, AllByRecursion}
use Rattle.std.specs.Char.{digit_value}
use Rattle.std.specs.Str.Parse.{AllDigits}
use Rattle.std.proofs.lemmas.Fmt.{decimal_is_IsNumeral_wide, length-decimal-le_wide}
use Rattle.std.proofs.lemmas.Str.Parse.{digit_from_value}
use Rattle.std.proofs.lemmas.Bool.{and_parts}
use Rattle.std.proofs.lemmas.Bool.Decides.{nat_tests}
use Rattle.std.proofs.lemmas.List.Concat.{flat_map-append}
use Rattle.bfm_lexer.specs.Lines.{finished_lines, has_newline, without_return, is_long}
use Rattle.bfm_lexer.proofs.LinesLemmas.{finished_lines-none, finished_lines-line}

-- rows, each with its newline
abbrev pub text_of : List (List ℕ) → List ℕ
text_of rows = flat_map (λ row. row ++ 10 ∷ []) rows

pub text_of-append : (xs ys : List (List ℕ)) → text_of (xs ++ ys) ≡ text_of xs ++ text_of ys
text_of-append xs ys = flat_map-append (λ row. row ++ 10 ∷ []) xs ys

-- rows that are given for each of some things
pub text_of-each : {X : Type 0} (f : X → List ℕ) (g : X → List (List ℕ)) (xs : List X) → ((x : X) → f x ≡ text_of (g x)) → flat_map f xs ≡ text_of (flat_map g xs)
text_of-each f g [] same = refl
text_of-each f g (x ∷ xs) same =
    ap (λ l. l ++ flat_map f xs) (same x) ∙ ap (λ l. text_of (g x) ++ l) (text_of-each f g xs same) ∙ sym (text_of-append (g x) (flat_map g xs))

-- neither a newline nor a carriage return
abbrev pub is_plain : ℕ → Bool
is_plain b = not (nat_eq b 10) && not (nat_eq b 13)

-- A row has plain bytes only, and is no longer than a line may be.
pub record IsRow (row : List ℕ) : Type 0 where
  pub plain : list_all is_plain row ≡ true
  pub short : length row < 524288

-- Plain bytes.

pub both_true : (a b : Bool) → a ≡ true → b ≡ true → (a && b) ≡ true
both_true true b e f = f
both_true false b e f = e

pub plain-append : (xs ys : List ℕ) → list_all is_plain xs ≡ true → list_all is_plain ys ≡ true → list_all is_plain (xs ++ ys) ≡ true
plain-append [] ys e f = f
plain-append (x ∷ xs) ys e f =
    let parts = and_parts (is_plain x) (list_all is_plain xs) e in
    both_true (is_plain x) (list_all is_plain (xs ++ ys)) parts.0 (plain-append xs ys parts.1 f)

plain_digit : (b : ℕ) → digit_value b < 10 → is_plain b ≡ true
plain_digit b small = let range = digit_from_value b small in grind (arith, nat_tests, range)

plain-digits : (ds : List ℕ) → AllDigits 10 ds → list_all is_plain ds ≡ true
plain-digits [] all = refl
plain-digits (d ∷ ds) all = both_true (is_plain d) (list_all is_plain ds) (plain_digit d all.0) (plain-digits ds all.1)

pub plain-decimal : (n : ℕ) → n < 10 ^ 64 → list_all is_plain (decimal n) ≡ true
plain-decimal n small = plain-digits (decimal n) (decimal_is_IsNumeral_wide n small).0.1

pub plain-signed : (z : ℤ) → nat_abs z < 10 ^ 64 → list_all is_plain (signed_decimal z) ≡ true
plain-signed (pos n) small = plain-decimal n small
plain-signed (negsuc n) small = plain-decimal (suc n) small

pub length-decimal : (n : ℕ) → n < 10 ^ 64 → length (decimal n) ≤ 64
length-decimal n small = length-decimal-le_wide 64 n (omega arith) small small

pub length-signed : (z : ℤ) → nat_abs z < 10 ^ 64 → length (signed_decimal z) ≤ 65
length-signed (pos n) small = let l = length-decimal n small in omega (arith, l)
length-signed (negsuc n) small = let l = length-decimal (suc n) small in omega (arith, l)

-- What a row is as a line.

pub plain_newline : (row : List ℕ) → list_all is_plain row ≡ true → has_newline row ≡ false
plain_newline [] e = refl
plain_newline (b ∷ bs) e =
    let parts = and_parts (is_plain b) (list_all is_plain bs) e in
    let other : nat_eq b 10 ≡ false = grind (arith, nat_tests, parts.0) in
    rw other (plain_newline bs parts.1)

plain_at : (row : List ℕ) (k : ℕ) → list_all is_plain row ≡ true → k < length row → nat_eq (get_or row k 0) 13 ≡ false
plain_at [] k e l = absurd (omega (arith, l))
plain_at (b ∷ bs) zero e l =
    let parts = and_parts (is_plain b) (list_all is_plain bs) e in
    grind (arith, nat_tests, parts.0)
plain_at (b ∷ bs) (suc k) e l = plain_at bs k (and_parts (is_plain b) (list_all is_plain bs) e).1 (omega (arith, l))

pub without_return-row : (row : List ℕ) → IsRow row → without_return row ≡ row
without_return-row [] r = refl
without_return-row (b ∷ bs) r =
    let other = plain_at (b ∷ bs) (length (b ∷ bs) - 1) r.plain (omega arith) in
    rw other refl

pub is_long-row : (row : List ℕ) → IsRow row → is_long row ≡ false
is_long-row row r = let short = r.short in grind (arith, nat_tests)

-- What holds of each of some things.

pub each-append : {X : Type 0} (P : X → Type 0) (xs ys : List X) → AllByRecursion P xs → AllByRecursion P ys → AllByRecursion P (xs ++ ys)
each-append P [] ys a b = b
each-append P (x ∷ xs) ys a b = (a.0, each-append P xs ys a.1 b)

pub each-flat_map : {X Y : Type 0} (P : X → Type 0) (Q : Y → Type 0) (g : X → List Y) (xs : List X) → AllByRecursion P xs → ((x : X) → P x → AllByRecursion Q (g x)) → AllByRecursion Q (flat_map g xs)
each-flat_map P Q g [] all step = tt
each-flat_map P Q g (x ∷ xs) all step = each-append Q (g x) (flat_map g xs) (step x all.0) (each-flat_map P Q g xs all.1 step)

pub each-map : {X Y : Type 0} (P : X → Type 0) (Q : Y → Type 0) (f : X → Y) (xs : List X) → AllByRecursion P xs → ((x : X) → P x → Q (f x)) → AllByRecursion Q (map f xs)
each-map P Q f [] all step = tt
each-map P Q f (x ∷ xs) all step = (step x all.0, each-map P Q f xs all.1 step)

pub each-weaker : {X : Type 0} (P Q : X → Type 0) (xs : List X) → AllByRecursion P xs → ((x : X) → P x → Q x) → AllByRecursion Q xs
each-weaker P Q [] all step = tt
each-weaker P Q (x ∷ xs) all step = (step x all.0, each-weaker P Q xs all.1 step)

-- The lines of rows are those rows, whatever stands behind them.
pub finished_lines-each : (rows : List (List ℕ)) (rest : List ℕ) → AllByRecursion (λ row. finished_lines row ≡ []) rows → finished_lines (text_of rows ++ rest) ≡ rows ++ finished_lines rest
finished_lines-each [] rest each = refl
finished_lines-each (row ∷ rows) rest each =
    ap finished_lines (append_assoc (row ++ 10 ∷ []) (text_of rows) rest ∙ append_assoc row (10 ∷ []) (text_of rows ++ rest))
    ∙ finished_lines-line row (text_of rows ++ rest) each.0
    ∙ ap (λ l. row ∷ l) (finished_lines-each rows rest each.1)

pub finished_lines-rows : (rows : List (List ℕ)) (rest : List ℕ) → AllByRecursion IsRow rows → finished_lines (text_of rows ++ rest) ≡ rows ++ finished_lines rest
finished_lines-rows rows rest each =
    finished_lines-each rows rest (each-weaker IsRow (λ row. finished_lines row ≡ []) rows each (λ row r. finished_lines-none row (plain_newline row r.plain)))
