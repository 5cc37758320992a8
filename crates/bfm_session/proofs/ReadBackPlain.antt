-- What is written of a world are rows of plain bytes, none too long.
use Rattle.std.proofs.Common.{◌≡◌, ℕ, ◌+◌, ◌^◌, ◌<◌, ◌≤◌, true, List, [], ◌∷◌, ◌++◌, length, ℤ, nat_abs, decimal, refl, length-append, arith}
use Rattle.std.specs.Fmt.{signed_decimal}
use Rattle.std.specs.List.{list_all}
use Rattle.bfm_base.specs.declared.place.P3.{P3}
use Rattle.bfm_writer.specs.Rows.{Row}
use Rattle.bfm_writer.specs.Text.{position_text, ids_text}
use Rattle.bfm_session.proofs.ReadBackLines.{is_plain, IsRow, plain-append, plain-decimal, plain-signed, length-decimal, length-signed}
use Rattle.bfm_session.proofs.ReadBackRows.{vector_row, pair_row, mark_row, number_row, contact_row, threshold_row, frame_row}
use Rattle.bfm_session.proofs.ReadBackEntries.{IsShort}
use Rattle.bfm_session.proofs.ReadBackMeanings.{begins_number, begins_number-append, begins_number-decimal, begins_number-signed}

-- plain bytes of some length
record IsPlain (most : ℕ) (text : List ℕ) : Type 0 where
  bytes : list_all is_plain text ≡ true
  few : length text ≤ most

IsPlain-then : (m n : ℕ) (xs ys : List ℕ) → IsPlain m xs → IsPlain n ys → IsPlain (m + n) (xs ++ ys)
IsPlain-then m n xs ys a b = record { bytes = plain-append xs ys a.bytes b.bytes; few = omega (arith, a.few, b.few, length-append xs ys) }

IsPlain-decimal : (n : ℕ) → n < 10 ^ 64 → IsPlain 64 (decimal n)
IsPlain-decimal n small = record { bytes = plain-decimal n small; few = length-decimal n small }

IsPlain-position : (p : P3) → IsShort p → IsPlain 197 (position_text p)
IsPlain-position p short =
    let x : IsPlain 65 (signed_decimal p.x) = record { bytes = plain-signed p.x short.x; few = length-signed p.x short.x } in
    let y : IsPlain 65 (signed_decimal p.y) = record { bytes = plain-signed p.y short.y; few = length-signed p.y short.y } in
    let z : IsPlain 65 (signed_decimal p.z) = record { bytes = plain-signed p.z short.z; few = length-signed p.z short.z } in
    let none : IsPlain 0 [] = record { bytes = refl; few = omega arith } in
    let space : IsPlain 1 (32 ∷ []) = record { bytes = refl; few = omega arith } in
    IsPlain-then 65 132 _ _ x (IsPlain-then 1 131 (32 ∷ []) _ space (IsPlain-then 65 66 _ _ y (IsPlain-then 1 65 (32 ∷ []) _ space (IsPlain-then 65 0 _ _ z none))))

IsRow-plain : (most : ℕ) (text : List ℕ) → IsPlain most text → most < 524288 → IsRow text
IsRow-plain most text plain l = record { plain = plain.bytes; short = omega (arith, plain.few, l) }

-- a byte before a number
after_byte : (b n : ℕ) → is_plain b ≡ true → n < 10 ^ 64 → IsPlain 65 (b ∷ decimal n)
after_byte b n plain small = IsPlain-then 1 64 (b ∷ []) (decimal n) (record { bytes = rw plain refl; few = omega arith }) (IsPlain-decimal n small)

pub IsRow-vector : (v : P3) (id : ℕ) → IsShort v → id < 10 ^ 64 → IsRow (vector_row (v, id))
IsRow-vector v id short small = IsRow-plain (197 + 65) _ (IsPlain-then 197 65 (position_text v) (58 ∷ decimal id) (IsPlain-position v short) (after_byte 58 id refl small)) (omega arith)

pub IsRow-pair : (i j : ℕ) → i + 1 < 10 ^ 64 → j + 1 < 10 ^ 64 → IsRow (pair_row (i, j))
IsRow-pair i j small_i small_j =
    IsRow-plain (64 + 65) _ (IsPlain-then 64 65 (decimal (i + 1)) (32 ∷ decimal (j + 1)) (IsPlain-decimal (i + 1) small_i) (after_byte 32 (j + 1) refl small_j)) (omega arith)

pub IsRow-mark : (i t : ℕ) → i + 1 < 10 ^ 64 → t < 10 ^ 64 → IsRow (mark_row (i, t))
IsRow-mark i t small_i small_t =
    IsRow-plain (64 + 65) _ (IsPlain-then 64 65 (decimal (i + 1)) (58 ∷ decimal t) (IsPlain-decimal (i + 1) small_i) (after_byte 58 t refl small_t)) (omega arith)

pub IsRow-number : (i : ℕ) → i + 1 < 10 ^ 64 → IsRow (number_row i)
IsRow-number i small = IsRow-plain 64 _ (IsPlain-decimal (i + 1) small) (omega arith)

pub IsRow-contact : (a b : ℕ) (w : ℤ) → a < 10 ^ 64 → b < 10 ^ 64 → nat_abs w < 10 ^ 64 → IsRow (contact_row ((a, b), w))
IsRow-contact a b w small_a small_b small_w =
    let weight : IsPlain 65 (signed_decimal w) = record { bytes = plain-signed w small_w; few = length-signed w small_w } in
    let mark : IsPlain 1 (58 ∷ []) = record { bytes = refl; few = omega arith } in
    IsRow-plain (64 + (65 + (1 + 65))) _
    (IsPlain-then 64 131 (decimal a) _ (IsPlain-decimal a small_a) (IsPlain-then 65 66 (32 ∷ decimal b) _ (after_byte 32 b refl small_b) (IsPlain-then 1 65 (58 ∷ []) _ mark weight))) (omega arith)

pub IsRow-threshold : (t : ℕ) → t < 10 ^ 64 → IsRow (threshold_row t)
IsRow-threshold t small = IsRow-plain 64 _ (IsPlain-decimal t small) (omega arith)

IsPlain-ids : (ids : List ℕ) → list_all is_plain ids ≡ true → length ids < 262144 → IsPlain 262144 (ids_text ids)
IsPlain-ids [] plain few = record { bytes = refl; few = omega arith }
IsPlain-ids (id ∷ ids) plain few = record { bytes = plain; few = omega (arith, few) }

pub IsRow-frame : (row : Row) → IsShort row.start → list_all is_plain row.ids ≡ true → length row.ids < 262144 → IsRow (frame_row row)
IsRow-frame row short plain few =
    IsRow-plain (197 + 262144) _ (IsPlain-then 197 262144 (position_text row.start) (ids_text row.ids) (IsPlain-position row.start short) (IsPlain-ids row.ids plain few)) (omega arith)

-- Each begins with a number.

pub begins-contact : (a b : ℕ) (w : ℤ) → a < 10 ^ 64 → begins_number (contact_row ((a, b), w)) ≡ true
begins-contact a b w small = begins_number-append (decimal a) _ (begins_number-decimal a small)

begins_number-position : (p : P3) (rest : List ℕ) → IsShort p → begins_number (position_text p ++ rest) ≡ true
begins_number-position p rest short = begins_number-append (position_text p) rest (begins_number-append (signed_decimal p.x) _ (begins_number-signed p.x short.x))

pub begins-vector : (v : P3) (id : ℕ) → IsShort v → begins_number (vector_row (v, id)) ≡ true
begins-vector v id short = begins_number-position v (58 ∷ decimal id) short

pub begins-frame : (row : Row) → IsShort row.start → begins_number (frame_row row) ≡ true
begins-frame row short = begins_number-position row.start (ids_text row.ids) short

pub begins-number : (i : ℕ) (rest : List ℕ) → i + 1 < 10 ^ 64 → begins_number (decimal (i + 1) ++ rest) ≡ true
begins-number i rest small = begins_number-append (decimal (i + 1)) rest (begins_number-decimal (i + 1) small)
