-- The rows that are written are read back as the forms that they were written by, with the same numbers.
use Rattle.std.proofs.Common.{◌≡◌, ◌≢◌, ℕ, ◌+◌, ◌-◌, ◌^◌, ◌<◌, ◌≤◌, true, false, nat_eq, nat_lt, nat_le, List, [], ◌∷◌, ◌++◌, Some, Ok, ℤ, pos, nat_abs, unsigned_abs, decimal, refl, ap, ◌∙◌, append_assoc, arith}
use Rattle.std.specs.Fmt.{signed_decimal}
use Rattle.std.proofs.lemmas.Bool.Decides.{nat_tests}
use Rattle.bfm_base.specs.Place.{extent_of}
use Rattle.bfm_base.specs.declared.place.P3.{P3}
use Rattle.contact_table.specs.Contacts.{IsClass}
use Rattle.bfm_lexer.specs.Cursor.{ends}
use Rattle.bfm_writer.specs.Rows.{Row}
use Rattle.bfm_writer.specs.Text.{position_text, ids_text}
use Rattle.bfm_commands.specs.declared.forms.Range.{Range}
use Rattle.bfm_commands.specs.Forms.{value_number, vector_numbers, pair_numbers, single_numbers, range_numbers, lone_pair, monomers_numbers, contact_numbers, frame_numbers, string_of, monomer_of, vector_entry, pair_entry, range_entry, monomers_entry, contact_entry, threshold_entry, frame_line}
use Rattle.bfm_session.proofs.ReadBackNumbers.{Starts-signed, Starts-spaced, Starts-alone, Starts-spaced_alone, behind_mark-here, number_field-back, lone_number-back, number_before-back}
use Rattle.bfm_session.proofs.ReadBackRows.{vector_row, pair_row, mark_row, number_row, contact_row, threshold_row, frame_row}

-- `=value`
pub value_number-back : (n : ℕ) → n < 10 ^ 64 → value_number (61 ∷ decimal n) ≡ Some (pos n)
unfolding value_number
value_number-back n small = rw (behind_mark-here 61 (decimal n) refl) (lone_number-back (decimal n) (pos n) [] (Starts-alone (pos n) small) refl)

-- a position and what stands behind it
position_text-behind : (p : P3) (rest : List ℕ) → position_text p ++ rest ≡ signed_decimal p.x ++ 32 ∷ (signed_decimal p.y ++ 32 ∷ (signed_decimal p.z ++ rest))
position_text-behind p rest =
    append_assoc (signed_decimal p.x) (32 ∷ (signed_decimal p.y ++ 32 ∷ (signed_decimal p.z ++ []))) rest
    ∙ ap (λ l. signed_decimal p.x ++ 32 ∷ l)
    (append_assoc (signed_decimal p.y) (32 ∷ (signed_decimal p.z ++ [])) rest
    ∙ ap (λ l. signed_decimal p.y ++ 32 ∷ l) (append_assoc (signed_decimal p.z) [] rest))

-- each coordinate has at most 64 digits
pub record IsShort (p : P3) : Type 0 where
  pub x : nat_abs p.x < 10 ^ 64
  pub y : nat_abs p.y < 10 ^ 64
  pub z : nat_abs p.z < 10 ^ 64

pub IsShort-extent : (p : P3) (reach : ℕ) → extent_of p ≤ reach → reach < 10 ^ 64 → IsShort p
IsShort-extent p reach near small = record { x = omega (arith, near, small); y = omega (arith, near, small); z = omega (arith, near, small) }

-- `x y z:id`
vector_numbers-back : (v : P3) (id : ℕ) → IsShort v → id < 10 ^ 64 → vector_numbers (vector_row (v, id)) ≡ Some (v, pos id)
unfolding vector_numbers
vector_numbers-back v id short small =
    let z = signed_decimal v.z ++ 58 ∷ decimal id in
    let y = signed_decimal v.y ++ 32 ∷ z in
    let first = number_field-back (signed_decimal v.x ++ 32 ∷ y) v.x (32 ∷ y) (Starts-signed v.x (32 ∷ y) short.x) refl in
    let second = number_field-back (32 ∷ y) v.y (32 ∷ z) (Starts-spaced v.y (32 ∷ z) short.y) refl in
    let third = number_before-back 58 (32 ∷ z) v.z (decimal id) refl refl (Starts-spaced v.z (58 ∷ decimal id) short.z) in
    let last = lone_number-back (decimal id) (pos id) [] (Starts-alone (pos id) small) refl in
    rw (position_text-behind v (58 ∷ decimal id), first, second, third, last) refl

pub vector_entry-back : (v : P3) (id : ℕ) → extent_of v ≤ 2 ^ 62 → id ≤ 2 ^ 62 → vector_entry (vector_row (v, id)) ≡ Ok (v, pos id)
unfolding vector_entry
vector_entry-back v id near small =
    let within : nat_le (extent_of v) (2 ^ 62) ≡ true = grind (arith, nat_tests) in
    let low : nat_le id (2 ^ 62) ≡ true = grind (arith, nat_tests) in
    rw (vector_numbers-back v id (IsShort-extent v (2 ^ 62) near (omega arith)) (omega arith), within, low) refl

-- the number of a monomer that there may be
monomer_of-back : (i : ℕ) → i < 262144 → monomer_of (pos (i + 1)) ≡ Some i
monomer_of-back i few =
    let low : nat_le 1 (i + 1) ≡ true = grind (arith, nat_tests) in
    let high : nat_le (i + 1) 262144 ≡ true = grind (arith, nat_tests) in
    let same : i + 1 - 1 ≡ i = omega arith in
    rw (low, high) (ap (λ (n : ℕ). Some n) same)

-- `i j`
pair_numbers-back : (i j : ℕ) → i + 1 < 10 ^ 64 → j + 1 < 10 ^ 64 → pair_numbers (pair_row (i, j)) ≡ Some (pos (i + 1), pos (j + 1))
unfolding pair_numbers
pair_numbers-back i j small_i small_j =
    let rest = 32 ∷ decimal (j + 1) in
    let first = number_field-back (decimal (i + 1) ++ rest) (pos (i + 1)) rest (Starts-signed (pos (i + 1)) rest small_i) refl in
    let last = lone_number-back rest (pos (j + 1)) [] (Starts-spaced_alone (pos (j + 1)) small_j) refl in
    rw (first, last) refl

pub pair_entry-back : (i j : ℕ) → i < 262144 → j < 262144 → i ≢ j → pair_entry (pair_row (i, j)) ≡ Ok (i, j)
unfolding pair_entry
pair_entry-back i j few_i few_j differ =
    let other : nat_eq i j ≡ false = grind (arith, nat_tests) in
    rw (pair_numbers-back i j (omega arith) (omega arith), monomer_of-back i few_i, monomer_of-back j few_j, other) refl

-- a single monomer as a range
abbrev pub single : ℕ → Range
single i = record { first = i; last = i }

-- `a:t`
single_numbers-back : (i t : ℕ) → i + 1 < 10 ^ 64 → t < 10 ^ 64 → single_numbers (mark_row (i, t)) ≡ Some ((pos (i + 1), pos (i + 1)), pos t)
unfolding single_numbers
single_numbers-back i t small_i small_t =
    let first = number_before-back 58 (decimal (i + 1) ++ 58 ∷ decimal t) (pos (i + 1)) (decimal t) refl refl (Starts-signed (pos (i + 1)) (58 ∷ decimal t) small_i) in
    let last = lone_number-back (decimal t) (pos t) [] (Starts-alone (pos t) small_t) refl in
    rw (first, last) refl

range_numbers-back : (i t : ℕ) → i + 1 < 10 ^ 64 → t < 10 ^ 64 → range_numbers (mark_row (i, t)) ≡ Some ((pos (i + 1), pos (i + 1)), pos t)
unfolding range_numbers
range_numbers-back i t small_i small_t = rw (single_numbers-back i t small_i small_t) refl

pub range_entry-back : (i t greatest : ℕ) → i < 262144 → t ≤ greatest → greatest < 2 ^ 32 → range_entry (mark_row (i, t)) greatest ≡ Ok (single i, t)
unfolding range_entry
range_entry-back i t greatest few most small =
    let high : nat_le t greatest ≡ true = grind (arith, nat_tests) in
    let low : nat_le 0 t ≡ true = grind (arith, nat_tests) in
    let ordered : nat_lt i i ≡ false = grind (arith, nat_tests) in
    rw (range_numbers-back i t (omega arith) (omega arith), monomer_of-back i few, low, high, ordered) refl

-- `a`
monomers_numbers-back : (i : ℕ) → i + 1 < 10 ^ 64 → monomers_numbers (number_row i) ≡ Some (pos (i + 1), pos (i + 1))
unfolding monomers_numbers lone_pair
monomers_numbers-back i small = rw (lone_number-back (decimal (i + 1)) (pos (i + 1)) [] (Starts-alone (pos (i + 1)) small) refl) refl

pub monomers_entry-back : (i : ℕ) → i < 262144 → monomers_entry (number_row i) ≡ Ok (single i)
unfolding monomers_entry
monomers_entry-back i few =
    let ordered : nat_lt i i ≡ false = grind (arith, nat_tests) in
    rw (monomers_numbers-back i (omega arith), monomer_of-back i few, ordered) refl

-- `a b:w`
contact_numbers-back : (a b : ℕ) (w : ℤ) → a < 10 ^ 64 → b < 10 ^ 64 → nat_abs w < 10 ^ 64 → contact_numbers (contact_row ((a, b), w)) ≡ Some ((pos a, pos b), w)
unfolding contact_numbers
contact_numbers-back a b w small_a small_b small_w =
    let rest = 32 ∷ (decimal b ++ 58 ∷ signed_decimal w) in
    let first = number_field-back (decimal a ++ rest) (pos a) rest (Starts-signed (pos a) rest small_a) refl in
    let second = number_before-back 58 rest (pos b) (signed_decimal w) refl refl (Starts-spaced (pos b) (58 ∷ signed_decimal w) small_b) in
    let last = lone_number-back (signed_decimal w) w [] (Starts-alone w small_w) refl in
    rw (first, second, last) refl

-- two classes, and a weight within its limit
pub record IsContact (e : (ℕ × ℕ) × ℤ) : Type 0 where
  pub first : IsClass e.0.0
  pub second : IsClass e.0.1
  pub weight : unsigned_abs e.1 ≤ 1000

pub contact_entry-back : (e : (ℕ × ℕ) × ℤ) → IsContact e → contact_entry (contact_row e) ≡ Ok e
unfolding contact_entry
contact_entry-back e is =
    let a_low : nat_le 1 e.0.0 ≡ true = grind (arith, nat_tests, is.first) in
    let a_high : nat_le e.0.0 15 ≡ true = grind (arith, nat_tests, is.first) in
    let b_low : nat_le 1 e.0.1 ≡ true = grind (arith, nat_tests, is.second) in
    let b_high : nat_le e.0.1 15 ≡ true = grind (arith, nat_tests, is.second) in
    let within : nat_le (unsigned_abs e.1) 1000 ≡ true = grind (arith, nat_tests, is.weight) in
    rw (contact_numbers-back e.0.0 e.0.1 e.1 (omega (arith, is.first)) (omega (arith, is.second)) (omega (arith, is.weight)), a_low, a_high, b_low, b_high, within) refl

-- `t`
pub threshold_entry-back : (t : ℕ) → t ≤ 2 ^ 32 → threshold_entry (threshold_row t) ≡ Ok t
unfolding threshold_entry
threshold_entry-back t most =
    let low : nat_le 0 t ≡ true = grind (arith, nat_tests) in
    let high : nat_le t (2 ^ 32) ≡ true = grind (arith, nat_tests) in
    rw (lone_number-back (decimal t) (pos t) [] (Starts-alone (pos t) (omega arith)) refl, low, high) refl

-- `x y z` and the string of identifiers
string_of-ids : (ids : List ℕ) → string_of (ids_text ids) ≡ Some ids
string_of-ids [] = refl
string_of-ids (id ∷ ids) = refl

ids_end : (ids : List ℕ) → ends (ids_text ids) ≡ true
ids_end [] = refl
ids_end (id ∷ ids) = refl

frame_numbers-back : (p : P3) (ids : List ℕ) → IsShort p → frame_numbers (position_text p ++ ids_text ids) ≡ Some (p, ids)
unfolding frame_numbers
frame_numbers-back p ids short =
    let z = signed_decimal p.z ++ ids_text ids in
    let y = signed_decimal p.y ++ 32 ∷ z in
    let first = number_field-back (signed_decimal p.x ++ 32 ∷ y) p.x (32 ∷ y) (Starts-signed p.x (32 ∷ y) short.x) refl in
    let second = number_field-back (32 ∷ y) p.y (32 ∷ z) (Starts-spaced p.y (32 ∷ z) short.y) refl in
    let third = number_field-back (32 ∷ z) p.z (ids_text ids) (Starts-spaced p.z (ids_text ids) short.z) (ids_end ids) in
    rw (position_text-behind p (ids_text ids), first, second, third, string_of-ids ids) refl

pub frame_line-back : (row : Row) → extent_of row.start ≤ 2 ^ 44 → frame_line (frame_row row) ≡ Ok (row.start, row.ids)
unfolding frame_line
frame_line-back row near =
    let within : nat_le (extent_of row.start) (2 ^ 44) ≡ true = grind (arith, nat_tests) in
    rw (frame_numbers-back row.start row.ids (IsShort-extent row.start (2 ^ 44) near (omega arith)), within) refl
