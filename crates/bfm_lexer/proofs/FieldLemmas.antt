-- What a cursor finds at the start of a text is what the fields and marks of the text say.
use Rattle.std.proofs.Common.{◌≡◌, IsTrue, not, ℕ, ◌+◌, ◌*◌, ◌^◌, min, true, false, cond, ◌&&◌, nat_eq, nat_lt, List, [], ◌∷◌, length, take, drop, take_all, ◌-◌, Option, None, Some, option_map, ℤ, pos, neg_ℤ, zero, suc, refl, sym, ap, ◌∙◌, ⊎_elim, arith}
use Rattle.std.specs.Char.{is_ascii_digit, digit_value}
use Rattle.std.specs.List.{list_all}
use Rattle.std.specs.Str.Parse.{digits_value_after}
use Rattle.std.proofs.lemmas.Bool.{cases_Bool, true≢false, and_parts, or_parts, not-true, eqb-true}
use Rattle.std.proofs.lemmas.Bool.Decides.{nat_tests}
use Rattle.bfm_lexer.specs.Kinds.{is_blank, is_bare}
use Rattle.bfm_lexer.specs.Numbers.{natural_of, number_of}
use Rattle.bfm_lexer.specs.Fields.{◌>>=◌, after_blanks, up_to_blank, from_blank, split_once, behind_mark, number_field, natural_field, alone, lone_number, lone_natural, number_before, natural_before, is_mark}
use Rattle.bfm_lexer.specs.Cursor.{digits_from, begins_with, natural_at, number_at, minus, plus, ends, mark_at, capped, capped_natural, handed, handed_natural}

-- what was read, where a field ends behind it
abbrev pub closed : {A : Type 0} → A × List ℕ → Option (A × List ℕ)
closed read = cond (ends read.1) (Some read) None

blank_no_digit : (b : ℕ) → is_blank b ≡ true → is_ascii_digit b ≡ false
blank_no_digit b blank = grind (arith, nat_tests)

up_to_blank-other : (b : ℕ) (bs : List ℕ) → is_blank b ≡ false → up_to_blank (b ∷ bs) ≡ b ∷ up_to_blank bs
up_to_blank-other b bs other = rw other refl

from_blank-other : (b : ℕ) (bs : List ℕ) → is_blank b ≡ false → from_blank (b ∷ bs) ≡ from_blank bs
from_blank-other b bs other = rw other refl

-- what a field gives where the digits before made n: its number and the rest, where it has digits only
digits_of : ℕ → List ℕ → List ℕ → Option (ℕ × List ℕ)
digits_of n digits rest = cond (list_all is_ascii_digit digits) (Some (digits_value_after 10 n digits, rest)) None

-- digits up to the end of a field
digits_closed : (n : ℕ) (u : List ℕ) → digits_of n (up_to_blank u) (from_blank u) ≡ closed (digits_from n u)
unfolding digits_of
digits_closed n [] = refl
digits_closed n (b ∷ bs) =
    ⊎_elim
    (λ (blank : is_blank b ≡ true). rw (blank, blank_no_digit b blank, blank) refl)
    (λ (other : is_blank b ≡ false).
    ⊎_elim
    (λ (digit : is_ascii_digit b ≡ true). rw (other, digit) (digits_closed (n * 10 + digit_value b) bs))
    (λ (no_digit : is_ascii_digit b ≡ false). rw (other, no_digit, other) refl)
    (cases_Bool (is_ascii_digit b)))
    (cases_Bool (is_blank b))

-- one or more digits as a number
natural_of-digits : (b : ℕ) (digits : List ℕ) → natural_of (b ∷ digits) ≡ cond (is_ascii_digit b && list_all is_ascii_digit digits) (Some (digits_value_after 10 (0 * 10 + digit_value b) digits)) None
natural_of-digits b digits =
    let some : nat_lt 0 (length (b ∷ digits)) ≡ true = grind (arith, nat_tests) in
    ap (λ t. cond (t && (is_ascii_digit b && list_all is_ascii_digit digits)) (Some (digits_value_after 10 (0 * 10 + digit_value b) digits)) None) some

-- a field that begins with a digit, as a number without a sign, and what stands behind it
natural_of-digit : (b : ℕ) (digits rest : List ℕ) → is_ascii_digit b ≡ true → option_map {U = ℕ × List ℕ} (λ n. (n, rest)) (natural_of (b ∷ digits)) ≡ digits_of (0 * 10 + digit_value b) digits rest
unfolding digits_of
natural_of-digit b digits rest digit =
    let value = digits_value_after 10 (0 * 10 + digit_value b) digits in
    ap (option_map {U = ℕ × List ℕ} (λ n. (n, rest))) (natural_of-digits b digits)
    ∙ ap (λ t. option_map {U = ℕ × List ℕ} (λ n. (n, rest)) (cond (t && list_all is_ascii_digit digits) (Some value) None)) digit
    ∙ elim (list_all is_ascii_digit digits) as (λ all. option_map {U = ℕ × List ℕ} (λ n. (n, rest)) (cond all (Some value) None) ≡ cond all (Some (value, rest)) None) [ true ↦ refl | false ↦ refl ]

natural_of-other : (b : ℕ) (digits : List ℕ) → is_ascii_digit b ≡ false → natural_of (b ∷ digits) ≡ None
natural_of-other b digits other =
    natural_of-digits b digits ∙ ap (λ t. cond (t && list_all is_ascii_digit digits) (Some (digits_value_after 10 (0 * 10 + digit_value b) digits)) None) other

natural_at-digit : (b : ℕ) (bs : List ℕ) → is_ascii_digit b ≡ true → natural_at (b ∷ bs) ≡ Some (digits_from (0 * 10 + digit_value b) bs)
natural_at-digit b bs digit = rw digit refl

natural_at-other : (b : ℕ) (bs : List ℕ) → is_ascii_digit b ≡ false → natural_at (b ∷ bs) ≡ None
natural_at-other b bs other = rw other refl

-- a number without a sign up to the end of a field
natural_closed : (u : List ℕ) → option_map (λ n. (n, from_blank u)) (natural_of (up_to_blank u)) ≡ (natural_at u >>= closed)
natural_closed [] = refl
natural_closed (b ∷ bs) =
    ⊎_elim
    (λ (blank : is_blank b ≡ true). let none = natural_at-other b bs (blank_no_digit b blank) in rw (none, blank) refl)
    (λ (other : is_blank b ≡ false).
    let front = up_to_blank-other b bs other in
    let back = from_blank-other b bs other in
    ⊎_elim
    (λ (digit : is_ascii_digit b ≡ true).
    ap (λ f. option_map (λ n. (n, from_blank (b ∷ bs))) (natural_of f)) front
    ∙ ap (λ r. option_map (λ n. (n, r)) (natural_of (b ∷ up_to_blank bs))) back
    ∙ natural_of-digit b (up_to_blank bs) (from_blank bs) digit
    ∙ digits_closed (0 * 10 + digit_value b) bs
    ∙ sym (ap (λ o. o >>= closed) (natural_at-digit b bs digit)))
    (λ (no_digit : is_ascii_digit b ≡ false).
    ap (λ f. option_map (λ n. (n, from_blank (b ∷ bs))) (natural_of f)) front
    ∙ ap (option_map (λ n. (n, from_blank (b ∷ bs)))) (natural_of-other b (up_to_blank bs) no_digit)
    ∙ sym (ap (λ o. o >>= closed) (natural_at-other b bs no_digit)))
    (cases_Bool (is_ascii_digit b)))
    (cases_Bool (is_blank b))

-- The same with an optional sign.

signed-minus : (o : Option (ℕ × List ℕ)) → option_map minus (o >>= closed) ≡ (option_map minus o >>= closed)
signed-minus None = refl
signed-minus (Some read) = elim (ends read.1) as (λ e. option_map minus (cond e (Some read) None) ≡ cond e (Some (minus read)) None) [ true ↦ refl | false ↦ refl ]

signed-plus : (o : Option (ℕ × List ℕ)) → option_map plus (o >>= closed) ≡ (option_map plus o >>= closed)
signed-plus None = refl
signed-plus (Some read) = elim (ends read.1) as (λ e. option_map plus (cond e (Some read) None) ≡ cond e (Some (plus read)) None) [ true ↦ refl | false ↦ refl ]

with_rest-minus : (rest : List ℕ) (o : Option ℕ) → option_map {U = ℤ × List ℕ} (λ n. (n, rest)) (option_map (λ n. neg_ℤ (pos n)) o) ≡ option_map minus (option_map (λ n. (n, rest)) o)
with_rest-minus rest None = refl
with_rest-minus rest (Some n) = refl

with_rest-plus : (rest : List ℕ) (o : Option ℕ) → option_map {U = ℤ × List ℕ} (λ n. (n, rest)) (option_map (λ n. pos n) o) ≡ option_map plus (option_map (λ n. (n, rest)) o)
with_rest-plus rest None = refl
with_rest-plus rest (Some n) = refl

minus_no_blank : (b : ℕ) → nat_eq b 45 ≡ true → is_blank b ≡ false
minus_no_blank b sign = grind (arith, nat_tests)

number_of-minus : (b : ℕ) (digits : List ℕ) → nat_eq b 45 ≡ true → number_of (b ∷ digits) ≡ option_map (λ n. neg_ℤ (pos n)) (natural_of digits)
number_of-minus b digits sign =
    let first : nat_eq 45 b ≡ true = grind (arith, nat_tests) in
    rw first refl

number_of-plus : (b : ℕ) (digits : List ℕ) → nat_eq b 45 ≡ false → number_of (b ∷ digits) ≡ option_map (λ n. pos n) (natural_of (b ∷ digits))
number_of-plus b digits other =
    let first : nat_eq 45 b ≡ false = grind (arith, nat_tests) in
    rw first refl

number_at-minus : (b : ℕ) (bs : List ℕ) → nat_eq b 45 ≡ true → number_at (b ∷ bs) ≡ option_map minus (natural_at bs)
number_at-minus b bs sign = rw sign refl

number_at-plus : (b : ℕ) (bs : List ℕ) → nat_eq b 45 ≡ false → number_at (b ∷ bs) ≡ option_map plus (natural_at (b ∷ bs))
number_at-plus b bs other = rw other refl

-- what stands before the first blank is no more than nothing where a sign is not its first byte
unsigned : (b : ℕ) (bs : List ℕ) → nat_eq b 45 ≡ false → number_of (up_to_blank (b ∷ bs)) ≡ option_map (λ n. pos n) (natural_of (up_to_blank (b ∷ bs)))
unsigned b bs other =
    ⊎_elim
    (λ (blank : is_blank b ≡ true). rw blank refl)
    (λ (field : is_blank b ≡ false).
    let front = up_to_blank-other b bs field in
    ap number_of front ∙ number_of-plus b (up_to_blank bs) other ∙ sym (ap (λ f. option_map (λ n. pos n) (natural_of f)) front))
    (cases_Bool (is_blank b))

-- a number up to the end of a field
number_closed : (u : List ℕ) → option_map (λ n. (n, from_blank u)) (number_of (up_to_blank u)) ≡ (number_at u >>= closed)
number_closed [] = refl
number_closed (b ∷ bs) =
    ⊎_elim
    (λ (sign : nat_eq b 45 ≡ true).
    let field = minus_no_blank b sign in
    ap (λ f. option_map {U = ℤ × List ℕ} (λ n. (n, from_blank (b ∷ bs))) (number_of f)) (up_to_blank-other b bs field)
    ∙ ap (λ r. option_map {U = ℤ × List ℕ} (λ n. (n, r)) (number_of (b ∷ up_to_blank bs))) (from_blank-other b bs field)
    ∙ ap (option_map {U = ℤ × List ℕ} (λ n. (n, from_blank bs))) (number_of-minus b (up_to_blank bs) sign)
    ∙ with_rest-minus (from_blank bs) (natural_of (up_to_blank bs))
    ∙ ap (option_map minus) (natural_closed bs)
    ∙ signed-minus (natural_at bs)
    ∙ sym (ap (λ o. o >>= closed) (number_at-minus b bs sign)))
    (λ (other : nat_eq b 45 ≡ false).
    ap (option_map {U = ℤ × List ℕ} (λ n. (n, from_blank (b ∷ bs)))) (unsigned b bs other)
    ∙ with_rest-plus (from_blank (b ∷ bs)) (natural_of (up_to_blank (b ∷ bs)))
    ∙ ap (option_map plus) (natural_closed (b ∷ bs))
    ∙ signed-plus (natural_at (b ∷ bs))
    ∙ sym (ap (λ o. o >>= closed) (number_at-plus b bs other)))
    (cases_Bool (nat_eq b 45))

-- The laws of the cursor: what it finds behind the blanks at the start of a text.

pub number_field-at : (text : List ℕ) → number_field text ≡ (number_at (after_blanks text) >>= closed)
unfolding number_field
number_field-at text = number_closed (after_blanks text)

pub natural_field-at : (text : List ℕ) → natural_field text ≡ (natural_at (after_blanks text) >>= closed)
unfolding natural_field
natural_field-at text = natural_closed (after_blanks text)

-- where only blanks stand a field has ended
bare_ends : (rest : List ℕ) → is_bare rest ≡ true → ends rest ≡ true
bare_ends [] bare = refl
bare_ends (b ∷ bs) bare = (and_parts (is_blank b) (is_bare bs) bare).0

closed-alone : {A : Type 0} (o : Option (A × List ℕ)) → ((o >>= closed) >>= alone) ≡ (o >>= alone)
closed-alone None = refl
closed-alone (Some read) =
    ⊎_elim
    (λ (bare : is_bare read.1 ≡ true). let e = bare_ends read.1 bare in rw (e, bare) refl)
    (λ (more : is_bare read.1 ≡ false). rw more (elim (ends read.1) as (λ e. (cond e (Some read) None >>= alone) ≡ None) [ true ↦ rw more refl | false ↦ refl ]))
    (cases_Bool (is_bare read.1))

pub lone_number-at : (text : List ℕ) → lone_number text ≡ (number_at (after_blanks text) >>= alone)
unfolding lone_number
lone_number-at text = ap (λ o. o >>= alone) (number_field-at text) ∙ closed-alone (number_at (after_blanks text))

pub lone_natural-at : (text : List ℕ) → lone_natural text ≡ (natural_at (after_blanks text) >>= alone)
unfolding lone_natural
lone_natural-at text = ap (λ o. o >>= alone) (natural_field-at text) ∙ closed-alone (natural_at (after_blanks text))

-- A lone field before the first mark c.

in_front : ℕ → List ℕ × List ℕ → List ℕ × List ℕ
in_front b parts = (b ∷ parts.0, parts.1)

bare_front : List ℕ × List ℕ → Option (List ℕ)
bare_front parts = cond (is_bare parts.0) (Some parts.1) None

-- one more byte before the mark: a blank changes nothing, any other byte leaves nothing
front_blank : (b : ℕ) (o : Option (List ℕ × List ℕ)) → is_blank b ≡ true → (option_map (in_front b) o >>= bare_front) ≡ (o >>= bare_front)
unfolding in_front bare_front
front_blank b None blank = refl
front_blank b (Some parts) blank = rw blank refl

front_field : (b : ℕ) (o : Option (List ℕ × List ℕ)) → is_blank b ≡ false → (option_map (in_front b) o >>= bare_front) ≡ None
unfolding in_front bare_front
front_field b None field = refl
front_field b (Some parts) field = rw field refl

split_once-here : (c b : ℕ) (bs : List ℕ) → nat_eq b c ≡ true → split_once c (b ∷ bs) ≡ Some ([], bs)
split_once-here c b bs here = rw here refl

split_once-other : (c b : ℕ) (bs : List ℕ) → nat_eq b c ≡ false → split_once c (b ∷ bs) ≡ option_map (in_front b) (split_once c bs)
unfolding in_front
split_once-other c b bs other = rw other refl

after_blanks-blank : (b : ℕ) (bs : List ℕ) → is_blank b ≡ true → after_blanks (b ∷ bs) ≡ after_blanks bs
after_blanks-blank b bs blank = rw blank refl

after_blanks-field : (b : ℕ) (bs : List ℕ) → is_blank b ≡ false → after_blanks (b ∷ bs) ≡ b ∷ bs
after_blanks-field b bs field = rw field refl

mark_at-here : (c b : ℕ) (bs : List ℕ) → nat_eq b c ≡ true → mark_at c (b ∷ bs) ≡ Some bs
mark_at-here c b bs here = rw here refl

mark_at-other : (c b : ℕ) (bs : List ℕ) → nat_eq b c ≡ false → mark_at c (b ∷ bs) ≡ None
mark_at-other c b bs other = rw other refl

same_blank : (b c : ℕ) → nat_eq b c ≡ true → is_blank b ≡ is_blank c
same_blank b c here = ap is_blank (eqb-true b c here)

-- what stands behind the first mark, where only blanks stand before it
bare_split : (c : ℕ) (text : List ℕ) → is_blank c ≡ false → (split_once c text >>= bare_front) ≡ mark_at c (after_blanks text)
unfolding bare_front
bare_split c [] clear = refl
bare_split c (b ∷ bs) clear =
    ⊎_elim
    (λ (here : nat_eq b c ≡ true).
    ap (λ o. o >>= bare_front) (split_once-here c b bs here)
    ∙ sym (ap (mark_at c) (after_blanks-field b bs (same_blank b c here ∙ clear)) ∙ mark_at-here c b bs here))
    (λ (other : nat_eq b c ≡ false).
    ap (λ o. o >>= bare_front) (split_once-other c b bs other)
    ∙ ⊎_elim
    (λ (blank : is_blank b ≡ true). front_blank b (split_once c bs) blank ∙ bare_split c bs clear ∙ sym (ap (mark_at c) (after_blanks-blank b bs blank)))
    (λ (field : is_blank b ≡ false). front_field b (split_once c bs) field ∙ sym (ap (mark_at c) (after_blanks-field b bs field) ∙ mark_at-other c b bs other))
    (cases_Bool (is_blank b)))
    (cases_Bool (nat_eq b c))

pub behind_mark-at : (c : ℕ) (text : List ℕ) → is_blank c ≡ false → behind_mark c text ≡ mark_at c (after_blanks text)
unfolding behind_mark bare_front
behind_mark-at c text clear = bare_split c text clear

-- what was read, and what stands behind a mark behind it
abbrev pub marked : {A : Type 0} → ℕ → A × List ℕ → Option (A × List ℕ)
marked c read = option_map (λ rest. (read.0, rest)) (behind_mark c read.1)

-- a lone number of the part before the mark, and the part behind the mark
lone : {A : Type 0} → (List ℕ → Option (A × List ℕ)) → List ℕ × List ℕ → Option (A × List ℕ)
lone at parts = (at parts.0 >>= alone) >>= λ number. Some (number, parts.1)

-- the same after digits that made n
some_digits : ℕ → List ℕ → Option (ℕ × List ℕ)
some_digits n text = Some (digits_from n text)

digits_from-other : (n b : ℕ) (bs : List ℕ) → is_ascii_digit b ≡ false → digits_from n (b ∷ bs) ≡ (n, b ∷ bs)
digits_from-other n b bs other = rw other refl

digits_from-digit : (n b : ℕ) (bs : List ℕ) → is_ascii_digit b ≡ true → digits_from n (b ∷ bs) ≡ digits_from (n * 10 + digit_value b) bs
digits_from-digit n b bs digit = rw digit refl

lone_digit : (n b : ℕ) (o : Option (List ℕ × List ℕ)) → is_ascii_digit b ≡ true
    → (option_map (in_front b) o >>= lone (some_digits n)) ≡ (o >>= lone (some_digits (n * 10 + digit_value b)))
unfolding in_front lone some_digits
lone_digit n b None digit = refl
lone_digit n b (Some parts) digit = ap (λ read. alone read >>= λ number. Some (number, parts.1)) (digits_from-digit n b parts.0 digit)

lone_end : (n b : ℕ) (o : Option (List ℕ × List ℕ)) → is_ascii_digit b ≡ false
    → (option_map (in_front b) o >>= lone (some_digits n)) ≡ option_map (λ rest. (n, rest)) (option_map (in_front b) o >>= bare_front)
unfolding in_front lone some_digits bare_front
lone_end n b None other = refl
lone_end n b (Some parts) other =
    let both : List ℕ → ℕ × List ℕ = λ rest. (n, rest) in
    let give : ℕ → Option (ℕ × List ℕ) = λ number. Some (number, parts.1) in
    ap (λ read. alone read >>= give) (digits_from-other n b parts.0 other)
    ∙ elim (is_bare (b ∷ parts.0)) as (λ t. (cond t (Some n) None >>= give) ≡ option_map both (cond t (Some parts.1) None)) [ true ↦ refl | false ↦ refl ]

mark_no_digit : (b c : ℕ) → is_mark c ≡ true → nat_eq b c ≡ true → is_ascii_digit b ≡ false
mark_no_digit b c mark here = ap is_ascii_digit (eqb-true b c here) ∙ (or_parts (is_blank c) (is_ascii_digit c) (not-true _ mark)).1

mark_no_blank : (c : ℕ) → is_mark c ≡ true → is_blank c ≡ false
mark_no_blank c mark = (or_parts (is_blank c) (is_ascii_digit c) (not-true _ mark)).0

marked-front : (n c : ℕ) (text : List ℕ) → is_mark c ≡ true → option_map (λ rest. (n, rest)) (split_once c text >>= bare_front) ≡ marked c (n, text)
unfolding bare_front behind_mark
marked-front n c text mark = refl

digits_marked : (c n : ℕ) (text : List ℕ) → is_mark c ≡ true → (split_once c text >>= lone (some_digits n)) ≡ marked c (digits_from n text)
unfolding lone some_digits bare_front
digits_marked c n [] mark = unfold behind_mark in refl
digits_marked c n (b ∷ bs) mark =
    ⊎_elim
    (λ (digit : is_ascii_digit b ≡ true).
    ⊎_elim
    (λ (here : nat_eq b c ≡ true). absurd (true≢false (sym digit ∙ mark_no_digit b c mark here)))
    (λ (other : nat_eq b c ≡ false).
    ap (λ o. o >>= lone (some_digits n)) (split_once-other c b bs other)
    ∙ lone_digit n b (split_once c bs) digit
    ∙ digits_marked c (n * 10 + digit_value b) bs mark
    ∙ sym (ap (marked c) (digits_from-digit n b bs digit)))
    (cases_Bool (nat_eq b c)))
    (λ (end : is_ascii_digit b ≡ false).
    ⊎_elim
    (λ (here : nat_eq b c ≡ true).
    ap (λ o. o >>= lone (some_digits n)) (split_once-here c b bs here)
    ∙ sym (ap (marked c) (digits_from-other n b bs end) ∙ sym (marked-front n c (b ∷ bs) mark) ∙ ap (λ o. option_map (λ rest. (n, rest)) (o >>= bare_front)) (split_once-here c b bs here)))
    (λ (other : nat_eq b c ≡ false).
    ap (λ o. o >>= lone (some_digits n)) (split_once-other c b bs other)
    ∙ lone_end n b (split_once c bs) end
    ∙ sym (ap (marked c) (digits_from-other n b bs end) ∙ sym (marked-front n c (b ∷ bs) mark) ∙ ap (λ o. option_map (λ rest. (n, rest)) (o >>= bare_front)) (split_once-other c b bs other)))
    (cases_Bool (nat_eq b c)))
    (cases_Bool (is_ascii_digit b))

-- a number whose first byte is the first of the text
Marked : {A : Type 0} → ℕ → (List ℕ → Option (A × List ℕ)) → List ℕ → Type 0
Marked c at text = (split_once c text >>= lone at) ≡ (at text >>= marked c)

lone_first-digit : (b : ℕ) (o : Option (List ℕ × List ℕ)) → is_ascii_digit b ≡ true
    → (option_map (in_front b) o >>= lone natural_at) ≡ (o >>= lone (some_digits (0 * 10 + digit_value b)))
unfolding in_front lone some_digits
lone_first-digit b None digit = refl
lone_first-digit b (Some parts) digit = ap (λ o. (o >>= alone) >>= λ number. Some (number, parts.1)) (natural_at-digit b parts.0 digit)

lone_first-other : (b : ℕ) (o : Option (List ℕ × List ℕ)) → is_ascii_digit b ≡ false → (option_map (in_front b) o >>= lone natural_at) ≡ None
unfolding in_front lone
lone_first-other b None other = refl
lone_first-other b (Some parts) other = ap (λ o. (o >>= alone) >>= λ number. Some (number, parts.1)) (natural_at-other b parts.0 other)

natural_marked : (c : ℕ) (text : List ℕ) → is_mark c ≡ true → Marked c natural_at text
unfolding Marked lone
natural_marked c [] mark = refl
natural_marked c (b ∷ bs) mark =
    ⊎_elim
    (λ (digit : is_ascii_digit b ≡ true).
    ⊎_elim
    (λ (here : nat_eq b c ≡ true). absurd (true≢false (sym digit ∙ mark_no_digit b c mark here)))
    (λ (other : nat_eq b c ≡ false).
    ap (λ o. o >>= lone natural_at) (split_once-other c b bs other)
    ∙ lone_first-digit b (split_once c bs) digit
    ∙ digits_marked c (0 * 10 + digit_value b) bs mark
    ∙ sym (ap (λ o. o >>= marked c) (natural_at-digit b bs digit)))
    (cases_Bool (nat_eq b c)))
    (λ (end : is_ascii_digit b ≡ false).
    let none : (natural_at (b ∷ bs) >>= marked c) ≡ None = ap (λ o. o >>= marked c) (natural_at-other b bs end) in
    ⊎_elim
    (λ (here : nat_eq b c ≡ true). ap (λ o. o >>= lone natural_at) (split_once-here c b bs here) ∙ sym none)
    (λ (other : nat_eq b c ≡ false).
    ap (λ o. o >>= lone natural_at) (split_once-other c b bs other) ∙ lone_first-other b (split_once c bs) end ∙ sym none)
    (cases_Bool (nat_eq b c)))
    (cases_Bool (is_ascii_digit b))

-- The sign does not touch what stands behind.

alone-minus : (o : Option (ℕ × List ℕ)) → (option_map minus o >>= alone) ≡ option_map (λ n. neg_ℤ (pos n)) (o >>= alone)
alone-minus None = refl
alone-minus (Some read) = elim (is_bare read.1) as (λ t. cond t (Some (neg_ℤ (pos read.0))) None ≡ option_map (λ n. neg_ℤ (pos n)) (cond t (Some read.0) None)) [ true ↦ refl | false ↦ refl ]

alone-plus : (o : Option (ℕ × List ℕ)) → (option_map plus o >>= alone) ≡ option_map (λ n. pos n) (o >>= alone)
alone-plus None = refl
alone-plus (Some read) = elim (is_bare read.1) as (λ t. cond t (Some (pos read.0)) None ≡ option_map (λ n. pos n) (cond t (Some read.0) None)) [ true ↦ refl | false ↦ refl ]

give-minus : (rest : List ℕ) (o : Option ℕ) → (option_map (λ n. neg_ℤ (pos n)) o >>= λ number. Some (number, rest)) ≡ option_map minus (o >>= λ number. Some (number, rest))
give-minus rest None = refl
give-minus rest (Some n) = refl

give-plus : (rest : List ℕ) (o : Option ℕ) → (option_map (λ n. pos n) o >>= λ number. Some (number, rest)) ≡ option_map plus (o >>= λ number. Some (number, rest))
give-plus rest None = refl
give-plus rest (Some n) = refl

marked-minus : (c : ℕ) (o : Option (ℕ × List ℕ)) → option_map minus (o >>= marked c) ≡ (option_map minus o >>= marked c)
marked-minus c None = refl
marked-minus c (Some read) =
    let with : List ℕ → ℕ × List ℕ = λ rest. (read.0, rest) in
    let signed : List ℕ → ℤ × List ℕ = λ rest. (neg_ℤ (pos read.0), rest) in
    elim (behind_mark c read.1) as (λ o. option_map minus (option_map with o) ≡ option_map signed o) [ None ↦ refl | Some rest ↦ refl ]

marked-plus : (c : ℕ) (o : Option (ℕ × List ℕ)) → option_map plus (o >>= marked c) ≡ (option_map plus o >>= marked c)
marked-plus c None = refl
marked-plus c (Some read) =
    let with : List ℕ → ℕ × List ℕ = λ rest. (read.0, rest) in
    let signed : List ℕ → ℤ × List ℕ = λ rest. (pos read.0, rest) in
    elim (behind_mark c read.1) as (λ o. option_map plus (option_map with o) ≡ option_map signed o) [ None ↦ refl | Some rest ↦ refl ]

lone_first-minus : (b : ℕ) (o : Option (List ℕ × List ℕ)) → nat_eq b 45 ≡ true
    → (option_map (in_front b) o >>= lone number_at) ≡ option_map minus (o >>= lone natural_at)
unfolding in_front lone
lone_first-minus b None sign = refl
lone_first-minus b (Some parts) sign =
    ap (λ o. (o >>= alone) >>= λ number. Some (number, parts.1)) (number_at-minus b parts.0 sign)
    ∙ ap (λ o. o >>= λ number. Some (number, parts.1)) (alone-minus (natural_at parts.0))
    ∙ give-minus parts.1 (natural_at parts.0 >>= alone)

lone_first-plus : (b : ℕ) (o : Option (List ℕ × List ℕ)) → nat_eq b 45 ≡ false
    → (option_map (in_front b) o >>= lone number_at) ≡ option_map plus (option_map (in_front b) o >>= lone natural_at)
unfolding in_front lone
lone_first-plus b None other = refl
lone_first-plus b (Some parts) other =
    ap (λ o. (o >>= alone) >>= λ number. Some (number, parts.1)) (number_at-plus b parts.0 other)
    ∙ ap (λ o. o >>= λ number. Some (number, parts.1)) (alone-plus (natural_at (b ∷ parts.0)))
    ∙ give-plus parts.1 (natural_at (b ∷ parts.0) >>= alone)

number_marked : (c : ℕ) (text : List ℕ) → is_mark c ≡ true → nat_eq c 45 ≡ false → Marked c number_at text
unfolding Marked lone
number_marked c [] mark plain = refl
number_marked c (b ∷ bs) mark plain =
    ⊎_elim
    (λ (sign : nat_eq b 45 ≡ true).
    let other : nat_eq b c ≡ false = grind (arith, nat_tests) in
    ap (λ o. o >>= lone number_at) (split_once-other c b bs other)
    ∙ lone_first-minus b (split_once c bs) sign
    ∙ ap (option_map minus) (unfold Marked in natural_marked c bs mark)
    ∙ marked-minus c (natural_at bs)
    ∙ sym (ap (λ o. o >>= marked c) (number_at-minus b bs sign)))
    (λ (unsigned : nat_eq b 45 ≡ false).
    let after : (option_map plus (natural_at (b ∷ bs)) >>= marked c) ≡ (number_at (b ∷ bs) >>= marked c) = sym (ap (λ o. o >>= marked c) (number_at-plus b bs unsigned)) in
    let before = ap (option_map plus) (unfold Marked in natural_marked c (b ∷ bs) mark) ∙ marked-plus c (natural_at (b ∷ bs)) ∙ after in
    ⊎_elim
    (λ (here : nat_eq b c ≡ true).
    ap (λ o. o >>= lone number_at) (split_once-here c b bs here) ∙ ap (λ o. option_map plus (o >>= lone natural_at)) (sym (split_once-here c b bs here)) ∙ before)
    (λ (other : nat_eq b c ≡ false).
    ap (λ o. o >>= lone number_at) (split_once-other c b bs other)
    ∙ lone_first-plus b (split_once c bs) unsigned
    ∙ ap (λ o. option_map plus (o >>= lone natural_at)) (sym (split_once-other c b bs other))
    ∙ before)
    (cases_Bool (nat_eq b c)))
    (cases_Bool (nat_eq b 45))

mark_other : (b c : ℕ) → is_mark c ≡ true → is_blank b ≡ true → nat_eq b c ≡ false
mark_other b c mark blank =
    ⊎_elim (λ (here : nat_eq b c ≡ true). absurd (true≢false (sym blank ∙ same_blank b c here ∙ mark_no_blank c mark))) (λ (other : nat_eq b c ≡ false). other) (cases_Bool (nat_eq b c))

-- a number behind blanks
spaced : {A : Type 0} → (List ℕ → Option (A × List ℕ)) → List ℕ → Option (A × List ℕ)
spaced at text = at (after_blanks text)

lone_spaced-blank : {A : Type 0} (at : List ℕ → Option (A × List ℕ)) (b : ℕ) (o : Option (List ℕ × List ℕ)) → is_blank b ≡ true
    → (option_map (in_front b) o >>= lone (spaced at)) ≡ (o >>= lone (spaced at))
unfolding in_front lone spaced
lone_spaced-blank at b None blank = refl
lone_spaced-blank at b (Some parts) blank = ap (λ t. (at t >>= alone) >>= λ number. Some (number, parts.1)) (after_blanks-blank b parts.0 blank)

lone_spaced-field : {A : Type 0} (at : List ℕ → Option (A × List ℕ)) (b : ℕ) (o : Option (List ℕ × List ℕ)) → is_blank b ≡ false
    → (option_map (in_front b) o >>= lone (spaced at)) ≡ (option_map (in_front b) o >>= lone at)
unfolding in_front lone spaced
lone_spaced-field at b None field = refl
lone_spaced-field at b (Some parts) field = ap (λ t. (at t >>= alone) >>= λ number. Some (number, parts.1)) (after_blanks-field b parts.0 field)

spaced_marked : {A : Type 0} (at : List ℕ → Option (A × List ℕ)) (c : ℕ) (text : List ℕ) → is_mark c ≡ true → ((t : List ℕ) → Marked c at t) → Marked c (spaced at) text
unfolding Marked spaced lone
spaced_marked at c [] mark here = here []
spaced_marked at c (b ∷ bs) mark each =
    ⊎_elim
    (λ (blank : is_blank b ≡ true).
    let other : nat_eq b c ≡ false = mark_other b c mark blank in
    ap (λ o. o >>= lone (spaced at)) (split_once-other c b bs other)
    ∙ lone_spaced-blank at b (split_once c bs) blank
    ∙ spaced_marked at c bs mark each
    ∙ sym (ap (λ t. at t >>= marked c) (after_blanks-blank b bs blank)))
    (λ (field : is_blank b ≡ false).
    let now : (split_once c (b ∷ bs) >>= lone at) ≡ (at (b ∷ bs) >>= marked c) = each (b ∷ bs) in
    let after = now ∙ sym (ap (λ t. at t >>= marked c) (after_blanks-field b bs field)) in
    ⊎_elim
    (λ (here : nat_eq b c ≡ true).
    ap (λ o. o >>= lone (spaced at)) (split_once-here c b bs here) ∙ ap (λ o. o >>= lone at) (sym (split_once-here c b bs here)) ∙ after)
    (λ (other : nat_eq b c ≡ false).
    ap (λ o. o >>= lone (spaced at)) (split_once-other c b bs other)
    ∙ lone_spaced-field at b (split_once c bs) field
    ∙ ap (λ o. o >>= lone at) (sym (split_once-other c b bs other))
    ∙ after)
    (cases_Bool (nat_eq b c)))
    (cases_Bool (is_blank b))

before_number : (o : Option (List ℕ × List ℕ)) → (o >>= λ parts. lone_number parts.0 >>= λ n. Some (n, parts.1)) ≡ (o >>= lone (spaced number_at))
unfolding lone spaced
before_number None = refl
before_number (Some parts) = ap (λ o. o >>= λ n. Some (n, parts.1)) (lone_number-at parts.0)

before_natural : (o : Option (List ℕ × List ℕ)) → (o >>= λ parts. lone_natural parts.0 >>= λ n. Some (n, parts.1)) ≡ (o >>= lone (spaced natural_at))
unfolding lone spaced
before_natural None = refl
before_natural (Some parts) = ap (λ o. o >>= λ n. Some (n, parts.1)) (lone_natural-at parts.0)

pub number_before-at : (c : ℕ) (text : List ℕ) → is_mark c ≡ true → nat_eq c 45 ≡ false → number_before c text ≡ (number_at (after_blanks text) >>= marked c)
unfolding number_before Marked spaced
number_before-at c text mark plain = before_number (split_once c text) ∙ spaced_marked number_at c text mark (λ t. number_marked c t mark plain)

pub natural_before-at : (c : ℕ) (text : List ℕ) → is_mark c ≡ true → natural_before c text ≡ (natural_at (after_blanks text) >>= marked c)
unfolding natural_before Marked spaced
natural_before-at c text mark = before_natural (split_once c text) ∙ spaced_marked natural_at c text mark (λ t. natural_marked c t mark)

-- The same of numbers as they are handed on.

handed-closed : (o : Option (ℤ × List ℕ)) → handed (o >>= closed) ≡ (handed o >>= closed)
unfolding handed
handed-closed None = refl
handed-closed (Some read) = elim (ends read.1) as (λ e. option_map {U = ℤ × List ℕ} (λ r. (capped r.0, r.1)) (cond e (Some read) None) ≡ cond e (Some (capped read.0, read.1)) None) [ true ↦ refl | false ↦ refl ]

handed-alone : (o : Option (ℤ × List ℕ)) → option_map capped (o >>= alone) ≡ (handed o >>= alone)
unfolding handed
handed-alone None = refl
handed-alone (Some read) = elim (is_bare read.1) as (λ e. option_map capped (cond e (Some read.0) None) ≡ cond e (Some (capped read.0)) None) [ true ↦ refl | false ↦ refl ]

handed_natural-alone : (o : Option (ℕ × List ℕ)) → option_map capped_natural (o >>= alone) ≡ (handed_natural o >>= alone)
unfolding handed_natural
handed_natural-alone None = refl
handed_natural-alone (Some read) = elim (is_bare read.1) as (λ e. option_map capped_natural (cond e (Some read.0) None) ≡ cond e (Some (capped_natural read.0)) None) [ true ↦ refl | false ↦ refl ]

handed-marked : (c : ℕ) (o : Option (ℤ × List ℕ)) → handed (o >>= marked c) ≡ (handed o >>= marked c)
unfolding handed
handed-marked c None = refl
handed-marked c (Some read) =
    let with : List ℕ → ℤ × List ℕ = λ rest. (read.0, rest) in
    let given : List ℕ → ℤ × List ℕ = λ rest. (capped read.0, rest) in
    elim (behind_mark c read.1) as (λ o. option_map {U = ℤ × List ℕ} (λ r. (capped r.0, r.1)) (option_map with o) ≡ option_map given o) [ None ↦ refl | Some rest ↦ refl ]

handed_natural-marked : (c : ℕ) (o : Option (ℕ × List ℕ)) → handed_natural (o >>= marked c) ≡ (handed_natural o >>= marked c)
unfolding handed_natural
handed_natural-marked c None = refl
handed_natural-marked c (Some read) =
    let with : List ℕ → ℕ × List ℕ = λ rest. (read.0, rest) in
    let given : List ℕ → ℕ × List ℕ = λ rest. (min read.0 (2 ^ 62 + 1), rest) in
    elim (behind_mark c read.1) as (λ o. option_map {U = ℕ × List ℕ} (λ r. (min r.0 (2 ^ 62 + 1), r.1)) (option_map with o) ≡ option_map given o) [ None ↦ refl | Some rest ↦ refl ]

pub handed-field : (text : List ℕ) → handed (number_field text) ≡ (handed (number_at (after_blanks text)) >>= closed)
handed-field text = ap handed (number_field-at text) ∙ handed-closed (number_at (after_blanks text))

pub handed-lone : (text : List ℕ) → option_map capped (lone_number text) ≡ (handed (number_at (after_blanks text)) >>= alone)
handed-lone text = ap (option_map capped) (lone_number-at text) ∙ handed-alone (number_at (after_blanks text))

pub handed_natural-lone : (text : List ℕ) → option_map capped_natural (lone_natural text) ≡ (handed_natural (natural_at (after_blanks text)) >>= alone)
handed_natural-lone text = ap (option_map capped_natural) (lone_natural-at text) ∙ handed_natural-alone (natural_at (after_blanks text))

pub handed-before : (c : ℕ) (text : List ℕ) → IsTrue (is_mark c && not (nat_eq c 45)) → handed (number_before c text) ≡ (handed (number_at (after_blanks text)) >>= marked c)
handed-before c text mark =
    let both = and_parts (is_mark c) (not (nat_eq c 45)) mark in
    ap handed (number_before-at c text both.0 (not-true _ both.1)) ∙ handed-marked c (number_at (after_blanks text))

pub handed_natural-before : (c : ℕ) (text : List ℕ) → IsTrue (is_mark c) → handed_natural (natural_before c text) ≡ (handed_natural (natural_at (after_blanks text)) >>= marked c)
handed_natural-before c text mark = ap handed_natural (natural_before-at c text mark) ∙ handed_natural-marked c (natural_at (after_blanks text))

pub behind_mark-first : (c : ℕ) (text : List ℕ) → IsTrue (is_mark c) → behind_mark c text ≡ mark_at c (after_blanks text)
behind_mark-first c text mark = behind_mark-at c text (mark_no_blank c mark)

-- A number with its sign, as it is handed on.

capped-minus : (n : ℕ) → capped (neg_ℤ (pos n)) ≡ neg_ℤ (pos (min n (2 ^ 62 + 1)))
capped-minus zero = refl
capped-minus (suc n) =
    let one : min (suc n) (2 ^ 62 + 1) ≡ suc (min n (2 ^ 62)) = omega arith in
    sym (ap (λ m. neg_ℤ (pos m)) one)

pub handed-minus : (o : Option (ℕ × List ℕ)) → handed (option_map minus o) ≡ option_map minus (handed_natural o)
unfolding handed handed_natural
handed-minus None = refl
handed-minus (Some read) = ap (λ (z : ℤ). Some (z, read.1)) (capped-minus read.0)

pub handed-plus : (o : Option (ℕ × List ℕ)) → handed (option_map plus o) ≡ option_map plus (handed_natural o)
unfolding handed handed_natural
handed-plus None = refl
handed-plus (Some read) = refl

-- the number of a text that begins with a minus, and of any other
pub handed-signed : (text : List ℕ) → begins_with 45 text ≡ true → handed (number_at text) ≡ option_map minus (handed_natural (natural_at (take (length text - 1) (drop 1 text))))
handed-signed [] sign = absurd (cc)
handed-signed (b ∷ bs) sign =
    let all : take (length (b ∷ bs) - 1) bs ≡ bs = take_all _ bs (omega arith) in
    rw all (ap handed (number_at-minus b bs sign) ∙ handed-minus (natural_at bs))

pub handed-unsigned : (text : List ℕ) → begins_with 45 text ≡ false → handed (number_at text) ≡ option_map plus (handed_natural (natural_at text))
handed-unsigned [] unsigned = handed-plus None
handed-unsigned (b ∷ bs) unsigned = ap handed (number_at-plus b bs unsigned) ∙ handed-plus (natural_at (b ∷ bs))

pub ruleset cursor = (handed-field, handed-lone, handed_natural-lone, handed-before, handed_natural-before, behind_mark-first)
