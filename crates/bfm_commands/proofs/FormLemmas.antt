-- The forms of lines, step by step as a cursor reads them, and their limits, which do not see that large numbers are capped.
use Rattle.std.proofs.Common.{◌≡◌, ℕ, ◌≤◌, ◌<◌, ◌-◌, ◌+◌, Bool, lit≤, ◌^◌, min, true, false, cond, ◌&&◌, nat_le, ℤ, pos, negsuc, unsigned_abs, List, Option, None, Some, option_map, Ok, Err, refl, sym, ap, ◌∙◌, ⊎_elim, arith}
use Rattle.std.specs.Option.{option_or, ok_or}
use Rattle.std.proofs.lemmas.Bool.{cases_lt}
use Rattle.std.proofs.lemmas.Bool.Decides.{nat_tests}
use Rattle.bfm_base.specs.declared.place.P3.{P3}
use Rattle.bfm_base.specs.Place.{extent_of}
use Rattle.bfm_base.specs.declared.cause.Cause.TheVariants.{OutOfLimit}
use Rattle.bfm_base.specs.declared.limits.TheConstants.{GREATEST_NUMBER, START_REACH, MOST_MONOMERS, GREATEST_CLASS, GREATEST_WEIGHT, GREATEST_THRESHOLD}
use Rattle.bfm_lexer.specs.Fields.{◌>>=◌, behind_mark, number_field, lone_number, lone_natural, number_before, natural_before}
use Rattle.bfm_lexer.specs.Cursor.{capped, capped_natural, handed, handed_natural}
use Rattle.bfm_lexer.proofs.NumberLemmas.{unsigned_abs-capped, capped-within}
use Rattle.bfm_commands.specs.Forms.{Numbered, value_number, vector_numbers, pair_numbers, single_numbers, span_numbers, range_numbers, string_of, frame_numbers, natural_within, monomer_of, limited_value, value_of, limited_vector, vector_entry, other_monomers, limited_pair, pair_entry, ordered_monomers, limited_monomers, monomers_entry, monomers_numbers, lone_pair, lone_span, valued_range, limited_range, range_entry, contact_numbers, weight_within, contact_of, limited_contact, contact_entry, threshold_entry, limited_frame, frame_line}
use Rattle.bfm_commands.specs.Capped.{capped_place, capped_vector, capped_pair, capped_numbered, capped_frame}

-- A step of a reading, where what comes after it gives the same of a number and of what is handed on of it.

after_number : {C D : Type 0} (f : C → D) (o : Option (ℤ × List ℕ)) (g : ℤ × List ℕ → Option C) (h : ℤ × List ℕ → Option D)
    → ((x : ℤ × List ℕ) → option_map f (g x) ≡ h (capped x.0, x.1)) → option_map f (o >>= g) ≡ (handed o >>= h)
unfolding handed
after_number f None g h same = refl
after_number f (Some x) g h same = same x

after_natural : {C D : Type 0} (f : C → D) (o : Option (ℕ × List ℕ)) (g : ℕ × List ℕ → Option C) (h : ℕ × List ℕ → Option D)
    → ((x : ℕ × List ℕ) → option_map f (g x) ≡ h (capped_natural x.0, x.1)) → option_map f (o >>= g) ≡ (handed_natural o >>= h)
unfolding handed_natural
after_natural f None g h same = refl
after_natural f (Some x) g h same = same x

after_lone : {C D : Type 0} (f : C → D) (o : Option ℤ) (g : ℤ → Option C) (h : ℤ → Option D)
    → ((n : ℤ) → option_map f (g n) ≡ h (capped n)) → option_map f (o >>= g) ≡ (option_map capped o >>= h)
after_lone f None g h same = refl
after_lone f (Some n) g h same = same n

after_lone_natural : {C D : Type 0} (f : C → D) (o : Option ℕ) (g : ℕ → Option C) (h : ℕ → Option D)
    → ((n : ℕ) → option_map f (g n) ≡ h (capped_natural n)) → option_map f (o >>= g) ≡ (option_map capped_natural o >>= h)
after_lone_natural f None g h same = refl
after_lone_natural f (Some n) g h same = same n

after_rest : {A C D : Type 0} (f : C → D) (o : Option A) (g : A → Option C) (h : A → Option D)
    → ((x : A) → option_map f (g x) ≡ h x) → option_map f (o >>= g) ≡ (o >>= h)
after_rest f None g h same = refl
after_rest f (Some x) g h same = same x

pub value_number-read : (rest : List ℕ) → option_map capped (value_number rest) ≡ (behind_mark 61 rest >>= λ r. option_map capped (lone_number r))
unfolding value_number
value_number-read rest = after_rest capped (behind_mark 61 rest) lone_number (λ r. option_map capped (lone_number r)) (λ r. refl)

-- The numbers of each form, where each is handed on before the next is read.

abbrev pub vector_steps : List ℕ → Option (P3 × ℤ)
vector_steps line = do
  x ← handed (number_field line)
  y ← handed (number_field x.1)
  z ← handed (number_before 58 y.1)
  id ← option_map capped (lone_number z.1)
  Some (record { x = x.0; y = y.0; z = z.0 }, id)

pub vector_numbers-read : (line : List ℕ) → option_map capped_vector (vector_numbers line) ≡ vector_steps line
unfolding vector_numbers
vector_numbers-read line =
    after_number capped_vector (number_field line) _ _ (λ x.
    after_number capped_vector (number_field x.1) _ _ (λ y.
    after_number capped_vector (number_before 58 y.1) _ _ (λ z.
    after_lone capped_vector (lone_number z.1) _ _ (λ id. refl))))

abbrev pub pair_steps : List ℕ → Option (ℤ × ℤ)
pair_steps line = do
  i ← handed (number_field line)
  j ← option_map capped (lone_number i.1)
  Some (i.0, j)

pub pair_numbers-read : (line : List ℕ) → option_map capped_pair (pair_numbers line) ≡ pair_steps line
unfolding pair_numbers
pair_numbers-read line =
    after_number capped_pair (number_field line) _ _ (λ i.
    after_lone capped_pair (lone_number i.1) _ _ (λ j. refl))

abbrev pub single_steps : List ℕ → Option Numbered
single_steps line = do
  a ← handed (number_before 58 line)
  t ← option_map capped (lone_number a.1)
  Some ((a.0, a.0), t)

pub single_numbers-read : (line : List ℕ) → option_map capped_numbered (single_numbers line) ≡ single_steps line
unfolding single_numbers
single_numbers-read line =
    after_number capped_numbered (number_before 58 line) _ _ (λ a.
    after_lone capped_numbered (lone_number a.1) _ _ (λ t. refl))

abbrev pub span_steps : List ℕ → Option Numbered
span_steps line = do
  a ← handed_natural (natural_before 45 line)
  b ← handed_natural (natural_before 58 a.1)
  t ← option_map capped (lone_number b.1)
  Some ((pos a.0, pos b.0), t)

pub span_numbers-read : (line : List ℕ) → option_map capped_numbered (span_numbers line) ≡ span_steps line
unfolding span_numbers
span_numbers-read line =
    after_natural capped_numbered (natural_before 45 line) _ _ (λ a.
    after_natural capped_numbered (natural_before 58 a.1) _ _ (λ b.
    after_lone capped_numbered (lone_number b.1) _ _ (λ t. refl)))

map_or : {A B : Type 0} (f : A → B) (o p : Option A) → option_map f (option_or o p) ≡ option_or (option_map f o) (option_map f p)
map_or f None p = refl
map_or f (Some x) p = refl

pub range_numbers-read : (line : List ℕ) → option_map capped_numbered (range_numbers line) ≡ option_or (option_map capped_numbered (single_numbers line)) (option_map capped_numbered (span_numbers line))
unfolding range_numbers
range_numbers-read line = map_or capped_numbered (single_numbers line) (span_numbers line)

lone_pair-read : (line : List ℕ) → option_map capped_pair (lone_pair line) ≡ (option_map capped (lone_number line) >>= λ a. Some (a, a))
unfolding lone_pair
lone_pair-read line = after_lone capped_pair (lone_number line) _ _ (λ a. refl)

abbrev pub lone_span_steps : List ℕ → Option (ℤ × ℤ)
lone_span_steps line = do
  a ← handed_natural (natural_before 45 line)
  b ← option_map capped_natural (lone_natural a.1)
  Some (pos a.0, pos b)

pub lone_span-read : (line : List ℕ) → option_map capped_pair (lone_span line) ≡ lone_span_steps line
unfolding lone_span
lone_span-read line =
    after_natural capped_pair (natural_before 45 line) _ _ (λ a.
    after_lone_natural capped_pair (lone_natural a.1) _ _ (λ b. refl))

pub monomers_numbers-read : (line : List ℕ) → option_map capped_pair (monomers_numbers line)
    ≡ option_or (option_map capped (lone_number line) >>= λ a. Some (a, a)) (option_map capped_pair (lone_span line))
unfolding monomers_numbers
monomers_numbers-read line = map_or capped_pair (lone_pair line) (lone_span line) ∙ ap (λ o. option_or o (option_map capped_pair (lone_span line))) (lone_pair-read line)

abbrev pub contact_steps : List ℕ → Option Numbered
contact_steps line = do
  a ← handed (number_field line)
  b ← handed (number_before 58 a.1)
  w ← option_map capped (lone_number b.1)
  Some ((a.0, b.0), w)

pub contact_numbers-read : (line : List ℕ) → option_map capped_numbered (contact_numbers line) ≡ contact_steps line
unfolding contact_numbers
contact_numbers-read line =
    after_number capped_numbered (number_field line) _ _ (λ a.
    after_number capped_numbered (number_before 58 a.1) _ _ (λ b.
    after_lone capped_numbered (lone_number b.1) _ _ (λ w. refl)))

abbrev pub frame_steps : List ℕ → Option (P3 × List ℕ)
frame_steps line = do
  x ← handed (number_field line)
  y ← handed (number_field x.1)
  z ← handed (number_field y.1)
  ids ← string_of z.1
  Some (record { x = x.0; y = y.0; z = z.0 }, ids)

pub frame_numbers-read : (line : List ℕ) → option_map capped_frame (frame_numbers line) ≡ frame_steps line
unfolding frame_numbers
frame_numbers-read line =
    after_number capped_frame (number_field line) _ _ (λ x.
    after_number capped_frame (number_field x.1) _ _ (λ y.
    after_number capped_frame (number_field y.1) _ _ (λ z.
    after_rest capped_frame (string_of z.1) _ _ (λ ids. refl))))

-- The limits do not see the cap.

-- a number far beyond a limit is beyond it
beyond : (n limit : ℕ) → limit ≤ 2 ^ 62 → 2 ^ 62 < n → (nat_le (min n (2 ^ 62 + 1)) limit ≡ false) × (nat_le n limit ≡ false)
beyond n limit low high =
    let capped_far : limit < min n (2 ^ 62 + 1) = omega arith in
    let far : limit < n = omega arith in
    (grind (arith, nat_tests), grind (arith, nat_tests))

test_capped : (n limit : ℕ) → limit ≤ 2 ^ 62 → nat_le (min n (2 ^ 62 + 1)) limit ≡ nat_le n limit
test_capped n limit low =
    ⊎_elim
    (λ (far : 2 ^ 62 < n). (beyond n limit low far).0 ∙ sym (beyond n limit low far).1)
    (λ (near : n ≤ 2 ^ 62). let same : min n (2 ^ 62 + 1) ≡ n = omega arith in ap (λ m. nat_le m limit) same)
    (cases_lt (2 ^ 62) n)

within_beyond : (least n limit : ℕ) → nat_le n limit ≡ false → natural_within least limit (pos n) ≡ None
within_beyond least n limit far = rw far (elim (nat_le least n) as (λ t. cond (t && false) (Some n) None ≡ None) [ true ↦ refl | false ↦ refl ])

pub natural_within-capped : (least limit : ℕ) (n : ℤ) → limit ≤ 2 ^ 62 → natural_within least limit (capped n) ≡ natural_within least limit n
natural_within-capped least limit (negsuc n) low = refl
natural_within-capped least limit (pos n) low =
    ⊎_elim
    (λ (far : 2 ^ 62 < n). within_beyond least (min n (2 ^ 62 + 1)) limit (beyond n limit low far).0 ∙ sym (within_beyond least n limit (beyond n limit low far).1))
    (λ (near : n ≤ 2 ^ 62). let same : min n (2 ^ 62 + 1) ≡ n = omega arith in ap (λ m. natural_within least limit (pos m)) same)
    (cases_lt (2 ^ 62) n)

monomer_of-capped : (n : ℤ) → monomer_of (capped n) ≡ monomer_of n
monomer_of-capped n = ap (option_map (λ number. number - 1)) (natural_within-capped 1 MOST_MONOMERS n (lit≤ tt))

extent_of-capped : (p : P3) → extent_of (capped_place p) ≡ min (extent_of p) (2 ^ 62 + 1)
extent_of-capped p = omega (arith, unsigned_abs-capped p.x, unsigned_abs-capped p.y, unsigned_abs-capped p.z)

capped_place-within : (p : P3) → extent_of p ≤ 2 ^ 62 → capped_place p ≡ p
capped_place-within p near =
    let x = capped-within p.x (omega arith) in
    let y = capped-within p.y (omega arith) in
    let z = capped-within p.z (omega arith) in
    rw (x, y, z) refl

nat_le_true : (n limit : ℕ) → nat_le n limit ≡ true → n ≤ limit
nat_le_true n limit test = grind (arith, nat_tests)

limited_same : (entry : P3 × ℤ) (p q : Bool) → nat_le (extent_of entry.0) GREATEST_NUMBER ≡ p → nat_le (unsigned_abs entry.1) GREATEST_NUMBER ≡ q
    → cond (p && q) (Ok (capped_vector entry)) (Err OutOfLimit) ≡ cond (p && q) (Ok entry) (Err OutOfLimit)
limited_same entry true true size id =
    let place = capped_place-within entry.0 (nat_le_true _ _ size) in
    let number = capped-within entry.1 (nat_le_true _ _ id) in
    ap (λ v. Ok (v, capped entry.1)) place ∙ ap (λ n. Ok (entry.0, n)) number
limited_same entry true false size id = refl
limited_same entry false q size id = refl

frame_same : (line : P3 × List ℕ) (p : Bool) → nat_le (extent_of line.0) START_REACH ≡ p → cond p (Ok (capped_frame line)) (Err OutOfLimit) ≡ cond p (Ok line) (Err OutOfLimit)
frame_same line true size =
    let low : extent_of line.0 ≤ 2 ^ 62 = omega (arith, nat_le_true _ _ size) in
    ap (λ v. Ok (v, line.1)) (capped_place-within line.0 low)
frame_same line false size = refl

limited_vector-capped : (o : Option (P3 × ℤ)) → limited_vector (option_map capped_vector o) ≡ limited_vector o
limited_vector-capped None = refl
limited_vector-capped (Some entry) =
    let size = ap (λ n. nat_le n GREATEST_NUMBER) (extent_of-capped entry.0) ∙ test_capped (extent_of entry.0) GREATEST_NUMBER (lit≤ tt) in
    let id = ap (λ n. nat_le n GREATEST_NUMBER) (unsigned_abs-capped entry.1) ∙ test_capped (unsigned_abs entry.1) GREATEST_NUMBER (lit≤ tt) in
    ap (λ t. cond (t && nat_le (unsigned_abs (capped entry.1)) GREATEST_NUMBER) (Ok (capped_vector entry)) (Err OutOfLimit)) size
    ∙ ap (λ t. cond (nat_le (extent_of entry.0) GREATEST_NUMBER && t) (Ok (capped_vector entry)) (Err OutOfLimit)) id
    ∙ limited_same entry (nat_le (extent_of entry.0) GREATEST_NUMBER) (nat_le (unsigned_abs entry.1) GREATEST_NUMBER) refl refl

limited_frame-capped : (o : Option (P3 × List ℕ)) → limited_frame (option_map capped_frame o) ≡ limited_frame o
limited_frame-capped None = refl
limited_frame-capped (Some line) =
    let size = ap (λ n. nat_le n START_REACH) (extent_of-capped line.0) ∙ test_capped (extent_of line.0) START_REACH (lit≤ tt) in
    ap (λ t. cond t (Ok (capped_frame line)) (Err OutOfLimit)) size ∙ frame_same line (nat_le (extent_of line.0) START_REACH) refl

limited_pair-capped : (o : Option (ℤ × ℤ)) → limited_pair (option_map capped_pair o) ≡ limited_pair o
limited_pair-capped None = refl
limited_pair-capped (Some entry) =
    ap (λ i. other_monomers i (monomer_of (capped entry.1))) (monomer_of-capped entry.0)
    ∙ ap (other_monomers (monomer_of entry.0)) (monomer_of-capped entry.1)

limited_monomers-capped : (o : Option (ℤ × ℤ)) → limited_monomers (option_map capped_pair o) ≡ limited_monomers o
limited_monomers-capped None = refl
limited_monomers-capped (Some entry) =
    ap (λ first. ordered_monomers first (monomer_of (capped entry.1))) (monomer_of-capped entry.0)
    ∙ ap (ordered_monomers (monomer_of entry.0)) (monomer_of-capped entry.1)

limited_range-capped : (greatest : ℕ) (o : Option Numbered) → greatest ≤ 2 ^ 62 → limited_range greatest (option_map capped_numbered o) ≡ limited_range greatest o
limited_range-capped greatest None low = refl
limited_range-capped greatest (Some entry) low =
    ap (λ range. valued_range range (natural_within 0 greatest (capped entry.1))) (limited_monomers-capped (Some entry.0))
    ∙ ap (valued_range (limited_monomers (Some entry.0))) (natural_within-capped 0 greatest entry.1 low)

weight_same : (w : ℤ) (p : Bool) → nat_le (unsigned_abs w) GREATEST_WEIGHT ≡ p → cond p (Some (capped w)) None ≡ cond p (Some w) None
weight_same w true size =
    let low : unsigned_abs w ≤ 2 ^ 62 = omega (arith, nat_le_true _ _ size) in
    ap (λ (n : ℤ). Some n) (capped-within w low)
weight_same w false size = refl

weight_within-capped : (w : ℤ) → weight_within (capped w) ≡ weight_within w
weight_within-capped w =
    let size = ap (λ n. nat_le n GREATEST_WEIGHT) (unsigned_abs-capped w) ∙ test_capped (unsigned_abs w) GREATEST_WEIGHT (lit≤ tt) in
    ap (λ t. cond t (Some (capped w)) None) size ∙ weight_same w (nat_le (unsigned_abs w) GREATEST_WEIGHT) refl

limited_contact-capped : (o : Option Numbered) → limited_contact (option_map capped_numbered o) ≡ limited_contact o
limited_contact-capped None = refl
limited_contact-capped (Some entry) =
    let class : (n : ℤ) → natural_within 1 GREATEST_CLASS (capped n) ≡ natural_within 1 GREATEST_CLASS n = λ n. natural_within-capped 1 GREATEST_CLASS n (lit≤ tt) in
    ap (λ a. contact_of a (natural_within 1 GREATEST_CLASS (capped entry.0.1)) (weight_within (capped entry.1))) (class entry.0.0)
    ∙ ap (λ b. contact_of (natural_within 1 GREATEST_CLASS entry.0.0) b (weight_within (capped entry.1))) (class entry.0.1)
    ∙ ap (contact_of (natural_within 1 GREATEST_CLASS entry.0.0) (natural_within 1 GREATEST_CLASS entry.0.1)) (weight_within-capped entry.1)

limited_value-capped : (least greatest : ℕ) (o : Option ℤ) → greatest ≤ 2 ^ 62 → limited_value least greatest (option_map capped o) ≡ limited_value least greatest o
limited_value-capped least greatest None low = refl
limited_value-capped least greatest (Some n) low = ap (λ o. ok_or o OutOfLimit) (natural_within-capped least greatest n low)

-- Each reading by the numbers as they are handed on.

pub value_of-read : (rest : List ℕ) (least greatest : ℕ) → greatest ≤ 2 ^ 62 → value_of rest least greatest ≡ limited_value least greatest (option_map capped (value_number rest))
unfolding value_of
value_of-read rest least greatest low = sym (limited_value-capped least greatest (value_number rest) low)

pub vector_entry-read : (line : List ℕ) → vector_entry line ≡ limited_vector (option_map capped_vector (vector_numbers line))
unfolding vector_entry
vector_entry-read line = sym (limited_vector-capped (vector_numbers line))

pub pair_entry-read : (line : List ℕ) → pair_entry line ≡ limited_pair (option_map capped_pair (pair_numbers line))
unfolding pair_entry
pair_entry-read line = sym (limited_pair-capped (pair_numbers line))

pub range_entry-read : (line : List ℕ) (greatest : ℕ) → greatest < 2 ^ 32 → range_entry line greatest ≡ limited_range greatest (option_map capped_numbered (range_numbers line))
unfolding range_entry
range_entry-read line greatest low = sym (limited_range-capped greatest (range_numbers line) (omega arith))

pub monomers_entry-read : (line : List ℕ) → monomers_entry line ≡ limited_monomers (option_map capped_pair (monomers_numbers line))
unfolding monomers_entry
monomers_entry-read line = sym (limited_monomers-capped (monomers_numbers line))

pub contact_entry-read : (line : List ℕ) → contact_entry line ≡ limited_contact (option_map capped_numbered (contact_numbers line))
unfolding contact_entry
contact_entry-read line = sym (limited_contact-capped (contact_numbers line))

pub threshold_entry-read : (line : List ℕ) → threshold_entry line ≡ limited_value 0 GREATEST_THRESHOLD (option_map capped (lone_number line))
unfolding threshold_entry
threshold_entry-read line = sym (limited_value-capped 0 GREATEST_THRESHOLD (lone_number line) (lit≤ tt))

pub frame_line-read : (line : List ℕ) → frame_line line ≡ limited_frame (option_map capped_frame (frame_numbers line))
unfolding frame_line
frame_line-read line = sym (limited_frame-capped (frame_numbers line))

pub ruleset forms = (value_number-read, vector_numbers-read, pair_numbers-read, single_numbers-read, span_numbers-read, range_numbers-read, frame_numbers-read, lone_span-read, monomers_numbers-read, contact_numbers-read, value_of-read, monomers_entry-read, contact_entry-read, threshold_entry-read, vector_entry-read, pair_entry-read, range_entry-read, frame_line-read)
