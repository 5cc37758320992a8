-- What the header of a world says of single monomers is what is said of them in the world.
use Rattle.std.proofs.Common.{◌≡◌, ℕ, zero, suc, ◌+◌, ◌<◌, ◌≤◌, Bool, true, false, cond, not, ◌&&◌, ◌||◌, nat_eq, List, map, length, get_or, refl, sym, ap, ◌∙◌, ⊎_elim, arith}
use Rattle.std.specs.List.{flat_map, range_with_len}
use Rattle.std.proofs.lemmas.Bool.{cases_Bool}
use Rattle.std.proofs.lemmas.Bool.Decides.{nat_tests}
use Rattle.std.proofs.lemmas.List.{ext_get_or}
use Rattle.bfm_world.specs.Configuration.{Configuration, IsValid, label_of, valence_of, is_fixed}
use Rattle.bfm_commands.specs.History.{is_among, last_said, said_from, said_of_each, is_in_some, in_some_from, fixed_of_each}
use Rattle.bfm_commands.specs.declared.forms.Range.{Range}
use Rattle.bfm_commands.proofs.RangeLemmas.{length-said_from}
use Rattle.bfm_commands.proofs.FixedLemmas.{length-in_some_from}
use Rattle.bfm_session.proofs.ReadBackRows.{said_at, listed_marks, fixed_at, listed_fixed}
use Rattle.bfm_session.proofs.ReadBackEntries.{single}
use Rattle.bfm_session.proofs.ReadBackListed.{each_single}

among_other : (a k : ℕ) → k < a → is_among (single a) k ≡ false
among_other a k l = grind (arith, nat_tests)

among_same : (a : ℕ) → is_among (single a) a ≡ true
among_same a = grind (arith, nat_tests)

among_less : (a k : ℕ) → a < k → is_among (single a) k ≡ false
among_less a k l = grind (arith, nat_tests)

and_none : (a : Bool) → (a && false) ≡ false
and_none true = refl
and_none false = refl

or_alone : (a : Bool) → ((a && true) || false) ≡ a
or_alone true = refl
or_alone false = refl

add_none : (n : ℕ) → n + 0 ≡ n
add_none n = omega arith

zero_add : (n : ℕ) → 0 + n ≡ n
zero_add n = omega arith

-- Labels and valences.

-- what monomers from one on say of another, where a value stood before
said_behind : (ℕ → ℕ) → ℕ → ℕ → ℕ → ℕ → ℕ
said_behind mark a n k value = last_said (each_single (flat_map (said_at mark) (range_with_len a n))) k value

-- the first of them
said_first : (mark : ℕ → ℕ) (a n k value : ℕ) → said_behind mark a (suc n) k value ≡ said_behind mark (a + 1) n k (cond (not (nat_eq (mark a) 0) && is_among (single a) k) (mark a) value)
unfolding said_behind
said_first mark a n k value =
    ⊎_elim
    (λ (none : nat_eq (mark a) 0 ≡ true). rw none refl)
    (λ (some : nat_eq (mark a) 0 ≡ false). rw some refl)
    (cases_Bool (nat_eq (mark a) 0))

-- those behind it say nothing of it
said_before : (mark : ℕ → ℕ) (a n k value : ℕ) → k < a → said_behind mark a n k value ≡ value
said_before mark a zero k value l = unfold said_behind in refl
said_before mark a (suc n) k value l =
    said_first mark a n k value
    ∙ (ap (λ b. said_behind mark (a + 1) n k (cond (not (nat_eq (mark a) 0) && b) (mark a) value)) (among_other a k l)
    ∙ (ap (λ b. said_behind mark (a + 1) n k (cond b (mark a) value)) (and_none (not (nat_eq (mark a) 0)))
    ∙ said_before mark (a + 1) n k value (omega (arith, l))))

-- the value of a monomer itself
own : (b : ℕ) → cond (not (nat_eq b 0) && true) b 0 ≡ b
own b =
    ⊎_elim
    (λ (none : nat_eq b 0 ≡ true). rw none (let is : b ≡ 0 = grind (arith, nat_tests) in sym is))
    (λ (some : nat_eq b 0 ≡ false). rw some refl)
    (cases_Bool (nat_eq b 0))

said_there : (mark : ℕ → ℕ) (a n k : ℕ) → a ≤ k → k < a + n → said_behind mark a n k 0 ≡ mark k
said_there mark a zero k l m = absurd (omega (arith, l, m))
said_there mark a (suc n) k l m =
    said_first mark a n k 0
    ∙ ⊎_elim
    (λ (same : nat_eq a k ≡ true).
    let is : a ≡ k = grind (arith, nat_tests) in
    ap (λ b. said_behind mark (a + 1) n k (cond (not (nat_eq (mark a) 0) && b) (mark a) 0)) (ap (is_among (single a)) (sym is) ∙ among_same a)
    ∙ (ap (said_behind mark (a + 1) n k) (own (mark a)) ∙ (said_before mark (a + 1) n k (mark a) (omega (arith, is)) ∙ ap mark is)))
    (λ (other : nat_eq a k ≡ false).
    let less : a < k = grind (arith, nat_tests) in
    ap (λ b. said_behind mark (a + 1) n k (cond (not (nat_eq (mark a) 0) && b) (mark a) 0)) (among_less a k less)
    ∙ (ap (λ b. said_behind mark (a + 1) n k (cond b (mark a) 0)) (and_none (not (nat_eq (mark a) 0)))
    ∙ said_there mark (a + 1) n k (omega (arith, less)) (omega (arith, m))))
    (cases_Bool (nat_eq a k))

said_whole : (mark : ℕ → ℕ) (n k : ℕ) → k < n → last_said (each_single (flat_map (said_at mark) (range_with_len 0 n))) k 0 ≡ mark k
unfolding said_behind
said_whole mark n k l = said_there mark 0 n k (omega arith) (omega (arith, l))

get_or-said_from : (said : List (Range × ℕ)) (i n k : ℕ) → k < n → get_or (said_from said i n) k 0 ≡ last_said said (i + k) 0
get_or-said_from said i zero k l = absurd (omega (arith, l))
get_or-said_from said i (suc n) zero l = ap (λ m. last_said said m 0) (sym (add_none i))
get_or-said_from said i (suc n) (suc k) l =
    let same : i + 1 + k ≡ i + suc k = omega arith in
    get_or-said_from said (i + 1) n k (omega (arith, l)) ∙ ap (λ m. last_said said m 0) same

pub said_of_each-listed : (w : Configuration) (mark : ℕ → ℕ) (values : List ℕ) → length values ≡ length w.positions → ((i : ℕ) → get_or values i 0 ≡ mark i)
    → said_of_each (each_single (listed_marks mark w)) (length w.positions) ≡ values
said_of_each-listed w mark values size is =
    let n = length w.positions in
    let said = each_single (listed_marks mark w) in
    let rows : length (said_of_each said n) ≡ n = length-said_from said 0 n in
    ext_get_or 0 (said_of_each said n) values (rows ∙ sym size)
    (λ i l.
    let inside : i < n = omega (arith, l, rows) in
    get_or-said_from said 0 n i inside ∙ (ap (λ m. last_said said m 0) (zero_add i) ∙ (said_whole mark n i inside ∙ sym (is i))))

pub labels_back : (w : Configuration) → IsValid w → said_of_each (each_single (listed_marks (label_of w) w)) (length w.positions) ≡ w.labels
labels_back w ok = said_of_each-listed w (label_of w) w.labels ok.marks.labelled (λ i. refl)

pub valences_back : (w : Configuration) → IsValid w → said_of_each (each_single (listed_marks (valence_of w) w)) (length w.positions) ≡ w.valences
valences_back w ok = said_of_each-listed w (valence_of w) w.valences ok.marks.valued (λ i. refl)

-- Fixed monomers.

fixed_behind : Configuration → ℕ → ℕ → ℕ → Bool
fixed_behind w a n k = is_in_some (map single (flat_map (fixed_at w) (range_with_len a n))) k

fixed_first : (w : Configuration) (a n k : ℕ) → fixed_behind w a (suc n) k ≡ ((is_fixed w a && is_among (single a) k) || fixed_behind w (a + 1) n k)
unfolding fixed_behind
fixed_first w a n k =
    ⊎_elim
    (λ (there : is_fixed w a ≡ true). rw there refl)
    (λ (none : is_fixed w a ≡ false). rw none refl)
    (cases_Bool (is_fixed w a))

fixed_before : (w : Configuration) (a n k : ℕ) → k < a → fixed_behind w a n k ≡ false
fixed_before w a zero k l = unfold fixed_behind in refl
fixed_before w a (suc n) k l =
    fixed_first w a n k
    ∙ (ap (λ b. (is_fixed w a && b) || fixed_behind w (a + 1) n k) (among_other a k l)
    ∙ (ap (λ b. b || fixed_behind w (a + 1) n k) (and_none (is_fixed w a)) ∙ fixed_before w (a + 1) n k (omega (arith, l))))

fixed_there : (w : Configuration) (a n k : ℕ) → a ≤ k → k < a + n → fixed_behind w a n k ≡ is_fixed w k
fixed_there w a zero k l m = absurd (omega (arith, l, m))
fixed_there w a (suc n) k l m =
    fixed_first w a n k
    ∙ ⊎_elim
    (λ (same : nat_eq a k ≡ true).
    let is : a ≡ k = grind (arith, nat_tests) in
    ap (λ b. (is_fixed w a && b) || fixed_behind w (a + 1) n k) (ap (is_among (single a)) (sym is) ∙ among_same a)
    ∙ (ap (λ b. (is_fixed w a && true) || b) (fixed_before w (a + 1) n k (omega (arith, is))) ∙ (or_alone (is_fixed w a) ∙ ap (is_fixed w) is)))
    (λ (other : nat_eq a k ≡ false).
    let less : a < k = grind (arith, nat_tests) in
    ap (λ b. (is_fixed w a && b) || fixed_behind w (a + 1) n k) (among_less a k less)
    ∙ (ap (λ b. b || fixed_behind w (a + 1) n k) (and_none (is_fixed w a)) ∙ fixed_there w (a + 1) n k (omega (arith, less)) (omega (arith, m))))
    (cases_Bool (nat_eq a k))

fixed_whole : (w : Configuration) (n k : ℕ) → k < n → is_in_some (map single (flat_map (fixed_at w) (range_with_len 0 n))) k ≡ is_fixed w k
unfolding fixed_behind
fixed_whole w n k l = fixed_there w 0 n k (omega arith) (omega (arith, l))

get_or-in_some_from : (ranges : List Range) (i n k : ℕ) → k < n → get_or (in_some_from ranges i n) k false ≡ is_in_some ranges (i + k)
get_or-in_some_from ranges i zero k l = absurd (omega (arith, l))
get_or-in_some_from ranges i (suc n) zero l = ap (is_in_some ranges) (sym (add_none i))
get_or-in_some_from ranges i (suc n) (suc k) l =
    let same : i + 1 + k ≡ i + suc k = omega arith in
    get_or-in_some_from ranges (i + 1) n k (omega (arith, l)) ∙ ap (is_in_some ranges) same

pub fixed_back : (w : Configuration) → IsValid w → fixed_of_each (map single (listed_fixed w)) (length w.positions) ≡ w.fixed
fixed_back w ok =
    let n = length w.positions in
    let ranges = map single (listed_fixed w) in
    let rows : length (fixed_of_each ranges n) ≡ n = length-in_some_from ranges 0 n in
    ext_get_or false (fixed_of_each ranges n) w.fixed (rows ∙ sym ok.marks.marked)
    (λ i l.
    let inside : i < n = omega (arith, l, rows) in
    get_or-in_some_from ranges 0 n i inside ∙ (ap (is_in_some ranges) (zero_add i) ∙ fixed_whole w n i inside))
