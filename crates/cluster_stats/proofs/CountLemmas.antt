-- Sums and counts over lists: of the same terms, in another order, and of what one element alone passes.
use Rattle.std.proofs.Common.{◌≡◌, ◌≢◌, ℕ, zero, suc, ◌+◌, ◌<◌, ◌≤◌, ⊎_elim, Bool, true, false, ◌&&◌, cond, List, [], ◌∷◌, length, get_or, map, refl, sym, ap, ◌∙◌, arith}
use Rattle.std.specs.List.{sum_by, count_by, filter, range_with_len, All}
use Rattle.std.proofs.lemmas.Bool.{cases_eq}
use Rattle.std.proofs.lemmas.List.{ext_get_or}
use Rattle.std.proofs.lemmas.List.FromFn.{length-map-range_with_len, get_or-map-range_with_len}
use Rattle.std.proofs.lemmas.List.Elements.{All-head, All-tail}
use Rattle.std.proofs.lemmas.List.Sums.{sum_by-cons}

pub count_by-cons : {X : Type 0} (p : X → Bool) → (x : X) (xs : List X) → count_by p (x ∷ xs) ≡ cond (p x) 1 0 + count_by p xs
count_by-cons p x xs = sum_by-cons (λ y. cond (p y) 1 0) x xs

-- the same terms have the same sum
pub sum_by-same : {X : Type 0} (f g : X → ℕ) → ((x : X) → f x ≡ g x) → (xs : List X) → sum_by f xs ≡ sum_by g xs
sum_by-same f g h [] = refl
sum_by-same f g h (x ∷ xs) = omega (arith, sum_by-cons f x xs, sum_by-cons g x xs, h x, sum_by-same f g h xs)

pub count_by-same : {X : Type 0} (p q : X → Bool) → ((x : X) → p x ≡ q x) → (xs : List X) → count_by p xs ≡ count_by q xs
count_by-same p q h xs = sum_by-same (λ x. cond (p x) 1 0) (λ x. cond (q x) 1 0) (λ x. ap (λ b. cond b 1 0) (h x)) xs

-- a sum of sums is taken part by part
pub sum_by-plus : {X : Type 0} (f g : X → ℕ) → (xs : List X) → sum_by (λ x. f x + g x) xs ≡ sum_by f xs + sum_by g xs
sum_by-plus f g [] = refl
sum_by-plus f g (x ∷ xs) = omega (arith, sum_by-cons (λ y. f y + g y) x xs, sum_by-cons f x xs, sum_by-cons g x xs, sum_by-plus f g xs)

pub sum_by-nothing : {X : Type 0} (xs : List X) → sum_by (λ x. 0) xs ≡ 0
sum_by-nothing [] = refl
sum_by-nothing (x ∷ xs) = omega (arith, sum_by-cons (λ y. 0) x xs, sum_by-nothing xs)

-- what none passes
pub count_by-none : {X : Type 0} (p : X → Bool) → (xs : List X) → All (λ x. p x ≡ false) xs → count_by p xs ≡ 0
count_by-none p [] h = refl
count_by-none p (x ∷ xs) h =
    let first : ◌≡◌ {A = ℕ} (cond (p x) 1 0) 0 = ap (λ b. cond b 1 0) (All-head (λ y. p y ≡ false) x xs h) in
    omega (arith, count_by-cons p x xs, first, count_by-none p xs (All-tail (λ y. p y ≡ false) x xs h))

and_true : (b : Bool) → (b && true) ≡ b
and_true true = refl
and_true false = refl

and_false : (b : Bool) → (b && false) ≡ false
and_false true = refl
and_false false = refl

-- Each element x is related to one of the others where it passes the test t, and else to none. So all that pass are
-- counted where the others are asked in turn.
pub count_by-in_turn : {X O : Type 0} (r : X → O → Bool) (t q : X → Bool) (others : List O) → ((x : X) → count_by (r x) others ≡ cond (t x) 1 0)
    → (xs : List X) → sum_by (λ o. count_by (λ x. r x o && q x) xs) others ≡ count_by (λ x. t x && q x) xs
count_by-in_turn r t q others one [] = sum_by-nothing others
count_by-in_turn r t q others one (x ∷ xs) =
    let split = sum_by-same (λ o. count_by (λ y. r y o && q y) (x ∷ xs)) (λ o. cond (r x o && q x) 1 0 + count_by (λ y. r y o && q y) xs) (λ o. count_by-cons (λ y. r y o && q y) x xs) others in
    let parts = sum_by-plus (λ o. cond (r x o && q x) 1 0) (λ o. count_by (λ y. r y o && q y) xs) others in
    omega (arith, split, parts, own (q x) refl, count_by-in_turn r t q others one xs, count_by-cons (λ y. t y && q y) x xs)
  where
    own : (b : Bool) → q x ≡ b → sum_by (λ o. cond (r x o && q x) 1 0) others ≡ cond (t x && q x) 1 0
    own true e =
        rw e (sum_by-same (λ o. cond (r x o && true) 1 0) (λ o. cond (r x o) 1 0) (λ o. ap (λ b. cond b 1 0) (and_true (r x o))) others ∙ one x ∙ ap (λ b. cond b 1 0) (sym (and_true (t x))))
    own false e =
        rw e (sum_by-same (λ o. cond (r x o && false) 1 0) (λ o. 0) (λ o. ap (λ b. cond b 1 0) (and_false (r x o))) others ∙ sum_by-nothing others ∙ ap (λ b. cond b 1 0) (sym (and_false (t x))))

-- what no number of a range passes
pub count_by-range_none : (p : ℕ → Bool) (a n : ℕ) → ((k : ℕ) → a ≤ k → k < a + n → p k ≡ false) → count_by p (range_with_len a n) ≡ 0
count_by-range_none p a zero h = refl
count_by-range_none p a (suc n) h =
    let first : ◌≡◌ {A = ℕ} (cond (p a) 1 0) 0 = ap (λ b. cond b 1 0) (h a (omega arith) (omega arith)) in
    omega (arith, count_by-cons p a (range_with_len (a + 1) n), first, count_by-range_none p (a + 1) n (λ k l m. h k (omega arith) (omega arith)))

-- where one number of a range at most passes, it tells the count
pub count_by-range_one : (p : ℕ → Bool) (j a n : ℕ) → a ≤ j → j < a + n → ((k : ℕ) → a ≤ k → k < a + n → k ≢ j → p k ≡ false) → count_by p (range_with_len a n) ≡ cond (p j) 1 0
count_by-range_one p j a zero l m h = absurd (omega arith)
count_by-range_one p j a (suc n) l m h =
    ⊎_elim
    (λ e. omega (arith, count_by-cons p a (range_with_len (a + 1) n), ap (λ k. ◌+◌ (cond (p k) 1 0) 0) e, count_by-range_none p (a + 1) n (λ k b c. h k (omega arith) (omega arith) (omega arith))))
    (λ ne.
    let first : ◌≡◌ {A = ℕ} (cond (p a) 1 0) 0 = ap (λ b. cond b 1 0) (h a (omega arith) (omega arith) ne) in
    omega (arith, count_by-cons p a (range_with_len (a + 1) n), first, count_by-range_one p j (a + 1) n (omega arith) (omega arith) (λ k b c d. h k (omega arith) (omega arith) d)))
    (cases_eq a j)

-- tests that say the same of each number of a range
pub count_by-range_same : (p q : ℕ → Bool) (a n : ℕ) → ((k : ℕ) → a ≤ k → k < a + n → p k ≡ q k) → count_by p (range_with_len a n) ≡ count_by q (range_with_len a n)
count_by-range_same p q a zero h = refl
count_by-range_same p q a (suc n) h =
    omega (
      arith,
      count_by-cons p a (range_with_len (a + 1) n),
      count_by-cons q a (range_with_len (a + 1) n),
      ap (λ b. ◌+◌ (cond b 1 0) 0) (h a (omega arith) (omega arith)),
      count_by-range_same p q (a + 1) n (λ k l m. h k (omega arith) (omega arith)),
    )

pub count_by-map : {X Y : Type 0} (p : Y → Bool) (f : X → Y) (xs : List X) → count_by p (map f xs) ≡ count_by (λ x. p (f x)) xs
count_by-map p f [] = refl
count_by-map p f (x ∷ xs) = omega (arith, count_by-cons p (f x) (map f xs), count_by-cons (λ y. p (f y)) x xs, count_by-map p f xs)

pub count_by-filter : {X : Type 0} (p q : X → Bool) (xs : List X) → count_by q (filter p xs) ≡ count_by (λ x. p x && q x) xs
count_by-filter p q [] = refl
count_by-filter p q (x ∷ xs) =
    kept (p x) ∙ (ap (λ n. cond (p x && q x) 1 0 + n) (count_by-filter p q xs) ∙ sym (count_by-cons (λ y. p y && q y) x xs))
  where
    kept : (t : Bool) → count_by q (cond t (x ∷ filter p xs) (filter p xs)) ≡ cond (t && q x) 1 0 + count_by q (filter p xs)
    kept true = count_by-cons q x (filter p xs)
    kept false = omega arith

-- a list is its elements in turn
pub elements_of-range : (xs : List ℕ) (n : ℕ) → length xs ≡ n → map (λ i. get_or xs i 0) (range_with_len 0 n) ≡ xs
elements_of-range xs n e =
    ext_get_or 0 (map (λ i. get_or xs i 0) (range_with_len 0 n)) xs (length-map-range_with_len (λ i. get_or xs i 0) 0 n ∙ sym e)
    (λ i l. get_or-map-range_with_len (λ k. get_or xs k 0) 0 n i i 0 (omega (arith, length-map-range_with_len (λ k. get_or xs k 0) 0 n)) (omega arith))

-- an element that passes is counted
pub count_by-some : {X : Type 0} (p : X → Bool) (xs : List X) (i : ℕ) (d : X) → i < length xs → p (get_or xs i d) ≡ true → 1 ≤ count_by p xs
count_by-some p [] i d l h = absurd (omega arith)
count_by-some p (x ∷ xs) zero d l h = omega (arith, count_by-cons p x xs, ap (λ b. ◌+◌ (cond b 1 0) 0) h)
count_by-some p (x ∷ xs) (suc i) d l h = omega (arith, count_by-cons p x xs, count_by-some p xs i d (omega arith) h)

-- where some are counted, an element passes
pub some_counted : {X : Type 0} (p : X → Bool) (xs : List X) → 1 ≤ count_by p xs → (i : ℕ) × (i < length xs) × ((d : X) → p (get_or xs i d) ≡ true)
some_counted p [] h = absurd (omega arith)
some_counted {X = X} p (x ∷ xs) h = here (p x) refl (some_counted p xs)
  where
    here : (b : Bool) → p x ≡ b → (1 ≤ count_by p xs → (i : ℕ) × (i < length xs) × ((d : X) → p (get_or xs i d) ≡ true))
        → (i : ℕ) × (i < length (x ∷ xs)) × ((d : X) → p (get_or (x ∷ xs) i d) ≡ true)
    here true e rest = (0, omega arith, λ d. e)
    here false e rest =
        let found = rest (omega (arith, h, count_by-cons p x xs, ap (λ b. ◌+◌ (cond b 1 0) 0) e)) in
        (suc found.0, omega (arith, found.1), found.2)
