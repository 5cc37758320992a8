-- Bonds between monomers: who is bonded to whom after one bond less.
use Rattle.std.proofs.Common.{◌≡◌, ◌≢◌, ℕ, ◌<◌, ◌≤◌, Bool, true, false, not, cond, ◌||◌, ◌&&◌, inl, inr, List, [], ◌∷◌, length, get_or, remove, map, Option, Some, None, MatchOption, refl, ap, sym, ◌∙◌, subst, arith, nat_eq, nat_lt, ◌+◌, suc, All}
use Rattle.std.specs.List.{AllByRecursion, position, prefix_len}
use Rattle.std.proofs.Math.ListN.{set}
use Rattle.std.proofs.lemmas.List.{get_or-set_same, get_or-set_other, length-set, map-set, get_or-map}
use Rattle.std.proofs.lemmas.List.Elements.{All-set}
use Rattle.std.proofs.lemmas.Bool.Decides.{nat_tests, eqb_tells}
use Rattle.bfm_world.specs.Bonds.{neighbours_of, are_bonded, without, without_bond, Separates, IsAscending, AreBonds}
use Rattle.bfm_base.specs.declared.limits.TheConstants.{MOST_BONDS}
use Rattle.bfm_world.proofs.BondLemmas.{has, and_left, eq-test, test-eq}

-- ---- one number less in a row
less-apart : (k m : ℕ) → k < m → nat_eq m k ≡ false
less-apart k m l = grind (arith, nat_tests)

above : (k : ℕ) (row : List ℕ) → AllByRecursion (λ m. k < m) row → has k row ≡ false
above k [] h = refl
above k (m ∷ ms) h = ap (λ b. b || has k ms) (less-apart k m h.0) ∙ above k ms h.1

and_true : (b : Bool) → (b && true) ≡ b
and_true true = refl
and_true false = refl

and_false : (b : Bool) → (b && false) ≡ false
and_false true = refl
and_false false = refl

turned-test : (k j : ℕ) → nat_eq k j ≡ false → nat_eq j k ≡ false
turned-test k j e = grind (arith, nat_tests)

-- the others stay among them, and the number is not
pub has-without : (n j : ℕ) (row : List ℕ) → IsAscending row → has n (without j row) ≡ (has n row && not (nat_eq j n))
has-without n j [] h = refl
has-without n j (k ∷ ks) h = by_test (has-without n j ks h.1) (nat_eq k j) refl
  where
    taken : (u : Bool) → nat_eq k n ≡ u → k ≡ j → has n ks ≡ ((u || has n ks) && not (nat_eq j n))
    taken true e is =
        let same : k ≡ n = test-eq k n e in
        rw (sym is) (subst (λ m. has m ks ≡ false) same (above k ks h.0) ∙ sym (ap not e))
    taken false e is = rw (sym is) (sym (ap (λ b. has n ks && not b) e ∙ and_true (has n ks)))

    kept : has n (without j ks) ≡ (has n ks && not (nat_eq j n)) → (u : Bool) → nat_eq k n ≡ u → nat_eq k j ≡ false → (u || has n (without j ks)) ≡ ((u || has n ks) && not (nat_eq j n))
    kept later true e other = let same : k ≡ n = test-eq k n e in sym (ap not (subst (λ m. nat_eq j m ≡ false) same (turned-test k j other)))
    kept later false e other = later

    by_test : has n (without j ks) ≡ (has n ks && not (nat_eq j n)) → (t : Bool) → nat_eq k j ≡ t → has n (cond t ks (k ∷ without j ks)) ≡ ((nat_eq k n || has n ks) && not (nat_eq j n))
    by_test later true e = taken (nat_eq k n) refl (test-eq k j e)
    by_test later false e = kept later (nat_eq k n) refl e

below-without : (n j : ℕ) (row : List ℕ) → AllByRecursion (λ m. n < m) row → AllByRecursion (λ m. n < m) (without j row)
below-without n j [] h = tt
below-without n j (k ∷ ks) h =
    elim (nat_eq k j) as (λ t. AllByRecursion (λ m. n < m) (cond t ks (k ∷ without j ks))) [
      | true ↦ h.1
      | false ↦ (h.0, below-without n j ks h.1)
    ]

IsAscending-without : (j : ℕ) (row : List ℕ) → IsAscending row → IsAscending (without j row)
IsAscending-without j [] h = tt
IsAscending-without j (k ∷ ks) h =
    elim (nat_eq k j) as (λ t. IsAscending (cond t ks (k ∷ without j ks))) [
      | true ↦ h.1
      | false ↦ (below-without k j ks h.0, IsAscending-without j ks h.1)
    ]

length-without : (j : ℕ) (row : List ℕ) → length (without j row) ≤ length row
length-without j [] = omega arith
length-without j (k ∷ ks) =
    elim (nat_eq k j) as (λ t. length (cond t ks (k ∷ without j ks)) ≤ length (k ∷ ks)) [
      | true ↦ omega arith
      | false ↦ omega (arith, length-without j ks)
    ]

-- the code takes out the first that it finds
found : (j : ℕ) (row : List ℕ) → prefix_len (λ k. not (nat_eq k j)) row < length row → remove row (prefix_len (λ k. not (nat_eq k j)) row) ≡ without j row
found j [] l = absurd (omega arith)
found j (k ∷ ks) l = by_test (found j ks) (nat_eq k j) refl
  where
    by_test : (prefix_len (λ m. not (nat_eq m j)) ks < length ks → remove ks (prefix_len (λ m. not (nat_eq m j)) ks) ≡ without j ks) → (t : Bool) → nat_eq k j ≡ t → remove (k ∷ ks) (prefix_len (λ m. not (nat_eq m j)) (k ∷ ks)) ≡ cond t ks (k ∷ without j ks)
    by_test later true e = ap (λ t. remove (k ∷ ks) (cond (not t) (1 + prefix_len (λ m. not (nat_eq m j)) ks) 0)) e
    by_test later false e =
        let one : prefix_len (λ m. not (nat_eq m j)) (k ∷ ks) ≡ 1 + prefix_len (λ m. not (nat_eq m j)) ks = ap (λ t. cond (not t) (1 + prefix_len (λ m. not (nat_eq m j)) ks) 0) e in
        let at : prefix_len (λ m. not (nat_eq m j)) (k ∷ ks) ≡ suc (prefix_len (λ m. not (nat_eq m j)) ks) = omega (arith, one) in
        ap (remove (k ∷ ks)) at ∙ ap (λ xs. k ∷ xs) (later (omega (arith, l, at)))

missed : (j : ℕ) (row : List ℕ) → length row ≤ prefix_len (λ k. not (nat_eq k j)) row → row ≡ without j row
missed j [] l = refl
missed j (k ∷ ks) l = by_test (missed j ks) (nat_eq k j) refl
  where
    by_test : (length ks ≤ prefix_len (λ m. not (nat_eq m j)) ks → ks ≡ without j ks) → (t : Bool) → nat_eq k j ≡ t → k ∷ ks ≡ cond t ks (k ∷ without j ks)
    by_test later true e =
        let at : prefix_len (λ m. not (nat_eq m j)) (k ∷ ks) ≡ 0 = ap (λ t. cond (not t) (1 + prefix_len (λ m. not (nat_eq m j)) ks) 0) e in
        absurd (omega (arith, l, at))
    by_test later false e =
        let one : prefix_len (λ m. not (nat_eq m j)) (k ∷ ks) ≡ 1 + prefix_len (λ m. not (nat_eq m j)) ks = ap (λ t. cond (not t) (1 + prefix_len (λ m. not (nat_eq m j)) ks) 0) e in
        let at : prefix_len (λ m. not (nat_eq m j)) (k ∷ ks) ≡ suc (prefix_len (λ m. not (nat_eq m j)) ks) = omega (arith, one) in
        ap (λ xs. k ∷ xs) (later (omega (arith, l, at)))

pub position-without : (j : ℕ) (row : List ℕ) (o : Option ℕ) → o ≡ position (λ k. nat_eq k j) row → MatchOption o (row ≡ without j row) (λ n. remove row n ≡ without j row)
position-without j row o e = subst (λ o. MatchOption o (row ≡ without j row) (λ n. remove row n ≡ without j row)) (sym e) (by_test (nat_lt (prefix_len (λ k. not (nat_eq k j)) row) (length row)) refl)
  where
    by_test : (t : Bool) → nat_lt (prefix_len (λ k. not (nat_eq k j)) row) (length row) ≡ t
        → MatchOption (cond t (Some (prefix_len (λ k. not (nat_eq k j)) row)) None) (row ≡ without j row) (λ n. remove row n ≡ without j row)
    by_test true h = let l : prefix_len (λ k. not (nat_eq k j)) row < length row = grind (arith, nat_tests) in found j row l
    by_test false h = let l : length row ≤ prefix_len (λ k. not (nat_eq k j)) row = grind (arith, nat_tests) in missed j row l

-- ---- two rows written one after the other
module _ (bonds : List (List ℕ)) (i j : ℕ) (first second : List ℕ) (ne : i ≢ j) (l : i < length bonds) (m : j < length bonds) where
  two_first : neighbours_of (set (set bonds i first) j second) i ≡ first
  two_first = get_or-set_other (set bonds i first) j i second [] ne ∙ get_or-set_same bonds i first [] l

  two_second : neighbours_of (set (set bonds i first) j second) j ≡ second
  two_second = get_or-set_same (set bonds i first) j second [] (omega (arith, length-set bonds i first))

  two_other : (k : ℕ) → k ≢ i → k ≢ j → neighbours_of (set (set bonds i first) j second) k ≡ neighbours_of bonds k
  two_other k a b = get_or-set_other (set bonds i first) j k second [] b ∙ get_or-set_other bonds i k first [] a

pub map-without_bond : {R : Type 0} (f : R → List ℕ) (rows : List R) (i j : ℕ) (v w x y : R) → i ≢ j → i < length rows → j < length rows
    → v ≡ get_or rows i v → f x ≡ without j (f v) → w ≡ get_or (set rows i x) j w → f y ≡ without i (f w) → map f (set (set rows i x) j y) ≡ without_bond (map f rows) i j
map-without_bond f rows i j v w x y ne l m is_v e is_w h =
    let first : f v ≡ neighbours_of (map f rows) i = ap f is_v ∙ sym (get_or-map f rows i v [] l) in
    let second : f w ≡ neighbours_of (map f rows) j = ap f (is_w ∙ get_or-set_other rows i j x w (λ q. ne (sym q))) ∙ sym (get_or-map f rows j w [] m) in
    map-set f (set rows i x) j y
    ∙ (ap (λ rs. set rs j (f y)) (map-set f rows i x)
    ∙ (ap (λ r. set (set (map f rows) i r) j (f y)) (e ∙ ap (without j) first)
    ∙ ap (λ r. set (set (map f rows) i (without j (neighbours_of (map f rows) i))) j r) (h ∙ ap (without i) second)))

-- ---- one bond less
module _ (bonds : List (List ℕ)) (i j : ℕ) (ne : i ≢ j) (l : i < length bonds) (m : j < length bonds) (ascending : All IsAscending bonds) where
  left_first : (n : ℕ) → are_bonded (without_bond bonds i j) i n ≡ (are_bonded bonds i n && not (nat_eq j n))
  left_first n =
      ap (has n) (two_first bonds i j (without j (neighbours_of bonds i)) (without i (neighbours_of bonds j)) ne l m)
      ∙ has-without n j (neighbours_of bonds i) (ascending i [] l)

  left_second : (n : ℕ) → are_bonded (without_bond bonds i j) j n ≡ (are_bonded bonds j n && not (nat_eq i n))
  left_second n =
      ap (has n) (two_second bonds i j (without j (neighbours_of bonds i)) (without i (neighbours_of bonds j)) ne l m)
      ∙ has-without n i (neighbours_of bonds j) (ascending j [] m)

  left_other : (k n : ℕ) → k ≢ i → k ≢ j → are_bonded (without_bond bonds i j) k n ≡ are_bonded bonds k n
  left_other k n a b = ap (has n) (two_other bonds i j (without j (neighbours_of bonds i)) (without i (neighbours_of bonds j)) ne l m k a b)

  -- who is bonded was so before
  pub was_still : (k n : ℕ) → are_bonded (without_bond bonds i j) k n ≡ true → are_bonded bonds k n ≡ true
  was_still k n h =
      elim (eqb_tells k i) [
        | inl e ↦ rw e.1 (and_left (are_bonded bonds i n) (not (nat_eq j n)) (sym (left_first n) ∙ subst (λ x. are_bonded (without_bond bonds i j) x n ≡ true) e.1 h))
        | inr a ↦ elim (eqb_tells k j) [
          | inl e ↦ rw e.1 (and_left (are_bonded bonds j n) (not (nat_eq i n)) (sym (left_second n) ∙ subst (λ x. are_bonded (without_bond bonds i j) x n ≡ true) e.1 h))
          | inr b ↦ sym (left_other k n a.1 b.1) ∙ h
        ]
      ]

  first_gone : are_bonded (without_bond bonds i j) i j ≡ false
  first_gone = left_first j ∙ (ap (λ b. are_bonded bonds i j && not b) (eq-test j) ∙ and_false (are_bonded bonds i j))

  second_gone : are_bonded (without_bond bonds i j) j i ≡ false
  second_gone = left_second i ∙ (ap (λ b. are_bonded bonds j i && not b) (eq-test i) ∙ and_false (are_bonded bonds j i))

  no_test : (a b : ℕ) → a ≢ b → nat_eq a b ≡ false
  no_test a b h = grind (arith, nat_tests)

  others_left : (k n : ℕ) → ¬ ((k ≡ i) × (n ≡ j)) → ¬ ((k ≡ j) × (n ≡ i)) → are_bonded (without_bond bonds i j) k n ≡ are_bonded bonds k n
  others_left k n named back =
      elim (eqb_tells k i) [
        | inl e ↦ rw e.1 (left_first n ∙ (ap (λ t. are_bonded bonds i n && not t) (no_test j n (λ q. named (e.1, sym q))) ∙ and_true (are_bonded bonds i n)))
        | inr a ↦ elim (eqb_tells k j) [
          | inl e ↦ rw e.1 (left_second n ∙ (ap (λ t. are_bonded bonds j n && not t) (no_test i n (λ q. back (e.1, sym q))) ∙ and_true (are_bonded bonds j n)))
          | inr b ↦ left_other k n a.1 b.1
        ]
      ]

  pub Separates-without_bond : Separates i j bonds (without_bond bonds i j)
  Separates-without_bond = record { gone = first_gone; back = second_gone; others = others_left }

  -- who is bonded to whom is so the other way round
  both_left : ((a b : ℕ) → are_bonded bonds a b ≡ true → are_bonded bonds b a ≡ true) → (k n : ℕ) → are_bonded (without_bond bonds i j) k n ≡ true → are_bonded (without_bond bonds i j) n k ≡ true
  both_left both k n h =
      others_left n k
      (λ q. let none : are_bonded (without_bond bonds i j) k n ≡ false = rw (q.0, q.1) second_gone in absurd (cc))
      (λ q. let none : are_bonded (without_bond bonds i j) k n ≡ false = rw (q.0, q.1) first_gone in absurd (cc))
      ∙ both k n (was_still k n h)

pub AreBonds-without_bond : (count : ℕ) (bonds : List (List ℕ)) (i j : ℕ) → AreBonds count bonds → i ≢ j → i < count → j < count → AreBonds count (without_bond bonds i j)
AreBonds-without_bond count bonds i j b ne l m =
    let l' : i < length bonds = omega (arith, b.rows) in
    let m' : j < length bonds = omega (arith, b.rows) in
    record {
      rows = length-set (set bonds i (without j (neighbours_of bonds i))) j (without i (neighbours_of bonds j)) ∙ (length-set bonds i (without j (neighbours_of bonds i)) ∙ b.rows);
      few = All-set (λ row. length row ≤ MOST_BONDS) _ j _ (omega (arith, length-without i (neighbours_of bonds j), b.few j [] m'))
          (All-set (λ row. length row ≤ MOST_BONDS) bonds i _ (omega (arith, length-without j (neighbours_of bonds i), b.few i [] l')) b.few);
      ascending = All-set IsAscending _ j _ (IsAscending-without i (neighbours_of bonds j) (b.ascending j [] m'))
          (All-set IsAscending bonds i _ (IsAscending-without j (neighbours_of bonds i) (b.ascending i [] l')) b.ascending);
      both = both_left bonds i j ne l' m' b.ascending b.both;
      others = λ k n h. b.others k n (was_still bonds i j ne l' m' b.ascending k n h);
    }
