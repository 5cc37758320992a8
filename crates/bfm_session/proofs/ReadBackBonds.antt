-- Bonds that are part of others: pairs of the others may be joined, and where none is missing they are the same.
use Rattle.std.proofs.Common.{◌≡◌, ◌≢◌, ℕ, zero, suc, ◌<◌, ◌≤◌, true, false, nat_eq, nat_le, inl, inr, List, [], ◌∷◌, length, replicate, refl, sym, ap, ◌∙◌, subst, ⊎_elim, arith}
use Rattle.std.specs.List.{AllByRecursion}
use Rattle.std.proofs.lemmas.Bool.{cases_Bool, or_left, or_right}
use Rattle.std.proofs.lemmas.Bool.Decides.{nat_tests}
use Rattle.std.proofs.lemmas.List.{ext_get_or}
use Rattle.bfm_world.specs.Bonds.{AreBonds, IsAscending, neighbours_of, are_bonded, is_full, put, with_bond}
use Rattle.bfm_world.proofs.BondLemmas.{has, eq-test, test-eq, any-put, length-put, IsAscending-put, as_named, turned, still_bonded, was_bonded, first_bonded, AreBonds-with_bond, AreBonds-none}
use Rattle.bfm_commands.specs.Causes.{is_overfull}
use Rattle.bfm_commands.specs.History.{with_pair, with_pairs}
use Rattle.bfm_commands.proofs.PairLemmas.{not_overfull}

-- Ascending numbers.

above : (k : ℕ) (ks : List ℕ) (j : ℕ) → AllByRecursion (λ m. k < m) ks → has j ks ≡ true → k < j
above k [] j up there = absurd (cc)
above k (m ∷ ms) j up there =
    ⊎_elim
    (λ (same : nat_eq m j ≡ true). let is : m ≡ j = test-eq m j same in omega (arith, up.0, is))
    (λ (other : nat_eq m j ≡ false). above k ms j up.1 (rw other at there))
    (cases_Bool (nat_eq m j))

not_below : (k : ℕ) (ks : List ℕ) (j : ℕ) → IsAscending (k ∷ ks) → has j (k ∷ ks) ≡ true → k ≤ j
not_below k ks j up there =
    ⊎_elim
    (λ (same : nat_eq k j ≡ true). let is : k ≡ j = test-eq k j same in omega (arith, is))
    (λ (other : nat_eq k j ≡ false). let l = above k ks j up.0 (rw other at there) in omega (arith, l))
    (cases_Bool (nat_eq k j))

-- a number behind the first is among the others
behind_first : (y : ℕ) (ys : List ℕ) (j : ℕ) → y < j → has j (y ∷ ys) ≡ true → has j ys ≡ true
behind_first y ys j l there =
    let other : nat_eq y j ≡ false = grind (arith, nat_tests) in
    rw other at there

itself : (x : ℕ) (xs : List ℕ) → has x (x ∷ xs) ≡ true
itself x xs = or_left (nat_eq x x) (has x xs) (eq-test x)

-- ascending numbers among ascending ones are no more than those
fewer : (xs ys : List ℕ) → IsAscending xs → IsAscending ys → ((j : ℕ) → has j xs ≡ true → has j ys ≡ true) → length xs ≤ length ys
fewer [] ys up upper sub = omega arith
fewer (x ∷ xs) [] up upper sub = let no : has x [] ≡ true = sub x (itself x xs) in absurd (cc)
fewer (x ∷ xs) (y ∷ ys) up upper sub =
    ⊎_elim
    (λ (same : nat_eq y x ≡ true).
    let is : y ≡ x = test-eq y x same in
    let rest = fewer xs ys up.1 upper.1 (λ j there.
    let l = above x xs j up.0 there in
    behind_first y ys j (omega (arith, l, is)) (sub j (or_right (nat_eq x j) (has j xs) there))) in
    omega (arith, rest))
    (λ (other : nat_eq y x ≡ false).
    let first : has x ys ≡ true = rw other at (sub x (itself x xs)) in
    let less : y < x = above y ys x upper.0 first in
    let rest = fewer (x ∷ xs) ys up upper.1 (λ j there.
    let l = not_below x xs j up there in
    behind_first y ys j (omega (arith, l, less)) (sub j there)) in
    omega (arith, rest))
    (cases_Bool (nat_eq y x))

same_ascending : (xs ys : List ℕ) → IsAscending xs → IsAscending ys → ((j : ℕ) → has j xs ≡ true → has j ys ≡ true) → ((j : ℕ) → has j ys ≡ true → has j xs ≡ true) → xs ≡ ys
same_ascending [] [] up upper sub back = refl
same_ascending [] (y ∷ ys) up upper sub back = let no : has y [] ≡ true = back y (itself y ys) in absurd (cc)
same_ascending (x ∷ xs) [] up upper sub back = let no : has x [] ≡ true = sub x (itself x xs) in absurd (cc)
same_ascending (x ∷ xs) (y ∷ ys) up upper sub back =
    let low = not_below y ys x upper (sub x (itself x xs)) in
    let high = not_below x xs y up (back y (itself y ys)) in
    let same : x ≡ y = omega (arith, low, high) in
    let rest = same_ascending xs ys up.1 upper.1
    (λ j there. let l = above x xs j up.0 there in behind_first y ys j (omega (arith, l, same)) (sub j (or_right (nat_eq x j) (has j xs) there)))
    (λ j there. let l = above y ys j upper.0 there in behind_first x xs j (omega (arith, l, same)) (back j (or_right (nat_eq y j) (has j ys) there))) in
    ap (λ n. n ∷ xs) same ∙ ap (λ l. y ∷ l) rest

-- Bonds that are part of others.

pub record IsPartOf (count : ℕ) (bonds whole : List (List ℕ)) : Type 0 where
  pub are : AreBonds count bonds
  pub within : (i j : ℕ) → are_bonded bonds i j ≡ true → are_bonded whole i j ≡ true

no_neighbours : (n i : ℕ) → neighbours_of (replicate n []) i ≡ []
no_neighbours zero i = refl
no_neighbours (suc n) zero = refl
no_neighbours (suc n) (suc i) = no_neighbours n i

pub IsPartOf-none : (n : ℕ) (whole : List (List ℕ)) → IsPartOf n (replicate n []) whole
IsPartOf-none n whole = record { are = AreBonds-none n; within = λ i j h. let e = ap (has j) (no_neighbours n i) in absurd (cc) }

-- a monomer that misses a bond has room for it
room : (count : ℕ) (bonds whole : List (List ℕ)) (i j : ℕ) → AreBonds count whole → IsPartOf count bonds whole → i < count → are_bonded whole i j ≡ true → are_bonded bonds i j ≡ false
    → is_full bonds i ≡ false
room count bonds whole i j all part l there new =
    let row = neighbours_of bonds i in
    let more : length (put j row) ≤ length (neighbours_of whole i) =
    fewer (put j row) (neighbours_of whole i) (IsAscending-put j row new (part.are.ascending i [] (omega (arith, l, part.are.rows)))) (all.ascending i [] (omega (arith, l, all.rows)))
    (λ k h. ⊎_elim
    (λ (same : nat_eq j k ≡ true). subst (λ m. are_bonded whole i m ≡ true) (test-eq j k same) there)
    (λ (other : nat_eq j k ≡ false). part.within i k (rw other at (sym (any-put (λ m. nat_eq m k) j row) ∙ h)))
    (cases_Bool (nat_eq j k))) in
    let few : length (neighbours_of whole i) ≤ 8 = all.few i [] (omega (arith, l, all.rows)) in
    short (length row) (omega (arith, more, few, length-put j row))
  where
    short : (n : ℕ) → n < 8 → nat_le 8 n ≡ false
    short n l = grind (arith, nat_tests)

-- two monomers that are bonded in the whole
module _ (count : ℕ) (whole : List (List ℕ)) (all : AreBonds count whole) where
  abbrev pub IsBonded : ℕ × ℕ → Type 0
  IsBonded pair = are_bonded whole pair.0 pair.1 ≡ true

  in_count : (pair : ℕ × ℕ) → IsBonded pair → (pair.0 < count) × (pair.1 < count) × (pair.0 ≢ pair.1)
  in_count pair there =
      let second = all.others pair.0 pair.1 there in
      let first = all.others pair.1 pair.0 (all.both pair.0 pair.1 there) in
      (first.0, second.0, first.1)

  -- one of them joined
  joined : (bonds : List (List ℕ)) (pair : ℕ × ℕ) → IsPartOf count bonds whole → IsBonded pair → are_bonded bonds pair.0 pair.1 ≡ false → IsPartOf count (with_bond bonds pair.0 pair.1) whole
  joined bonds pair part there new =
      let is = in_count pair there in
      let back : are_bonded whole pair.1 pair.0 ≡ true = all.both pair.0 pair.1 there in
      let new_back : are_bonded bonds pair.1 pair.0 ≡ false = ⊎_elim
      (λ (bonded : are_bonded bonds pair.1 pair.0 ≡ true). let e = part.are.both pair.1 pair.0 bonded in absurd (cc))
      (λ (none : are_bonded bonds pair.1 pair.0 ≡ false). none)
      (cases_Bool (are_bonded bonds pair.1 pair.0)) in
      record {
        are = AreBonds-with_bond count bonds pair.0 pair.1 part.are is.2 is.0 is.1 new
            (room count bonds whole pair.0 pair.1 all part is.0 there new) (room count bonds whole pair.1 pair.0 all part is.1 back new_back);
        within = λ k m h. elim (was_bonded bonds pair.0 pair.1 is.2 (omega (arith, is.0, part.are.rows)) (omega (arith, is.1, part.are.rows)) k m h) [
          | inl (as_named e f) ↦ rw (e, f) there
          | inl (turned e f) ↦ rw (e, f) back
          | inr f ↦ part.within k m f
        ];
      }

  pub IsPartOf-with_pair : (bonds : List (List ℕ)) (pair : ℕ × ℕ) → IsPartOf count bonds whole → IsBonded pair → IsPartOf count (with_pair bonds pair) whole
  IsPartOf-with_pair bonds pair part there =
      ⊎_elim
      (λ (old : are_bonded bonds pair.0 pair.1 ≡ true). rw old part)
      (λ (new : are_bonded bonds pair.0 pair.1 ≡ false). rw new (joined bonds pair part there new))
      (cases_Bool (are_bonded bonds pair.0 pair.1))

  pub IsPartOf-with_pairs : (bonds : List (List ℕ)) (pairs : List (ℕ × ℕ)) → IsPartOf count bonds whole → AllByRecursion IsBonded pairs → IsPartOf count (with_pairs bonds pairs) whole
  IsPartOf-with_pairs bonds [] part each = part
  IsPartOf-with_pairs bonds (pair ∷ pairs) part each = IsPartOf-with_pairs (with_pair bonds pair) pairs (IsPartOf-with_pair bonds pair part each.0) each.1

  -- who is bonded stays so
  with_pair-still : (bonds : List (List ℕ)) (pair : ℕ × ℕ) → IsPartOf count bonds whole → IsBonded pair → (k m : ℕ) → are_bonded bonds k m ≡ true → are_bonded (with_pair bonds pair) k m ≡ true
  with_pair-still bonds pair part there k m h =
      let is = in_count pair there in
      ⊎_elim
      (λ (old : are_bonded bonds pair.0 pair.1 ≡ true). rw old h)
      (λ (new : are_bonded bonds pair.0 pair.1 ≡ false). rw new (still_bonded bonds pair.0 pair.1 is.2 (omega (arith, is.0, part.are.rows)) (omega (arith, is.1, part.are.rows)) k m h))
      (cases_Bool (are_bonded bonds pair.0 pair.1))

  pub with_pairs-still : (bonds : List (List ℕ)) (pairs : List (ℕ × ℕ)) → IsPartOf count bonds whole → AllByRecursion IsBonded pairs → (k m : ℕ) → are_bonded bonds k m ≡ true
      → are_bonded (with_pairs bonds pairs) k m ≡ true
  with_pairs-still bonds [] part each k m h = h
  with_pairs-still bonds (pair ∷ pairs) part each k m h =
      with_pairs-still (with_pair bonds pair) pairs (IsPartOf-with_pair bonds pair part each.0) each.1 k m (with_pair-still bonds pair part each.0 k m h)

  -- the pairs are bonded
  with_pair-there : (bonds : List (List ℕ)) (pair : ℕ × ℕ) → IsPartOf count bonds whole → IsBonded pair → are_bonded (with_pair bonds pair) pair.0 pair.1 ≡ true
  with_pair-there bonds pair part there =
      let is = in_count pair there in
      ⊎_elim
      (λ (old : are_bonded bonds pair.0 pair.1 ≡ true). rw old old)
      (λ (new : are_bonded bonds pair.0 pair.1 ≡ false). rw new (first_bonded bonds pair.0 pair.1 is.2 (omega (arith, is.0, part.are.rows)) (omega (arith, is.1, part.are.rows))))
      (cases_Bool (are_bonded bonds pair.0 pair.1))

  pub with_pairs-there : (bonds : List (List ℕ)) (pairs : List (ℕ × ℕ)) → IsPartOf count bonds whole → AllByRecursion IsBonded pairs
      → AllByRecursion (λ pair. are_bonded (with_pairs bonds pairs) pair.0 pair.1 ≡ true) pairs
  with_pairs-there bonds [] part each = tt
  with_pairs-there bonds (pair ∷ pairs) part each =
      let next = IsPartOf-with_pair bonds pair part each.0 in
      (with_pairs-still (with_pair bonds pair) pairs next each.1 pair.0 pair.1 (with_pair-there bonds pair part each.0), with_pairs-there (with_pair bonds pair) pairs next each.1)

  -- no monomer has too many
  pub room_for_all : (bonds : List (List ℕ)) → IsPartOf count bonds whole → is_overfull bonds ≡ false
  room_for_all bonds part = not_overfull bonds part.are.few

  -- where no bond is missing they are the same
  pub same_bonds : (bonds : List (List ℕ)) → IsPartOf count bonds whole → ((i j : ℕ) → are_bonded whole i j ≡ true → are_bonded bonds i j ≡ true) → bonds ≡ whole
  same_bonds bonds part missing =
      ext_get_or [] bonds whole (part.are.rows ∙ sym all.rows)
      (λ i l.
      same_ascending (neighbours_of bonds i) (neighbours_of whole i) (part.are.ascending i [] l) (all.ascending i [] (omega (arith, l, part.are.rows, all.rows)))
      (part.within i) (missing i))
