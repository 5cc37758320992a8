-- The bonds that a header lists and those that the rows of a frame show are together those of the world.
use Rattle.std.proofs.Common.{◌≡◌, ◌≢◌, ℕ, zero, suc, ◌+◌, ◌<◌, ◌≤◌, Bool, true, false, not, ◌&&◌, nat_eq, nat_lt, if◌then◌else◌, List, [], ◌∷◌, length, replicate, is_some, refl, sym, subst, ⊎_elim, arith}
use Rattle.std.specs.List.{AllByRecursion, flat_map, range_with_len}
use Rattle.std.proofs.lemmas.Bool.{cases_Bool, and_parts}
use Rattle.std.proofs.lemmas.Bool.Decides.{nat_tests}
use Rattle.bfm_world.specs.Bonds.{neighbours_of, are_bonded}
use Rattle.bfm_world.specs.Configuration.{Configuration, IsValid}
use Rattle.bfm_world.proofs.BondLemmas.{has, test-eq}
use Rattle.bfm_writer.specs.Rows.{continuation, rows_of}
use Rattle.bfm_writer.specs.Header.{monomers_of, is_shown, is_listed}
use Rattle.bfm_commands.specs.History.{with_pairs, listed_bonds}
use Rattle.bfm_session.proofs.ReadBackLines.{each-weaker}
use Rattle.bfm_session.proofs.ReadBackRows.{pairs_at, listed_pairs}
use Rattle.bfm_session.proofs.ReadBackBonds.{IsPartOf, IsPartOf-none, IsPartOf-with_pairs, with_pairs-still, with_pairs-there, same_bonds}
use Rattle.bfm_session.proofs.ReadBackRowsOf.{shown_from, each_shown, shown_there}
use Rattle.bfm_session.proofs.ReadBackTime.{each_listed, listed_part}
use Rattle.bfm_session.proofs.ReadBackFrame.{each_left, each_right}

-- Each of some things, and one of them.

each_part : {X Y : Type 0} (P : Y → Type 0) (g : X → List Y) (xs : List X) → AllByRecursion P (flat_map g xs) → AllByRecursion (λ x. AllByRecursion P (g x)) xs
each_part P g [] all = tt
each_part P g (x ∷ xs) all = (each_left P (g x) (flat_map g xs) all, each_part P g xs (each_right P (g x) (flat_map g xs) all))

in_range : (Q : ℕ → Type 0) (a n k : ℕ) → AllByRecursion Q (range_with_len a n) → a ≤ k → k < a + n → Q k
in_range Q a zero k all low high = absurd (omega (arith, low, high))
in_range Q a (suc n) k all low high =
    ⊎_elim
    (λ (same : nat_eq a k ≡ true). subst Q (test-eq a k same) all.0)
    (λ (other : nat_eq a k ≡ false).
    let less : a < k = grind (arith, nat_tests) in
    in_range Q (a + 1) n k all.1 (omega (arith, less)) (omega (arith, high)))
    (cases_Bool (nat_eq a k))

among : (Q : ℕ → Type 0) (row : List ℕ) (j : ℕ) → AllByRecursion Q row → has j row ≡ true → Q j
among Q [] j all there = absurd (cc)
among Q (k ∷ row) j all there =
    ⊎_elim
    (λ (same : nat_eq k j ≡ true). subst Q (test-eq k j same) all.0)
    (λ (other : nat_eq k j ≡ false). among Q row j all.1 (rw other at there))
    (cases_Bool (nat_eq k j))

-- a bond that is listed is one of the pairs
listed_there : (P : ℕ × ℕ → Type 0) (w : Configuration) (i j : ℕ) → AllByRecursion P (listed_pairs w) → i < length w.positions → are_bonded w.bonds i j ≡ true → is_listed w i j ≡ true → P (i, j)
listed_there P w i j all inside bonded there =
    let row = in_range (λ i. AllByRecursion P (pairs_at w i)) 0 (length w.positions) i (each_part P (pairs_at w) (monomers_of w) all) (omega arith) (omega (arith, inside)) in
    let one = among (λ j. AllByRecursion P (if is_listed w i j then (i, j) ∷ [] else [])) (neighbours_of w.bonds i) j
    (each_part P (λ j. if is_listed w i j then (i, j) ∷ [] else []) (neighbours_of w.bonds i) row) bonded in
    (rw there at one).0

-- the bonds behind all rows
abbrev pub bonds_read : Configuration → List (List ℕ)
bonds_read w = with_pairs (listed_bonds (length w.positions) (listed_pairs w)) (shown_from 0 (rows_of w))

module _ (w : Configuration) (ok : IsValid w) where
  abbrev count : ℕ
  count = length w.positions

  abbrev listed : List (List ℕ)
  listed = listed_bonds (length w.positions) (listed_pairs w)

  abbrev IsThere : ℕ × ℕ → Type 0
  IsThere pair = are_bonded (bonds_read w) pair.0 pair.1 ≡ true

  part : IsPartOf (length w.positions) (bonds_read w) w.bonds
  part = IsPartOf-with_pairs count w.bonds ok.bonds listed (shown_from 0 (rows_of w)) (listed_part w ok) (each_shown w 0 w.positions ok.set)

  -- each pair that is listed
  each_listed_there : AllByRecursion IsThere (listed_pairs w)
  each_listed_there =
      each-weaker (λ pair. are_bonded listed pair.0 pair.1 ≡ true) IsThere (listed_pairs w)
      (with_pairs-there count w.bonds ok.bonds (replicate count []) (listed_pairs w) (IsPartOf-none count w.bonds) (each_listed w))
      (λ pair there. with_pairs-still count w.bonds ok.bonds listed (shown_from 0 (rows_of w)) (listed_part w ok) (each_shown w 0 w.positions ok.set) pair.0 pair.1 there)

  -- each pair that is shown
  each_shown_there : AllByRecursion IsThere (shown_from 0 (rows_of w))
  each_shown_there = with_pairs-there count w.bonds ok.bonds listed (shown_from 0 (rows_of w)) (listed_part w ok) (each_shown w 0 w.positions ok.set)

  shown_test : (a b : Bool) → (a && not b) ≡ false → a ≡ true → b ≡ true
  shown_test true true e h = refl
  shown_test true false e h = absurd (cc)
  shown_test false b e h = absurd (cc)

  -- a bond, the lesser monomer first
  lesser_first : (i j : ℕ) → i < j → are_bonded w.bonds i j ≡ true → are_bonded (bonds_read w) i j ≡ true
  lesser_first i j less bonded =
      let end = (ok.bonds.others i j bonded).0 in
      let order : nat_lt i j ≡ true = grind (arith, nat_tests) in
      ⊎_elim
      (λ (there : is_listed w i j ≡ true). listed_there IsThere w i j each_listed_there (omega (arith, less, end)) bonded there)
      (λ (none : is_listed w i j ≡ false).
      let shown = shown_test (nat_lt i j) (is_shown w i j) none order in
      let parts = and_parts (nat_eq j (i + 1)) (is_some (continuation w i)) shown in
      let next : j ≡ i + 1 = test-eq j (i + 1) parts.0 in
      subst (λ n. are_bonded (bonds_read w) i n ≡ true) (sym next) (shown_there IsThere w 0 i w.positions each_shown_there (omega arith) (omega (arith, next, end)) parts.1))
      (cases_Bool (is_listed w i j))

  missing : (i j : ℕ) → are_bonded w.bonds i j ≡ true → are_bonded (bonds_read w) i j ≡ true
  missing i j bonded =
      ⊎_elim
      (λ (less : nat_lt i j ≡ true). let l : i < j = grind (arith, nat_tests) in lesser_first i j l bonded)
      (λ (other : nat_lt i j ≡ false).
      let differ = (ok.bonds.others i j bonded).1 in
      let l : j < i = greater i j other differ in
      part.are.both j i (lesser_first j i l (ok.bonds.both i j bonded)))
      (cases_Bool (nat_lt i j))
    where
      greater : (i j : ℕ) → nat_lt i j ≡ false → j ≢ i → j < i
      greater i j e differ = grind (arith, nat_tests)

  pub bonds_back : bonds_read w ≡ w.bonds
  bonds_back = same_bonds count w.bonds ok.bonds (bonds_read w) part missing
