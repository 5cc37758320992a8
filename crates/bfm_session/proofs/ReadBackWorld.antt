-- What the header of a valid world lists are monomers and marks within their limits.
use Rattle.std.proofs.Common.{◌≡◌, ℕ, zero, suc, ◌+◌, ◌<◌, ◌≤◌, true, false, nat_eq, if◌then◌else◌, List, [], ◌∷◌, length, sym, ⊎_elim, arith}
use Rattle.std.specs.List.{AllByRecursion, list_any, range_with_len}
use Rattle.std.proofs.lemmas.Bool.{cases_Bool, or_right, or_left}
use Rattle.std.proofs.lemmas.Bool.Decides.{nat_tests}
use Rattle.bfm_base.specs.declared.limits.TheConstants.{GREATEST_LABEL, GREATEST_VALENCE}
use Rattle.bfm_world.specs.Bonds.{neighbours_of, are_bonded}
use Rattle.bfm_world.specs.Configuration.{Configuration, IsValid, label_of, valence_of, is_fixed}
use Rattle.bfm_writer.specs.Header.{monomers_of, is_listed}
use Rattle.bfm_session.proofs.ReadBackLines.{each-flat_map, each-weaker}
use Rattle.bfm_session.proofs.ReadBackRows.{pairs_at, listed_pairs, said_at, listed_marks, fixed_at, listed_fixed}
use Rattle.bfm_session.proofs.ReadBackListed.{IsPair, IsMark}

-- each monomer is below their number
each_in_range : (most k n : ℕ) → k + n ≤ most → AllByRecursion (λ i. i < most) (range_with_len k n)
each_in_range most k zero l = tt
each_in_range most k (suc n) l = (omega (arith, l), each_in_range most (k + 1) n (omega (arith, l)))

pub each_monomer : (w : Configuration) → AllByRecursion (λ i. i < length w.positions) (monomers_of w)
each_monomer w = each_in_range (length w.positions) 0 (length w.positions) (omega arith)

-- each of some numbers is among them
has_each : (row : List ℕ) → AllByRecursion (λ j. list_any (λ k. nat_eq k j) row ≡ true) row
has_each [] = tt
has_each (j ∷ row) =
    let same : nat_eq j j ≡ true = grind (arith, nat_tests) in (
      or_left (nat_eq j j) (list_any (λ k. nat_eq k j) row) same,
      each-weaker (λ i. list_any (λ k. nat_eq k i) row ≡ true) (λ i. list_any (λ k. nat_eq k i) (j ∷ row) ≡ true) row (has_each row)
          (λ i there. or_right (nat_eq j i) (list_any (λ k. nat_eq k i) row) there),
    )

pub each_neighbour : (bonds : List (List ℕ)) (i : ℕ) → AllByRecursion (λ j. are_bonded bonds i j ≡ true) (neighbours_of bonds i)
each_neighbour bonds i = has_each (neighbours_of bonds i)

-- a pair of bonded monomers, the lesser one first, that no row of a frame shows
pub record IsListedPair (w : Configuration) (pair : ℕ × ℕ) : Type 0 where
  pub lesser : pair.0 < length w.positions
  pub bonded : are_bonded w.bonds pair.0 pair.1 ≡ true
  pub there : is_listed w pair.0 pair.1 ≡ true

pub each_pair : (w : Configuration) → AllByRecursion (IsListedPair w) (listed_pairs w)
each_pair w =
    each-flat_map (λ i. i < length w.positions) (IsListedPair w) (pairs_at w) (monomers_of w) (each_monomer w)
    (λ i inside. each-flat_map (λ j. are_bonded w.bonds i j ≡ true) (IsListedPair w) (λ j. if is_listed w i j then (i, j) ∷ [] else []) (neighbours_of w.bonds i) (each_neighbour w.bonds i)
    (λ j bonded.
    ⊎_elim
    (λ (there : is_listed w i j ≡ true). rw there (record { lesser = inside; bonded = bonded; there = there }, tt))
    (λ (none : is_listed w i j ≡ false). rw none tt)
    (cases_Bool (is_listed w i j))))

pub each_IsPair : (w : Configuration) → IsValid w → AllByRecursion IsPair (listed_pairs w)
each_IsPair w ok =
    each-weaker (IsListedPair w) IsPair (listed_pairs w) (each_pair w)
    (λ pair is.
    let other = ok.bonds.others pair.0 pair.1 is.bonded in
    (omega (arith, ok.few, is.lesser), omega (arith, ok.few, other.0), λ same. other.1 (sym same)))

-- marks
each_mark : (w : Configuration) (mark : ℕ → ℕ) (greatest : ℕ) → IsValid w → ((i : ℕ) → i < length w.positions → mark i ≤ greatest) → AllByRecursion (IsMark greatest) (listed_marks mark w)
each_mark w mark greatest ok within =
    each-flat_map (λ i. i < length w.positions) (IsMark greatest) (said_at mark) (monomers_of w) (each_monomer w)
    (λ i inside.
    ⊎_elim
    (λ (none : nat_eq (mark i) 0 ≡ true). rw none tt)
    (λ (some : nat_eq (mark i) 0 ≡ false). rw some ((omega (arith, ok.few, inside), within i inside), tt))
    (cases_Bool (nat_eq (mark i) 0)))

pub each_label : (w : Configuration) → IsValid w → AllByRecursion (IsMark GREATEST_LABEL) (listed_marks (label_of w) w)
each_label w ok = each_mark w (label_of w) GREATEST_LABEL ok (λ i inside. ok.marks.labels i 0 (omega (arith, inside, ok.marks.labelled)))

pub each_valence : (w : Configuration) → IsValid w → AllByRecursion (IsMark GREATEST_VALENCE) (listed_marks (valence_of w) w)
each_valence w ok = each_mark w (valence_of w) GREATEST_VALENCE ok (λ i inside. ok.marks.valences i 0 (omega (arith, inside, ok.marks.valued)))

pub each_fixed : (w : Configuration) → IsValid w → AllByRecursion (λ i. i < 262144) (listed_fixed w)
each_fixed w ok =
    each-flat_map (λ i. i < length w.positions) (λ i. i < 262144) (fixed_at w) (monomers_of w) (each_monomer w)
    (λ i inside.
    ⊎_elim
    (λ (there : is_fixed w i ≡ true). rw there (omega (arith, ok.few, inside), tt))
    (λ (none : is_fixed w i ≡ false). rw none tt)
    (cases_Bool (is_fixed w i)))
