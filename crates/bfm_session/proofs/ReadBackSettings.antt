-- The settings that the header of a valid world gives, as they are read.
use Rattle.std.proofs.Common.{◌≡◌, ℕ, ◌*◌, ◌<◌, ◌≤◌, Bool, true, false, nat_eq, nat_lt, nat_le, List, [], ◌∷◌, length, map, is_some, unwrap_or, refl, ap, ◌∙◌, ⊎_elim, arith}
use Rattle.std.specs.Prelude.{slice_index_or, option_and_then}
use Rattle.std.specs.List.{AllByRecursion, list_any}
use Rattle.std.proofs.lemmas.Bool.{cases_Bool, or_from}
use Rattle.std.proofs.lemmas.Bool.Decides.{nat_tests}
use Rattle.bfm_base.specs.declared.place.Shape.{Shape}
use Rattle.bfm_geom.specs.Difference.{side_of, is_periodic, IsBox}
use Rattle.bfm_world.specs.Configuration.{Configuration, IsValid, label_of, valence_of, is_fixed}
use Rattle.bfm_writer.specs.Header.{monomers_of, periodic_value}
use Rattle.bfm_commands.specs.History.{History, stands, value_in, value_or_zero, count_in, shape_in, pairs_of, labels_of, valences_of, fixed_of}
use Rattle.bfm_commands.specs.Causes.{some_missing, is_box_too_large, is_beyond, some_range_beyond, some_fixed_beyond, names_beyond}
use Rattle.bfm_commands.specs.declared.commands.Known.{Known}
use Rattle.bfm_commands.specs.declared.commands.Known.TheVariants.{NumberOfMonomers, BoxX, BoxY, BoxZ, PeriodicX, PeriodicY, PeriodicZ}
use Rattle.bfm_session.proofs.ReadBackLines.{each-flat_map, each-map, each-weaker}
use Rattle.bfm_session.proofs.ReadBackRows.{said_at, listed_marks, fixed_at, listed_fixed, listed_pairs}
use Rattle.bfm_session.proofs.ReadBackEntries.{single}
use Rattle.bfm_session.proofs.ReadBackWalk.{Says}
use Rattle.bfm_session.proofs.ReadBackListed.{each_single}
use Rattle.bfm_session.proofs.ReadBackWorld.{each_monomer, IsListedPair, each_pair}
use Rattle.bfm_session.proofs.ReadBackHeader.{values_given, given_all, header_said, IsValue, found_all}

-- A shape has three sides, and a mark for each of them.
pub record HasThree (shape : Shape) : Type 0 where
  pub three_sides : length shape.sides ≡ 3
  pub three_marks : length shape.periodic ≡ 3

-- The values.

value_all : (w : Configuration) (known : Known) → IsValue known → value_in known (given_all w) ≡ value_in known (values_given w)
value_all w known is = ap (option_and_then (λ g. g.value)) (found_all w known is)

pub count_all : (w : Configuration) → count_in (given_all w) ≡ length w.positions
count_all w = ap (λ o. unwrap_or o 0) (value_all w NumberOfMonomers (refl, refl, refl, refl, refl, refl, refl))

pub none_missing : (w : Configuration) → some_missing (given_all w) ≡ false
none_missing w =
    let count : stands NumberOfMonomers (given_all w) ≡ true = ap is_some (found_all w NumberOfMonomers (refl, refl, refl, refl, refl, refl, refl)) in
    let x : stands BoxX (given_all w) ≡ true = ap is_some (found_all w BoxX (refl, refl, refl, refl, refl, refl, refl)) in
    let y : stands BoxY (given_all w) ≡ true = ap is_some (found_all w BoxY (refl, refl, refl, refl, refl, refl, refl)) in
    let z : stands BoxZ (given_all w) ≡ true = ap is_some (found_all w BoxZ (refl, refl, refl, refl, refl, refl, refl)) in
    let u : stands PeriodicX (given_all w) ≡ true = ap is_some (found_all w PeriodicX (refl, refl, refl, refl, refl, refl, refl)) in
    let v : stands PeriodicY (given_all w) ≡ true = ap is_some (found_all w PeriodicY (refl, refl, refl, refl, refl, refl, refl)) in
    let t : stands PeriodicZ (given_all w) ≡ true = ap is_some (found_all w PeriodicZ (refl, refl, refl, refl, refl, refl, refl)) in
    rw (count, x, y, z, u, v, t) refl

pub box_small : (w : Configuration) → IsBox w.shape → is_box_too_large (given_all w) ≡ false
box_small w box =
    let x = value_all w BoxX (refl, refl, refl, refl, refl, refl, refl) in
    let y = value_all w BoxY (refl, refl, refl, refl, refl, refl, refl) in
    let z = value_all w BoxZ (refl, refl, refl, refl, refl, refl, refl) in
    rw (x, y, z) (few (side_of w.shape 0 * side_of w.shape 1 * side_of w.shape 2) box.sites)
  where
    few : (sites : ℕ) → sites ≤ 16777216 → nat_lt 16777216 sites ≡ false
    few sites l = grind (arith, nat_tests)

-- The shape.

three : {X : Type 0} (xs : List X) (d : X) → length xs ≡ 3 → slice_index_or xs 0 d ∷ slice_index_or xs 1 d ∷ slice_index_or xs 2 d ∷ [] ≡ xs
three [] d e = absurd (omega (arith, e))
three (a ∷ []) d e = absurd (omega (arith, e))
three (a ∷ b ∷ []) d e = absurd (omega (arith, e))
three (a ∷ b ∷ c ∷ []) d e = refl
three (a ∷ b ∷ c ∷ x ∷ xs) d e = absurd (omega (arith, e))

periodic_same : (periodic : Bool) → nat_eq (periodic_value periodic) 1 ≡ periodic
periodic_same true = refl
periodic_same false = refl

pub shape_all : (w : Configuration) → HasThree w.shape → shape_in (given_all w) ≡ w.shape
shape_all w has =
    let zero_or : (known : Known) → value_in known (given_all w) ≡ value_in known (values_given w) → value_or_zero known (given_all w) ≡ value_or_zero known (values_given w) =
    λ known e. ap (λ o. unwrap_or o 0) e in
    let x = zero_or BoxX (value_all w BoxX (refl, refl, refl, refl, refl, refl, refl)) in
    let y = zero_or BoxY (value_all w BoxY (refl, refl, refl, refl, refl, refl, refl)) in
    let z = zero_or BoxZ (value_all w BoxZ (refl, refl, refl, refl, refl, refl, refl)) in
    let u = zero_or PeriodicX (value_all w PeriodicX (refl, refl, refl, refl, refl, refl, refl)) in
    let v = zero_or PeriodicY (value_all w PeriodicY (refl, refl, refl, refl, refl, refl, refl)) in
    let t = zero_or PeriodicZ (value_all w PeriodicZ (refl, refl, refl, refl, refl, refl, refl)) in
    let sides : value_or_zero BoxX (given_all w) ∷ value_or_zero BoxY (given_all w) ∷ value_or_zero BoxZ (given_all w) ∷ [] ≡ w.shape.sides =
    (λ i. x i ∷ y i ∷ z i ∷ []) ∙ three w.shape.sides 0 has.three_sides in
    let marks : nat_eq (value_or_zero PeriodicX (given_all w)) 1 ∷ nat_eq (value_or_zero PeriodicY (given_all w)) 1 ∷ nat_eq (value_or_zero PeriodicZ (given_all w)) 1 ∷ [] ≡ w.shape.periodic =
    (λ i. nat_eq (u i) 1 ∷ nat_eq (v i) 1 ∷ nat_eq (t i) 1 ∷ [])
    ∙ ((λ i. periodic_same (is_periodic w.shape 0) i ∷ periodic_same (is_periodic w.shape 1) i ∷ periodic_same (is_periodic w.shape 2) i ∷ [])
    ∙ three w.shape.periodic false has.three_marks) in
    λ i. record { sides = sides i; periodic = marks i }

-- No list names a monomer that is not there.

none_of : {X : Type 0} (test : X → Bool) (xs : List X) → AllByRecursion (λ x. test x ≡ false) xs → list_any test xs ≡ false
none_of test [] all = refl
none_of test (x ∷ xs) all = or_from (test x) (list_any test xs) all.0 (none_of test xs all.1)

pairs_there : (w : Configuration) → IsValid w → list_any (is_beyond (length w.positions)) (listed_pairs w) ≡ false
pairs_there w ok =
    none_of (is_beyond (length w.positions)) (listed_pairs w)
    (each-weaker (IsListedPair w) (λ pair. is_beyond (length w.positions) pair ≡ false) (listed_pairs w) (each_pair w)
    (λ pair is. both_there pair.0 pair.1 is.lesser (ok.bonds.others pair.0 pair.1 is.bonded).0))
  where
    both_there : (i j : ℕ) → i < length w.positions → j < length w.positions → is_beyond (length w.positions) (i, j) ≡ false
    both_there i j l m =
        let first : nat_lt i (length w.positions) ≡ true = grind (arith, nat_tests) in
        let second : nat_lt j (length w.positions) ≡ true = grind (arith, nat_tests) in
        rw (first, second) refl

marks_there : (w : Configuration) (mark : ℕ → ℕ) → some_range_beyond (length w.positions) (each_single (listed_marks mark w)) ≡ false
marks_there w mark =
    none_of (λ e. nat_le (length w.positions) e.0.last) (each_single (listed_marks mark w))
    (each-map (λ m. m.0 < length w.positions) (λ e. nat_le (length w.positions) e.0.last ≡ false) (λ m. (single m.0, m.1)) (listed_marks mark w) inside (λ m l. beyond m.0 l))
  where
    beyond : (i : ℕ) → i < length w.positions → nat_le (length w.positions) i ≡ false
    beyond i l = grind (arith, nat_tests)

    inside : AllByRecursion (λ m. m.0 < length w.positions) (listed_marks mark w)
    inside =
        each-flat_map (λ i. i < length w.positions) (λ m. m.0 < length w.positions) (said_at mark) (monomers_of w) (each_monomer w)
        (λ i l.
        ⊎_elim
        (λ (none : nat_eq (mark i) 0 ≡ true). rw none tt)
        (λ (some : nat_eq (mark i) 0 ≡ false). rw some (l, tt))
        (cases_Bool (nat_eq (mark i) 0)))

fixed_there : (w : Configuration) → some_fixed_beyond (length w.positions) (map single (listed_fixed w)) ≡ false
fixed_there w =
    none_of (λ range. nat_le (length w.positions) range.last) (map single (listed_fixed w))
    (each-map (λ i. i < length w.positions) (λ range. nat_le (length w.positions) range.last ≡ false) single (listed_fixed w) inside (λ i l. beyond i l))
  where
    beyond : (i : ℕ) → i < length w.positions → nat_le (length w.positions) i ≡ false
    beyond i l = grind (arith, nat_tests)

    inside : AllByRecursion (λ i. i < length w.positions) (listed_fixed w)
    inside =
        each-flat_map (λ i. i < length w.positions) (λ i. i < length w.positions) (fixed_at w) (monomers_of w) (each_monomer w)
        (λ i l.
        ⊎_elim
        (λ (there : is_fixed w i ≡ true). rw there (l, tt))
        (λ (none : is_fixed w i ≡ false). rw none tt)
        (cases_Bool (is_fixed w i)))

pub none_beyond : (w : Configuration) (before : History) → IsValid w → Says before (header_said w) → names_beyond (length w.positions) before ≡ false
none_beyond w before ok s =
    let n = length w.positions in
    or_from (list_any (is_beyond n) (pairs_of before)) _ (ap (λ l. list_any (is_beyond n) l) s.pairs ∙ pairs_there w ok)
    (or_from (some_range_beyond n (labels_of before)) _ (ap (some_range_beyond n) s.labels ∙ marks_there w (label_of w))
    (or_from (some_range_beyond n (valences_of before)) (some_fixed_beyond n (fixed_of before)) (ap (some_range_beyond n) s.valences ∙ marks_there w (valence_of w))
    (ap (some_fixed_beyond n) s.fixed ∙ fixed_there w)))
