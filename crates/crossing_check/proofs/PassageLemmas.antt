-- The first passage of a row along z, of a plane of rows, and of all planes.
use Rattle.std.proofs.Common.{◌≡◌, ◌≤◌, ℤ, nat_abs, false, ◌<ℤ◌, ◌≤ℤ◌, inl, inr, [], ◌∷◌, refl, sym, subst, ◌∙◌, to_z, of_z, w64, arith}
use Rattle.std.specs.Prelude.{⊤}
use Rattle.std.specs.Int.Signed.{lt_z}
use Rattle.bfm_base.specs.declared.place.P3.{P3}
use Rattle.bfm_geom.specs.declared.meeting.Weights.{Weights}
use Rattle.crossing_check.specs.declared.passage.Encounter.{Encounter}
use Rattle.crossing_check.specs.declared.passage.Passage.{Passage}
use Rattle.crossing_check.specs.Passage.{IsFirstPassage, IsInPlane, IsInRow, IsShown, MeetAlong, NoPassage, SweepsFrom}
use Rattle.crossing_check.proofs.BoxLemmas.{MeetAlong-x, MeetAlong-y, MeetAlong-z}
use Rattle.crossing_check.proofs.StretchLemmas.{coded, Searched, Searched-begin, Searched-end, Precedes-same, Precedes-last}

-- the start at these coordinates is a passage, and some start of a row or a plane is one
abbrev pub AtZ : Encounter → ℤ → ℤ → ℤ → Type 0
AtZ pair x y z = SweepsFrom pair (record { x = x; y = y; z = z })

abbrev pub AtY : Encounter → ℤ → ℤ → Type 0
AtY pair x y = (start : P3) × IsInRow x y start × SweepsFrom pair start

abbrev pub AtX : Encounter → ℤ → Type 0
AtX pair x = (start : P3) × IsInPlane x start × SweepsFrom pair start

-- ---- rows
-- the other bond begins from a number up to, but without, the end wherever it meets the triangle along an axis
pub record Spans (before after other from end : ℤ) : Type 0 where
  pub all_starts : (start : ℤ) → MeetAlong before after other start → (from ≤ℤ start) × (start <ℤ end)
  pub reach : (nat_abs from ≤ 6) × (nat_abs end ≤ 7)

-- the same of the numbers as the code holds them
pub Spans-coded : (before after other from end : ℤ) → nat_abs before ≤ 3 → nat_abs after ≤ 3 → nat_abs other ≤ 3
    → Spans (to_z w64 (of_z w64 before)) (to_z w64 (of_z w64 after)) (to_z w64 (of_z w64 other)) from end
    → Spans before after other (to_z w64 (of_z w64 from)) (to_z w64 (of_z w64 end))
Spans-coded before after other from end hb ha ho s =
    let from_is = coded from (omega (arith, s.reach.0)) in
    let end_is = coded end (omega (arith, s.reach.1)) in
    let before_is = coded before (omega arith) in
    let after_is = coded after (omega arith) in
    let other_is = coded other (omega arith) in
    rw (from_is, end_is) (rw (before_is, after_is, other_is) at s)

-- the search through a row begins
pub row-begin : (pair : Encounter) (x y from end : ℤ) → Spans pair.before.z pair.after.z pair.other.z from end → Searched (AtZ pair x y) from end
row-begin pair x y from end span = Searched-begin (AtZ pair x y) from end span.reach (λ n s. span.all_starts n (MeetAlong-z _ _ _ _ s))

-- what it finds is the first of the row
row-first_at : (pair : Encounter) (x y z end : ℤ) (k : Weights) → Searched (AtZ pair x y) z end → AtZ pair x y z → IsShown pair.before pair.after (record { x = x; y = y; z = z }) pair.other k
    → IsFirstPassage (IsInRow x y) pair (record { start = record { x = x; y = y; z = z }; weights = k })
row-first_at pair x y z end k s here shown = record {
  one_of_them = (refl, refl);
  sweeps = here;
  shown = shown;
  none_before = λ start row sweeps before.
      let same : start ≡ record { x = x; y = y; z = start.z } = λ i. record { x = row.0 i; y = row.1 i; z = start.z } in
      let same_x = Precedes-same start.x x (start.y ∷ start.z ∷ []) (y ∷ z ∷ []) row.0 before in
      let same_y = Precedes-same start.y y (start.z ∷ []) (z ∷ []) row.1 same_x in
      s.none start.z (Precedes-last start.z z same_y) (subst (SweepsFrom pair) same sweeps);
}

-- of the row's numbers as the code holds them
pub row-first : (pair : Encounter) (x y x' y' z end : ℤ) (k : Weights) → x' ≡ x → y' ≡ y → Searched (AtZ pair x' y') z end → AtZ pair x' y' z
    → IsShown pair.before pair.after (record { x = x'; y = y'; z = z }) pair.other k
    → IsFirstPassage (IsInRow x y) pair (record { start = record { x = x'; y = y'; z = z }; weights = k })
row-first pair x y x' y' z end k ex ey s here shown =
    let f : Passage = record { start = record { x = x'; y = y'; z = z }; weights = k } in
    subst (λ n. IsFirstPassage (IsInRow n y) pair f) ex (subst (λ n. IsFirstPassage (IsInRow x' n) pair f) ey (row-first_at pair x' y' z end k s here shown))

-- at its end the row has none
row-none_at : (pair : Encounter) (x y z end : ℤ) → Searched (AtZ pair x y) z end → lt_z z end ≡ false → NoPassage (IsInRow x y) pair
row-none_at pair x y z end s past start row sweeps =
    let same : start ≡ record { x = x; y = y; z = start.z } = λ i. record { x = row.0 i; y = row.1 i; z = start.z } in
    Searched-end (AtZ pair x y) z end s past start.z (subst (SweepsFrom pair) same sweeps)

-- of the row's numbers as the code holds them
pub row-none : (pair : Encounter) (x y x' y' z end : ℤ) → x' ≡ x → y' ≡ y → Searched (AtZ pair x' y') z end → lt_z z end ≡ false → NoPassage (IsInRow x y) pair
row-none pair x y x' y' z end ex ey s past =
    subst (λ n. NoPassage (IsInRow n y) pair) ex (subst (λ n. NoPassage (IsInRow x' n) pair) ey (row-none_at pair x' y' z end s past))

-- ---- planes
-- the search through the rows of a plane begins
pub plane-begin : (pair : Encounter) (x from end : ℤ) → Spans pair.before.y pair.after.y pair.other.y from end → Searched (AtY pair x) from end
plane-begin pair x from end span =
    Searched-begin (AtY pair x) from end span.reach
    (λ y (start, row, sweeps). subst (λ n. (from ≤ℤ n) × (n <ℤ end)) row.1 (span.all_starts start.y (MeetAlong-y _ _ _ _ sweeps)))

-- the first of the first row that has one is the first of the plane
plane-first_at : (pair : Encounter) (x y end : ℤ) (f : Passage) → Searched (AtY pair x) y end → IsFirstPassage (IsInRow x y) pair f → IsFirstPassage (IsInPlane x) pair f
plane-first_at pair x y end f s first = record {
  one_of_them = first.one_of_them.0;
  sweeps = first.sweeps;
  shown = first.shown;
  none_before = λ start plane sweeps before.
      elim (Precedes-same start.x f.start.x (start.y ∷ start.z ∷ []) (f.start.y ∷ f.start.z ∷ []) (plane ∙ sym first.one_of_them.0) before) [
        | inl less ↦ s.none start.y (subst (λ n. start.y <ℤ n) first.one_of_them.1 less) (start, (plane, refl), sweeps)
        | inr rest ↦ first.none_before start (plane, rest.0 ∙ first.one_of_them.1) sweeps before
      ];
}

-- of the plane's number as the code holds it
pub plane-first : (pair : Encounter) (x x' y end : ℤ) (f : Passage) → x' ≡ x → Searched (AtY pair x') y end → IsFirstPassage (IsInRow x' y) pair f → IsFirstPassage (IsInPlane x) pair f
plane-first pair x x' y end f e s first = subst (λ n. IsFirstPassage (IsInPlane n) pair f) e (plane-first_at pair x' y end f s first)

-- at its end the plane has none
plane-none_at : (pair : Encounter) (x y end : ℤ) → Searched (AtY pair x) y end → lt_z y end ≡ false → NoPassage (IsInPlane x) pair
plane-none_at pair x y end s past start plane sweeps = Searched-end (AtY pair x) y end s past start.y (start, (plane, refl), sweeps)

-- of the plane's number as the code holds it
pub plane-none : (pair : Encounter) (x x' y end : ℤ) → x' ≡ x → Searched (AtY pair x') y end → lt_z y end ≡ false → NoPassage (IsInPlane x) pair
plane-none pair x x' y end e s past = subst (λ n. NoPassage (IsInPlane n) pair) e (plane-none_at pair x' y end s past)

-- a row without a passage
pub AtY-none : (pair : Encounter) (x y : ℤ) → NoPassage (IsInRow x y) pair → ¬ (AtY pair x y)
AtY-none pair x y none (start, row, sweeps) = none start row sweeps

-- ---- all planes
-- the search through the planes begins
pub all-begin : (pair : Encounter) (from end : ℤ) → Spans pair.before.x pair.after.x pair.other.x from end → Searched (AtX pair) from end
all-begin pair from end span =
    Searched-begin (AtX pair) from end span.reach
    (λ x (start, plane, sweeps). subst (λ n. (from ≤ℤ n) × (n <ℤ end)) plane (span.all_starts start.x (MeetAlong-x _ _ _ _ sweeps)))

-- the first of the first plane that has one is the first of all
pub all-first : (pair : Encounter) (x end : ℤ) (f : Passage) → Searched (AtX pair) x end → IsFirstPassage (IsInPlane x) pair f → IsFirstPassage (λ _. ⊤) pair f
all-first pair x end f s first = record {
  one_of_them = tt;
  sweeps = first.sweeps;
  shown = first.shown;
  none_before = λ start any sweeps before. elim before [
    | inl less ↦ s.none start.x (subst (λ n. start.x <ℤ n) first.one_of_them less) (start, refl, sweeps)
    | inr rest ↦ first.none_before start (rest.0 ∙ first.one_of_them) sweeps (inr rest)
  ];
}

-- at its end there is none
pub all-none : (pair : Encounter) (x end : ℤ) → Searched (AtX pair) x end → lt_z x end ≡ false → NoPassage (λ _. ⊤) pair
all-none pair x end s past start any sweeps = Searched-end (AtX pair) x end s past start.x (start, refl, sweeps)

-- a plane without a passage
pub AtX-none : (pair : Encounter) (x : ℤ) → NoPassage (IsInPlane x) pair → ¬ (AtX pair x)
AtX-none pair x none (start, plane, sweeps) = none start plane sweeps
