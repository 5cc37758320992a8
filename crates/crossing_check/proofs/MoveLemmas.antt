-- The first crossing move by one step, of one bond, and of a set.
use Rattle.std.proofs.Common.{◌≡◌, ℕ, ℤ, pos, ◌+◌, ◌<◌, ◌≤◌, ◌+ℤ◌, ◌-ℤ◌, ◌<ℤ◌, inl, inr, ◌⊎◌, List, ◌∷◌, length, slice_get, Some, Contains, refl, sym, ap, subst, ◌∙◌, arith}
use Rattle.std.proofs.lemmas.Int.{ints}
use Rattle.std.specs.Prelude.{⊤}
use Rattle.bfm_base.specs.declared.place.P3.{P3}
use Rattle.bfm_base.specs.declared.place.Dir.{Dir}
use Rattle.bfm_base.specs.Direction.{directions, step_of}
use Rattle.bfm_base.specs.Place.{extent_of}
use Rattle.bfm_geom.specs.Difference.{minus, plus}
use Rattle.bond_set.specs.BondSet.{IsBondSet, vectors_of}
use Rattle.bond_set.specs.Crossing.{CrossingMove, IsFirstCrossing, IsFree, SweepsThrough, after_step, direction_number, place_of}
use Rattle.crossing_check.specs.declared.passage.Passage.{Passage}
use Rattle.crossing_check.specs.declared.judgement.Crossing.{Crossing}
use Rattle.crossing_check.specs.Passage.{IsEncounter, IsFirstPassage, NoPassage, coordinates_of}
use Rattle.crossing_check.specs.Verdict.{IsFirstAmong, IsOfBond, IsOfStep, NoneAmong}
use Rattle.crossing_check.proofs.PlaceLemmas.{Contains-at, place_of-at, place_of-below, place_of-same, direction_number-at, direction_number-below, direction_number-same}
use Rattle.crossing_check.proofs.StretchLemmas.{Precedes-same}

-- ---- ranks
-- the numbers of a rank are whole
pos-less : (m n : ℕ) → pos m <ℤ pos n → m < n
pos-less m n h = omega (arith, ints)

pos-same : (m n : ℕ) → pos m ≡ pos n → m ≡ n
pos-same m n e = cc

-- ---- moves by one step
-- a step is the difference of the places before and after it
minus-plus : (b s : P3) → minus (plus b s) b ≡ s
minus-plus b s = λ i. record { x = back b.x s.x i; y = back b.y s.y i; z = back b.z s.z i }
  where
    back : (a d : ℤ) → (a +ℤ d) -ℤ a ≡ d
    back a d = omega (arith, ints)

-- the end of a bond steps, and stays the end of a bond
pub IsEncounter-step : (b : P3) (dir : Dir) (e : P3) → extent_of b ≤ 3 → extent_of (after_step b dir) ≤ 3 → extent_of e ≤ 3 → IsEncounter (record { before = b; after = after_step b dir; other = e })
IsEncounter-step b dir e hb ha he = record { before = hb; after = ha; other = he; step = (dir, minus-plus b (step_of dir)) }

-- no bond before this place is swept through
abbrev pub NoneBeforeBond : List (P3 × ℕ) → P3 → P3 → ℕ → Type 0
NoneBeforeBond set b after k = (c e : P3) → Contains (vectors_of set) e → place_of set e < k → ¬ (SweepsThrough b after c e)

-- the next bond is not swept through either
pub step-next : (set : List (P3 × ℕ)) (b after v : P3) (k : ℕ) → IsBondSet set → slice_get (vectors_of set) k ≡ Some v → NoneBeforeBond set b after k
    → NoPassage (λ _. ⊤) (record { before = b; after = after; other = v }) → NoneBeforeBond set b after (k + 1)
step-next set b after v k rules at none here c e there below sweeps = by (cases (place_of set e) k below)
  where
    cases : (m k : ℕ) → m < k + 1 → (m < k) ⊎ (m ≡ k)
    cases m k h = grind arith

    by : (place_of set e < k) ⊎ (place_of set e ≡ k) → ⊥
    by (inl before) = none c e there before sweeps
    by (inr same) =
        let one : e ≡ v = place_of-same set e v there (Contains-at (vectors_of set) k v at) (same ∙ sym (place_of-at set k v rules at)) in
        here c tt (subst (SweepsThrough b after c) one sweeps)

-- the first passage of the first bond that has one is the first move by the step
pub step-first : (set : List (P3 × ℕ)) (b v : P3) (dir : Dir) (k : ℕ) (f : Passage) → IsBondSet set → slice_get (vectors_of set) k ≡ Some v
    → Contains (vectors_of set) b → Contains (vectors_of set) (after_step b dir) → NoneBeforeBond set b (after_step b dir) k
    → IsFirstPassage (λ _. ⊤) (record { before = b; after = after_step b dir; other = v }) f
    → IsFirstAmong (IsOfStep b dir) set (record { b = b; dir = dir; c = f.start; e = v; weights = f.weights })
step-first set b v dir k f rules at bond moved none first =
    let other = Contains-at (vectors_of set) k v at in
    let place = place_of-at set k v rules at in
    record {
      one_of_them = (refl, refl);
      crossing = record { bond = bond; moved = moved; other = other; sweeps = first.sweeps };
      shown = first.shown;
      none_before = λ b' dir' c e (eb, ed) move before.
          let rest = Precedes-same (pos (direction_number dir')) (pos (direction_number dir)) (pos (place_of set e) ∷ coordinates_of c) (pos (place_of set v) ∷ coordinates_of f.start) (ap (λ d. pos (direction_number d)) ed)
          (Precedes-same (pos (place_of set b')) (pos (place_of set b)) (pos (direction_number dir') ∷ pos (place_of set e) ∷ coordinates_of c) (pos (direction_number dir) ∷ pos (place_of set v) ∷ coordinates_of f.start)
          (ap (λ u. pos (place_of set u)) eb) before) in
          let sweeps : SweepsThrough b (after_step b dir) c e =
          subst (λ d. SweepsThrough b (after_step b d) c e) ed (subst (λ u. SweepsThrough u (after_step u dir') c e) eb move.sweeps) in
          elim rest [
            | inl less ↦ none c e move.other (omega (arith, pos-less _ _ less, place)) sweeps
            | inr (same, later) ↦
                let one : e ≡ v = place_of-same set e v move.other other (pos-same _ _ same) in
                first.none_before c tt (subst (SweepsThrough b (after_step b dir) c) one sweeps) later
          ];
    }

-- at the end no bond is left
pub step-none : (set : List (P3 × ℕ)) (b : P3) (dir : Dir) (k : ℕ) → length set ≤ k → NoneBeforeBond set b (after_step b dir) k → NoneAmong (IsOfStep b dir) set
step-none set b dir k past none b' dir' c e (eb, ed) move =
    let sweeps : SweepsThrough b (after_step b dir) c e =
    subst (λ d. SweepsThrough b (after_step b d) c e) ed (subst (λ u. SweepsThrough u (after_step u dir') c e) eb move.sweeps) in
    none c e move.other (omega (arith, place_of-below set e move.other)) sweeps

-- the set does not allow the step
pub step-stays : (set : List (P3 × ℕ)) (b : P3) (dir : Dir) → ¬ (Contains (vectors_of set) (after_step b dir)) → NoneAmong (IsOfStep b dir) set
step-stays set b dir none b' dir' c e (eb, ed) move =
    none (subst (λ d. Contains (vectors_of set) (after_step b d)) ed (subst (λ u. Contains (vectors_of set) (after_step u dir')) eb move.moved))

-- ---- moves of one bond
-- no step before this number is a crossing move
abbrev pub NoneBeforeStep : List (P3 × ℕ) → P3 → ℕ → Type 0
NoneBeforeStep set b n = (dir : Dir) (c e : P3) → direction_number dir < n → ¬ (CrossingMove set b dir c e)

-- the next step is none either
pub bond-next : (set : List (P3 × ℕ)) (b : P3) (dir : Dir) (n : ℕ) → slice_get directions n ≡ Some dir → NoneBeforeStep set b n → NoneAmong (IsOfStep b dir) set → NoneBeforeStep set b (n + 1)
bond-next set b dir n at none here dir' c e below move = by (cases (direction_number dir') n below)
  where
    cases : (m k : ℕ) → m < k + 1 → (m < k) ⊎ (m ≡ k)
    cases m k h = grind arith

    by : (direction_number dir' < n) ⊎ (direction_number dir' ≡ n) → ⊥
    by (inl before) = none dir' c e before move
    by (inr same) = here b dir' c e (refl, direction_number-same dir' dir (same ∙ sym (direction_number-at n dir at))) move

-- the first move by the first step that has one is the first of the bond
pub bond-first : (set : List (P3 × ℕ)) (b : P3) (dir : Dir) (n : ℕ) (f : Crossing) → slice_get directions n ≡ Some dir → NoneBeforeStep set b n
    → IsFirstAmong (IsOfStep b dir) set f → IsFirstAmong (IsOfBond b) set f
bond-first set b dir n f at none first =
    let fb = first.one_of_them.0 in
    let fd = first.one_of_them.1 in
    record {
      one_of_them = fb;
      crossing = first.crossing;
      shown = first.shown;
      none_before = λ b' dir' c e eb move before.
          let rest = Precedes-same (pos (place_of set b')) (pos (place_of set f.b)) (pos (direction_number dir') ∷ pos (place_of set e) ∷ coordinates_of c) (pos (direction_number f.dir) ∷ pos (place_of set f.e) ∷ coordinates_of f.c)
          (ap (λ u. pos (place_of set u)) (eb ∙ sym fb)) before in
          elim rest [
            | inl less ↦
                let earlier : direction_number dir' < n = omega (arith, pos-less _ _ less, ap direction_number fd, direction_number-at n dir at) in
                none dir' c e earlier (subst (λ u. CrossingMove set u dir' c e) eb move)
            | inr (same, later) ↦
                let one : dir' ≡ dir = direction_number-same dir' f.dir (pos-same _ _ same) ∙ fd in
                first.none_before b' dir' c e (eb, one) move before
          ];
    }

-- after six steps none is left
pub bond-none : (set : List (P3 × ℕ)) (b : P3) (n : ℕ) → 6 ≤ n → NoneBeforeStep set b n → NoneAmong (IsOfBond b) set
bond-none set b n past none b' dir' c e eb move =
    none dir' c e (omega (arith, direction_number-below dir')) (subst (λ u. CrossingMove set u dir' c e) eb move)

-- ---- moves of a set
-- no bond before this place has a crossing move
abbrev pub NoneBeforePlace : List (P3 × ℕ) → ℕ → Type 0
NoneBeforePlace set k = (b : P3) (dir : Dir) (c e : P3) → place_of set b < k → ¬ (CrossingMove set b dir c e)

-- the next bond has none either
pub set-next : (set : List (P3 × ℕ)) (v : P3) (k : ℕ) → IsBondSet set → slice_get (vectors_of set) k ≡ Some v → NoneBeforePlace set k → NoneAmong (IsOfBond v) set → NoneBeforePlace set (k + 1)
set-next set v k rules at none here b dir c e below move = by (cases (place_of set b) k below)
  where
    cases : (m k : ℕ) → m < k + 1 → (m < k) ⊎ (m ≡ k)
    cases m k h = grind arith

    by : (place_of set b < k) ⊎ (place_of set b ≡ k) → ⊥
    by (inl before) = none b dir c e before move
    by (inr same) = here b dir c e (place_of-same set b v move.bond (Contains-at (vectors_of set) k v at) (same ∙ sym (place_of-at set k v rules at))) move

-- the first move of the first bond that has one is the first of the set
pub set-first : (set : List (P3 × ℕ)) (v : P3) (k : ℕ) (f : Crossing) → IsBondSet set → slice_get (vectors_of set) k ≡ Some v → NoneBeforePlace set k
    → IsFirstAmong (IsOfBond v) set f → IsFirstCrossing set f.b f.dir f.c f.e
set-first set v k f rules at none first = record {
  crossing = first.crossing;
  none_before = λ b dir c e move before. elim before [
    | inl less ↦
        let place : place_of set f.b ≡ k = ap (place_of set) first.one_of_them ∙ place_of-at set k v rules at in
        none b dir c e (omega (arith, pos-less _ _ less, place)) move
    | inr rest ↦
        let one : b ≡ v = place_of-same set b f.b move.bond first.crossing.bond (pos-same _ _ rest.0) ∙ first.one_of_them in
        first.none_before b dir c e one move (inr rest)
  ];
}

-- at the end no bond is left
pub set-none : (set : List (P3 × ℕ)) (k : ℕ) → length set ≤ k → NoneBeforePlace set k → IsFree set
set-none set k past none b dir c e move = none b dir c e (omega (arith, place_of-below set b move.bond)) move
