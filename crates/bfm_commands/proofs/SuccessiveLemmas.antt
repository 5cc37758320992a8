-- What a frame line adds, and its causes. The line's own successive monomers are bonded by vectors of the set, so that
-- its positions are judged alike with those bonds and without them.
use Rattle.std.proofs.Common.{◌≡◌, ◌≢◌, ℕ, zero, suc, ◌+◌, ◌-◌, ◌<◌, ◌≤◌, Bool, true, false, cond, not, ◌||◌, inl, inr, ◌⊎◌, List, ◌∷◌, ◌++◌, length, take, drop, get_or, pos, Option, None, Some, refl, ap, sym, ◌∙◌, subst, arith, length-drop, length-take}
use Rattle.std.proofs.Math.Seq.{drop-cons}
use Rattle.std.proofs.lemmas.List.{get_or-take, take-append-drop}
use Rattle.std.proofs.lemmas.Option.{slice_get-get_or, slice_get_past}
use Rattle.std.specs.List.{list_all}
use Rattle.std.specs.Prelude.{slice_get}
use Rattle.bfm_base.specs.declared.place.P3.{P3}
use Rattle.bfm_base.specs.declared.cause.Cause.{Cause}
use Rattle.bfm_base.specs.declared.cause.Cause.TheVariants.{Outside, Overlap, BadBond, TooManyBonds, BondUnknown}
use Rattle.bfm_world.specs.Bonds.{neighbours_of, are_bonded, with_bond}
use Rattle.bfm_geom.specs.Walls.{is_within_walls}
use Rattle.bfm_world.specs.Configuration.{IsSound, may_bond, may_reach, position_at}
use Rattle.bfm_world.specs.Draft.{Draft, with_positions, with_bonds}
use Rattle.bfm_world.proofs.BondLemmas.{has, AreTheTwo, as_named, turned, still_bonded, was_bonded}
use Rattle.bfm_world.proofs.VectorLemmas.{may_bond-turned}
use Rattle.bfm_commands.specs.History.{with_pair, with_pairs, chain}
use Rattle.bfm_commands.specs.Placing.{placing_cause, positions_cause, later_cause, or_else, with_line, with_later_line, line_pairs}
use Rattle.bfm_commands.specs.Causes.{some_fails, is_apart, is_bonded_well, is_overfull, some_unbonded}
use Rattle.bfm_commands.proofs.PairLemmas.{length-with_pair}
use Rattle.bfm_commands.proofs.FrameLemmas.{passes_at, some_fails-same, all_at, all_from, same_truth}

abbrev zero_place : P3
zero_place = record { x = pos 0; y = pos 0; z = pos 0 }

-- ---- who is bonded once pairs are joined
module _ (bonds : List (List ℕ)) (pair : ℕ × ℕ) (ne : pair.0 ≢ pair.1) (l : pair.0 < length bonds) (m : pair.1 < length bonds) where
  with_pair-still : (k n : ℕ) → are_bonded bonds k n ≡ true → are_bonded (with_pair bonds pair) k n ≡ true
  with_pair-still k n h = by_test (are_bonded bonds pair.0 pair.1)
    where
      by_test : (t : Bool) → are_bonded (cond t bonds (with_bond bonds pair.0 pair.1)) k n ≡ true
      by_test true = h
      by_test false = still_bonded bonds pair.0 pair.1 ne l m k n h

  with_pair-was : (k n : ℕ) → are_bonded (with_pair bonds pair) k n ≡ true → AreTheTwo pair.0 pair.1 k n ⊎ (are_bonded bonds k n ≡ true)
  with_pair-was k n h = by_test (are_bonded bonds pair.0 pair.1) h
    where
      by_test : (t : Bool) → are_bonded (cond t bonds (with_bond bonds pair.0 pair.1)) k n ≡ true → AreTheTwo pair.0 pair.1 k n ⊎ (are_bonded bonds k n ≡ true)
      by_test true h = inr h
      by_test false h = was_bonded bonds pair.0 pair.1 ne l m k n h

-- one of two monomers comes right behind the other, which is a or a later one where it is the second that is named
data AreSuccessive (a k m : ℕ) : Type 0 where
  up : m ≡ k + 1 → AreSuccessive a k m
  down : a ≤ m → k ≡ m + 1 → AreSuccessive a k m

chain-still : (bonds : List (List ℕ)) (a n : ℕ) → a + n < length bonds → (k m : ℕ) → are_bonded bonds k m ≡ true → are_bonded (with_pairs bonds (chain a n)) k m ≡ true
chain-still bonds a zero l k m h = h
chain-still bonds a (suc n) l k m h =
    chain-still (with_pair bonds (a, a + 1)) (a + 1) n (omega (arith, length-with_pair bonds (a, a + 1))) k m
    (with_pair-still bonds (a, a + 1) (λ q. absurd (omega arith)) (omega arith) (omega arith) k m h)

chain-was : (bonds : List (List ℕ)) (a n : ℕ) → a + n < length bonds → (k m : ℕ) → are_bonded (with_pairs bonds (chain a n)) k m ≡ true → AreSuccessive a k m ⊎ (are_bonded bonds k m ≡ true)
chain-was bonds a zero l k m h = inr h
chain-was bonds a (suc n) l k m h =
    elim (chain-was (with_pair bonds (a, a + 1)) (a + 1) n (omega (arith, length-with_pair bonds (a, a + 1))) k m h) [
      | inl (up e) ↦ inl (up e)
      | inl (down b e) ↦ inl (down (omega arith) e)
      | inr f ↦ elim (with_pair-was bonds (a, a + 1) (λ q. absurd (omega arith)) (omega arith) (omega arith) k m f) [
        | inl (as_named e g) ↦ inl (up (omega arith))
        | inl (turned e g) ↦ inl (down (omega arith) (omega arith))
        | inr g ↦ inr g
      ]
    ]

-- a test of all of a list is one of all of a longer list, if whatever is only in the longer passes
list_all-wider : (p : ℕ → Bool) (xs ys : List ℕ) → ((j : ℕ) → has j ys ≡ true → has j xs ≡ true) → ((j : ℕ) → has j xs ≡ true → (has j ys ≡ true) ⊎ (p j ≡ true)) → list_all p xs ≡ list_all p ys
list_all-wider p xs ys wide more =
    same_truth _ _ (λ h. all_from p ys (λ j b. all_at p xs j h (wide j b))) (λ h. all_from p xs (λ j b. elim (more j b) [ inl c ↦ all_at p ys j h c | inr c ↦ c ]))

-- what a line adds, in the words of the list of all positions
with_line-whole : (draft : Draft) (ps : List P3) (begun : ℕ) → draft.world.positions ≡ take begun ps → begun < length ps
    → with_line draft (drop begun ps) ≡ with_bonds (with_positions draft ps) (with_pairs draft.world.bonds (chain begun (length ps - 1 - begun)))
with_line-whole draft ps n e l =
    let count : length draft.world.positions ≡ n = omega (arith, ap length e, length-take n ps) in
    let left : length (drop (suc n) ps) ≡ length ps - 1 - n = omega (arith, length-drop (suc n) ps) in
    let whole : draft.world.positions ++ drop n ps ≡ ps = ap (λ qs. qs ++ drop n ps) e ∙ take-append-drop n ps in
    let parts : drop n ps ≡ get_or ps n zero_place ∷ drop (suc n) ps = drop-cons ps n zero_place l in
    ap (with_line draft) parts
    ∙ (ap (λ qs. with_bonds (with_positions draft qs) (with_pairs draft.world.bonds (chain (length draft.world.positions) (length (drop (suc n) ps))))) (ap (λ qs. draft.world.positions ++ qs) (sym parts) ∙ whole)
    ∙ (ap (λ m. with_bonds (with_positions draft ps) (with_pairs draft.world.bonds (chain m (length (drop (suc n) ps))))) count
    ∙ ap (λ m. with_bonds (with_positions draft ps) (with_pairs draft.world.bonds (chain n m))) left))

-- ---- a line's positions behind those of a sound draft, where a bond may run from each to the next one
module _ (draft : Draft) (ps : List P3) (n : ℕ) (sound : IsSound draft.count draft.world) (front : draft.world.positions ≡ take n ps) (some : n < length ps) (room : length ps ≤ draft.count)
    (steps : (k : ℕ) → n ≤ k → k + 1 < length ps → may_bond draft.world.shape draft.world.set (position_at ps k) (position_at ps (k + 1)) ≡ true) where
  abbrev pairs : List (ℕ × ℕ)
  pairs = chain n (length ps - 1 - n)

  abbrev more : List (List ℕ)
  more = with_pairs draft.world.bonds pairs

  successive-reached : (k m : ℕ) → n ≤ k → k < length ps → AreSuccessive n k m → may_reach draft.world.shape draft.world.set (position_at ps k) (slice_get (take k ps) m) ≡ true
  successive-reached k m b l (up e) = ap (may_reach draft.world.shape draft.world.set (position_at ps k)) (slice_get_past (take k ps) m (omega (arith, length-take k ps)))
  successive-reached k m b l (down c e) =
      let there = slice_get-get_or (take k ps) m zero_place (omega (arith, length-take k ps)) in
      let same : position_at (take k ps) m ≡ position_at ps m = get_or-take k ps m zero_place (omega arith) in
      ap (may_reach draft.world.shape draft.world.set (position_at ps k)) (there ∙ ap Some same)
      ∙ may_bond-turned draft.world.shape draft.world.set (position_at ps m) (position_at ps k) sound.box sound.set sound.symmetric
      (subst (λ i. may_bond draft.world.shape draft.world.set (position_at ps m) (position_at ps i) ≡ true) (sym e) (steps m c (omega arith)))

  bonded_well-same : (k : ℕ) → n ≤ k → k < length ps → passes_at (is_bonded_well (with_bonds draft more).world) ps k ≡ passes_at (is_bonded_well draft.world) ps k
  bonded_well-same k b l =
      let i = length (take k ps) in
      let number : i ≡ k = omega (arith, length-take k ps) in
      let inside : n + (length ps - 1 - n) < length draft.world.bonds = omega (arith, sound.bonds.rows) in
      list_all-wider (λ j. may_reach draft.world.shape draft.world.set (position_at ps k) (slice_get (take k ps) j)) (neighbours_of more i) (neighbours_of draft.world.bonds i)
      (λ j h. chain-still draft.world.bonds n (length ps - 1 - n) inside i j h)
      (λ j h. elim (chain-was draft.world.bonds n (length ps - 1 - n) inside i j h) [
        | inl s ↦ inr (successive-reached k j b l (subst (λ x. AreSuccessive n x j) number s))
        | inr f ↦ inl f
      ])

  -- the bonds between successive monomers of the line need not be looked at
  placing_cause-successive : placing_cause (with_bonds draft more).world (drop n ps) ≡ placing_cause draft.world (drop n ps)
  placing_cause-successive =
      let before = draft.world.positions in
      let rest = drop n ps in
      let same : some_fails (is_bonded_well (with_bonds draft more).world) before rest ≡ some_fails (is_bonded_well draft.world) before rest =
      subst (λ qs. some_fails (is_bonded_well (with_bonds draft more).world) qs rest ≡ some_fails (is_bonded_well draft.world) qs rest) (sym front)
      (some_fails-same (is_bonded_well (with_bonds draft more).world) (is_bonded_well draft.world) ps n bonded_well-same) in
      ap (λ t.
      cond (some_fails (λ before p. is_within_walls draft.world.shape p) before rest) (Some Outside) (cond (some_fails (is_apart draft.world) before rest) (Some Overlap) (cond t (Some BadBond) None))) same

  line_bonds : (with_line draft (drop n ps)).world.bonds ≡ more
  line_bonds = ap (λ (d : Draft). d.world.bonds) (with_line-whole draft ps n front some)

  cause_by_parts : (first : Option Cause) (full : Bool) → placing_cause draft.world (drop n ps) ≡ first → is_overfull more ≡ full
      → positions_cause draft (drop n ps) ≡ or_else first (cond full (Some TooManyBonds) None)
  cause_by_parts first full h k =
      ap (λ bonds. or_else (placing_cause (with_bonds draft bonds).world (drop n ps)) (cond (is_overfull bonds) (Some TooManyBonds) None)) line_bonds
      ∙ (ap (λ o. or_else o (cond (is_overfull more) (Some TooManyBonds) None)) (placing_cause-successive ∙ h) ∙ ap (λ b. or_else first (cond b (Some TooManyBonds) None)) k)

  -- how a line ends: with the cause of its positions, with all that it adds, or with too many bonds
  pub LineOutcome-placing : (cause : Cause) → placing_cause draft.world (drop n ps) ≡ Some cause → positions_cause draft (drop n ps) ≡ Some cause
  LineOutcome-placing cause h = cause_by_parts (Some cause) (is_overfull more) h refl

  module _ (placed : Draft) (p : placed ≡ with_positions draft ps) (none : placing_cause draft.world (drop n ps) ≡ None) where
    bonds_are : (full : Bool) → is_overfull (with_pairs placed.world.bonds pairs) ≡ full → is_overfull more ≡ full
    bonds_are full h = ap (λ (d : Draft). is_overfull (with_pairs d.world.bonds pairs)) (sym p) ∙ h

    pub LineOutcome-ok : (new : Draft) → new ≡ with_bonds placed (with_pairs placed.world.bonds pairs) → is_overfull (with_pairs placed.world.bonds pairs) ≡ false
        → (new ≡ with_line draft (drop n ps)) × (positions_cause draft (drop n ps) ≡ None)
    LineOutcome-ok new q h = (
      q ∙ (ap (λ (d : Draft). with_bonds d (with_pairs d.world.bonds pairs)) p ∙ sym (with_line-whole draft ps n front some)),
      cause_by_parts None false none (bonds_are false h),
    )

    pub LineOutcome-err : is_overfull (with_pairs placed.world.bonds pairs) ≡ true → positions_cause draft (drop n ps) ≡ Some TooManyBonds
    LineOutcome-err h = cause_by_parts None true none (bonds_are true h)

-- ---- whether some of successive monomers is not bonded to the next
pub some_unbonded-none : (bonds : List (List ℕ)) (k n : ℕ) → ((j : ℕ) → k ≤ j → j < k + n → are_bonded bonds j (j + 1) ≡ true) → some_unbonded bonds (chain k n) ≡ false
some_unbonded-none bonds k zero h = refl
some_unbonded-none bonds k (suc n) h =
    ap (λ b. not b || some_unbonded bonds (chain (k + 1) n)) (h k (omega arith) (omega arith)) ∙ some_unbonded-none bonds (k + 1) n (λ j a b. h j (omega arith) (omega arith))

or_true : (a : Bool) → (a || true) ≡ true
or_true true = refl
or_true false = refl

unbonded_behind : (bonds : List (List ℕ)) (k n i : ℕ) → i < n → are_bonded bonds (k + i) (k + i + 1) ≡ false → some_unbonded bonds (chain k n) ≡ true
unbonded_behind bonds k zero i l h = absurd (omega arith)
unbonded_behind bonds k (suc n) zero l h =
    ap (λ b. not b || some_unbonded bonds (chain (k + 1) n)) (subst (λ j. are_bonded bonds j (j + 1) ≡ false) (omega arith) h)
unbonded_behind bonds k (suc n) (suc i) l h =
    ap (λ b. not (are_bonded bonds k (k + 1)) || b) (unbonded_behind bonds (k + 1) n i (omega arith) (subst (λ j. are_bonded bonds j (j + 1) ≡ false) (omega arith) h))
    ∙ or_true (not (are_bonded bonds k (k + 1)))

pub some_unbonded-at : (bonds : List (List ℕ)) (k n j : ℕ) → k ≤ j → j < k + n → are_bonded bonds j (j + 1) ≡ false → some_unbonded bonds (chain k n) ≡ true
some_unbonded-at bonds k n j l m h = unbonded_behind bonds k n (j - k) (omega arith) (subst (λ i. are_bonded bonds i (i + 1) ≡ false) (omega arith) h)

-- ---- a line of a later frame, whose positions stand behind those of a draft
module _ (draft : Draft) (ps : List P3) (n : ℕ) (front : draft.world.positions ≡ take n ps) (some : n < length ps) where
  line_pairs-whole : line_pairs draft (drop n ps) ≡ chain n (length ps - 1 - n)
  line_pairs-whole =
      let count : length draft.world.positions ≡ n = omega (arith, ap length front, length-take n ps) in
      let left : length (drop (suc n) ps) ≡ length ps - 1 - n = omega (arith, length-drop (suc n) ps) in
      ap (line_pairs draft) (drop-cons ps n zero_place some) ∙ (ap (λ m. chain m (length (drop (suc n) ps))) count ∙ ap (chain n) left)

  pub with_later_line-whole : with_later_line draft (drop n ps) ≡ with_positions draft ps
  with_later_line-whole = ap (with_positions draft) (ap (λ qs. qs ++ drop n ps) front ∙ take-append-drop n ps)

  pub later_cause-parts : (first : Option Cause) (apart : Bool) → placing_cause draft.world (drop n ps) ≡ first → some_unbonded draft.world.bonds (chain n (length ps - 1 - n)) ≡ apart
      → later_cause draft (drop n ps) ≡ or_else first (cond apart (Some BondUnknown) None)
  later_cause-parts first apart h k =
      ap (λ pairs. or_else (placing_cause draft.world (drop n ps)) (cond (some_unbonded draft.world.bonds pairs) (Some BondUnknown) None)) line_pairs-whole
      ∙ (ap (λ o. or_else o (cond (some_unbonded draft.world.bonds (chain n (length ps - 1 - n))) (Some BondUnknown) None)) h ∙ ap (λ b. or_else first (cond b (Some BondUnknown) None)) k)
