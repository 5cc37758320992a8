-- The positions of a frame line, judged one after the other.
use Rattle.std.proofs.Common.{◌≡◌, ℕ, zero, suc, ◌+◌, ◌<◌, ◌≤◌, Bool, true, false, cond, not, ◌||◌, inl, inr, ◌⊎◌, ◌≢◌, List, [], ◌∷◌, ◌++◌, length, take, drop, refl, ap, sym, ◌∙◌, subst, arith, append_assoc, append-nil, length-drop, ◌-◌, ◌&&◌, pos, Option, None, Some, is_some, MatchOption, Result, Ok, Err, is_err}
use Rattle.std.proofs.Math.Seq.{take-add}
use Rattle.std.proofs.lemmas.List.{get_or-drop, take_more, take_all}
use Rattle.std.proofs.lemmas.Option.{slice_get-get_or}
use Rattle.std.proofs.lemmas.Bool.Decides.{eqb_tells}
use Rattle.std.specs.List.{list_all}
use Rattle.std.specs.Prelude.{nat_eq, slice_get}
use Rattle.bfm_base.specs.declared.place.P3.{P3}
use Rattle.bfm_base.specs.declared.cause.Cause.{Cause}
use Rattle.bfm_base.specs.declared.cause.Cause.TheVariants.{Outside, Overlap, BadBond, TooManyBonds}
use Rattle.bfm_world.specs.Bonds.{neighbours_of, with_bond}
use Rattle.bfm_geom.specs.Walls.{is_within_walls}
use Rattle.bfm_world.specs.Configuration.{Configuration, IsSound, is_clear, keeps_bonds, may_bond, may_reach, position_at}
use Rattle.bfm_world.specs.Draft.{Draft, with_positions, with_bonds, place_refusal, may_join, join_answer}
use Rattle.bfm_world.proofs.BondLemmas.{has, test-eq, eq-test, and_left, and_right}
use Rattle.bfm_commands.specs.History.{with_pair, with_pairs, chain}
use Rattle.bfm_commands.specs.Causes.{some_fails, is_apart, is_bonded_well, is_overfull}
use Rattle.bfm_commands.specs.Placing.{placing_cause}
use Rattle.bfm_commands.proofs.PairLemmas.{with_pairs-overfull, not_overfull, Joined, joined}

-- the test of a position in a list, after those before it
abbrev pub passes_at : (List P3 → P3 → Bool) → List P3 → ℕ → Bool
passes_at test ps k = test (take k ps) (position_at ps k)

-- no later test fails where each passes
fails_none : (test : List P3 → P3 → Bool) (before rest : List P3) → ((k : ℕ) → k < length rest → test (before ++ take k rest) (position_at rest k) ≡ true) → some_fails test before rest ≡ false
fails_none test before [] h = refl
fails_none test before (p ∷ ps) h =
    let here : test before p ≡ true = subst (λ l. test l p ≡ true) (append-nil before) (h 0 (omega arith)) in
    ap (λ b. not b || some_fails test (before ++ p ∷ []) ps) here
    ∙ fails_none test (before ++ p ∷ []) ps (λ k l. subst (λ b. test b (position_at ps k) ≡ true) (sym (append_assoc before (p ∷ []) (take k ps))) (h (suc k) (omega arith)))

or_true : (a : Bool) → (a || true) ≡ true
or_true true = refl
or_true false = refl

-- one fails
fails_at : (test : List P3 → P3 → Bool) (before rest : List P3) (k : ℕ) → k < length rest → test (before ++ take k rest) (position_at rest k) ≡ false → some_fails test before rest ≡ true
fails_at test before [] k l h = absurd (omega arith)
fails_at test before (p ∷ ps) zero l h = ap (λ b. not b || some_fails test (before ++ p ∷ []) ps) (subst (λ l. test l p ≡ false) (append-nil before) h)
fails_at test before (p ∷ ps) (suc k) l h =
    ap (λ b. not (test before p) || b) (fails_at test (before ++ p ∷ []) ps k (omega arith) (subst (λ b. test b (position_at ps k) ≡ false) (sym (append_assoc before (p ∷ []) (take k ps))) h))
    ∙ or_true (not (test before p))

module _ (test : List P3 → P3 → Bool) (ps : List P3) (n : ℕ) where
  test_of_rest : (b : Bool) (k : ℕ) → passes_at test ps (n + k) ≡ b → test (take n ps ++ take k (drop n ps)) (position_at (drop n ps) k) ≡ b
  test_of_rest b k h =
      ap (λ l. test l (position_at (drop n ps) k)) (sym (take-add n k ps)) ∙ (ap (test (take (n + k) ps)) (get_or-drop n ps k (record { x = pos 0; y = pos 0; z = pos 0 })) ∙ h)

  -- the same by the numbers in the whole list
  pub some_fails-none : ((k : ℕ) → n ≤ k → k < length ps → passes_at test ps k ≡ true) → some_fails test (take n ps) (drop n ps) ≡ false
  some_fails-none h = fails_none test (take n ps) (drop n ps) (λ k l. test_of_rest true k (h (n + k) (omega arith) (omega (arith, length-drop n ps))))

  pub some_fails-at : (k : ℕ) → n ≤ k → k < length ps → passes_at test ps k ≡ false → some_fails test (take n ps) (drop n ps) ≡ true
  some_fails-at k l m h =
      fails_at test (take n ps) (drop n ps) (k - n) (omega (arith, length-drop n ps)) (test_of_rest false (k - n) (subst (λ i. passes_at test ps i ≡ false) (omega arith) h))

-- two tests that agree on each position
fails_same : (test other : List P3 → P3 → Bool) (before rest : List P3) → ((k : ℕ) → k < length rest → test (before ++ take k rest) (position_at rest k) ≡ other (before ++ take k rest) (position_at rest k))
    → some_fails test before rest ≡ some_fails other before rest
fails_same test other before [] h = refl
fails_same test other before (p ∷ ps) h =
    let here : test before p ≡ other before p = subst (λ l. test l p ≡ other l p) (append-nil before) (h 0 (omega arith)) in
    ap (λ b. not b || some_fails test (before ++ p ∷ []) ps) here
    ∙ ap (λ b. not (other before p) || b)
    (fails_same test other (before ++ p ∷ []) ps (λ k l. subst (λ b. test b (position_at ps k) ≡ other b (position_at ps k)) (sym (append_assoc before (p ∷ []) (take k ps))) (h (suc k) (omega arith))))

pub some_fails-same : (test other : List P3 → P3 → Bool) (ps : List P3) (n : ℕ) → ((k : ℕ) → n ≤ k → k < length ps → passes_at test ps k ≡ passes_at other ps k)
    → some_fails test (take n ps) (drop n ps) ≡ some_fails other (take n ps) (drop n ps)
some_fails-same test other ps n h =
    fails_same test other (take n ps) (drop n ps) (λ k l.
    test_of_rest test ps n (passes_at test ps (n + k)) k refl
    ∙ (h (n + k) (omega arith) (omega (arith, length-drop n ps)) ∙ sym (test_of_rest other ps n (passes_at other ps (n + k)) k refl)))

-- what a builder's answer to a position says of the tests
pub record Passes (w : Configuration) (p : P3) : Type 0 where
  pub inside : is_within_walls w.shape p ≡ true
  pub apart : is_apart w w.positions p ≡ true
  pub bonded : is_bonded_well w w.positions p ≡ true

not_false : (t : Bool) → not t ≡ false → t ≡ true
not_false true h = refl
not_false false h = absurd (cc)

first_else : {A : Type 0} (t : Bool) (a : A) (r : Option A) → cond (not t) (Some a) r ≡ None → (t ≡ true) × (r ≡ None)
first_else true a r h = (refl, h)
first_else false a r h = absurd (cc)

pub Passes-placed : (w : Configuration) (p : P3) → place_refusal w p ≡ None → Passes w p
Passes-placed w p h =
    let first = first_else (is_within_walls w.shape p) Outside _ h in
    let second = first_else (is_clear w.shape w.positions p) Overlap _ first.1 in
    let third = first_else (keeps_bonds w.shape w.set w.positions (neighbours_of w.bonds (length w.positions)) p) BadBond _ second.1 in
    record { inside = first.0; apart = second.0; bonded = third.0 }

-- a position that is refused fails one of the tests
pub data Fails (w : Configuration) (p : P3) : Type 0 where
  outside : is_within_walls w.shape p ≡ false → Fails w p
  overlapping : is_apart w w.positions p ≡ false → Fails w p
  badly_bonded : is_bonded_well w w.positions p ≡ false → Fails w p

pub Fails-refused : (w : Configuration) (p : P3) → is_some (place_refusal w p) ≡ true → Fails w p
Fails-refused w p h =
    by_tests (is_within_walls w.shape p) (is_clear w.shape w.positions p) (keeps_bonds w.shape w.set w.positions (neighbours_of w.bonds (length w.positions)) p)
    refl refl refl h
  where
    by_tests : (a b c : Bool) → is_within_walls w.shape p ≡ a → is_clear w.shape w.positions p ≡ b
        → keeps_bonds w.shape w.set w.positions (neighbours_of w.bonds (length w.positions)) p ≡ c
        → is_some (cond (not a) (Some Outside) (cond (not b) (Some Overlap) (cond (not c) (Some BadBond) None))) ≡ true → Fails w p
    by_tests false b c d e f h = outside d
    by_tests true false c d e f h = overlapping e
    by_tests true true false d e f h = badly_bonded f
    by_tests true true true d e f h = absurd (cc)

-- the answer of `place` by its cases
pub answer_ok : {C : Type 0} (refusal : Option C) (result : Result (Unit {0}) C) → MatchOption refusal (result ≡ Ok tt) (λ cause. result ≡ Err cause) → is_err result ≡ false → refusal ≡ None
answer_ok None result h e = refl
answer_ok (Some c) result h e = absurd (let f = ap is_err h in cc)

pub answer_err : {C : Type 0} (refusal : Option C) (result : Result (Unit {0}) C) → MatchOption refusal (result ≡ Ok tt) (λ cause. result ≡ Err cause) → is_err result ≡ true → is_some refusal ≡ true
answer_err None result h e = absurd (let f = ap is_err h in cc)
answer_err (Some d) result h e = refl

-- no cause where no test fails, and one where some test fails
pub placing_cause-none : (w : Configuration) (ps : List P3) → some_fails (λ before p. is_within_walls w.shape p) w.positions ps ≡ false → some_fails (is_apart w) w.positions ps ≡ false
    → some_fails (is_bonded_well w) w.positions ps ≡ false → placing_cause w ps ≡ None
placing_cause-none w ps a b c = rw (a, b, c) refl

pub placing_cause-some : (w : Configuration) (ps : List P3)
    → (some_fails (λ before p. is_within_walls w.shape p) w.positions ps ≡ true) ⊎ ((some_fails (is_apart w) w.positions ps ≡ true) ⊎ (some_fails (is_bonded_well w) w.positions ps ≡ true))
    → is_some (placing_cause w ps) ≡ true
placing_cause-some w ps h =
    by_tests (some_fails (λ before p. is_within_walls w.shape p) w.positions ps) (some_fails (is_apart w) w.positions ps) (some_fails (is_bonded_well w) w.positions ps) h
  where
    by_tests : (a b c : Bool) → (a ≡ true) ⊎ ((b ≡ true) ⊎ (c ≡ true)) → is_some (cond a (Some Outside) (cond b (Some Overlap) (cond c (Some BadBond) None))) ≡ true
    by_tests true b c h = refl
    by_tests false true c h = refl
    by_tests false false true h = refl
    by_tests false false false (inl h) = h
    by_tests false false false (inr (inl h)) = h
    by_tests false false false (inr (inr h)) = h

-- two lists of the same numbers
pub data SameNumbers (xs ys : List ℕ) : Type 0 where
  same_numbers : ((j : ℕ) → has j xs ≡ true → has j ys ≡ true) → ((j : ℕ) → has j ys ≡ true → has j xs ≡ true) → SameNumbers xs ys

pub all_at : (p : ℕ → Bool) (xs : List ℕ) (j : ℕ) → list_all p xs ≡ true → has j xs ≡ true → p j ≡ true
all_at p [] j h b = absurd (cc)
all_at p (x ∷ xs) j h b = by_test (all_at p xs j (and_right _ _ h)) (nat_eq x j) refl b
  where
    by_test : (has j xs ≡ true → p j ≡ true) → (t : Bool) → nat_eq x j ≡ t → (t || has j xs) ≡ true → p j ≡ true
    by_test later true e b = subst (λ n. p n ≡ true) (test-eq x j e) (and_left _ _ h)
    by_test later false e b = later b

pub all_from : (p : ℕ → Bool) (xs : List ℕ) → ((j : ℕ) → has j xs ≡ true → p j ≡ true) → list_all p xs ≡ true
all_from p [] h = refl
all_from p (x ∷ xs) h =
    ap (λ b. b && list_all p xs) (h x (ap (λ b. b || has x xs) (eq-test x))) ∙ all_from p xs (λ j b. h j (ap (λ c. nat_eq x j || c) b ∙ or_true (nat_eq x j)))

pub same_truth : (a b : Bool) → (a ≡ true → b ≡ true) → (b ≡ true → a ≡ true) → a ≡ b
same_truth true b f g = sym (f refl)
same_truth false true f g = g refl
same_truth false false f g = refl

pub list_all-same : (p : ℕ → Bool) (xs ys : List ℕ) → SameNumbers xs ys → list_all p xs ≡ list_all p ys
list_all-same p xs ys (same_numbers f g) = same_truth _ _ (λ h. all_from p ys (λ j b. all_at p xs j h (g j b))) (λ h. all_from p xs (λ j b. all_at p ys j h (f j b)))

-- how far a builder has come with the positions of a list
pub record PlacedSoFar (start now : Draft) (ps : List P3) (k : ℕ) : Type 0 where
  pub draft : now ≡ with_positions start (take k ps)
  pub sound : IsSound now.count now.world
  pub inside : (j : ℕ) → length start.world.positions ≤ j → j < k → passes_at (λ before p. is_within_walls start.world.shape p) ps j ≡ true
  pub apart : (j : ℕ) → length start.world.positions ≤ j → j < k → passes_at (is_apart start.world) ps j ≡ true
  pub bonded : (j : ℕ) → length start.world.positions ≤ j → j < k → passes_at (is_bonded_well start.world) ps j ≡ true

-- how far it has come with the pairs of successive monomers
pub record JoinedSoFar (start now : Draft) (first count k : ℕ) : Type 0 where
  pub draft : now ≡ with_bonds start now.world.bonds
  pub rest : with_pairs now.world.bonds (chain k (first + count - k)) ≡ with_pairs start.world.bonds (chain first count)
  pub sound : IsSound now.count now.world

below_less : (P : ℕ → Type 0) (begun k : ℕ) → ((j : ℕ) → begun ≤ j → j < k → P j) → P k → (j : ℕ) → begun ≤ j → j < k + 1 → P j
below_less P begun k before here j l m = elim (eqb_tells j k) [ inl e ↦ subst P (sym e.1) here | inr n ↦ before j l (omega (arith, n.1)) ]

-- one position more
pub PlacedSoFar-more : (start now later : Draft) (ps : List P3) (k : ℕ) → PlacedSoFar start now ps k → k < length ps → place_refusal now.world (position_at ps k) ≡ None
    → later ≡ with_positions now (now.world.positions ++ position_at ps k ∷ []) → IsSound later.count later.world → PlacedSoFar start later ps (k + 1)
PlacedSoFar-more start now later ps k s l none e sound =
    let passes : Passes (with_positions start (take k ps)).world (position_at ps k) = subst (λ (d : Draft). Passes d.world (position_at ps k)) s.draft (Passes-placed now.world (position_at ps k) none) in
    let more : take k ps ++ position_at ps k ∷ [] ≡ take (k + 1) ps = sym (take_more ps k (record { x = pos 0; y = pos 0; z = pos 0 }) l) in
    record {
      draft = e ∙ (ap (λ (d : Draft). with_positions d (d.world.positions ++ position_at ps k ∷ [])) s.draft ∙ ap (λ qs. with_positions start qs) more);
      sound = sound;
      inside = below_less (λ j. passes_at (λ before p. is_within_walls start.world.shape p) ps j ≡ true) (length start.world.positions) k s.inside passes.inside;
      apart = below_less (λ j. passes_at (is_apart start.world) ps j ≡ true) (length start.world.positions) k s.apart passes.apart;
      bonded = below_less (λ j. passes_at (is_bonded_well start.world) ps j ≡ true) (length start.world.positions) k s.bonded passes.bonded;
    }

-- a position that is refused gives the line a cause
pub PlacedSoFar-refused : (start now : Draft) (ps : List P3) (k : ℕ) → PlacedSoFar start now ps k → length start.world.positions ≤ k → k < length ps → is_some (place_refusal now.world (position_at ps k)) ≡ true
    → start.world.positions ≡ take (length start.world.positions) ps → is_some (placing_cause start.world (drop (length start.world.positions) ps)) ≡ true
PlacedSoFar-refused start now ps k s l m some front =
    let n = length start.world.positions in
    let fails : Fails (with_positions start (take k ps)).world (position_at ps k) = subst (λ (d : Draft). Fails d.world (position_at ps k)) s.draft (Fails-refused now.world (position_at ps k) some) in
    let whole : (test : List P3 → P3 → Bool) → passes_at test ps k ≡ false → some_fails test start.world.positions (drop n ps) ≡ true =
    λ test h. subst (λ before. some_fails test before (drop n ps) ≡ true) (sym front) (some_fails-at test ps n k l m h) in
    placing_cause-some start.world (drop n ps) (elim fails [
      | outside h ↦ inl (whole (λ before p. is_within_walls start.world.shape p) h)
      | overlapping h ↦ inr (inl (whole (is_apart start.world) h))
      | badly_bonded h ↦ inr (inr (whole (is_bonded_well start.world) h))
    ])

-- all positions are placed, and the line has no such cause
pub PlacedSoFar-all : (start now : Draft) (ps : List P3) (k : ℕ) → PlacedSoFar start now ps k → length ps ≤ k → start.world.positions ≡ take (length start.world.positions) ps
    → (now ≡ with_positions start ps) × (placing_cause start.world (drop (length start.world.positions) ps) ≡ None)
PlacedSoFar-all start now ps k s l front =
    let n = length start.world.positions in
    let none : (test : List P3 → P3 → Bool) → ((j : ℕ) → n ≤ j → j < k → passes_at test ps j ≡ true) → some_fails test start.world.positions (drop n ps) ≡ false =
    λ test h. subst (λ before. some_fails test before (drop n ps) ≡ false) (sym front) (some_fails-none test ps n (λ j a b. h j a (omega arith))) in (
      s.draft ∙ ap (λ qs. with_positions start qs) (take_all k ps l),
      placing_cause-none start.world (drop n ps) (none (λ before p. is_within_walls start.world.shape p) s.inside) (none (is_apart start.world) s.apart) (none (is_bonded_well start.world) s.bonded),
    )

-- two monomers that have positions may be joined where a bond may run from one to the other
may_join-placed : (w : Configuration) (i j : ℕ) → i < length w.positions → j < length w.positions → may_bond w.shape w.set (position_at w.positions i) (position_at w.positions j) ≡ true
    → may_join w (slice_get w.positions i) (slice_get w.positions j) ≡ true
may_join-placed w i j l m h =
    let zero_place : P3 = record { x = pos 0; y = pos 0; z = pos 0 } in
    ap (λ o. may_join w o (slice_get w.positions j)) (slice_get-get_or w.positions i zero_place l)
    ∙ (ap (may_reach w.shape w.set (position_at w.positions i)) (slice_get-get_or w.positions j zero_place m) ∙ h)

chain-next : (k n : ℕ) → 0 < n → chain k n ≡ (k, k + 1) ∷ chain (k + 1) (n - 1)
chain-next k zero l = absurd (omega arith)
chain-next k (suc n) l = ap (λ m. (k, k + 1) ∷ chain (k + 1) m) (omega arith)

module _ (start now : Draft) (first count k : ℕ) (s : JoinedSoFar start now first count k) (less : k < first + count) (placed : first + count < length start.world.positions)
    (step : may_bond start.world.shape start.world.set (position_at start.world.positions k) (position_at start.world.positions (k + 1)) ≡ true) where
  rest_of_chain : with_pairs (with_pair now.world.bonds (k, k + 1)) (chain (k + 1) (first + count - (k + 1))) ≡ with_pairs start.world.bonds (chain first count)
  rest_of_chain =
      let left : first + count - k - 1 ≡ first + count - (k + 1) = omega arith in
      ap (λ m. with_pairs (with_pair now.world.bonds (k, k + 1)) (chain (k + 1) m)) (sym left) ∙ (ap (with_pairs now.world.bonds) (sym (chain-next k (first + count - k) (omega arith))) ∙ s.rest)

  pair_answer : Joined now (k, k + 1) (join_answer now k (k + 1))
  pair_answer =
      let same : length now.world.positions ≡ length start.world.positions = ap (λ (d : Draft). length d.world.positions) s.draft in
      let may : may_bond now.world.shape now.world.set (position_at now.world.positions k) (position_at now.world.positions (k + 1)) ≡ true =
      subst (λ (d : Draft). may_bond d.world.shape d.world.set (position_at d.world.positions k) (position_at d.world.positions (k + 1)) ≡ true) (sym s.draft) step in
      joined now (k, k + 1) (λ q. absurd (omega arith)) s.sound.bonds.rows (omega (arith, s.sound.room)) (omega (arith, s.sound.room)) (not_overfull now.world.bonds s.sound.bonds.few)
      (may_join-placed now.world k (k + 1) (omega arith) (omega arith) may)

  -- one pair more
  pub JoinedSoFar-more : (later : Draft) (b : Bool) → join_answer now k (k + 1) ≡ Ok b → (join_answer now k (k + 1) ≡ Ok true → later ≡ with_bonds now (with_bond now.world.bonds k (k + 1)))
      → (join_answer now k (k + 1) ≢ Ok true → later ≡ now) → IsSound later.count later.world → JoinedSoFar start later first count (k + 1)
  JoinedSoFar-more later b h new same sound =
      let e = later_is b h (subst (Joined now (k, k + 1)) h pair_answer) in
      record {
        draft = e ∙ (ap (λ (d : Draft). with_bonds d (with_pair now.world.bonds (k, k + 1))) s.draft ∙ ap (λ (d : Draft). with_bonds start d.world.bonds) (sym e));
        rest = ap (λ (d : Draft). with_pairs d.world.bonds (chain (k + 1) (first + count - (k + 1)))) e ∙ rest_of_chain;
        sound = sound;
      }
    where
      later_is : (b : Bool) → join_answer now k (k + 1) ≡ Ok b → Joined now (k, k + 1) (Ok b) → later ≡ with_bonds now (with_pair now.world.bonds (k, k + 1))
      later_is true h d = new h ∙ ap (λ (bonds : List (List ℕ)). with_bonds now bonds) (sym d.0)
      later_is false h d = same (λ q. absurd (let r = sym h ∙ q in cc)) ∙ ap (λ (bonds : List (List ℕ)). with_bonds now bonds) (sym d.0)

  -- a pair that is refused leaves a monomer with too many bonds
  pub JoinedSoFar-refused : (cause : Cause) → join_answer now k (k + 1) ≡ Err cause → (cause ≡ TooManyBonds) × (is_overfull (with_pairs start.world.bonds (chain first count)) ≡ true)
  JoinedSoFar-refused cause h =
      let refused = subst (Joined now (k, k + 1)) h pair_answer in
      (refused.0, ap is_overfull (sym rest_of_chain) ∙ with_pairs-overfull (with_pair now.world.bonds (k, k + 1)) (chain (k + 1) (first + count - (k + 1))) refused.1)

-- all pairs are joined
pub JoinedSoFar-all : (start now : Draft) (first count k : ℕ) → JoinedSoFar start now first count k → first + count ≤ k
    → (now ≡ with_bonds start (with_pairs start.world.bonds (chain first count))) × (is_overfull (with_pairs start.world.bonds (chain first count)) ≡ false)
JoinedSoFar-all start now first count k s l =
    let none : first + count - k ≡ 0 = omega arith in
    let whole : now.world.bonds ≡ with_pairs start.world.bonds (chain first count) = ap (λ n. with_pairs now.world.bonds (chain k n)) (sym none) ∙ s.rest in
    (s.draft ∙ ap (λ bonds. with_bonds start bonds) whole, ap is_overfull (sym whole) ∙ not_overfull now.world.bonds s.sound.bonds.few)
