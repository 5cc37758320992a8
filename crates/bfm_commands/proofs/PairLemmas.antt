-- Bonds after pairs of monomers are joined one by one: their rows, and when a monomer has too many.
use Rattle.std.proofs.Common.{◌≡◌, ◌≢◌, ℕ, zero, suc, ◌+◌, ◌<◌, ◌≤◌, Bool, true, false, not, cond, ◌&&◌, ◌||◌, inl, inr, ◌⊎◌, List, [], ◌∷◌, ◌++◌, length, take, drop, get_or, replicate, Result, Ok, Err, nat_lt, nat_le, All, refl, ap, sym, ◌∙◌, subst, arith, add-one}
use Rattle.std.specs.List.{list_any}
use Rattle.std.specs.Prelude.{slice_get}
use Rattle.std.proofs.Math.ListN.{set}
use Rattle.std.proofs.Math.Seq.{take-suc}
use Rattle.std.proofs.lemmas.List.{get_or-set_same, get_or-set_other, length-set, take-append-drop}
use Rattle.std.proofs.lemmas.List.Folds.{list_any_at}
use Rattle.std.proofs.lemmas.List.Elements.{All-head, All-tail}
use Rattle.std.proofs.lemmas.Bool.Decides.{nat_tests, eqb_tells}
use Rattle.bfm_base.specs.declared.cause.Cause.{Cause}
use Rattle.bfm_base.specs.declared.cause.Cause.TheVariants.{BadBond, TooManyBonds}
use Rattle.bfm_world.specs.Bonds.{neighbours_of, are_bonded, is_full, put, with_bond}
use Rattle.bfm_base.specs.declared.limits.TheConstants.{MOST_BONDS}
use Rattle.bfm_world.specs.Draft.{Draft, with_bonds, join_answer, may_join, is_pair}
use Rattle.bfm_world.proofs.BondLemmas.{length-put}
use Rattle.bfm_commands.specs.History.{with_pair, with_pairs}
use Rattle.bfm_commands.specs.Causes.{is_overfull, is_beyond}

-- ---- pairs one by one
pub with_pairs-append : (bonds : List (List ℕ)) (ps qs : List (ℕ × ℕ)) → with_pairs bonds (ps ++ qs) ≡ with_pairs (with_pairs bonds ps) qs
with_pairs-append bonds [] qs = refl
with_pairs-append bonds (p ∷ ps) qs = with_pairs-append (with_pair bonds p) ps qs

-- one more pair, as at a step of a loop
pub with_pairs-take : (bonds : List (List ℕ)) (pairs : List (ℕ × ℕ)) (k : ℕ) (d : ℕ × ℕ) → k < length pairs
    → with_pairs bonds (take (k + 1) pairs) ≡ with_pair (with_pairs bonds (take k pairs)) (get_or pairs k d)
with_pairs-take bonds pairs k d l =
    rw (add-one k) (ap (with_pairs bonds) (take-suc pairs k d l) ∙ with_pairs-append bonds (take k pairs) (get_or pairs k d ∷ []))

-- ---- rows
pub length-with_bond : (bonds : List (List ℕ)) (i j : ℕ) → length (with_bond bonds i j) ≡ length bonds
length-with_bond bonds i j =
    length-set (set bonds i (put j (neighbours_of bonds i))) j (put i (neighbours_of bonds j)) ∙ length-set bonds i (put j (neighbours_of bonds i))

length_either : (b : Bool) (xs ys : List (List ℕ)) (n : ℕ) → length xs ≡ n → length ys ≡ n → length (cond b xs ys) ≡ n
length_either true xs ys n p q = p
length_either false xs ys n p q = q

pub length-with_pair : (bonds : List (List ℕ)) (pair : ℕ × ℕ) → length (with_pair bonds pair) ≡ length bonds
length-with_pair bonds pair =
    length_either (are_bonded bonds pair.0 pair.1) bonds (with_bond bonds pair.0 pair.1) (length bonds) refl (length-with_bond bonds pair.0 pair.1)

pub length-with_pairs : (bonds : List (List ℕ)) (pairs : List (ℕ × ℕ)) → length (with_pairs bonds pairs) ≡ length bonds
length-with_pairs bonds [] = refl
length-with_pairs bonds (p ∷ ps) = length-with_pairs (with_pair bonds p) ps ∙ length-with_pair bonds p

-- ---- a row that is too long stays so
or_left : (a b : Bool) → a ≡ true → (a || b) ≡ true
or_left true b h = refl
or_left false b h = absurd (cc)

or_right : (a b : Bool) → b ≡ true → (a || b) ≡ true
or_right true b h = refl
or_right false b h = h

or_cases : (a b : Bool) → (a || b) ≡ true → (a ≡ true) ⊎ (b ≡ true)
or_cases true b h = inl refl
or_cases false b h = inr h

or_neither : (a b : Bool) → a ≡ false → b ≡ false → (a || b) ≡ false
or_neither true b h g = absurd (cc)
or_neither false b h g = g

neither_left : (a b : Bool) → (a || b) ≡ false → a ≡ false
neither_left true b h = absurd (cc)
neither_left false b h = refl

neither_right : (a b : Bool) → (a || b) ≡ false → b ≡ false
neither_right true b h = absurd (cc)
neither_right false b h = h

too_long : (row more : List ℕ) → length row ≤ length more → nat_lt MOST_BONDS (length row) ≡ true → nat_lt MOST_BONDS (length more) ≡ true
too_long row more l h = grind (arith, nat_tests)

overfull-set : (bonds : List (List ℕ)) (i : ℕ) (row : List ℕ) → length (get_or bonds i []) ≤ length row → is_overfull bonds ≡ true → is_overfull (set bonds i row) ≡ true
overfull-set [] i row l h = h
overfull-set (r ∷ rs) zero row l h =
    elim (or_cases (nat_lt MOST_BONDS (length r)) (is_overfull rs) h) [
      | inl first ↦ or_left _ (is_overfull rs) (too_long r row l first)
      | inr later ↦ or_right (nat_lt MOST_BONDS (length row)) _ later
    ]
overfull-set (r ∷ rs) (suc i) row l h =
    elim (or_cases (nat_lt MOST_BONDS (length r)) (is_overfull rs) h) [
      | inl first ↦ or_left _ (is_overfull (set rs i row)) first
      | inr later ↦ or_right (nat_lt MOST_BONDS (length r)) _ (overfull-set rs i row l later)
    ]

-- the row that was written, or none where there is no such row
written : (bonds : List (List ℕ)) (i : ℕ) (row : List ℕ) → length (get_or (set bonds i row) i []) ≤ length row
written [] i row = omega arith
written (r ∷ rs) zero row = omega arith
written (r ∷ rs) (suc i) row = written rs i row

pub with_bond-overfull : (bonds : List (List ℕ)) (i j : ℕ) → is_overfull bonds ≡ true → is_overfull (with_bond bonds i j) ≡ true
with_bond-overfull bonds i j h =
    let first = put j (neighbours_of bonds i) in
    let second = put i (neighbours_of bonds j) in
    overfull-set (set bonds i first) j second grows (overfull-set bonds i first (omega (arith, length-put j (neighbours_of bonds i))) h)
  where
    grows : length (get_or (set bonds i (put j (neighbours_of bonds i))) j []) ≤ length (put i (neighbours_of bonds j))
    grows =
        elim (eqb_tells j i) [
          | inl e ↦ rw e.1 (omega (arith, written bonds i (put i (neighbours_of bonds i))))
          | inr n ↦ rw (get_or-set_other bonds i j (put j (neighbours_of bonds i)) [] n.1) (omega (arith, length-put i (neighbours_of bonds j)))
        ]

overfull_either : (b : Bool) (xs ys : List (List ℕ)) → is_overfull xs ≡ true → is_overfull ys ≡ true → is_overfull (cond b xs ys) ≡ true
overfull_either true xs ys p q = p
overfull_either false xs ys p q = q

pub with_pair-overfull : (bonds : List (List ℕ)) (pair : ℕ × ℕ) → is_overfull bonds ≡ true → is_overfull (with_pair bonds pair) ≡ true
with_pair-overfull bonds pair h =
    overfull_either (are_bonded bonds pair.0 pair.1) bonds (with_bond bonds pair.0 pair.1) h (with_bond-overfull bonds pair.0 pair.1 h)

pub with_pairs-overfull : (bonds : List (List ℕ)) (pairs : List (ℕ × ℕ)) → is_overfull bonds ≡ true → is_overfull (with_pairs bonds pairs) ≡ true
with_pairs-overfull bonds [] h = h
with_pairs-overfull bonds (p ∷ ps) h = with_pairs-overfull (with_pair bonds p) ps (with_pair-overfull bonds p h)

-- a step that makes a row too long makes the whole so
pub with_pairs-overfull_at : (bonds : List (List ℕ)) (pairs : List (ℕ × ℕ)) (k : ℕ) → is_overfull (with_pairs bonds (take k pairs)) ≡ true → is_overfull (with_pairs bonds pairs) ≡ true
with_pairs-overfull_at bonds pairs k h =
    let whole : with_pairs bonds pairs ≡ with_pairs (with_pairs bonds (take k pairs)) (drop k pairs) =
    ap (with_pairs bonds) (sym (take-append-drop k pairs)) ∙ with_pairs-append bonds (take k pairs) (drop k pairs) in
    rw whole (with_pairs-overfull (with_pairs bonds (take k pairs)) (drop k pairs) h)

-- ---- a bond more
not_too_long : (row : List ℕ) (j : ℕ) → nat_le MOST_BONDS (length row) ≡ false → nat_lt MOST_BONDS (length (put j row)) ≡ false
not_too_long row j h = let more = length-put j row in grind (arith, nat_tests)

now_too_long : (row : List ℕ) (j : ℕ) → nat_le MOST_BONDS (length row) ≡ true → nat_lt MOST_BONDS (length (put j row)) ≡ true
now_too_long row j h = let more = length-put j row in grind (arith, nat_tests)

room-set : (bonds : List (List ℕ)) (i : ℕ) (row : List ℕ) → is_overfull bonds ≡ false → nat_lt MOST_BONDS (length row) ≡ false → is_overfull (set bonds i row) ≡ false
room-set [] i row h l = h
room-set (r ∷ rs) zero row h l = or_neither (nat_lt MOST_BONDS (length row)) (is_overfull rs) l (neither_right (nat_lt MOST_BONDS (length r)) (is_overfull rs) h)
room-set (r ∷ rs) (suc i) row h l =
    or_neither (nat_lt MOST_BONDS (length r)) (is_overfull (set rs i row)) (neither_left (nat_lt MOST_BONDS (length r)) (is_overfull rs) h)
    (room-set rs i row (neither_right (nat_lt MOST_BONDS (length r)) (is_overfull rs) h) l)

-- two that have room for a bond more
pub with_bond-room : (bonds : List (List ℕ)) (i j : ℕ) → is_overfull bonds ≡ false → is_full bonds i ≡ false → is_full bonds j ≡ false → is_overfull (with_bond bonds i j) ≡ false
with_bond-room bonds i j h first second =
    room-set (set bonds i (put j (neighbours_of bonds i))) j (put i (neighbours_of bonds j))
    (room-set bonds i (put j (neighbours_of bonds i)) h (not_too_long (neighbours_of bonds i) j first)) (not_too_long (neighbours_of bonds j) i second)

-- two of which one has none
pub with_bond-full : (bonds : List (List ℕ)) (i j : ℕ) → i ≢ j → i < length bonds → j < length bonds → (is_full bonds i || is_full bonds j) ≡ true → is_overfull (with_bond bonds i j) ≡ true
with_bond-full bonds i j ne l m h =
    let inner = set bonds i (put j (neighbours_of bonds i)) in
    let size : length inner ≡ length bonds = length-set bonds i (put j (neighbours_of bonds i)) in
    elim (or_cases (is_full bonds i) (is_full bonds j) h) [
      | inl full ↦
          let row : get_or (with_bond bonds i j) i [] ≡ put j (neighbours_of bonds i) =
          get_or-set_other inner j i (put i (neighbours_of bonds j)) [] ne ∙ get_or-set_same bonds i (put j (neighbours_of bonds i)) [] l in
          list_any_at (λ row. nat_lt MOST_BONDS (length row)) (with_bond bonds i j) i [] (omega (arith, length-with_bond bonds i j))
          (ap (λ (r : List ℕ). nat_lt MOST_BONDS (length r)) row ∙ now_too_long (neighbours_of bonds i) j full)
      | inr full ↦
          let row : get_or (with_bond bonds i j) j [] ≡ put i (neighbours_of bonds j) =
          get_or-set_same inner j (put i (neighbours_of bonds j)) [] (omega (arith, size)) in
          list_any_at (λ row. nat_lt MOST_BONDS (length row)) (with_bond bonds i j) j [] (omega (arith, length-with_bond bonds i j))
          (ap (λ (r : List ℕ). nat_lt MOST_BONDS (length r)) row ∙ now_too_long (neighbours_of bonds j) i full)
    ]

-- no monomer has a bond at first
pub replicate-room : (n : ℕ) → is_overfull (replicate n []) ≡ false
replicate-room zero = refl
replicate-room (suc n) = replicate-room n

-- no monomer has more than it may have
pub not_overfull : (bonds : List (List ℕ)) → All (λ row. length row ≤ MOST_BONDS) bonds → is_overfull bonds ≡ false
not_overfull [] h = refl
not_overfull (row ∷ rows) h =
    ap (λ b. b || is_overfull rows) (short-row row (All-head (λ r. length r ≤ MOST_BONDS) row rows h)) ∙ not_overfull rows (All-tail (λ r. length r ≤ MOST_BONDS) row rows h)
  where
    short-row : (row : List ℕ) → length row ≤ MOST_BONDS → nat_lt MOST_BONDS (length row) ≡ false
    short-row row h = grind (arith, nat_tests)

-- ---- the answer to a join
-- what a pair makes of the bonds, by the answer
abbrev pub Joined : Draft → ℕ × ℕ → Result Bool Cause → Type 0
Joined draft pair (Ok true) = (with_pair draft.world.bonds pair ≡ with_bond draft.world.bonds pair.0 pair.1) × (is_overfull (with_pair draft.world.bonds pair) ≡ false)
Joined draft pair (Ok false) = (with_pair draft.world.bonds pair ≡ draft.world.bonds) × (is_overfull (with_pair draft.world.bonds pair) ≡ false)
Joined draft pair (Err cause) = (cause ≡ TooManyBonds) × (is_overfull (with_pair draft.world.bonds pair) ≡ true)

module _ (draft : Draft) (pair : ℕ × ℕ) (ne : pair.0 ≢ pair.1) (rows : length draft.world.bonds ≡ draft.count) (l : pair.0 < draft.count) (m : pair.1 < draft.count) (room : is_overfull draft.world.bonds ≡ false) where
  joined_new : are_bonded draft.world.bonds pair.0 pair.1 ≡ false → (full first second : Bool) → is_full draft.world.bonds pair.0 ≡ first → is_full draft.world.bonds pair.1 ≡ second → (first || second) ≡ full
      → Joined draft pair (cond full (Err TooManyBonds) (Ok true))
  joined_new new true first second e f g =
      let is : with_pair draft.world.bonds pair ≡ with_bond draft.world.bonds pair.0 pair.1 = ap (λ b. cond b draft.world.bonds (with_bond draft.world.bonds pair.0 pair.1)) new in
      (refl, ap is_overfull is ∙ with_bond-full draft.world.bonds pair.0 pair.1 ne (omega (arith, rows)) (omega (arith, rows)) (rw (e, f) g))
  joined_new new false first second e f g =
      let is : with_pair draft.world.bonds pair ≡ with_bond draft.world.bonds pair.0 pair.1 = ap (λ b. cond b draft.world.bonds (with_bond draft.world.bonds pair.0 pair.1)) new in
      (is, ap is_overfull is ∙ with_bond-room draft.world.bonds pair.0 pair.1 room (e ∙ neither_left first second g) (f ∙ neither_right first second g))

  joined_may : may_join draft.world (slice_get draft.world.positions pair.0) (slice_get draft.world.positions pair.1) ≡ true → (t : Bool) → are_bonded draft.world.bonds pair.0 pair.1 ≡ t
      → Joined draft pair (cond t (Ok false) (cond (not (may_join draft.world (slice_get draft.world.positions pair.0) (slice_get draft.world.positions pair.1))) (Err BadBond) (cond (is_full draft.world.bonds pair.0 || is_full draft.world.bonds pair.1) (Err TooManyBonds) (Ok true))))
  joined_may may true e =
      let is : with_pair draft.world.bonds pair ≡ draft.world.bonds = ap (λ b. cond b draft.world.bonds (with_bond draft.world.bonds pair.0 pair.1)) e in
      (is, ap is_overfull is ∙ room)
  joined_may may false e =
      rw may (joined_new e (is_full draft.world.bonds pair.0 || is_full draft.world.bonds pair.1) (is_full draft.world.bonds pair.0) (is_full draft.world.bonds pair.1) refl refl refl)

  -- two monomers whose bond may run as they stand
  pub joined : may_join draft.world (slice_get draft.world.positions pair.0) (slice_get draft.world.positions pair.1) ≡ true → Joined draft pair (join_answer draft pair.0 pair.1)
  joined may =
      let two : is_pair draft.count pair.0 pair.1 ≡ true = both_there in
      rw two (joined_may may (are_bonded draft.world.bonds pair.0 pair.1) refl)
    where
      both_there : is_pair draft.count pair.0 pair.1 ≡ true
      both_there = grind (arith, nat_tests)

-- none of them is placed
pub may_join-unplaced : (draft : Draft) (i j : ℕ) → draft.world.positions ≡ [] → may_join draft.world (slice_get draft.world.positions i) (slice_get draft.world.positions j) ≡ true
may_join-unplaced draft i j e = rw e refl

-- ---- all pairs of a list, one by one
pub none_at : {X : Type 0} (p : X → Bool) (xs : List X) (k : ℕ) (d : X) → k < length xs → list_any p xs ≡ false → p (get_or xs k d) ≡ false
none_at p [] k d l h = absurd (omega arith)
none_at p (x ∷ xs) zero d l h = neither_left (p x) (list_any p xs) h
none_at p (x ∷ xs) (suc k) d l h = none_at p xs k d (omega arith) (neither_right (p x) (list_any p xs) h)

pub present : (count : ℕ) (pair : ℕ × ℕ) → is_beyond count pair ≡ false → (pair.0 < count) × (pair.1 < count)
present count pair h = (first (nat_lt pair.0 count) (nat_lt pair.1 count) refl h, second (nat_lt pair.0 count) (nat_lt pair.1 count) refl h)
  where
    first : (a b : Bool) → nat_lt pair.0 count ≡ a → not (a && b) ≡ false → pair.0 < count
    first true b e g = grind (arith, nat_tests)
    first false b e g = absurd (cc)

    second : (a b : Bool) → nat_lt pair.1 count ≡ b → not (a && b) ≡ false → pair.1 < count
    second true true e g = grind (arith, nat_tests)
    second true false e g = absurd (cc)
    second false b e g = absurd (cc)

module _ (initial old : Draft) (pairs : List (ℕ × ℕ)) (k : ℕ) (l : k < length pairs)
    (is : old ≡ with_bonds initial (with_pairs initial.world.bonds (take k pairs))) (room : is_overfull (with_pairs initial.world.bonds (take k pairs)) ≡ false)
    (there : list_any (is_beyond initial.count) pairs ≡ false) (differ : All (λ (pair : ℕ × ℕ). pair.0 ≢ pair.1) pairs)
    (unplaced : initial.world.positions ≡ []) (rows : length initial.world.bonds ≡ initial.count) where
  abbrev now : ℕ × ℕ
  now = get_or pairs k (0, 0)

  bonds_is : old.world.bonds ≡ with_pairs initial.world.bonds (take k pairs)
  bonds_is = ap (λ (d : Draft). d.world.bonds) is

  joined_at : Joined old now (join_answer old now.0 now.1)
  joined_at =
      let count : old.count ≡ initial.count = ap (λ (d : Draft). d.count) is in
      let both = present initial.count now (none_at (is_beyond initial.count) pairs k (0, 0) l there) in
      joined old now (differ k (0, 0) l) (ap (λ (b : List (List ℕ)). length b) bonds_is ∙ (length-with_pairs initial.world.bonds (take k pairs) ∙ (rows ∙ sym count)))
      (omega (arith, both.0, count)) (omega (arith, both.1, count)) (ap is_overfull bonds_is ∙ room)
      (may_join-unplaced old now.0 now.1 (ap (λ (d : Draft). d.world.positions) is ∙ unplaced))

  more : with_pair old.world.bonds now ≡ with_pairs initial.world.bonds (take (k + 1) pairs)
  more = ap (λ b. with_pair b now) bonds_is ∙ sym (with_pairs-take initial.world.bonds pairs k (0, 0) l)

  -- a join that is refused
  pub join_refused : (cause : Cause) → join_answer old now.0 now.1 ≡ Err cause → (cause ≡ TooManyBonds) × (is_overfull (with_pairs initial.world.bonds pairs) ≡ true)
  join_refused cause e =
      let refused = subst (Joined old now) e joined_at in
      (refused.0, with_pairs-overfull_at initial.world.bonds pairs (k + 1) (sym (ap is_overfull more) ∙ refused.1))

  -- a join that is not
  pub join_done : (new : Draft) (b : Bool) → join_answer old now.0 now.1 ≡ Ok b → (b ≡ true → new ≡ with_bonds old (with_bond old.world.bonds now.0 now.1)) → (b ≡ false → new ≡ old)
      → (new ≡ with_bonds initial (with_pairs initial.world.bonds (take (k + 1) pairs))) × (is_overfull (with_pairs initial.world.bonds (take (k + 1) pairs)) ≡ false)
  join_done new true e joins same =
      let done = subst (Joined old now) e joined_at in (
        joins refl ∙ (ap (λ (b : List (List ℕ)). with_bonds old b) (sym done.0 ∙ more) ∙ ap (λ (d : Draft). with_bonds d (with_pairs initial.world.bonds (take (k + 1) pairs))) is),
        sym (ap is_overfull more) ∙ done.1,
      )
  join_done new false e joins same =
      let done = subst (Joined old now) e joined_at in (
        same refl ∙ (is ∙ ap (λ (b : List (List ℕ)). with_bonds initial b) (sym bonds_is ∙ (sym done.0 ∙ more))),
        sym (ap is_overfull more) ∙ done.1,
      )
