-- The bonds of chains: who is bonded to whom, and how they come one by one.
use Rattle.std.proofs.Common.{◌≡◌, ℕ, zero, suc, ◌+◌, ◌*◌, ◌/◌, ◌<◌, ◌≤◌, Bool, true, false, cond, not, ◌||◌, nat_le, inl, inr, ◌⊎◌, ◌≢◌, ◌↔◌, [], ◌∷◌, ◌++◌, length, replicate, refl, ap, sym, ◌∙◌, subst, arith, add-one, append-nil, pos, Ok, Err}
use Rattle.std.specs.Prelude.{slice_get}
use Rattle.std.proofs.lemmas.Bool.{le-ltb, lt-leb}
use Rattle.std.proofs.lemmas.Bool.Decides.{nat_tests, eqb_tells}
use Rattle.std.proofs.lemmas.List.{length-set, length-replicate}
use Rattle.std.proofs.lemmas.List.FromFn.{get_or-map-range_with_len, fill_by_all}
use Rattle.std.proofs.lemmas.Nat.{div_below, div-mul-add}
use Rattle.std.proofs.lemmas.Option.{slice_get-get_or}
use Rattle.bfm_base.specs.declared.cause.Cause.TheVariants.{BadMonomer, BadBond, TooManyBonds}
use Rattle.bfm_base.specs.declared.limits.TheConstants.{MOST_BONDS}
use Rattle.bfm_world.specs.Bonds.{neighbours_of, are_bonded, is_full, put, with_bond}
use Rattle.bfm_world.specs.Configuration.{may_bond, may_reach, position_of}
use Rattle.bfm_world.specs.Draft.{Draft, with_bonds, is_pair, may_join, join_answer}
use Rattle.bfm_world.proofs.BondLemmas.{has, test-eq, row_first, row_second, row_other}
use Rattle.bfm_world.specs.Chains.{goes_on, before_in_chain, chain_neighbours, chain_bonds, AreSuccessive}

-- ---- who is bonded to whom
has_one : (p q j : ℕ) (b c : Bool) → has j (cond b (p ∷ []) [] ++ cond c (q ∷ []) []) ≡ true → ((b ≡ true) × (p ≡ j)) ⊎ ((c ≡ true) × (q ≡ j))
has_one p q j true true h = grind (arith, nat_tests)
has_one p q j true false h = grind (arith, nat_tests)
has_one p q j false true h = grind (arith, nat_tests)
has_one p q j false false h = absurd (cc)

one_has : (p q j : ℕ) (b c : Bool) → ((b ≡ true) × (p ≡ j)) ⊎ ((c ≡ true) × (q ≡ j)) → has j (cond b (p ∷ []) [] ++ cond c (q ∷ []) []) ≡ true
one_has p q j true true h = grind (arith, nat_tests)
one_has p q j true false h = grind (arith, nat_tests)
one_has p q j false true h = grind (arith, nat_tests)
one_has p q j false false h = grind (arith, nat_tests)

same_chain : (size k : ℕ) → goes_on size k ≡ true → k / size ≡ (k + 1) / size
same_chain size k h = test-eq (k / size) ((k + 1) / size) h

pub chain_same : (size k : ℕ) → k / size ≡ (k + 1) / size → goes_on size k ≡ true
chain_same size k h = grind (arith, nat_tests)

pub chain_ends : (size k : ℕ) → k / size ≢ (k + 1) / size → goes_on size k ≡ false
chain_ends size k h = grind (arith, nat_tests)

after_is : (size i j : ℕ) → goes_on size i ≡ true → i + 1 ≡ j → AreSuccessive size i j
after_is size i j h e = record { chain = same_chain size i h ∙ ap (λ n. n / size) e; beside = inl (sym e) }

before_is : (size i j : ℕ) → goes_on size j ≡ true → i ≡ j + 1 → AreSuccessive size i j
before_is size i j h e = record { chain = ap (λ n. n / size) e ∙ sym (same_chain size j h); beside = inr e }

from_neighbours : (size i j : ℕ) → has j (chain_neighbours size i) ≡ true → AreSuccessive size i j
from_neighbours size zero j h =
    elim (has_one 0 1 j false (goes_on size 0) h) [ inl p ↦ absurd (let q = p.0 in cc) | inr p ↦ after_is size 0 j p.0 p.1 ]
from_neighbours size (suc k) j h =
    elim (has_one k (suc k + 1) j (goes_on size k) (goes_on size (suc k)) h) [
      | inl p ↦ before_is size (suc k) j (subst (λ n. goes_on size n ≡ true) p.1 p.0) (omega (arith, p.1))
      | inr p ↦ after_is size (suc k) j p.0 p.1
    ]

neighbour_before : (size i j : ℕ) → i / size ≡ j / size → i ≡ j + 1 → has j (chain_neighbours size i) ≡ true
neighbour_before size zero j h e = absurd (omega arith)
neighbour_before size (suc k) j h e =
    let same : k ≡ j = omega arith in
    one_has k (suc k + 1) j (goes_on size k) (goes_on size (suc k)) (inl (chain_same size k (ap (λ n. n / size) same ∙ (sym h ∙ ap (λ n. n / size) (sym (add-one k)))), same))

neighbour_after : (size i j : ℕ) → i / size ≡ j / size → j ≡ i + 1 → has j (chain_neighbours size i) ≡ true
neighbour_after size zero j h e = one_has 0 1 j false (goes_on size 0) (inr (chain_same size 0 (h ∙ ap (λ n. n / size) e), sym e))
neighbour_after size (suc k) j h e =
    one_has k (suc k + 1) j (goes_on size k) (goes_on size (suc k)) (inr (chain_same size (suc k) (h ∙ ap (λ n. n / size) e), sym e))

to_neighbours : (size i j : ℕ) → AreSuccessive size i j → has j (chain_neighbours size i) ≡ true
to_neighbours size i j s = elim s.beside [ inl e ↦ neighbour_after size i j s.chain e | inr e ↦ neighbour_before size i j s.chain e ]

-- two monomers are bonded exactly where they follow each other in a chain
pub are_bonded-chain_bonds : (size n i j : ℕ) → i < n → (are_bonded (chain_bonds size n) i j ≡ true) ↔ AreSuccessive size i j
are_bonded-chain_bonds size n i j l =
    let row : neighbours_of (chain_bonds size n) i ≡ chain_neighbours size i = get_or-map-range_with_len (chain_neighbours size) 0 n i i [] l (omega arith) in
    (λ h. from_neighbours size i j (sym (ap (has j) row) ∙ h), λ s. ap (has j) row ∙ to_neighbours size i j s)

-- the last of so many monomers ends its chain
pub goes_on-last : (chains size k : ℕ) → 0 < size → k + 1 ≡ chains * size → goes_on size k ≡ false
goes_on-last chains size k some e =
    let next : (k + 1) / size ≡ chains = ap (λ n. n / size) (omega arith) ∙ div-mul-add chains size 0 some in
    let here : k / size < chains = div_below k size chains some (omega arith) in
    grind (arith, nat_tests)

-- ---- bonds that come one by one
before-next : (size p m : ℕ) → p + 1 ≡ m → before_in_chain size m ≡ cond (goes_on size p) (p ∷ []) []
before-next size p m e = ap (before_in_chain size) (sym e ∙ add-one p)

length-before : (size k : ℕ) → length (before_in_chain size k) ≤ 1
length-before size zero = omega arith
length-before size (suc k) = by_test (goes_on size k)
  where
    by_test : (t : Bool) → length (cond t (k ∷ []) []) ≤ 1
    by_test true = omega arith
    by_test false = omega arith

has-before : (size p m : ℕ) → p + 1 ≡ m → has m (before_in_chain size p) ≡ false
has-before size zero m e = refl
has-before size (suc k) m e = by_test (goes_on size k)
  where
    by_test : (t : Bool) → has m (cond t (k ∷ []) []) ≡ false
    by_test true = grind (arith, nat_tests)
    by_test false = refl

put-before : (size p m : ℕ) → p + 1 ≡ m → put m (before_in_chain size p) ≡ before_in_chain size p ++ m ∷ []
put-before size zero m e = refl
put-before size (suc k) m e = by_test (goes_on size k)
  where
    by_test : (t : Bool) → put m (cond t (k ∷ []) []) ≡ cond t (k ∷ []) [] ++ m ∷ []
    by_test true = ap (λ t. cond t (m ∷ k ∷ []) (k ∷ m ∷ [])) (le-ltb m k (omega arith))
    by_test false = refl

-- Successive monomers below m are joined where they are of the same chain, and others are not bonded.
pub record JoinedSoFar (start now : Draft) (size m : ℕ) : Type 0 where
  pub draft : now ≡ with_bonds start now.world.bonds
  pub rows : length now.world.bonds ≡ start.count
  pub done : (i : ℕ) → i + 1 < m → neighbours_of now.world.bonds i ≡ chain_neighbours size i
  pub last : (i : ℕ) → i + 1 ≡ m → neighbours_of now.world.bonds i ≡ before_in_chain size i
  pub later : (i : ℕ) → m ≤ i → neighbours_of now.world.bonds i ≡ []

no_neighbours : (n i : ℕ) → neighbours_of (replicate n []) i ≡ []
no_neighbours zero i = refl
no_neighbours (suc n) zero = refl
no_neighbours (suc n) (suc i) = no_neighbours n i

pub JoinedSoFar-none : (start : Draft) (size : ℕ) → start.world.bonds ≡ replicate start.count [] → JoinedSoFar start start size 1
JoinedSoFar-none start size none = record {
  draft = refl;
  rows = ap length none ∙ length-replicate start.count [];
  done = λ i l. absurd (omega arith);
  last = λ i e. let first : i ≡ 0 = omega arith in ap (λ b. neighbours_of b i) none ∙ (no_neighbours start.count i ∙ ap (before_in_chain size) (sym first));
  later = λ i l. ap (λ b. neighbours_of b i) none ∙ no_neighbours start.count i;
}

chosen : (pair bonded may full : Bool) → pair ≡ true → bonded ≡ false → may ≡ true → full ≡ false
    → cond (not pair) (Err BadMonomer) (cond bonded (Ok false) (cond (not may) (Err BadBond) (cond full (Err TooManyBonds) (Ok true)))) ≡ Ok true
chosen pair bonded may full a b c d = rw (a, b, c, d) refl

neither : (a b : Bool) → a ≡ false → b ≡ false → (a || b) ≡ false
neither a b h k = rw (h, k) refl

module _ (start now : Draft) (size p m : ℕ) (s : JoinedSoFar start now size m) (e : p + 1 ≡ m) (inside : m < start.count) where
  l : p < length now.world.bonds
  l = omega (arith, s.rows)

  l' : m < length now.world.bonds
  l' = omega (arith, s.rows)

  -- the two are not bonded, and have room for a bond
  pub join_answer-next : length start.world.positions ≡ start.count → may_bond start.world.shape start.world.set (position_of start.world p) (position_of start.world m) ≡ true → join_answer now p m ≡ Ok true
  join_answer-next placed step =
      let new : are_bonded now.world.bonds p m ≡ false = ap (has m) (s.last p e) ∙ has-before size p m e in
      let few_p : is_full now.world.bonds p ≡ false = ap (λ row. nat_le MOST_BONDS (length row)) (s.last p e) ∙ lt-leb MOST_BONDS (length (before_in_chain size p)) (omega (arith, length-before size p)) in
      let few_m : is_full now.world.bonds m ≡ false = ap (λ row. nat_le MOST_BONDS (length row)) (s.later m (omega arith)) in
      let count : now.count ≡ start.count = ap (λ (d : Draft). d.count) s.draft in
      let pair : is_pair now.count p m ≡ true = ap (λ n. is_pair n p m) count ∙ are_pair start.count inside in
      let may : may_join now.world (slice_get now.world.positions p) (slice_get now.world.positions m) ≡ true =
      ap (λ (d : Draft). may_join d.world (slice_get d.world.positions p) (slice_get d.world.positions m)) s.draft
      ∙ (ap (λ o. may_join start.world o (slice_get start.world.positions m)) (slice_get-get_or start.world.positions p (record { x = pos 0; y = pos 0; z = pos 0 }) (omega arith))
      ∙ (ap (may_reach start.world.shape start.world.set (position_of start.world p)) (slice_get-get_or start.world.positions m (record { x = pos 0; y = pos 0; z = pos 0 }) (omega arith)) ∙ step)) in
      chosen (is_pair now.count p m) (are_bonded now.world.bonds p m) (may_join now.world (slice_get now.world.positions p) (slice_get now.world.positions m)) (is_full now.world.bonds p || is_full now.world.bonds m) pair new may
      (neither _ _ few_p few_m)
    where
      are_pair : (n : ℕ) → m < n → is_pair n p m ≡ true
      are_pair n h = grind (arith, nat_tests)

  -- the two of a chain are joined
  pub JoinedSoFar-joined : (later : Draft) → goes_on size p ≡ true → later ≡ with_bonds now (with_bond now.world.bonds p m) → JoinedSoFar start later size (m + 1)
  JoinedSoFar-joined later same new = subst (λ d. JoinedSoFar start d size (m + 1)) (sym new) record {
    draft = ap (λ (d : Draft). with_bonds d (with_bond now.world.bonds p m)) s.draft;
    rows = length-set _ m _ ∙ (length-set now.world.bonds p _ ∙ s.rows);
    done = λ i h. elim (eqb_tells i p) [
      | inl a ↦ rw a.1 (row_first now.world.bonds p m (omega arith) l l' ∙ (ap (put m) (s.last p e) ∙ (put-before size p m e ∙ ap (λ q. before_in_chain size p ++ q) (sym (ap (λ t. cond t ((p + 1) ∷ []) []) same ∙ ap (λ q. q ∷ []) e)))))
      | inr a ↦ row_other now.world.bonds p m (omega arith) l l' i a.1 (omega arith) ∙ s.done i (omega (arith, a.1))
    ];
    last = λ i h. let at : i ≡ m = omega arith in rw at (row_second now.world.bonds p m (omega arith) l l' ∙ (ap (put p) (s.later m (omega arith)) ∙ sym (before-next size p m e ∙ ap (λ t. cond t (p ∷ []) []) same)));
    later = λ i h. row_other now.world.bonds p m (omega arith) l l' i (omega arith) (omega arith) ∙ s.later i (omega arith);
  }

  -- the last of a chain and the first of the next one are not
  pub JoinedSoFar-apart : goes_on size p ≡ false → JoinedSoFar start now size (m + 1)
  JoinedSoFar-apart other = record {
    draft = s.draft;
    rows = s.rows;
    done = λ i h. elim (eqb_tells i p) [
      | inl a ↦ rw a.1 (s.last p e ∙ (sym (append-nil (before_in_chain size p)) ∙ ap (λ q. before_in_chain size p ++ q) (sym (ap (λ t. cond t ((p + 1) ∷ []) []) other))))
      | inr a ↦ s.done i (omega (arith, a.1))
    ];
    last = λ i h. let at : i ≡ m = omega arith in rw at (s.later m (omega arith) ∙ sym (before-next size p m e ∙ ap (λ t. cond t (p ∷ []) []) other));
    later = λ i h. s.later i (omega arith);
  }

-- all are joined
pub JoinedSoFar-all : (start now : Draft) (size m : ℕ) → JoinedSoFar start now size m → start.count ≤ m → 1 ≤ start.count → m ≤ start.count
    → ((k : ℕ) → k + 1 ≡ start.count → goes_on size k ≡ false) → now ≡ with_bonds start (chain_bonds size start.count)
JoinedSoFar-all start now size m s past some within whole =
    s.draft ∙ ap (with_bonds start) (fill_by_all (chain_neighbours size) now.world.bonds start.count [] s.rows row)
  where
    row : (i : ℕ) → i < start.count → neighbours_of now.world.bonds i ≡ chain_neighbours size i
    row i l = elim (eqb_tells (i + 1) m) [
      | inl a ↦ s.last i a.1 ∙ (sym (append-nil (before_in_chain size i)) ∙ ap (λ q. before_in_chain size i ++ q) (sym (ap (λ t. cond t ((i + 1) ∷ []) []) (whole i (omega (arith, a.1))))))
      | inr a ↦ s.done i (omega (arith, a.1))
    ]
