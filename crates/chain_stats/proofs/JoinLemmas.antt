-- Who is joined to whom, and so the molecules, as functions of the world: lists of fewer bonds than there are monomers
-- tell it, since the monomers that longer and longer lists come to grow in number until they grow no more.
use Rattle.std.proofs.Common.{◌≡◌, ℕ, zero, suc, ◌+◌, ◌<◌, ◌≤◌, ◌⊎◌, inl, inr, ⊎_elim, Bool, true, false, ◌&&◌, not, cond, List, [], ◌∷◌, length, get_or, map, All, refl, sym, ap, subst, ◌∙◌, arith, nat_eq}
use Rattle.std.specs.List.{count_by, filter, list_any, range_with_len}
use Rattle.std.proofs.lemmas.Bool.{and_parts, cases_Bool, cases_lt, or_cases, or_left, or_right}
use Rattle.std.proofs.lemmas.List.{map-id}
use Rattle.std.proofs.lemmas.List.Elements.{All-nil, All-cons, All-contains, All-weaker}
use Rattle.std.proofs.lemmas.List.Folds.{Any-from_list_any, list_any-from_Any}
use Rattle.std.proofs.lemmas.List.FromFn.{length-range_with_len}
use Rattle.std.proofs.lemmas.List.Sums.{AllPass-from_list_all, list_all-from_AllPass, count_by-le-length, get_or-le-sum_by, sum_by-cons}
use Rattle.bfm_world.specs.Bonds.{are_bonded}
use Rattle.bfm_world.specs.Configuration.{Configuration}
use Rattle.chain_stats.specs.Molecules.{AreJoined, IsWay, monomers_of, join_within, are_joined, is_least, molecule_with, molecules_of}
use Rattle.chain_stats.specs.Search.{root_of, AreSearched, is_root, members_below, roots_below, groups_of}
use Rattle.chain_stats.proofs.GroupLemmas.{range_below}
use Rattle.chain_stats.proofs.MoleculeLemmas.{along, in_range, same_numbers, same_test}
use Rattle.chain_stats.proofs.SearchLemmas.{AreMutual, AreJoined-more}

pub same_tests : (a b : Bool) → (a ≡ true → b ≡ true) → (b ≡ true → a ≡ true) → a ≡ b
same_tests true b f g = sym (f refl)
same_tests false true f g = g refl
same_tests false false f g = refl

-- what is kept of a range, and what is made of it, where tests and makers say the same there
pub kept-same : {X : Type 0} (f g : ℕ → X) (p q : ℕ → Bool) (a n : ℕ) → ((k : ℕ) → a ≤ k → k < a + n → (p k ≡ q k) × (p k ≡ true → f k ≡ g k))
    → map f (filter p (range_with_len a n)) ≡ map g (filter q (range_with_len a n))
kept-same f g p q a zero h = refl
kept-same f g p q a (suc n) h = rw (sym (h a (omega arith) (omega arith)).0) (by (p a) refl (kept-same f g p q (a + 1) n (λ k l m. h k (omega arith) (omega arith))))
  where
    by : (t : Bool) → p a ≡ t → map f (filter p (range_with_len (a + 1) n)) ≡ map g (filter q (range_with_len (a + 1) n))
        → map f (cond t (a ∷ filter p (range_with_len (a + 1) n)) (filter p (range_with_len (a + 1) n))) ≡ map g (cond t (a ∷ filter q (range_with_len (a + 1) n)) (filter q (range_with_len (a + 1) n)))
    by true e rest = let same = (h a (omega arith) (omega arith)).1 e in cc
    by false e rest = rest

-- ---- a test that passes more counts as many at least, and only the same where it counts no more
counted_once : (a b : Bool) → (a ≡ true → b ≡ true) → (cond a 1 0 ≤ cond b 1 0) × (cond b 1 0 ≤ cond a 1 0 → b ≡ true → a ≡ true)
counted_once true b f = (rw (f refl) (omega arith), λ h e. refl)
counted_once false true f = (omega arith, λ h e. absurd (omega arith))
counted_once false false f = (omega arith, λ h e. e)

counted : (p q : ℕ → Bool) → ((k : ℕ) → p k ≡ true → q k ≡ true) → (xs : List ℕ)
    → (count_by p xs ≤ count_by q xs) × (count_by q xs ≤ count_by p xs → All (λ k. q k ≡ true → p k ≡ true) xs)
counted p q wider [] = (omega arith, λ h. All-nil (λ k. q k ≡ true → p k ≡ true))
counted p q wider (x ∷ xs) =
    let rest = counted p q wider xs in
    let few = sum_by-cons (λ k. cond (p k) 1 0) x xs in
    let many = sum_by-cons (λ k. cond (q k) 1 0) x xs in
    let own = counted_once (p x) (q x) (wider x) in
    (omega (arith, rest.0, own.0), λ h. All-cons (λ k. q k ≡ true → p k ≡ true) x xs (own.1 (omega (arith, rest.0))) (rest.1 (omega (arith, own.0))))

-- ---- the monomers that lists of at most n bonds join to monomer i
module _ (w : Configuration) (i : ℕ) where
  abbrev count : ℕ
  count = length w.positions

  abbrev steps_to : ℕ → ℕ → ℕ → Bool
  steps_to n j k = join_within w n i k && are_bonded w.bonds k j

  still : (n j : ℕ) → join_within w n i j ≡ true → join_within w (suc n) i j ≡ true
  still n j h = or_left (join_within w n i j) (list_any (steps_to n j) (monomers_of w)) h

  -- one bond more at the end
  last_bond : (n j : ℕ) → list_any (steps_to n j) (monomers_of w) ≡ true → (k : ℕ) × (k < count) × (join_within w n i k ≡ true) × (are_bonded w.bonds k j ≡ true)
  last_bond n j h =
      let k = Any-from_list_any (steps_to n j) (monomers_of w) h in
      let both = and_parts (join_within w n i k.1) (are_bonded w.bonds k.1 j) k.4 in
      (k.1, All-contains (λ m. m < count) (monomers_of w) k.1 (range_below count) (k.0, k.2, k.3), both.0, both.1)

  bond_more : (n k j : ℕ) → k < count → join_within w n i k ≡ true → are_bonded w.bonds k j ≡ true → join_within w (suc n) i j ≡ true
  bond_more n k j l h b =
      let m = in_range count k l in
      or_right (join_within w n i j) (list_any (steps_to n j) (monomers_of w)) (list_any-from_Any (steps_to n j) (monomers_of w) (m.0, k, m.1, m.2, rw h b))

  pub AreJoined-from_test : (n j : ℕ) → join_within w n i j ≡ true → AreJoined w.bonds i j
  AreJoined-from_test zero j h = ([], same_numbers i j h)
  AreJoined-from_test (suc n) j h =
      ⊎_elim
      (AreJoined-from_test n j)
      (λ e. let k = last_bond n j e in AreJoined-more w.bonds i k.0 j (AreJoined-from_test n k.0 k.2) k.3)
      (or_cases (join_within w n i j) (list_any (steps_to n j) (monomers_of w)) h)

  module _ (there : i < length w.positions) (bonded : AreMutual (length w.positions) w.bonds) where
    -- no bond leads out of them
    abbrev IsClosed : ℕ → Type 0
    IsClosed n = (k j : ℕ) → k < count → j < count → join_within w n i k ≡ true → are_bonded w.bonds k j ≡ true → join_within w n i j ≡ true

    closed_more : (n : ℕ) → IsClosed n → IsClosed (suc n)
    closed_more n c k j l m h b = still n j (c k j l m (back (or_cases (join_within w n i k) (list_any (steps_to n k) (monomers_of w)) h)) b)
      where
        back : (join_within w n i k ≡ true) ⊎ (list_any (steps_to n k) (monomers_of w) ≡ true) → join_within w n i k ≡ true
        back (inl e) = e
        back (inr e) = let o = last_bond n k e in c o.0 k o.1 l o.2 o.3

    -- until then, each bond more comes to one monomer more
    closes : (n : ℕ) → IsClosed n ⊎ (n < count_by (join_within w n i) (monomers_of w))
    closes zero =
        let own = in_range count i there in
        inr (omega (arith, get_or-le-sum_by (λ k. cond (nat_eq i k) 1 0) (monomers_of w) own.0 i own.1, ap (λ b. ◌+◌ (cond b 1 0) 0) (same_test i (get_or (monomers_of w) own.0 i) (sym own.2))))
    closes (suc n) =
        let grown = counted (join_within w n i) (join_within w (suc n) i) (still n) (monomers_of w) in
        ⊎_elim
        (λ c. inl (closed_more n c))
        (λ h. ⊎_elim
        (λ l. inr (omega arith))
        (λ l. inl (closed_more n (λ k j a b g e. All-contains (λ m. join_within w (suc n) i m ≡ true → join_within w n i m ≡ true) (monomers_of w) j (grown.1 l) (in_range count j b) (bond_more n k j a g e))))
        (cases_lt (count_by (join_within w n i) (monomers_of w)) (count_by (join_within w (suc n) i) (monomers_of w))))
        (closes n)

    closed : IsClosed count
    closed = ⊎_elim (λ c. c) (λ h. absurd (omega (arith, count_by-le-length (join_within w count i) (monomers_of w), length-range_with_len 0 count))) (closes count)

    itself : (n : ℕ) → join_within w n i i ≡ true
    itself zero = same_test i i refl
    itself (suc n) = still n i (itself n)

    stays : (k : ℕ) (way : List ℕ) (j : ℕ) → k < count → join_within w count i k ≡ true → IsWay w.bonds k way j → join_within w count i j ≡ true
    stays k [] j l h e = subst (λ (m : ℕ). join_within w count i m ≡ true) e h
    stays k (m ∷ ms) j l h e = let t = bonded.others k m e.0 in stays m ms j t (closed k m l t h e.0) e.1

    pub test_from_AreJoined : (j : ℕ) → AreJoined w.bonds i j → are_joined w i j ≡ true
    test_from_AreJoined j h = stays i h.0 j there (itself count) h.1

-- ---- the groups by their roots are the molecules
module _ (w : Configuration) (roots : List ℕ) (a : AreSearched w.bonds (length w.positions) (length w.positions) roots) (bonded : AreMutual (length w.positions) w.bonds) where
  root_same : (i j : ℕ) → i < length w.positions → are_joined w i j ≡ true → root_of roots j ≡ root_of roots i
  root_same i j l h = let way = AreJoined-from_test w i (length w.positions) j h in (along w roots a bonded i way.0 j l way.1).1

  root_joined : (j : ℕ) → j < length w.positions → are_joined w (root_of roots j) j ≡ true
  root_joined j l = test_from_AreJoined w (root_of roots j) (a.before j l l) bonded j (a.found.joined j (l, a.before j l l))

  member-test : (r j : ℕ) → r < length w.positions → j < length w.positions → root_of roots r ≡ r → nat_eq (root_of roots j) r ≡ are_joined w r j
  member-test r j l m e =
      same_tests (nat_eq (root_of roots j) r) (are_joined w r j)
      (λ h. subst (λ (q : ℕ). are_joined w q j ≡ true) (same_numbers (root_of roots j) r h) (root_joined j m))
      (λ h. same_test (root_of roots j) r (root_same r j l h ∙ e))

  least-test : (r : ℕ) → r < length w.positions → is_root roots r ≡ is_least w r
  least-test r l =
      same_tests (is_root roots r) (is_least w r)
      (λ h. list_all-from_AllPass (λ j. not (are_joined w j r)) (range_with_len 0 r) (All-weaker (λ j. j < r) (λ j. not (are_joined w j r) ≡ true) (λ j m. apart j m (same_numbers (root_of roots r) r h)) (range_with_len 0 r) (range_below r)))
      (λ h. same_test (root_of roots r) r (⊎_elim
      (λ m. absurd (
      let apart = All-contains (λ j. not (are_joined w j r) ≡ true) (range_with_len 0 r) (root_of roots r) (AllPass-from_list_all (λ j. not (are_joined w j r)) (range_with_len 0 r) h) (in_range r (root_of roots r) m) in
      let joined = root_joined r l in
      cc))
      (λ m. omega (arith, a.found.least r (l, a.before r l l)))
      (cases_lt (root_of roots r) r)))
    where
      apart : (j : ℕ) → j < r → root_of roots r ≡ r → not (are_joined w j r) ≡ true
      apart j m e =
          ⊎_elim
          (λ h. absurd (let k : j < length w.positions = omega arith in omega (arith, root_same j r k h, a.found.least j (k, a.before j k k))))
          (λ h. ap not h)
          (cases_Bool (are_joined w j r))

  pub molecules_of-groups : groups_of roots ≡ molecules_of w
  molecules_of-groups =
      subst (λ (n : ℕ). map (members_below roots n) (roots_below roots n) ≡ molecules_of w) (sym a.found.each)
      (kept-same (members_below roots (length w.positions)) (molecule_with w) (is_root roots) (is_least w) 0 (length w.positions)
      (λ r _ l. let m : r < length w.positions = omega arith in (least-test r m, λ h. group r m (same_numbers (root_of roots r) r h))))
    where
      group : (r : ℕ) → r < length w.positions → root_of roots r ≡ r → members_below roots (length w.positions) r ≡ molecule_with w r
      group r l e = simp map-id at (kept-same (λ j. j) (λ j. j) (λ j. nat_eq (root_of roots j) r) (are_joined w r) 0 (length w.positions) (λ j _ m. (member-test r j l (omega arith) e, λ h. refl)))
