-- The groups of monomers with one root are the molecules.
use Rattle.std.proofs.Common.{◌≡◌, ℕ, zero, suc, ◌+◌, ◌<◌, ◌≤◌, ⊎_elim, Bool, true, false, cond, List, [], ◌∷◌, length, get_or, map, All, refl, sym, ap, subst, ◌∙◌, arith, nat_eq}
use Rattle.std.specs.List.{Contains, AllByRecursion, filter, range_with_len}
use Rattle.std.proofs.lemmas.Bool.Decides.{nat_tests}
use Rattle.std.proofs.lemmas.List.Elements.{All-map, All-filter, All-head, All-tail, All-contains, Contains-get_or, All-from_recursion, filter_passes}
use Rattle.std.proofs.lemmas.List.FromFn.{length-range_with_len, get_or-range_with_len}
use Rattle.bond_set.proofs.ListLemmas.{Contains-map, Contains-filter}
use Rattle.bfm_world.specs.Bonds.{IsAscending}
use Rattle.bfm_world.specs.Configuration.{Configuration}
use Rattle.chain_stats.specs.Molecules.{AreJoined, IsWay, first_of, IsMolecule, AreMolecules}
use Rattle.chain_stats.specs.Search.{root_of, AreSearched, is_root, members_below, roots_below, groups_of}
use Rattle.chain_stats.proofs.GroupLemmas.{range_below, roots_within}
use Rattle.chain_stats.proofs.SearchLemmas.{AreMutual, Contains-cons_cases, no_member}

pub same_numbers : (m n : ℕ) → nat_eq m n ≡ true → m ≡ n
same_numbers m n h = grind (arith, nat_tests)

pub same_test : (m n : ℕ) → m ≡ n → nat_eq m n ≡ true
same_test m n h = grind (arith, nat_tests)

-- numbers that are kept of a range are no less than its first
kept_above : (p : ℕ → Bool) (b a n : ℕ) → b < a → AllByRecursion (λ m. b < m) (filter p (range_with_len a n))
kept_above p b a zero l = tt
kept_above p b a (suc n) l =
    let rest = kept_above p b (a + 1) n (omega arith) in
    elim (p a) as (λ t. AllByRecursion (λ m. b < m) (cond t (a ∷ filter p (range_with_len (a + 1) n)) (filter p (range_with_len (a + 1) n)))) [
      | true ↦ (l, rest)
      | false ↦ rest
    ]

pub IsAscending-kept : (p : ℕ → Bool) (a n : ℕ) → IsAscending (filter p (range_with_len a n))
IsAscending-kept p a zero = tt
IsAscending-kept p a (suc n) =
    let rest = IsAscending-kept p (a + 1) n in
    let above = kept_above p a (a + 1) n (omega arith) in
    elim (p a) as (λ t. IsAscending (cond t (a ∷ filter p (range_with_len (a + 1) n)) (filter p (range_with_len (a + 1) n)))) [
      | true ↦ (above, rest)
      | false ↦ rest
    ]

-- the least of ascending numbers is the first
first_of-least : (xs : List ℕ) (r : ℕ) → IsAscending xs → Contains xs r → All (λ m. r ≤ m) xs → first_of xs ≡ r
first_of-least [] r a h l = absurd (no_member r h)
first_of-least (x ∷ xs) r a h l =
    ⊎_elim
    (λ e. e)
    (λ rest. absurd (
    let above : x < r = All-contains (λ m. x < m) xs r (All-from_recursion (λ m. x < m) xs a.0) rest in
    let below : r ≤ x = All-head (λ m. r ≤ m) x xs l in
    omega arith))
    (Contains-cons_cases x xs r h)

pub in_range : (n i : ℕ) → i < n → Contains (range_with_len 0 n) i
in_range n i l = (i, omega (arith, length-range_with_len 0 n), omega (arith, get_or-range_with_len 0 n i i l))

-- the members of a group, and only these, have its root
pub member_from_root : (roots : List ℕ) (n r i : ℕ) → i < n → root_of roots i ≡ r → Contains (members_below roots n r) i
member_from_root roots n r i l e = Contains-filter (λ j. nat_eq (root_of roots j) r) (range_with_len 0 n) i (in_range n i l) (same_test (root_of roots i) r e)

pub members_within : (roots : List ℕ) (n r : ℕ) → All (λ i. i < n) (members_below roots n r)
members_within roots n r = All-filter (λ j. nat_eq (root_of roots j) r) (λ i. i < n) (range_with_len 0 n) (range_below n)

pub root_from_member : (roots : List ℕ) (n r i : ℕ) → Contains (members_below roots n r) i → root_of roots i ≡ r
root_from_member roots n r i h =
    same_numbers (root_of roots i) r (All-contains (λ j. nat_eq (root_of roots j) r ≡ true) (members_below roots n r) i (filter_passes (λ j. nat_eq (root_of roots j) r) (range_with_len 0 n)) h)

module _ (w : Configuration) (roots : List ℕ) (a : AreSearched w.bonds (length w.positions) (length w.positions) roots) (bonded : AreMutual (length w.positions) w.bonds) where
  abbrev count : ℕ
  count = length w.positions

  root_below : (i : ℕ) → i < count → root_of roots i < count
  root_below i l = a.before i l l

  -- monomers that are joined have one root
  pub along : (i : ℕ) (way : List ℕ) (j : ℕ) → i < count → IsWay w.bonds i way j → (j < count) × (root_of roots j ≡ root_of roots i)
  along i [] j l h = (omega arith, ap (root_of roots) (sym h))
  along i (k ∷ ks) j l h =
      let rest = along k ks j (bonded.others i k h.0) h.1 in
      (rest.0, rest.1 ∙ a.closed i k (l, root_below i l) h.0)

  pub root_root : (i : ℕ) → i < count → root_of roots (root_of roots i) ≡ root_of roots i
  root_root i l =
      let j = a.found.joined i (l, root_below i l) in
      sym ((along (root_of roots i) j.0 i (root_below i l) j.1).1)

  root_least : (r i : ℕ) → Contains (members_below roots count r) i → r ≤ i
  root_least r i h =
      let l : i < count = All-contains (λ j. j < count) (members_below roots count r) i (members_within roots count r) h in
      omega (arith, root_from_member roots count r i h, a.found.least i (l, root_below i l))

  first_is_root : (r : ℕ) → r < count → root_of roots r ≡ r → first_of (members_below roots count r) ≡ r
  first_is_root r l e =
      first_of-least (members_below roots count r) r (IsAscending-kept (λ j. nat_eq (root_of roots j) r) 0 count) (member_from_root roots count r r l e)
      (λ k d h. root_least r (get_or (members_below roots count r) k d) (Contains-get_or (members_below roots count r) k d h))

  IsMolecule-group : (r : ℕ) → r < count → root_of roots r ≡ r → IsMolecule w (members_below roots count r)
  IsMolecule-group r l e = record {
    some = let h = member_from_root roots count r r l e in omega (arith, h.1);
    monomers = members_within roots count r;
    ascending = IsAscending-kept (λ j. nat_eq (root_of roots j) r) 0 count;
    joined = λ i. (
      (λ h.
          let m : i < count = All-contains (λ j. j < count) (members_below roots count r) i (members_within roots count r) h in
          let j = a.found.joined i (m, root_below i m) in
          subst (λ (q : ℕ). AreJoined w.bonds q i) (root_from_member roots count r i h ∙ sym (first_is_root r l e)) j),
      (λ h.
          let j : AreJoined w.bonds r i = subst (λ (q : ℕ). AreJoined w.bonds q i) (first_is_root r l e) h in
          let there = along r j.0 i l j.1 in
          member_from_root roots count r i there.0 (there.1 ∙ e)),
    );
  }

  firsts : (rs : List ℕ) → All (λ r. (r < count) × (root_of roots r ≡ r)) rs → map first_of (map (members_below roots count) rs) ≡ rs
  firsts [] all = refl
  firsts (r ∷ rs) all =
      let here = All-head (λ q. (q < count) × (root_of roots q ≡ q)) r rs all in
      let first = first_is_root r here.0 here.1 in
      let rest = firsts rs (All-tail (λ q. (q < count) × (root_of roots q ≡ q)) r rs all) in
      cc

  all_roots : All (λ r. (r < count) × (root_of roots r ≡ r)) (roots_below roots count)
  all_roots = λ k d h. (roots_within roots count k d h, same_numbers (root_of roots (get_or (roots_below roots count) k d)) (get_or (roots_below roots count) k d) (filter_passes (is_root roots) (range_with_len 0 count) k d h))

  groups : AreMolecules w (map (members_below roots count) (roots_below roots count))
  groups = record {
    each = All-map (IsMolecule w) (members_below roots count) (roots_below roots count) (λ k d h. let r = all_roots k d h in IsMolecule-group (get_or (roots_below roots count) k d) r.0 r.1);
    order = rw (firsts (roots_below roots count) all_roots) (IsAscending-kept (is_root roots) 0 count);
    all = λ i l. (
      members_below roots count (root_of roots i),
      Contains-map (members_below roots count) (roots_below roots count) (root_of roots i)
          (Contains-filter (is_root roots) (range_with_len 0 count) (root_of roots i) (in_range count (root_of roots i) (root_below i l)) (same_test (root_of roots (root_of roots i)) (root_of roots i) (root_root i l))),
      member_from_root roots count (root_of roots i) i l refl,
    );
  }

  pub AreMolecules-groups : AreMolecules w (groups_of roots)
  AreMolecules-groups = subst (λ (n : ℕ). AreMolecules w (map (members_below roots n) (roots_below roots n))) (sym a.found.each) groups
