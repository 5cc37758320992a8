-- The sum of the tops of the squared radii of gyration of all molecules: how large it is.
use Rattle.std.proofs.Common.{◌≡◌, ◌≢◌, ℕ, ◌+◌, ◌*◌, ◌<◌, ◌≤◌, false, List, [], ◌∷◌, ◌++◌, length, map, get_or, nat_eq, All, refl, sym, subst, arith, ⊎_elim}
use Rattle.std.specs.List.{AllByRecursion, Contains, IsDistinct, flat_map, sum_by}
use Rattle.std.proofs.Math.Nat.{mul-le-mul, mul-le-mul_left, mul-le-mul_right}
use Rattle.std.proofs.lemmas.Bool.{eqb-true}
use Rattle.std.proofs.lemmas.Bool.Decides.{nat_tests}
use Rattle.std.proofs.lemmas.List.Concat.{length-flat_map}
use Rattle.std.proofs.lemmas.List.Sums.{sum_by-cons}
use Rattle.std.proofs.lemmas.List.Elements.{All-append, All-contains, All-from_recursion, All-head, All-nil, All-tail, Contains-append_cases, Contains-append_right, Contains-get_or, recursion_from_All}
use Rattle.std.proofs.lemmas.Map.Keys.{IsDistinct-cons, IsDistinct-head, IsDistinct-tail}
use Rattle.std.proofs.lemmas.Map.Steps.{length-le_from_distinct_below}
use Rattle.std.proofs.lemmas.Map.Views.{Contains-from_any}
use Rattle.bfm_base.specs.declared.place.P3.{P3}
use Rattle.bfm_geom.specs.Difference.{IsWithin, square_of}
use Rattle.bfm_world.specs.Bonds.{AreBonds, IsAscending}
use Rattle.bfm_world.specs.Configuration.{Configuration, position_of, reach_of}
use Rattle.bfm_world.proofs.BondLemmas.{IsDistinct-from_ascending}
use Rattle.chain_stats.specs.Fractions.{AreMembers, square_sum}
use Rattle.chain_stats.specs.Molecules.{AreJoined, AreMolecules, IsMolecule, IsWay, first_of}
use Rattle.chain_stats.proofs.SearchLemmas.{AreJoined-itself, AreJoined-more, Contains-cons_cases, no_member}
use Rattle.chain_stats.proofs.VectorLemmas.{IsWithin-at, few_members}

-- ---- lists of numbers, each once
apart_test : (m n : ℕ) → m ≢ n → nat_eq m n ≡ false
apart_test m n h = grind (arith, nat_tests)

-- no number is in both
abbrev AreApart : List ℕ → List ℕ → Type 0
AreApart xs ys = (x : ℕ) → Contains xs x → Contains ys x → ⊥

IsDistinct-append : (xs ys : List ℕ) → IsDistinct nat_eq xs → IsDistinct nat_eq ys → AreApart xs ys → IsDistinct nat_eq (xs ++ ys)
IsDistinct-append [] ys d e apart = e
IsDistinct-append (x ∷ xs) ys d e apart =
    let own = All-from_recursion (λ y. nat_eq x y ≡ false) xs (IsDistinct-head nat_eq x xs d) in
    let other : All (λ y. nat_eq x y ≡ false) ys =
    λ k d l. apart_test x (get_or ys k d) (λ same. apart x (0, omega arith, refl) (subst (Contains ys) (sym same) (Contains-get_or ys k d l))) in
    IsDistinct-cons nat_eq x (xs ++ ys) (recursion_from_All (λ y. nat_eq x y ≡ false) (xs ++ ys) (All-append (λ y. nat_eq x y ≡ false) xs ys own other))
    (IsDistinct-append xs ys (IsDistinct-tail nat_eq x xs d) e (λ y h k. apart y (Contains-append_right (x ∷ []) xs y h) k))

-- ---- whom bonds join, both ways and by way of a third
AreJoined-then : (bonds : List (List ℕ)) (i j : ℕ) (way : List ℕ) (k : ℕ) → AreJoined bonds i j → IsWay bonds j way k → AreJoined bonds i k
AreJoined-then bonds i j [] k h e = subst (AreJoined bonds i) e h
AreJoined-then bonds i j (m ∷ ms) k h e = AreJoined-then bonds i m ms k (AreJoined-more bonds i j m h e.0) e.1

AreJoined-back : (count : ℕ) (bonds : List (List ℕ)) → AreBonds count bonds → (i : ℕ) (way : List ℕ) (j : ℕ) → IsWay bonds i way j → AreJoined bonds j i
AreJoined-back count bonds b i [] j e = subst (λ k. AreJoined bonds k i) e (AreJoined-itself bonds i)
AreJoined-back count bonds b i (m ∷ ms) j e = AreJoined-more bonds j m i (AreJoined-back count bonds b m ms j e.1) (b.both i m e.0)

-- the first of ascending numbers is the least
first_of-least : (xs : List ℕ) (x : ℕ) → IsAscending xs → Contains xs x → first_of xs ≤ x
first_of-least [] x a h = absurd (no_member x h)
first_of-least (y ∷ ys) x a h =
    ⊎_elim
    (λ e. omega (arith, e))
    (λ rest. let above : y < x = All-contains (λ m. y < m) ys x (All-from_recursion (λ m. y < m) ys a.0) rest in omega arith)
    (Contains-cons_cases y ys x h)

-- ---- molecules have no monomer in common, so that they have no more monomers than there are
abbrev joined_list : List (List ℕ) → List ℕ
joined_list molecules = flat_map (λ members. members) molecules

module _ (w : Configuration) (b : AreBonds (length w.positions) w.bonds) where
  apart-two : (m n : List ℕ) → IsMolecule w m → IsMolecule w n → first_of m < first_of n → AreApart m n
  apart-two m n p q l x h k =
      let near = (p.joined x).0 h in
      let far = (q.joined x).0 k in
      let back = AreJoined-back (length w.positions) w.bonds b (first_of m) near.0 x near.1 in
      let inside = (q.joined (first_of m)).1 (AreJoined-then w.bonds (first_of n) x back.0 (first_of m) far back.1) in
      let above = first_of-least n (first_of m) q.ascending inside in
      omega arith

  apart-all : (m : List ℕ) (ms : List (List ℕ)) → IsMolecule w m → All (IsMolecule w) ms → AllByRecursion (λ k. first_of m < k) (map first_of ms) → AreApart m (joined_list ms)
  apart-all m [] p all above x h k = no_member x k
  apart-all m (n ∷ ns) p all above x h k =
      ⊎_elim
      (λ here. apart-two m n p (All-head (IsMolecule w) n ns all) above.0 x h here)
      (λ rest. apart-all m ns p (All-tail (IsMolecule w) n ns all) above.1 x h rest)
      (Contains-append_cases n (joined_list ns) x k)

  IsDistinct-molecules : (ms : List (List ℕ)) → All (IsMolecule w) ms → IsAscending (map first_of ms) → IsDistinct nat_eq (joined_list ms)
  IsDistinct-molecules [] all a = IsDistinct-from_ascending [] tt
  IsDistinct-molecules (m ∷ ms) all a =
      let first = All-head (IsMolecule w) m ms all in
      let others = All-tail (IsMolecule w) m ms all in
      IsDistinct-append m (joined_list ms) (IsDistinct-from_ascending m first.ascending) (IsDistinct-molecules ms others a.1) (apart-all m ms first others a.0)

  there : (ms : List (List ℕ)) → All (IsMolecule w) ms → All (λ i. i < length w.positions) (joined_list ms)
  there [] all = All-nil (λ i. i < length w.positions)
  there (m ∷ ms) all =
      All-append (λ i. i < length w.positions) m (joined_list ms) (All-head (IsMolecule w) m ms all).monomers (there ms (All-tail (IsMolecule w) m ms all))

  pub sum_of_sizes : (ms : List (List ℕ)) → AreMolecules w ms → sum_by length ms ≤ length w.positions
  sum_of_sizes ms a =
      let few = length-le_from_distinct_below (joined_list ms) (length w.positions) (IsDistinct-molecules ms a.each a.order)
      (λ q h. All-contains (λ i. i < length w.positions) (joined_list ms) q (there ms a.each) (Contains-from_any eqb-true q (joined_list ms) h)) in
      omega (arith, few, length-flat_map (λ (m : List ℕ). m) ms)

-- ---- the top of one molecule
square_within : (p : P3) (r : ℕ) → IsWithin r p → square_of p ≤ 3 * (r * r)
square_within p r f = omega (arith, mul-le-mul f.x f.x, mul-le-mul f.y f.y, mul-le-mul f.z f.z)

squares_within : (w : Configuration) (r : ℕ) (members : List ℕ) → reach_of w.positions ≤ r → All (λ i. i < length w.positions) members
    → square_sum (position_of w) members ≤ length members * (3 * (r * r))
squares_within w r [] h all = omega arith
squares_within w r (i ∷ is) h all =
    let first = square_within (position_of w i) r (IsWithin-at w.positions i r _ h (All-head (λ k. k < length w.positions) i is all)) in
    let rest = squares_within w r is h (All-tail (λ k. k < length w.positions) i is all) in
    omega (arith, first, rest, sum_by-cons (λ k. square_of (position_of w k)) i is)

-- it is at most the number of its monomers times that of all monomers, times three squares of the reach
pub top_within : (w : Configuration) (members : List ℕ) (top square r most : ℕ) → AreMembers w members → reach_of w.positions ≤ r → length w.positions ≤ most
    → top + square ≡ length members * square_sum (position_of w) members → top ≤ length members * (most * (3 * (r * r)))
top_within w members top square r most m near few whole =
    let squares = squares_within w r members near m.there in
    let own : length members * (3 * (r * r)) ≤ most * (3 * (r * r)) = mul-le-mul_right (3 * (r * r)) (omega (arith, few_members w members m)) in
    let all : length members * square_sum (position_of w) members ≤ length members * (most * (3 * (r * r))) = mul-le-mul_left (length members) (omega (arith, squares, own)) in
    omega (arith, all, whole)
