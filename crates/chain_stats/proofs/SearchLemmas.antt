-- What each step of the search for molecules keeps.
use Rattle.std.proofs.Common.{◌≡◌, ◌≢◌, ℕ, ◌+◌, ◌<◌, ◌≤◌, ◌⊎◌, inl, inr, ⊎_elim, true, cond, List, [], ◌∷◌, ◌++◌, length, get_or, take, replicate, All, refl, sym, subst, ◌∙◌, arith, nat_eq, below_more}
use Rattle.std.specs.List.{Contains}
use Rattle.std.proofs.Math.ListN.{set}
use Rattle.std.proofs.lemmas.Bool.{cases_lt, cases_eq}
use Rattle.std.proofs.lemmas.Bool.Decides.{nat_tests}
use Rattle.std.proofs.lemmas.List.{take_at, get_or_default, length-set, length-replicate, get_or-replicate, get_or-set_same, get_or-set_other}
use Rattle.std.proofs.lemmas.List.Elements.{All-nil, All-cons, All-head, All-tail, All-push, All-weaker, All-contains, All-same, All-take, Contains-push, Contains-push_cases, Contains-append_left, Contains-append_right, Contains-append_cases}
use Rattle.std.proofs.lemmas.List.Sums.{sum_by-set}
use Rattle.bfm_world.specs.Bonds.{are_bonded, AreBonds}
use Rattle.chain_stats.specs.Molecules.{AreJoined, IsWay}
use Rattle.chain_stats.specs.Search.{root_of, IsFound, missing, AreSearched, IsSpreading}

-- each neighbour is a monomer, and has the other as its neighbour too
pub record AreMutual (count : ℕ) (bonds : List (List ℕ)) : Type 0 where
  pub both : (i j : ℕ) → are_bonded bonds i j ≡ true → are_bonded bonds j i ≡ true
  pub others : (i j : ℕ) → are_bonded bonds i j ≡ true → j < count

pub AreMutual-bonds : (count : ℕ) (bonds : List (List ℕ)) → AreBonds count bonds → AreMutual count bonds
AreMutual-bonds count bonds b = record { both = b.both; others = λ i j h. (b.others i j h).0 }

-- one bond more at the end of a way
way_more : (bonds : List (List ℕ)) (i : ℕ) (way : List ℕ) (j k : ℕ) → IsWay bonds i way j → are_bonded bonds j k ≡ true → IsWay bonds i (way ++ k ∷ []) k
way_more bonds i [] j k h b = (subst (λ (n : ℕ). are_bonded bonds n k ≡ true) (sym h) b, refl)
way_more bonds i (m ∷ ms) j k h b = (h.0, way_more bonds m ms j k h.1 b)

pub AreJoined-more : (bonds : List (List ℕ)) (i j k : ℕ) → AreJoined bonds i j → are_bonded bonds j k ≡ true → AreJoined bonds i k
AreJoined-more bonds i j k h b = (h.0 ++ k ∷ [], way_more bonds i h.0 j k h.1 b)

-- joined to itself by no bond
pub AreJoined-itself : (bonds : List (List ℕ)) (i : ℕ) → AreJoined bonds i i
AreJoined-itself bonds i = ([], refl)

pub no_member : (x : ℕ) → Contains [] x → ⊥
no_member x h = omega (arith, h.1)

-- the first of a list or one of the others
pub Contains-cons_cases : (x : ℕ) (xs : List ℕ) (y : ℕ) → Contains (x ∷ xs) y → (x ≡ y) ⊎ Contains xs y
Contains-cons_cases x xs y h =
    ⊎_elim
    (λ first. ⊎_elim (λ none. absurd (no_member y none)) (λ e. inl e) (Contains-push_cases [] x y first))
    (λ rest. inr rest)
    (Contains-append_cases (x ∷ []) xs y h)

All-left : (P : ℕ → Type 0) (xs ys : List ℕ) → All P (xs ++ ys) → All P xs
All-left P xs ys h = All-same P xs (take (length xs) (xs ++ ys)) (sym (take_at xs ys (length xs) refl)) (All-take P (length xs) (xs ++ ys) h)

test_yes : (m n : ℕ) → m ≡ n → ◌≡◌ {A = ℕ} (cond (nat_eq m n) 1 0) 1
test_yes m n h = grind (arith, nat_tests)

test_no : (m n : ℕ) → m ≢ n → ◌≡◌ {A = ℕ} (cond (nat_eq m n) 1 0) 0
test_no m n h = grind (arith, nat_tests)

-- one monomer less is missing
pub missing-set : (count : ℕ) (roots : List ℕ) (j number : ℕ) → j < length roots → number < count → root_of roots j ≡ count → missing count (set roots j number) + 1 ≡ missing count roots
missing-set count roots j number l s h =
    let e = sum_by-set (λ root. cond (nat_eq root count) 1 0) roots j number 0 l in
    omega (arith, e, test_yes (root_of roots j) count h, test_no number count (omega arith))

module _ (bonds : List (List ℕ)) (count number : ℕ) (s : number < count) where
  -- before anything is found
  pub AreSearched-none : AreSearched bonds count 0 (replicate count count)
  AreSearched-none =
      let none : (i : ℕ) → i < count → root_of (replicate count count) i ≡ count = λ i l. get_or-replicate count i count 0 l in
      record {
        found = record {
          each = length-replicate count count;
          within = λ i l. omega (arith, none i l);
          least = λ i f. absurd (omega (arith, none i f.0, f.1));
          joined = λ i f. absurd (omega (arith, none i f.0, f.1));
        };
        limit = λ i f. absurd (omega (arith, none i f.0, f.1));
        closed = λ i j f b. absurd (omega (arith, none i f.0, f.1));
        before = λ i l h. absurd (omega arith);
      }

  -- where a monomer is found already, no molecule begins
  pub AreSearched-skip : (roots : List ℕ) → AreSearched bonds count number roots → root_of roots number ≢ count → AreSearched bonds count (number + 1) roots
  AreSearched-skip roots a n = record {
    found = a.found;
    limit = λ i f. omega (arith, a.limit i f);
    closed = a.closed;
    before = λ i l h. ⊎_elim (λ k. a.before i l k) (λ k. let e : number ≡ i = omega arith in subst (λ (q : ℕ). root_of roots q < count) e (omega (arith, a.found.within number s, n))) (cases_lt i number);
  }

  -- the first of a molecule is found, and waits
  module _ (roots : List ℕ) (a : AreSearched bonds count number roots) (first : root_of roots number ≡ count) where
    abbrev begun : List ℕ
    begun = set roots number number

    here : root_of begun number ≡ number
    here = get_or-set_same roots number number 0 (omega (arith, a.found.each))

    there : (k : ℕ) → k ≢ number → root_of begun k ≡ root_of roots k
    there k n = get_or-set_other roots number k number 0 n

    pub IsSpreading-begun : IsSpreading bonds count number begun (number ∷ [])
    IsSpreading-begun = record {
      found = record {
        each = length-set roots number number ∙ a.found.each;
        within = λ k l. ⊎_elim (λ e. subst (λ (q : ℕ). root_of begun q ≤ count) (sym e) (omega (arith, here))) (λ n. omega (arith, there k n, a.found.within k l)) (cases_eq k number);
        least = λ k f. ⊎_elim (λ e. subst (λ (q : ℕ). root_of begun q ≤ q) (sym e) (omega (arith, here))) (λ n. let o = there k n in omega (arith, o, a.found.least k (f.0, omega (arith, o, f.1)))) (cases_eq k number);
        joined = λ k f. ⊎_elim (λ e. subst (λ (q : ℕ). AreJoined bonds (root_of begun q) q) (sym e) (rw here (AreJoined-itself bonds number))) (λ n. let o = there k n in subst (λ (q : ℕ). AreJoined bonds q k) (sym o) (a.found.joined k (f.0, omega (arith, o, f.1)))) (cases_eq k number);
      };
      limit = λ k f. ⊎_elim (λ e. subst (λ (q : ℕ). root_of begun q ≤ number) (sym e) (omega (arith, here))) (λ n. let o = there k n in omega (arith, o, a.limit k (f.0, omega (arith, o, f.1)))) (cases_eq k number);
      closed = λ k m l h b.
          let n : k ≢ number = λ e. absurd (let g : root_of begun k ≡ number = subst (λ (q : ℕ). root_of begun q ≡ number) (sym e) here in omega arith) in
          let o = there k n in
          let g = a.closed k m (l, omega (arith, o)) b in
          let p : m ≢ number = λ e. absurd (let q : root_of roots m ≡ count = subst (λ (q : ℕ). root_of roots q ≡ count) (sym e) first in omega arith) in
          there m p ∙ (g ∙ sym o);
      open_at = λ k m l h b.
          ⊎_elim
          (λ e. inl (0, omega arith, sym e))
          (λ n. absurd (let o = there k n in let f : IsFound count roots k = (l, omega arith) in omega (arith, a.limit k f)))
          (cases_eq k number);
      before = λ k l h. ⊎_elim (λ e. subst (λ (q : ℕ). root_of begun q < count) (sym e) (omega (arith, here))) (λ n. omega (arith, there k n, a.before k l (omega arith))) (cases_eq k number);
      waits = All-cons (λ (k : ℕ). (k < count) × (root_of begun k ≡ number)) number [] (s, here) (All-nil (λ (k : ℕ). (k < count) × (root_of begun k ≡ number)));
    }

  -- nothing waits: the molecule is found whole
  pub AreSearched-whole : (roots : List ℕ) → IsSpreading bonds count number roots [] → AreSearched bonds count (number + 1) roots
  AreSearched-whole roots f = record {
    found = f.found;
    limit = λ i g. omega (arith, f.limit i g);
    closed = λ i j g b.
        ⊎_elim
        (λ l. f.closed i j g.0 l b)
        (λ l.
        let e : root_of roots i ≡ number = omega (arith, f.limit i g) in
        ⊎_elim (λ w. absurd (no_member i w)) (λ r. r ∙ sym e) (f.open_at i j g.0 e b))
        (cases_lt (root_of roots i) number);
    before = λ i l h. f.before i l (omega arith);
  }

  -- the last that waits is taken
  pub IsSpreading-taken : (roots waiting : List ℕ) (i : ℕ) → IsSpreading bonds count number roots (waiting ++ i ∷ []) → IsSpreading bonds count number roots (i ∷ waiting)
  IsSpreading-taken roots waiting i f = record {
    found = f.found;
    limit = f.limit;
    closed = f.closed;
    open_at = λ k m l h b.
        ⊎_elim
        (λ w. ⊎_elim (λ q. inl (Contains-append_right (i ∷ []) waiting k q)) (λ e. inl (0, omega arith, e)) (Contains-push_cases waiting i k w))
        (λ r. inr r)
        (f.open_at k m l h b);
    before = f.before;
    waits = All-cons (λ (k : ℕ). (k < count) × (root_of roots k ≡ number)) i waiting
        (All-contains (λ (k : ℕ). (k < count) × (root_of roots k ≡ number)) (waiting ++ i ∷ []) i f.waits (Contains-push waiting i))
        (All-left (λ (k : ℕ). (k < count) × (root_of roots k ≡ number)) waiting (i ∷ []) f.waits);
  }

  -- a neighbour is found, and waits
  module _ (roots waiting : List ℕ) (i j : ℕ) (f : IsSpreading bonds count number roots (i ∷ waiting)) (l : j < count) (bond : are_bonded bonds i j ≡ true) (new : root_of roots j ≡ count) where
    abbrev reached : List ℕ
    reached = set roots j number

    at_j : root_of reached j ≡ number
    at_j = get_or-set_same roots j number 0 (omega (arith, f.found.each))

    elsewhere : (k : ℕ) → k ≢ j → root_of reached k ≡ root_of roots k
    elsewhere k n = get_or-set_other roots j k number 0 n

    own : (i < count) × (root_of roots i ≡ number)
    own = All-head (λ (k : ℕ). (k < count) × (root_of roots k ≡ number)) i waiting f.waits

    later : number < j
    later = ⊎_elim (λ h. h) (λ h. absurd (omega (arith, f.before j l h))) (cases_lt number j)

    joined_j : AreJoined bonds number j
    joined_j =
        let r = own.1 in
        let h : AreJoined bonds (root_of roots i) i = f.found.joined i (own.0, omega arith) in
        AreJoined-more bonds number i j (subst (λ (q : ℕ). AreJoined bonds q i) r h) bond

    pub IsSpreading-reached : IsSpreading bonds count number reached (i ∷ (waiting ++ j ∷ []))
    IsSpreading-reached = record {
      found = record {
        each = length-set roots j number ∙ f.found.each;
        within = λ k h. ⊎_elim (λ e. subst (λ (q : ℕ). root_of reached q ≤ count) (sym e) (omega (arith, at_j))) (λ n. omega (arith, elsewhere k n, f.found.within k h)) (cases_eq k j);
        least = λ k g. ⊎_elim (λ e. subst (λ (q : ℕ). root_of reached q ≤ q) (sym e) (omega (arith, at_j, later))) (λ n. let o = elsewhere k n in omega (arith, o, f.found.least k (g.0, omega (arith, o, g.1)))) (cases_eq k j);
        joined = λ k g. ⊎_elim (λ e. subst (λ (q : ℕ). AreJoined bonds (root_of reached q) q) (sym e) (rw at_j joined_j)) (λ n. let o = elsewhere k n in subst (λ (q : ℕ). AreJoined bonds q k) (sym o) (f.found.joined k (g.0, omega (arith, o, g.1)))) (cases_eq k j);
      };
      limit = λ k g. ⊎_elim (λ e. subst (λ (q : ℕ). root_of reached q ≤ number) (sym e) (omega (arith, at_j))) (λ n. let o = elsewhere k n in omega (arith, o, f.limit k (g.0, omega (arith, o, g.1)))) (cases_eq k j);
      closed = λ k m h g b.
          let n : k ≢ j = λ e. absurd (let q : root_of reached k ≡ number = subst (λ (q : ℕ). root_of reached q ≡ number) (sym e) at_j in omega arith) in
          let o = elsewhere k n in
          let c = f.closed k m h (omega arith) b in
          let p : m ≢ j = λ e. absurd (let q : root_of roots m ≡ count = subst (λ (q : ℕ). root_of roots q ≡ count) (sym e) new in omega arith) in
          elsewhere m p ∙ (c ∙ sym o);
      open_at = λ k m h g b.
          ⊎_elim
          (λ e. inl (subst (λ (q : ℕ). Contains (i ∷ (waiting ++ j ∷ [])) q) (sym e) (Contains-push (i ∷ waiting) j)))
          (λ n. ⊎_elim
          (λ w. inl (Contains-append_left (i ∷ waiting) (j ∷ []) k w))
          (λ r. inr (⊎_elim (λ e. subst (λ (q : ℕ). root_of reached q ≡ number) (sym e) at_j) (λ p. elsewhere m p ∙ r) (cases_eq m j)))
          (f.open_at k m h (sym (elsewhere k n) ∙ g) b))
          (cases_eq k j);
      before = λ k h g. ⊎_elim (λ e. subst (λ (q : ℕ). root_of reached q < count) (sym e) (omega (arith, at_j))) (λ n. omega (arith, elsewhere k n, f.before k h g)) (cases_eq k j);
      waits = All-push (λ (k : ℕ). (k < count) × (root_of reached k ≡ number)) (i ∷ waiting) j
          (All-weaker (λ (k : ℕ). (k < count) × (root_of roots k ≡ number)) (λ (k : ℕ). (k < count) × (root_of reached k ≡ number))
          (λ k g. let n : k ≢ j = λ e. absurd (let q : root_of roots k ≡ count = subst (λ (q : ℕ). root_of roots q ≡ count) (sym e) new in omega (arith, g.1)) in (g.0, elsewhere k n ∙ g.1))
          (i ∷ waiting) f.waits)
          (l, at_j);
    }

  -- all neighbours of a monomer are found: it waits no more
  pub IsSpreading-done : (roots waiting : List ℕ) (i : ℕ) → AreMutual count bonds → IsSpreading bonds count number roots (i ∷ waiting)
      → ((j : ℕ) → are_bonded bonds i j ≡ true → root_of roots j < count) → IsSpreading bonds count number roots waiting
  IsSpreading-done roots waiting i bonded f found =
      let own : (i < count) × (root_of roots i ≡ number) = All-head (λ (k : ℕ). (k < count) × (root_of roots k ≡ number)) i waiting f.waits in
      let same : (j : ℕ) → are_bonded bonds i j ≡ true → root_of roots j ≡ number =
      λ j b.
      let there : j < count = bonded.others i j b in
      ⊎_elim
      (λ h. absurd (let q = f.closed j i there h (bonded.both i j b) in omega (arith, own.1)))
      (λ h. omega (arith, f.limit j (there, found j b)))
      (cases_lt (root_of roots j) number) in
      record {
        found = f.found;
        limit = f.limit;
        closed = f.closed;
        open_at = λ k m l h b.
            ⊎_elim
            (λ w. ⊎_elim (λ e. inr (same m (subst (λ (q : ℕ). are_bonded bonds q m ≡ true) (sym e) b))) (λ q. inl q) (Contains-cons_cases i waiting k w))
            (λ r. inr r)
            (f.open_at k m l h b);
        before = f.before;
        waits = All-tail (λ (k : ℕ). (k < count) × (root_of roots k ≡ number)) i waiting f.waits;
      }

-- where all of a list are found, so is each member
pub reached_by : (count : ℕ) (roots row : List ℕ) (j : ℕ) → Contains row j → ((k : ℕ) → k < length row → root_of roots (get_or row k 0) < count) → root_of roots j < count
reached_by count roots row j h all =
    subst (λ (q : ℕ). root_of roots q < count) (get_or_default row h.0 0 j h.1 ∙ h.2) (all h.0 h.1)

-- what is found stays found
pub found_after : (count : ℕ) (roots : List ℕ) (j number k : ℕ) → number < count → j < length roots → root_of roots k < count → root_of (set roots j number) k < count
found_after count roots j number k s l h =
    ⊎_elim
    (λ e. subst (λ (q : ℕ). root_of (set roots j number) q < count) (sym e) (omega (arith, get_or-set_same roots j number 0 l)))
    (λ n. omega (arith, get_or-set_other roots j k number 0 n))
    (cases_eq k j)

-- one neighbour more is found: only now, or before
pub reached_more : (count number i : ℕ) (roots row items : List ℕ) → items ≡ row → number < count → get_or items i 0 < length roots
    → ((k : ℕ) → k < i → root_of roots (get_or row k 0) < count) → (k : ℕ) → k < i + 1 → root_of (set roots (get_or items i 0) number) (get_or row k 0) < count
reached_more count number i roots row items e s l before =
    below_more _ _
    (λ k h. found_after count roots (get_or items i 0) number (get_or row k 0) s l (before k h))
    (subst (λ (xs : List ℕ). root_of (set roots (get_or items i 0) number) (get_or xs i 0) < count) e (omega (arith, get_or-set_same roots (get_or items i 0) number 0 l)))

pub reached_still : (count i : ℕ) (roots row items : List ℕ) → items ≡ row → root_of roots (get_or items i 0) < count
    → ((k : ℕ) → k < i → root_of roots (get_or row k 0) < count) → (k : ℕ) → k < i + 1 → root_of roots (get_or row k 0) < count
reached_still count i roots row items e l before =
    below_more _ _ before (subst (λ (xs : List ℕ). root_of roots (get_or xs i 0) < count) e l)
