-- A bond may run from one place to another exactly where it may run back.
use Rattle.std.proofs.Common.{◌≡◌, ℕ, ◌<◌, ◌≤◌, Bool, true, false, List, [], ◌∷◌, length, refl, ap, sym, ◌∙◌, subst, arith, ℤ, pos, neg_ℤ, ◌-ℤ◌, nat_abs, IsSome, IsTrue, nat_eq, zero, suc, ◌||◌, ◌++◌, ◌≢◌, inl, inr, length-append}
use Rattle.std.specs.List.{Contains}
use Rattle.std.specs.Prelude.{slice_get}
use Rattle.std.proofs.Math.ListN.{set as set_at}
use Rattle.std.proofs.Math.Seq.{get_or-append_seam}
use Rattle.std.proofs.lemmas.List.{get_or-set_same, get_or-set_other, length-set, get_or_append_left}
use Rattle.std.proofs.lemmas.Bool.Decides.{eqb_tells}
use Rattle.std.proofs.lemmas.Int.{ints}
use Rattle.std.proofs.lemmas.List.Elements.{All-contains}
use Rattle.bfm_base.specs.declared.place.P3.{P3}
use Rattle.bfm_base.specs.declared.place.Shape.{Shape}
use Rattle.bfm_base.specs.Place.{extent_of}
use Rattle.bfm_geom.specs.Difference.{IsBox, IsNearest, side_of, is_periodic, minus, wrapped, wrapped_along}
use Rattle.bfm_geom.proofs.DifferenceLemmas.{IsNearest-neg, IsWrappedAlong-unique, wrapped_along-is, P3-same}
use Rattle.bond_set.specs.BondSet.{IsBondSet, IsSymmetric, negative_of, vectors_of, id_of, is_bond_vector}
use Rattle.bond_set.proofs.PairLemmas.{id_of-present, extent_of-bond_vector}
use Rattle.bfm_world.specs.Bonds.{AreBonds, neighbours_of, are_bonded, with_bond}
use Rattle.bfm_world.specs.Configuration.{may_bond, may_reach, keeps_bonds, position_at, HasVectors}
use Rattle.bfm_world.proofs.BondLemmas.{has, test-eq, was_bonded, as_named, turned, and_left, and_right}

-- a small wrapped form, turned round, is that of the difference turned round
wrapped_along-turned : (periodic : Bool) (side : ℕ) (d e : ℤ) → 8 ≤ side → e ≡ neg_ℤ d → nat_abs (wrapped_along periodic side d) ≤ 3
    → wrapped_along periodic side e ≡ neg_ℤ (wrapped_along periodic side d)
wrapped_along-turned false side d e l is h = is
wrapped_along-turned true side d e l is h =
    let nearest : IsNearest side d (wrapped_along true side d) = wrapped_along-is true side d (omega arith) in
    ap (wrapped_along true side) is
    ∙ IsWrappedAlong-unique true side (neg_ℤ d) _ (neg_ℤ (wrapped_along true side d)) (wrapped_along-is true side (neg_ℤ d) (omega arith))
    (IsNearest-neg side d (wrapped_along true side d) nearest (omega (arith, ints)))

wrapped-turned : (shape : Shape) (p q : P3) → IsBox shape → extent_of (wrapped shape (minus q p)) ≤ 3 → wrapped shape (minus p q) ≡ negative_of (wrapped shape (minus q p))
wrapped-turned shape p q box h =
    P3-same _ _
    (wrapped_along-turned (is_periodic shape 0) (side_of shape 0) (q.x -ℤ p.x) (p.x -ℤ q.x) box.sides.x.0 (omega (arith, ints)) (omega arith))
    (wrapped_along-turned (is_periodic shape 1) (side_of shape 1) (q.y -ℤ p.y) (p.y -ℤ q.y) box.sides.y.0 (omega (arith, ints)) (omega arith))
    (wrapped_along-turned (is_periodic shape 2) (side_of shape 2) (q.z -ℤ p.z) (p.z -ℤ q.z) box.sides.z.0 (omega (arith, ints)) (omega arith))

-- the set is symmetric, so a bond may be turned round
pub may_bond-turned : (shape : Shape) (set : List (P3 × ℕ)) (p q : P3) → IsBox shape → IsBondSet set → IsSymmetric set → may_bond shape set p q ≡ true → may_bond shape set q p ≡ true
may_bond-turned shape set p q box bonds symmetric h =
    let v : P3 = wrapped shape (minus q p) in
    let inside : Contains (vectors_of set) v = (id_of-present set v).0 h in
    let small : extent_of v ≤ 3 = extent_of-bond_vector v (All-contains (λ w. IsTrue (is_bond_vector w)) (vectors_of set) v bonds.vectors inside) in
    let back : Contains (vectors_of set) (negative_of v) = All-contains (λ w. Contains (vectors_of set) (negative_of w)) (vectors_of set) v symmetric inside in
    subst (λ u. IsSome (id_of set u)) (sym (wrapped-turned shape p q box small)) ((id_of-present set (negative_of v)).1 back)

-- what a position that is there allows
pub may_reach-at : (shape : Shape) (set : List (P3 × ℕ)) (positions : List P3) (p : P3) (j : ℕ) → may_reach shape set p (slice_get positions j) ≡ true → j < length positions
    → may_bond shape set p (position_at positions j) ≡ true
may_reach-at shape set [] p j h l = absurd (omega arith)
may_reach-at shape set (q ∷ qs) p zero h l = h
may_reach-at shape set (q ∷ qs) p (suc j) h l = may_reach-at shape set qs p j h (omega arith)

-- from a place that keeps its bonds, each neighbour with a position may be reached
pub keeps_bonds-at : (shape : Shape) (set : List (P3 × ℕ)) (positions : List P3) (row : List ℕ) (p : P3) (j : ℕ) → keeps_bonds shape set positions row p ≡ true → has j row ≡ true
    → j < length positions → may_bond shape set p (position_at positions j) ≡ true
keeps_bonds-at shape set positions [] p j h b l = absurd (cc)
keeps_bonds-at shape set positions (k ∷ ks) p j h b l = by_test (keeps_bonds-at shape set positions ks p j (and_right _ _ h)) (nat_eq k j) refl b
  where
    by_test : (has j ks ≡ true → j < length positions → may_bond shape set p (position_at positions j) ≡ true) → (t : Bool) → nat_eq k j ≡ t → (t || has j ks) ≡ true
        → may_bond shape set p (position_at positions j) ≡ true
    by_test later true e b = may_reach-at shape set positions p j (subst (λ m. may_reach shape set p (slice_get positions m) ≡ true) (test-eq k j e) (and_left _ _ h)) l
    by_test later false e b = later b l

module _ (shape : Shape) (set : List (P3 × ℕ)) (box : IsBox shape) (bond_set : IsBondSet set) (symmetric : IsSymmetric set) where
  turned_round : (p q : P3) → may_bond shape set p q ≡ true → may_bond shape set q p ≡ true
  turned_round p q h = may_bond-turned shape set p q box bond_set symmetric h

  along : (a b c d : P3) → c ≡ a → d ≡ b → may_bond shape set a b ≡ true → may_bond shape set c d ≡ true
  along a b c d e f h = subst (λ x. may_bond shape set x d ≡ true) (sym e) (subst (λ x. may_bond shape set a x ≡ true) (sym f) h)

  -- one position more, from which the bonds of its monomer may run
  pub HasVectors-placed : (count : ℕ) (positions : List P3) (bonds : List (List ℕ)) (p : P3) → AreBonds count bonds → HasVectors shape set positions bonds
      → keeps_bonds shape set positions (neighbours_of bonds (length positions)) p ≡ true → HasVectors shape set (positions ++ p ∷ []) bonds
  HasVectors-placed count positions bonds p b v h i j li lj e =
      let n = length positions in
      let all : List P3 = positions ++ p ∷ [] in
      let end : (k : ℕ) → k ≡ n → position_at all k ≡ p = λ k q. ap (position_at all) q ∙ get_or-append_seam positions p [] (record { x = pos 0; y = pos 0; z = pos 0 }) in
      let front : (k : ℕ) → k < n → position_at all k ≡ position_at positions k = λ k q. get_or_append_left positions (p ∷ []) (record { x = pos 0; y = pos 0; z = pos 0 }) k q in
      let inside : (k : ℕ) → k < length all → k ≢ n → k < n = λ k q r. omega (arith, length-append positions (p ∷ [])) in
      elim (eqb_tells i n) [
        | inl a ↦ let l : j < n = inside j lj (λ q. (b.others i j e).1 (q ∙ sym a.1)) in
            along p (position_at positions j) _ _ (end i a.1) (front j l) (keeps_bonds-at shape set positions (neighbours_of bonds n) p j h (subst (λ x. are_bonded bonds x j ≡ true) a.1 e) l)
        | inr a ↦ elim (eqb_tells j n) [
          | inl c ↦ let l : i < n = inside i li a.1 in
              along (position_at positions i) p _ _ (front i l) (end j c.1)
              (turned_round p (position_at positions i) (keeps_bonds-at shape set positions (neighbours_of bonds n) p i h (subst (λ x. are_bonded bonds x i ≡ true) c.1 (b.both i j e)) l))
          | inr c ↦ along (position_at positions i) (position_at positions j) _ _ (front i (inside i li a.1)) (front j (inside j lj c.1)) (v i j (inside i li a.1) (inside j lj c.1) e)
        ]
      ]

  -- one position changed to another from which the bonds of its monomer may run
  pub HasVectors-moved : (count : ℕ) (positions : List P3) (bonds : List (List ℕ)) (i : ℕ) (p : P3) → AreBonds count bonds → HasVectors shape set positions bonds → i < length positions
      → keeps_bonds shape set positions (neighbours_of bonds i) p ≡ true → HasVectors shape set (set_at positions i p) bonds
  HasVectors-moved count positions bonds i p b v l h k m lk lm e =
      let all : List P3 = set_at positions i p in
      let here : (n : ℕ) → n ≡ i → position_at all n ≡ p = λ n q. ap (position_at all) q ∙ get_or-set_same positions i p (record { x = pos 0; y = pos 0; z = pos 0 }) l in
      let there : (n : ℕ) → n ≢ i → position_at all n ≡ position_at positions n = λ n q. get_or-set_other positions i n p (record { x = pos 0; y = pos 0; z = pos 0 }) q in
      let inside : (n : ℕ) → n < length all → n < length positions = λ n q. omega (arith, length-set positions i p) in
      elim (eqb_tells k i) [
        | inl a ↦ along p (position_at positions m) _ _ (here k a.1) (there m (λ q. (b.others k m e).1 (q ∙ sym a.1)))
            (keeps_bonds-at shape set positions (neighbours_of bonds i) p m h (subst (λ x. are_bonded bonds x m ≡ true) a.1 e) (inside m lm))
        | inr a ↦ elim (eqb_tells m i) [
          | inl c ↦ along (position_at positions k) p _ _ (there k a.1) (here m c.1)
              (turned_round p (position_at positions k) (keeps_bonds-at shape set positions (neighbours_of bonds i) p k h (subst (λ x. are_bonded bonds x k ≡ true) c.1 (b.both k m e)) (inside k lk)))
          | inr c ↦ along (position_at positions k) (position_at positions m) _ _ (there k a.1) (there m c.1) (v k m (inside k lk) (inside m lm) e)
        ]
      ]

  -- one bond more, which may run where both monomers have positions
  pub HasVectors-joined : (positions : List P3) (bonds : List (List ℕ)) (i j : ℕ) → HasVectors shape set positions bonds → i ≢ j → i < length bonds → j < length bonds
      → (i < length positions → j < length positions → may_bond shape set (position_at positions i) (position_at positions j) ≡ true)
      → HasVectors shape set positions (with_bond bonds i j)
  HasVectors-joined positions bonds i j v ne l m may k n lk ln e =
      elim (was_bonded bonds i j ne l m k n e) [
        | inl (as_named f g) ↦ rw (f, g) (may (omega arith) (omega arith))
        | inl (turned f g) ↦ rw (f, g) (turned_round (position_at positions i) (position_at positions j) (may (omega arith) (omega arith)))
        | inr f ↦ v k n lk ln f
      ]
