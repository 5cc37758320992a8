-- Bytes of steps, keys of vectors, and what the step of a monomer does to the vector of its bond.
use Rattle.std.proofs.Common.{◌≡◌, ℕ, zero, suc, ◌+◌, ◌*◌, ◌/◌, ◌%◌, ◌<◌, ◌≤◌, ◌⊎◌, inl, inr, Bool, true, false, ◌&&◌, eqb, min, nat_abs, ℤ, pos, negsuc, neg_ℤ, ◌+ℤ◌, ◌-ℤ◌, ◌*ℤ◌, ◌<ℤ◌, ◌≤ℤ◌, ◌≢◌, List, Some, unwrap_or, is_some, IsTrue, refl, sym, ap, subst, ◌∙◌, arith, bit_and}
use Rattle.std.specs.Prelude.{slice_get}
use Rattle.std.proofs.lemmas.Bool.{cases_eq, cases_lt}
use Rattle.std.proofs.lemmas.Int.{ints}
use Rattle.std.proofs.lemmas.Nat.Bits.{bit_at-lt, bit_at_and}
use Rattle.std.proofs.lemmas.List.Elements.{All-contains}
use Rattle.std.specs.Int.{bit_at}
use Rattle.bfm_base.specs.declared.place.Dir.{Dir}
use Rattle.bfm_base.specs.declared.place.Dir.TheVariants.{XUp, XDown, YUp, YDown, ZUp, ZDown}
use Rattle.bfm_base.specs.declared.place.P3.{P3}
use Rattle.bfm_base.specs.declared.place.Shape.{Shape}
use Rattle.bfm_base.specs.Direction.{directions, step_of}
use Rattle.bfm_base.specs.Place.{extent_of}
use Rattle.bfm_geom.specs.Difference.{IsBox, IsNearest, is_periodic, minus, plus, side_of, wrapped, wrapped_along}
use Rattle.bfm_geom.proofs.IntegerLemmas.{+ℤ-*ℤ, pos_one-*ℤ}
use Rattle.bfm_geom.proofs.DifferenceLemmas.{IsWrappedAlong-unique, P3-same, wrapped_along-is, wrapped_along-near}
use Rattle.bond_set.specs.BondSet.{IsBondSet, id_of, is_bond_vector, vectors_of}
use Rattle.bond_set.specs.Crossing.{direction_number}
use Rattle.bond_set.specs.FlatTables.{digit_of, key_of}
use Rattle.bond_set.proofs.PairLemmas.{extent_of-bond_vector, id_of-present}
use Rattle.bfm_world.specs.Configuration.{may_bond}
use Rattle.packed_engine.specs.Spots.{allows, vector_at}

-- ---- bytes of steps
-- what both bytes have
pub allows-and : (a b : ℕ) (dir : Dir) → allows (bit_and a b) dir ≡ (allows a dir && allows b dir)
allows-and a b dir =
    let k = direction_number dir in
    ap (λ n. eqb n 1) (bit_at_and a b k) ∙ both (bit_at a k) (bit_at b k) (bit_at-lt a k) (bit_at-lt b k)
  where
    both : (m n : ℕ) → m < 2 → n < 2 → eqb (min m n) 1 ≡ (eqb m 1 && eqb n 1)
    both zero zero h i = refl
    both zero (suc zero) h i = refl
    both (suc zero) zero h i = refl
    both (suc zero) (suc zero) h i = refl
    both (suc (suc m)) n h i = absurd (omega arith)
    both zero (suc (suc n)) h i = absurd (omega arith)
    both (suc zero) (suc (suc n)) h i = absurd (omega arith)

pub allows-all : (dir : Dir) → allows 63 dir ≡ true
allows-all XUp = refl
allows-all XDown = refl
allows-all YUp = refl
allows-all YDown = refl
allows-all ZUp = refl
allows-all ZDown = refl

pub allows-none : (dir : Dir) → allows 0 dir ≡ false
allows-none XUp = refl
allows-none XDown = refl
allows-none YUp = refl
allows-none YDown = refl
allows-none ZUp = refl
allows-none ZDown = refl

-- ---- the steps of a bond
-- whether the set has the vector after a step of the place where it begins
abbrev pub is_kept : List (P3 × ℕ) → P3 → Dir → Bool
is_kept set v dir = is_some (id_of set (minus v (step_of dir)))

-- the byte has the steps with numbers below n that keep the vector
pub record KeptSoFar (set : List (P3 × ℕ)) (v : P3) (n steps : ℕ) : Type 0 where
  pub done : (dir : Dir) → direction_number dir < n → allows steps dir ≡ is_kept set v dir
  pub later : (dir : Dir) → n ≤ direction_number dir → allows steps dir ≡ false

numbered : (dir : Dir) → slice_get directions (direction_number dir) ≡ Some dir
numbered XUp = refl
numbered XDown = refl
numbered YUp = refl
numbered YDown = refl
numbered ZUp = refl
numbered ZDown = refl

number_small : (dir : Dir) → direction_number dir < 6
number_small XUp = omega arith
number_small XDown = omega arith
number_small YUp = omega arith
number_small YDown = omega arith
number_small ZUp = omega arith
number_small ZDown = omega arith

-- the number of the direction in that place
pub numbered_at : (n : ℕ) (at : Dir) → slice_get directions n ≡ Some at → direction_number at ≡ n
numbered_at zero at h = ap (λ o. direction_number (unwrap_or o XUp)) (sym h)
numbered_at (suc zero) at h = ap (λ o. direction_number (unwrap_or o XUp)) (sym h)
numbered_at (suc (suc zero)) at h = ap (λ o. direction_number (unwrap_or o XUp)) (sym h)
numbered_at (suc (suc (suc zero))) at h = ap (λ o. direction_number (unwrap_or o XUp)) (sym h)
numbered_at (suc (suc (suc (suc zero)))) at h = ap (λ o. direction_number (unwrap_or o XUp)) (sym h)
numbered_at (suc (suc (suc (suc (suc zero))))) at h = ap (λ o. direction_number (unwrap_or o XUp)) (sym h)
numbered_at (suc (suc (suc (suc (suc (suc n)))))) at h = absurd (cc)

direction-unique : (n : ℕ) (at dir : Dir) → slice_get directions n ≡ Some at → direction_number dir ≡ n → dir ≡ at
direction-unique n at dir h e = ap (λ o. unwrap_or o dir) (sym (numbered dir) ∙ ap (slice_get directions) e ∙ h)

pub KeptSoFar-none : (set : List (P3 × ℕ)) (v : P3) → KeptSoFar set v 0 0
KeptSoFar-none set v = record { done = λ dir l. absurd (omega arith); later = λ dir l. allows-none dir }

pub KeptSoFar-more : (set : List (P3 × ℕ)) (v : P3) (n steps new : ℕ) (at : Dir) → slice_get directions n ≡ Some at → KeptSoFar set v n steps
    → allows new at ≡ is_kept set v at → ((other : Dir) → direction_number other ≢ direction_number at → allows new other ≡ allows steps other) → KeptSoFar set v (n + 1) new
KeptSoFar-more set v n steps new at here kept own others = record {
  done = λ dir l. elim (cases_eq (direction_number dir) n) [
    | inl same ↦ subst (λ (d : Dir). allows new d ≡ is_kept set v d) (sym (direction-unique n at dir here same)) own
    | inr other ↦ others dir (λ e. other (e ∙ number_at)) ∙ kept.done dir (omega (arith, l, other))
  ];
  later = λ dir l. others dir (λ e. absurd (omega (arith, l, e, number_at))) ∙ kept.later dir (omega (arith, l));
}
  where
    number_at : direction_number at ≡ n
    number_at = numbered_at n at here

pub KeptSoFar-all : (set : List (P3 × ℕ)) (v : P3) (n steps : ℕ) → 6 ≤ n → KeptSoFar set v n steps → (dir : Dir) → allows steps dir ≡ is_kept set v dir
KeptSoFar-all set v n steps l kept dir = kept.done dir (omega (arith, l, number_small dir))

-- ---- keys
digit : (z : ℤ) → nat_abs z ≤ 3 → (digit_of z < 8) × (pos (digit_of z) ≡ z +ℤ pos 3)
digit (pos zero) h = (omega arith, refl)
digit (pos (suc zero)) h = (omega arith, refl)
digit (pos (suc (suc zero))) h = (omega arith, refl)
digit (pos (suc (suc (suc zero)))) h = (omega arith, refl)
digit (pos (suc (suc (suc (suc n))))) h = absurd (omega arith)
digit (negsuc zero) h = (omega arith, refl)
digit (negsuc (suc zero)) h = (omega arith, refl)
digit (negsuc (suc (suc zero))) h = (omega arith, refl)
digit (negsuc (suc (suc (suc n)))) h = absurd (omega arith)

parts : (a b c : ℕ) → a < 8 → b < 8 → c < 8 → ((64 * a + 8 * b + c) / 64 ≡ a) × ((64 * a + 8 * b + c) / 8 % 8 ≡ b) × ((64 * a + 8 * b + c) % 8 ≡ c)
parts a b c h i j = (omega arith, omega arith, omega arith)

-- keys are below the length of the table
pub key-within : (v : P3) → key_of v < 512
key-within v = omega (arith, below v.x, below v.y, below v.z)
  where
    below : (z : ℤ) → digit_of z < 8
    below (pos zero) = omega arith
    below (pos (suc zero)) = omega arith
    below (pos (suc (suc zero))) = omega arith
    below (pos (suc (suc (suc zero)))) = omega arith
    below (pos (suc (suc (suc (suc n))))) = omega arith
    below (negsuc zero) = omega arith
    below (negsuc (suc zero)) = omega arith
    below (negsuc (suc (suc zero))) = omega arith
    below (negsuc (suc (suc (suc n)))) = omega arith

-- and the key of a short vector gives it back
pub vector_at-key : (v : P3) → extent_of v ≤ 3 → vector_at (key_of v) ≡ v
vector_at-key v h =
    let x = digit v.x (omega arith) in
    let y = digit v.y (omega arith) in
    let z = digit v.z (omega arith) in
    let p = parts (digit_of v.x) (digit_of v.y) (digit_of v.z) x.0 y.0 z.0 in
    P3-same (vector_at (key_of v)) v (component _ _ _ p.0 x.1) (component _ _ _ p.1 y.1) (component _ _ _ p.2 z.1)
  where
    component : (n d : ℕ) (c : ℤ) → n ≡ d → pos d ≡ c +ℤ pos 3 → pos n -ℤ pos 3 ≡ c
    component n d c e f = omega (arith, ints, e, f)

-- ---- bonds
-- a number that differs from e by whole sides and is nearest
nearest : (side : ℕ) (e z k : ℤ) → 0 < side → z ≡ e +ℤ k *ℤ pos side → neg_ℤ (pos side) <ℤ (pos 2 *ℤ z) → (pos 2 *ℤ z) ≤ℤ pos side → wrapped_along true side e ≡ z
nearest side e z k l turns above below =
    IsWrappedAlong-unique true side e _ z (wrapped_along-is true side e l) (record { turns = (k, turns); above = above; below = below })

-- Where a short wrapped difference d becomes e by a unit step s of the place at which it begins, that of e is as long as the
-- plain one, and the same where this is short.
pub record Follows (w s v : ℤ) : Type 0 where
  pub long : nat_abs v ≡ nat_abs (w -ℤ s)
  pub short : nat_abs (w -ℤ s) ≤ 3 → v ≡ w -ℤ s

same-follows : (w s v : ℤ) → v ≡ w -ℤ s → Follows w s v
same-follows w s v e = record { long = ap nat_abs e; short = λ _. e }

wrapped_along-before : (periodic : Bool) (side : ℕ) (d e s : ℤ) → 8 ≤ side → e ≡ d -ℤ s → nat_abs (wrapped_along periodic side d) ≤ 3 → nat_abs s ≤ 1
    → Follows (wrapped_along periodic side d) s (wrapped_along periodic side e)
wrapped_along-before false side d e s l is h t = same-follows d s e is
wrapped_along-before true side d e s l is h t =
    let n : IsNearest side d w = wrapped_along-is true side d (omega (arith, l)) in
    let turned : w -ℤ s ≡ e +ℤ n.turns.0 *ℤ pos side = omega (arith, ints, n.turns.1, is) in
    elim (cases_lt 8 side) [
      | inl wide ↦ near n.turns.0 turned (omega (arith, ints, wide, h, t))
      | inr narrow ↦ elim (cases_lt (nat_abs (w -ℤ s)) 4) [
        | inl less ↦ near n.turns.0 turned (omega (arith, ints, l, less))
        | inr more ↦ elim (four (w -ℤ s) (omega (arith, ints, h, t, more))) [
          | inl up ↦ near n.turns.0 turned (omega (arith, ints, l, up))
          | inr down ↦
              let turns = n.turns.0 +ℤ pos 1 in
              let next : (w -ℤ s) +ℤ pos side ≡ e +ℤ turns *ℤ pos side = omega (arith, ints, turned, +ℤ-*ℤ n.turns.0 (pos 1) (pos side), pos_one-*ℤ (pos side)) in
              let v : wrapped_along true side e ≡ (w -ℤ s) +ℤ pos side =
              nearest side e ((w -ℤ s) +ℤ pos side) turns (omega (arith, l)) next (omega (arith, ints, down, l, narrow)) (omega (arith, ints, down, l, narrow)) in
              record { long = omega (arith, ints, v, down, l, narrow); short = λ short. absurd (omega (arith, more, short)) }
        ]
      ]
    ]
  where
    w : ℤ
    w = wrapped_along true side d

    near : (k : ℤ) → w -ℤ s ≡ e +ℤ k *ℤ pos side → neg_ℤ (pos side) <ℤ (pos 2 *ℤ (w -ℤ s)) → Follows w s (wrapped_along true side e)
    near k turned above = same-follows w s _ (nearest side e (w -ℤ s) k (omega (arith, l)) turned above (omega (arith, ints, l, h, t)))

    four : (z : ℤ) → nat_abs z ≡ 4 → (z ≡ pos 4) ⊎ (z ≡ negsuc 3)
    four (pos n) e = inl (ap pos e)
    four (negsuc n) e = inr (omega (arith, ints, e))

-- no vector of a set is long
id_of-long : (set : List (P3 × ℕ)) (v : P3) → IsBondSet set → 4 ≤ extent_of v → is_some (id_of set v) ≡ false
id_of-long set v rules far = by (is_some (id_of set v)) refl
  where
    by : (b : Bool) → is_some (id_of set v) ≡ b → b ≡ false
    by false e = refl
    by true e =
        let short : extent_of v ≤ 3 = extent_of-bond_vector v (All-contains (λ u. IsTrue (is_bond_vector u)) (vectors_of set) v rules.vectors ((id_of-present set v).0 e)) in
        absurd (omega (arith, far, short))

-- a vector of a set is short
pub short-vector : (set : List (P3 × ℕ)) (v : P3) → IsBondSet set → is_some (id_of set v) ≡ true → extent_of v ≤ 3
short-vector set v rules e = extent_of-bond_vector v (All-contains (λ u. IsTrue (is_bond_vector u)) (vectors_of set) v rules.vectors ((id_of-present set v).0 e))

pub step_short : (dir : Dir) → extent_of (step_of dir) ≤ 1
step_short XUp = omega arith
step_short XDown = omega arith
step_short YUp = omega arith
step_short YDown = omega arith
step_short ZUp = omega arith
step_short ZDown = omega arith

-- from the place one step away, a short bond may run where the set has its vector less the step
pub may_bond-before : (shape : Shape) (set : List (P3 × ℕ)) (p q : P3) (dir : Dir) → IsBox shape → IsBondSet set → extent_of (wrapped shape (minus q p)) ≤ 3
    → may_bond shape set (plus p (step_of dir)) q ≡ is_some (id_of set (minus (wrapped shape (minus q p)) (step_of dir)))
may_bond-before shape set p q dir box rules h =
    let s = step_of dir in
    let t = step_short dir in
    let w = wrapped shape (minus q p) in
    let v = wrapped shape (minus q (plus p s)) in
    let x : Follows w.x s.x v.x =
    wrapped_along-before (is_periodic shape 0) (side_of shape 0) (q.x -ℤ p.x) (q.x -ℤ (p.x +ℤ s.x)) s.x box.sides.x.0 (omega (arith, ints)) (omega (arith, h)) (omega (arith, t)) in
    let y : Follows w.y s.y v.y =
    wrapped_along-before (is_periodic shape 1) (side_of shape 1) (q.y -ℤ p.y) (q.y -ℤ (p.y +ℤ s.y)) s.y box.sides.y.0 (omega (arith, ints)) (omega (arith, h)) (omega (arith, t)) in
    let z : Follows w.z s.z v.z =
    wrapped_along-before (is_periodic shape 2) (side_of shape 2) (q.z -ℤ p.z) (q.z -ℤ (p.z +ℤ s.z)) s.z box.sides.z.0 (omega (arith, ints)) (omega (arith, h)) (omega (arith, t)) in
    let u = minus w s in
    elim (cases_lt (extent_of u) 4) [
      | inl near ↦ ap (λ a. is_some (id_of set a)) (P3-same v u (x.short (omega (arith, near))) (y.short (omega (arith, near))) (z.short (omega (arith, near))))
      | inr far ↦ id_of-long set v rules (omega (arith, far, x.long, y.long, z.long)) ∙ sym (id_of-long set u rules far)
    ]

-- ---- wrapping by comparisons
-- a difference that is far below is wrapped up by one side, and one that is near is not wrapped
pub wrapped_along-low : (periodic : Bool) (side : ℕ) (d r : ℤ) → periodic ≡ true → 0 < side → neg_ℤ (pos side) <ℤ d → (pos 2 *ℤ d) ≤ℤ neg_ℤ (pos side) → r ≡ d +ℤ pos side
    → r ≡ wrapped_along periodic side d
wrapped_along-low false side d r p l h k e = absurd (cc)
wrapped_along-low true side d r p l h k e =
    e ∙ sym (nearest side d (d +ℤ pos side) (pos 1) l (omega (arith, ints, pos_one-*ℤ (pos side))) (omega (arith, ints, l, h, k)) (omega (arith, ints, l, h, k)))

pub wrapped_along-plain : (periodic : Bool) (side : ℕ) (d r : ℤ) → periodic ≡ true → 0 < side → neg_ℤ (pos side) <ℤ (pos 2 *ℤ d) → (pos 2 *ℤ d) ≤ℤ pos side → r ≡ d
    → r ≡ wrapped_along periodic side d
wrapped_along-plain false side d r p l h k e = absurd (cc)
wrapped_along-plain true side d r p l h k e = e ∙ sym (wrapped_along-near side d l h k)
