-- The positions that the identifiers of a frame line lead to.
use Rattle.std.proofs.Common.{◌≡◌, ℕ, zero, suc, ◌+◌, ◌*◌, ◌<◌, ◌≤◌, Bool, true, false, List, [], ◌∷◌, ◌++◌, length, length-append, ◌-◌, refl, ap, sym, ◌∙◌, subst, arith, ℤ, pos, ◌+ℤ◌, ◌-ℤ◌, nat_abs, Option, None, Some, is_some, IsSome, IsTrue, IfSome, unwrap_or}
use Rattle.std.specs.List.{list_all, Contains}
use Rattle.std.proofs.lemmas.List.{get_or-append_right}
use Rattle.std.proofs.lemmas.Int.{ints}
use Rattle.std.proofs.lemmas.List.Elements.{All-contains}
use Rattle.bfm_base.specs.declared.place.P3.{P3}
use Rattle.bfm_base.specs.declared.place.Shape.{Shape}
use Rattle.bfm_base.specs.Place.{extent_of}
use Rattle.bfm_geom.specs.Difference.{IsBox, side_of, is_periodic, plus, minus, wrapped, wrapped_along}
use Rattle.bfm_geom.proofs.DifferenceLemmas.{wrapped_along-near, P3-same, extent_of-plus}
use Rattle.bond_set.specs.BondSet.{IsBondSet, vectors_of, id_of, vector_of, is_bond_vector}
use Rattle.bond_set.proofs.ListLemmas.{Contains-map}
use Rattle.bond_set.proofs.PairLemmas.{id_of-present, vector_of-pair, extent_of-bond_vector}
use Rattle.bfm_world.specs.Configuration.{may_bond, position_at, reach_of}
use Rattle.bfm_world.proofs.BondLemmas.{and_left, and_right}
use Rattle.bfm_world.proofs.ReachLemmas.{reach_of-append}
use Rattle.bfm_commands.specs.History.{walk, string_positions}

abbrev zero_place : P3
zero_place = record { x = pos 0; y = pos 0; z = pos 0 }

-- a vector that an identifier stands for
in_set : (set : List (P3 × ℕ)) (id : ℕ) (v : P3) → vector_of set id ≡ Some v → Contains (vectors_of set) v
in_set set id v e = Contains-map (λ (pair : P3 × ℕ). pair.0) set (v, id) (subst (λ o. IfSome o (λ u. Contains set (u, id))) e (vector_of-pair set id))

small_in_set : (set : List (P3 × ℕ)) (v : P3) → IsBondSet set → Contains (vectors_of set) v → extent_of v ≤ 3
small_in_set set v s h = extent_of-bond_vector v (All-contains (λ w. IsTrue (is_bond_vector w)) (vectors_of set) v s.vectors h)

-- where it leads, known or not, is near
small_vector : (set : List (P3 × ℕ)) (id : ℕ) (o : Option P3) → IsBondSet set → vector_of set id ≡ o → extent_of (unwrap_or o zero_place) ≤ 3
small_vector set id None s e = omega arith
small_vector set id (Some v) s e = small_in_set set v s (in_set set id v e)

pub reach_of-walk : (set : List (P3 × ℕ)) (p : P3) (ids : List ℕ) → IsBondSet set → reach_of (walk set p ids) ≤ extent_of p + 3 * length ids
reach_of-walk set p [] s = omega arith
reach_of-walk set p (id ∷ ids) s =
    let v : P3 = unwrap_or (vector_of set id) zero_place in
    let q : P3 = plus p v in
    let near : extent_of q ≤ extent_of p + extent_of v = extent_of-plus q p v refl in
    let short : extent_of v ≤ 3 = small_vector set id (vector_of set id) s refl in
    let rest : reach_of (walk set q ids) ≤ extent_of q + 3 * length ids = reach_of-walk set q ids s in
    omega arith

along : (periodic : Bool) (side : ℕ) (d v : ℤ) → 8 ≤ side → d ≡ v → nat_abs v ≤ 3 → wrapped_along periodic side d ≡ v
along false side d v l e h = e
along true side d v l e h = ap (wrapped_along true side) e ∙ wrapped_along-near side v (omega arith) (omega (arith, ints)) (omega (arith, ints))

-- the wrapped difference to where a short vector leads is the vector
wrapped-step : (shape : Shape) (p v : P3) → IsBox shape → extent_of v ≤ 3 → wrapped shape (minus (plus p v) p) ≡ v
wrapped-step shape p v box h =
    P3-same _ v
    (along (is_periodic shape 0) (side_of shape 0) ((p.x +ℤ v.x) -ℤ p.x) v.x box.sides.x.0 (omega (arith, ints)) (omega arith))
    (along (is_periodic shape 1) (side_of shape 1) ((p.y +ℤ v.y) -ℤ p.y) v.y box.sides.y.0 (omega (arith, ints)) (omega arith))
    (along (is_periodic shape 2) (side_of shape 2) ((p.z +ℤ v.z) -ℤ p.z) v.z box.sides.z.0 (omega (arith, ints)) (omega arith))

may_bond-step : (shape : Shape) (set : List (P3 × ℕ)) (p : P3) (id : ℕ) (o : Option P3) → IsBox shape → IsBondSet set → vector_of set id ≡ o → is_some o ≡ true → may_bond shape set p (plus p (unwrap_or o zero_place)) ≡ true
may_bond-step shape set p id None box s e h = absurd (cc)
may_bond-step shape set p id (Some v) box s e h =
    let inside : Contains (vectors_of set) v = in_set set id v e in
    subst (λ u. IsSome (id_of set u)) (sym (wrapped-step shape p v box (small_in_set set v s inside))) ((id_of-present set v).1 inside)

-- a bond may run from each of them to the next one
walk-steps : (shape : Shape) (set : List (P3 × ℕ)) (p : P3) (ids : List ℕ) → IsBox shape → IsBondSet set → list_all (λ id. is_some (vector_of set id)) ids ≡ true
    → (k : ℕ) → k < length ids → may_bond shape set (position_at (p ∷ walk set p ids) k) (position_at (p ∷ walk set p ids) (suc k)) ≡ true
walk-steps shape set p [] box s known k l = absurd (omega arith)
walk-steps shape set p (id ∷ ids) box s known zero l = may_bond-step shape set p id (vector_of set id) box s refl (and_left _ _ known)
walk-steps shape set p (id ∷ ids) box s known (suc k) l =
    walk-steps shape set (plus p (unwrap_or (vector_of set id) zero_place)) ids box s (and_right _ _ known) k (omega arith)

pub length-walk : (set : List (P3 × ℕ)) (p : P3) (ids : List ℕ) → length (walk set p ids) ≡ length ids
length-walk set p [] = refl
length-walk set p (id ∷ ids) = omega (arith, length-walk set (plus p (unwrap_or (vector_of set id) zero_place)) ids)

-- the same behind other positions
pub steps-behind : (shape : Shape) (set : List (P3 × ℕ)) (before ps : List P3) (line : P3 × List ℕ) → IsBox shape → IsBondSet set → list_all (λ id. is_some (vector_of set id)) line.1 ≡ true
    → ps ≡ before ++ string_positions set line → (k : ℕ) → length before ≤ k → k + 1 < length ps → may_bond shape set (position_at ps k) (position_at ps (k + 1)) ≡ true
steps-behind shape set before ps line box s known e k l m =
    let n = length before in
    let here : position_at ps k ≡ position_at (string_positions set line) (k - n) =
    ap (λ qs. position_at qs k) e ∙ get_or-append_right before (string_positions set line) n k zero_place refl l in
    let numbers : k + 1 - n ≡ suc (k - n) = omega arith in
    let next : position_at ps (k + 1) ≡ position_at (string_positions set line) (suc (k - n)) =
    ap (λ qs. position_at qs (k + 1)) e ∙ (get_or-append_right before (string_positions set line) n (k + 1) zero_place refl (omega arith) ∙ ap (position_at (string_positions set line)) numbers) in
    let inside : k - n < length line.1 = omega (arith, ap length e, length-append before (string_positions set line), length-walk set line.0 line.1) in
    subst (λ q. may_bond shape set q (position_at ps (k + 1)) ≡ true) (sym here)
    (subst (λ q. may_bond shape set (position_at (string_positions set line) (k - n)) q ≡ true) (sym next) (walk-steps shape set line.0 line.1 box s known (k - n) inside))

-- how far the positions of a line go
pub reach_of-behind : (set : List (P3 × ℕ)) (before ps : List P3) (line : P3 × List ℕ) (n : ℕ) → IsBondSet set → ps ≡ before ++ string_positions set line → reach_of before ≤ n
    → extent_of line.0 + 3 * length line.1 ≤ n → reach_of ps ≤ n
reach_of-behind set before ps line n s e h k =
    omega (arith, ap reach_of e, reach_of-append before (string_positions set line), reach_of-walk set line.0 line.1 s)
