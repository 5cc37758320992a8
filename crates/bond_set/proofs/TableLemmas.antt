-- The flat tables of a set: what stands in them, and what changes with one more pair.
use Rattle.std.proofs.Common.{◌≡◌, ◌≢◌, ℕ, zero, suc, ◌+◌, ◌-◌, ◌*◌, ◌<◌, ◌≤◌, ℤ, pos, negsuc, ◌+ℤ◌, nat_abs, Bool, true, false, cond, nat_eq, List, [], ◌∷◌, ◌++◌, length, set, replicate, slice_get, get_or, Option, None, Some, unwrap_or, IsTrue, Contains, refl, sym, ap, subst, ◌∙◌, inl, inr, arith}
use Rattle.std.proofs.lemmas.Bool.{cases_eq, cases_lt}
use Rattle.std.proofs.lemmas.Cmp.{nat_eq_equiv}
use Rattle.std.proofs.lemmas.Int.{ints}
use Rattle.std.proofs.lemmas.List.{get_or-set_same, get_or-set_other, get_or-replicate, get_or_past, length-map, length-replicate, length_push, map_push}
use Rattle.std.proofs.lemmas.List.Elements.{All-contains}
use Rattle.std.proofs.lemmas.Map.Views.{exact_unsigned_eq}
use Rattle.std.specs.Cmp.{IsEquivalence}
use Rattle.std.specs.Map.{lookup}
use Rattle.bfm_base.specs.declared.place.P3.{P3}
use Rattle.bfm_base.specs.Place.{extent_of}
use Rattle.bond_set.specs.BondSet.{IsBondSet, same_vector, is_identifier, flipped, id_of, ids_of, vector_of, vectors_of}
use Rattle.bond_set.specs.FlatTables.{AreTables, digit_of, key_of, vector_before}
use Rattle.bond_set.proofs.ListLemmas.{Contains-map}
use Rattle.bond_set.proofs.PairLemmas.{IsNew, id_of-pair, same_from_same_vector, same_vector-equiv, extent_of-bond_vector, flipped-push}

-- ---- keys
digit-below : (z : ℤ) → digit_of z < 8
digit-below (pos zero) = omega arith
digit-below (pos (suc zero)) = omega arith
digit-below (pos (suc (suc zero))) = omega arith
digit-below (pos (suc (suc (suc zero)))) = omega arith
digit-below (pos (suc (suc (suc (suc n))))) = omega arith
digit-below (negsuc zero) = omega arith
digit-below (negsuc (suc zero)) = omega arith
digit-below (negsuc (suc (suc zero))) = omega arith
digit-below (negsuc (suc (suc (suc n)))) = omega arith

-- a digit below 7 gives its component back
component-digit : (z : ℤ) → digit_of z < 7 → pos (digit_of z) ≡ z +ℤ pos 3
component-digit (pos zero) h = refl
component-digit (pos (suc zero)) h = refl
component-digit (pos (suc (suc zero))) h = refl
component-digit (pos (suc (suc (suc zero)))) h = refl
component-digit (pos (suc (suc (suc (suc n))))) h = absurd (omega arith)
component-digit (negsuc zero) h = refl
component-digit (negsuc (suc zero)) h = refl
component-digit (negsuc (suc (suc zero))) h = refl
component-digit (negsuc (suc (suc (suc n)))) h = absurd (omega arith)

-- and a component of -3 to 3 has such a digit
digit-near : (z : ℤ) → nat_abs z ≤ 3 → digit_of z < 7
digit-near (pos zero) h = omega arith
digit-near (pos (suc zero)) h = omega arith
digit-near (pos (suc (suc zero))) h = omega arith
digit-near (pos (suc (suc (suc zero)))) h = omega arith
digit-near (pos (suc (suc (suc (suc n))))) h = absurd (omega arith)
digit-near (negsuc zero) h = omega arith
digit-near (negsuc (suc zero)) h = omega arith
digit-near (negsuc (suc (suc zero))) h = omega arith
digit-near (negsuc (suc (suc (suc n)))) h = absurd (omega arith)

digit-same : (a b : ℤ) → nat_abs a ≤ 3 → digit_of b ≡ digit_of a → b ≡ a
digit-same a b h e =
    let near = digit-near a h in
    let ea = component-digit a near in
    let eb = component-digit b (subst (λ n. n < 7) (sym e) near) in
    cancel a b (sym eb ∙ ap pos e ∙ ea)
  where
    cancel : (a b : ℤ) → b +ℤ pos 3 ≡ a +ℤ pos 3 → b ≡ a
    cancel a b e = omega (arith, ints)

-- no other vector has the key of a vector that reaches 3 at most
pub key-same : (v w : P3) → extent_of v ≤ 3 → key_of w ≡ key_of v → w ≡ v
key-same v w h e =
    let digits = apart (digit_of w.x) (digit_of w.y) (digit_of w.z) (digit_of v.x) (digit_of v.y) (digit_of v.z)
    (digit-below w.x) (digit-below w.y) (digit-below w.z) (digit-below v.x) (digit-below v.y) (digit-below v.z) e in
    let x = digit-same v.x w.x (omega arith) digits.0 in
    let y = digit-same v.y w.y (omega arith) digits.1 in
    let z = digit-same v.z w.z (omega arith) digits.2 in
    λ i. record { x = x i; y = y i; z = z i }
  where
    apart : (a b c d e f : ℕ) → a < 8 → b < 8 → c < 8 → d < 8 → e < 8 → f < 8 → 64 * a + 8 * b + c ≡ 64 * d + 8 * e + f → (a ≡ d) × (b ≡ e) × (c ≡ f)
    apart a b c d e f ha hb hc hd he hf h = (omega arith, omega arith, omega arith)

-- ---- look-ups in a list with one more pair
lookup-push_same : {K X : Type 0} (t : K → Bool) (es : List (K × X)) (k : K) (x : X) → t k ≡ true → lookup t es ≡ None → lookup t (es ++ (k, x) ∷ []) ≡ Some x
lookup-push_same t [] k x h none = ap (λ b. cond b (Some x) None) h
lookup-push_same t (e ∷ es) k x h none = by (t e.0) refl (lookup-push_same t es k x h)
  where
    by : (b : Bool) → t e.0 ≡ b → (lookup t es ≡ None → lookup t (es ++ (k, x) ∷ []) ≡ Some x) → lookup t ((e ∷ es) ++ (k, x) ∷ []) ≡ Some x
    by true te rest = absurd (let some : Some e.1 ≡ None = rw te at none in cc)
    by false te rest = rw te (rest (rw te at none))

lookup-push_other : {K X : Type 0} (t : K → Bool) (es : List (K × X)) (k : K) (x : X) → t k ≡ false → lookup t (es ++ (k, x) ∷ []) ≡ lookup t es
lookup-push_other t [] k x h = ap (λ b. cond b (Some x) None) h
lookup-push_other t (e ∷ es) k x h = ap (λ o. cond (t e.0) (Some e.1) o) (lookup-push_other t es k x h)

-- ---- vectors by place
vector_before-push : (vs : List P3) (v : P3) (n : ℕ) → n ≤ length vs → vector_before (vs ++ v ∷ []) n ≡ vector_before vs n
vector_before-push vs v zero h = refl
vector_before-push [] v (suc n) h = absurd (omega arith)
vector_before-push (w ∷ vs) v (suc zero) h = refl
vector_before-push (w ∷ vs) v (suc (suc n)) h = vector_before-push vs v (suc n) (omega arith)

slice_get-push : (vs : List P3) (v : P3) → slice_get (vs ++ v ∷ []) (length vs) ≡ Some v
slice_get-push [] v = refl
slice_get-push (w ∷ vs) v = slice_get-push vs v

vector_before-last : (vs : List P3) (v : P3) (n : ℕ) → n ≡ length vs + 1 → vector_before (vs ++ v ∷ []) n ≡ Some v
vector_before-last vs v zero h = absurd (omega arith)
vector_before-last vs v (suc n) h = subst (λ k. slice_get (vs ++ v ∷ []) k ≡ Some v) (omega arith) (slice_get-push vs v)

-- ---- the tables
get_or-zeros : (n i : ℕ) → get_or {A = ℕ} (replicate n 0) i 0 ≡ 0
get_or-zeros n i =
    elim (cases_lt i n) [
      | inl within ↦ get_or-replicate n i 0 0 within
      | inr past ↦ get_or_past (replicate n 0) i 0 (omega (arith, length-replicate {A = ℕ} n 0))
    ]

-- tables of zeros hold nothing of the empty set
pub AreTables-none : (m n : ℕ) → AreTables [] (replicate m 0) (replicate n 0)
AreTables-none m n = record {
  ids = λ v. get_or-zeros m (key_of v);
  vectors = λ id. ap (vector_before []) (get_or-zeros n id);
  within = λ id. omega (arith, get_or-zeros n id);
}

-- one more pair changes one entry of each table
pub AreTables-push : (pairs : List (P3 × ℕ)) (near places : List ℕ) (v : P3) (id : ℕ) → IsNew pairs v id → key_of v < length near → id < length places → AreTables pairs near places
    → AreTables (pairs ++ (v, id) ∷ []) (set near (key_of v) id) (set places id (length pairs + 1))
AreTables-push pairs near places v id new room room' tables =
    let more = pairs ++ (v, id) ∷ [] in
    let vectors : vectors_of more ≡ vectors_of pairs ++ v ∷ [] = map_push _ pairs (v, id) in
    let count : length (vectors_of pairs) ≡ length pairs = length-map pairs (λ e. e.0) in
    let longer : length more ≡ length pairs + 1 = length_push pairs (v, id) in
    record {
      ids = λ w. elim (cases_eq (key_of w) (key_of v)) [
        | inl same ↦
            let e : w ≡ v = key-same v w (extent_of-bond_vector v new.vector) same in
            let there : id_of more w ≡ Some id =
            subst (λ u. id_of more u ≡ Some id) (sym e) (lookup-push_same (same_vector v) pairs v id (IsEquivalence.refl same_vector-equiv v) new.no_vector) in
            rw (same, there) (get_or-set_same near (key_of v) id 0 room)
        | inr other ↦
            get_or-set_other near (key_of v) (key_of w) id 0 other ∙ tables.ids w ∙ ap (λ o. unwrap_or o 0) (sym (absent w other))
      ];
      vectors = λ n. elim (cases_eq n id) [
        | inl same ↦
            let there : vector_of more id ≡ Some v =
            ap (lookup (nat_eq id)) (flipped-push pairs v id) ∙ lookup-push_same (nat_eq id) (flipped pairs) id v (IsEquivalence.refl nat_eq_equiv id) new.no_id in
            rw (same, there, vectors) (vector_before-last (vectors_of pairs) v _ (omega (arith, count, get_or-set_same places id (length pairs + 1) 0 room')))
        | inr other ↦
            let unchanged = get_or-set_other places id n (length pairs + 1) 0 other in
            let absent_id : vector_of more n ≡ vector_of pairs n =
            ap (lookup (nat_eq n)) (flipped-push pairs v id) ∙ lookup-push_other (nat_eq n) (flipped pairs) id v (differ n id other) in
            rw (unchanged, absent_id, vectors) (vector_before-push (vectors_of pairs) v _ (omega (arith, count, tables.within n)) ∙ tables.vectors n)
      ];
      within = λ n. elim (cases_eq n id) [
        | inl same ↦ rw same (omega (arith, get_or-set_same places id (length pairs + 1) 0 room'))
        | inr other ↦ omega (arith, get_or-set_other places id n (length pairs + 1) 0 other, tables.within n)
      ];
    }
  where
    differ : (n m : ℕ) → n ≢ m → nat_eq n m ≡ false
    differ n m h = by (nat_eq n m) refl
      where
        by : (b : Bool) → nat_eq n m ≡ b → b ≡ false
        by true e = absurd (h (exact_unsigned_eq n m e))
        by false e = refl

    absent : (w : P3) → key_of w ≢ key_of v → id_of (pairs ++ (v, id) ∷ []) w ≡ id_of pairs w
    absent w other = lookup-push_other (same_vector w) pairs v id (by (same_vector w v) refl)
      where
        by : (b : Bool) → same_vector w v ≡ b → b ≡ false
        by true e = absurd (other (ap key_of (same_from_same_vector w v e)))
        by false e = refl

-- ---- what the tables tell
-- no identifier is 0
pub id_of-zero : (pairs : List (P3 × ℕ)) (near places : List ℕ) (v : P3) → IsBondSet pairs → AreTables pairs near places → get_or near (key_of v) 0 ≡ 0 → id_of pairs v ≡ None
id_of-zero pairs near places v rules tables h = by (id_of pairs v) refl
  where
    no_identifier : IsTrue (is_identifier (pos 0)) → ⊥
    no_identifier h = cc

    by : (o : Option ℕ) → id_of pairs v ≡ o → o ≡ None
    by None e = refl
    by (Some id) e =
        let there : Contains pairs (v, id) = rw e at (id_of-pair pairs v) in
        let identifier : IsTrue (is_identifier (pos id)) =
        All-contains (λ n. IsTrue (is_identifier (pos n))) (ids_of pairs) id rules.ids (Contains-map (λ p. p.1) pairs (v, id) there) in
        let zero_id : id ≡ 0 = sym (ap (λ o. unwrap_or o 0) e) ∙ sym (tables.ids v) ∙ h in
        absurd (no_identifier (subst (λ n. IsTrue (is_identifier (pos n))) zero_id identifier))

pub id_of-entry : (pairs : List (P3 × ℕ)) (near places : List ℕ) (v : P3) → AreTables pairs near places → get_or near (key_of v) 0 ≢ 0 → id_of pairs v ≡ Some (get_or near (key_of v) 0)
id_of-entry pairs near places v tables h = by (id_of pairs v) refl
  where
    by : (o : Option ℕ) → id_of pairs v ≡ o → o ≡ Some (get_or near (key_of v) 0)
    by None e = absurd (h (tables.ids v ∙ ap (λ o. unwrap_or o 0) e))
    by (Some id) e = ap Some (sym (tables.ids v ∙ ap (λ o. unwrap_or o 0) e))

-- an identifier that stands for none, and one that stands for the vector at a place
pub vector_of-zero : (pairs : List (P3 × ℕ)) (near places : List ℕ) (id : ℕ) → AreTables pairs near places → get_or places id 0 ≡ 0 → vector_of pairs id ≡ None
vector_of-zero pairs near places id tables h = sym (tables.vectors id) ∙ ap (vector_before (vectors_of pairs)) h

pub vector_of-entry : (pairs : List (P3 × ℕ)) (near places : List ℕ) (id : ℕ) (v : P3) → AreTables pairs near places → get_or places id 0 ≢ 0
    → slice_get (vectors_of pairs) (get_or places id 0 - 1) ≡ Some v → vector_of pairs id ≡ Some v
vector_of-entry pairs near places id v tables h at = sym (tables.vectors id) ∙ by (get_or places id 0) h at
  where
    by : (n : ℕ) → n ≢ 0 → slice_get (vectors_of pairs) (n - 1) ≡ Some v → vector_before (vectors_of pairs) n ≡ Some v
    by zero h at = absurd (h refl)
    by (suc n) h at = subst (λ k. slice_get (vectors_of pairs) k ≡ Some v) (omega arith) at
