-- What a new link tells of its pair.
use Rattle.std.proofs.Common.{◌≡◌, ◌≢◌, ℕ, zero, suc, ◌+◌, ◌<◌, ◌≤◌, Bool, true, false, cond, not, ◌&&◌, nat_lt, nat_le, List, [], ◌∷◌, length, get_or, set, sum_by, Option, None, Some, is_some, find, option_and_then, unwrap_or, length-append, refl, sym, ap, ◌∙◌, subst, arith}
use Rattle.std.specs.List.{range_with_len}
use Rattle.std.proofs.lemmas.Bool.Decides.{nat_tests}
use Rattle.std.proofs.lemmas.List.Sums.{sum_by-le, sum_by-set}
use Rattle.std.proofs.lemmas.List.{get_or-set_other, get_or_past, length-set}
use Rattle.bfm_base.specs.declared.limits.TheConstants.{GREATEST_VALENCE}
use Rattle.bfm_base.specs.declared.place.P3.{P3}
use Rattle.bfm_base.specs.declared.place.Dir.{Dir}
use Rattle.bfm_geom.specs.Difference.{minus, plus, wrapped}
use Rattle.bond_set.specs.BondSet.{id_of}
use Rattle.bond_set.proofs.PairLemmas.{same_from_same_vector}
use Rattle.bfm_world.specs.Bonds.{neighbours_of, are_bonded, is_full, put, with_bond}
use Rattle.bfm_world.specs.Configuration.{Configuration, IsValid, position_of, valence_of, bonded, may_bond}
use Rattle.bfm_world.specs.Occupants.{monomer_at, stands_at}
use Rattle.bfm_world.proofs.BondLemmas.{length-put, and_left, and_right}
use Rattle.bfm_world.proofs.ValidLemmas.{IsValid-bonded}
use Rattle.bfm_world.proofs.VectorLemmas.{may_bond-turned}
use Rattle.crosslink.proofs.PlaceLemmas.{not_itself, partner_of-at}
use Rattle.crosslink.specs.Linking.{in_order, is_open, is_partner, link_vector, may_link, new_link, partner_of, with_link}
use Rattle.crosslink.specs.Log.{Log, IsLogOf, TakesPair}

-- two different monomers that are not bonded, whose difference is in the set, and each of which has room for a bond
pub record IsNewLink (w : Configuration) (pair : ℕ × ℕ) : Type 0 where
  pub first : pair.0 < length w.positions
  pub second : pair.1 < length w.positions
  pub ordered : pair.0 < pair.1
  pub unbonded : are_bonded w.bonds pair.0 pair.1 ≡ false
  pub vector : may_bond w.shape w.set (position_of w pair.0) (position_of w pair.1) ≡ true
  pub first_room : is_full w.bonds pair.0 ≡ false
  pub second_room : is_full w.bonds pair.1 ≡ false

-- The partner.

found : (p : ℕ → Bool) (k n x : ℕ) → find p (range_with_len k n) ≡ Some x → (p x ≡ true) × (x < k + n)
found p k zero x h = absurd (cc)
found p k (suc n) x h = by_first (p k) refl (found p (k + 1) n x)
  where
    by_first : (b : Bool) → p k ≡ b → (find p (range_with_len (k + 1) n) ≡ Some x → (p x ≡ true) × (x < k + 1 + n)) → (p x ≡ true) × (x < k + suc n)
    by_first true e later =
        let here : Some k ≡ Some x = ap (λ b. cond b (Some k) (find p (range_with_len (k + 1) n))) (sym e) ∙ h in
        let same : k ≡ x = ap (λ o. unwrap_or o 0) here in
        (ap p (sym same) ∙ e, omega (arith, same))
    by_first false e later =
        let rest = later (ap (λ b. cond b (Some k) (find p (range_with_len (k + 1) n))) (sym e) ∙ h) in
        (rest.0, omega (arith, rest.1))

-- what a new link was made of: the partner of monomer i along the direction, which it may be linked to
pub record IsLinkTo (w : Configuration) (i : ℕ) (d : Dir) (j : ℕ) : Type 0 where
  pub partner : is_partner w i d j ≡ true
  pub below : j < length w.positions
  pub may : may_link w i d j ≡ true

-- a pair that is linked with it
record IsLinkOf (w : Configuration) (i : ℕ) (d : Dir) (pair : ℕ × ℕ) : Type 0 where
  other : ℕ
  link : IsLinkTo w i d other
  is : in_order i other ≡ pair

link_to : (w : Configuration) (i : ℕ) (d : Dir) (pair : ℕ × ℕ) (o : Option ℕ) → partner_of w i d ≡ o
    → option_and_then (λ j. cond (may_link w i d j) (Some (in_order i j)) None) o ≡ Some pair → IsLinkOf w i d pair
link_to w i d pair None e h = absurd (cc)
link_to w i d pair (Some j) e h = by_may (may_link w i d j) refl h
  where
    by_may : (b : Bool) → may_link w i d j ≡ b → cond b (Some (in_order i j)) None ≡ Some pair → IsLinkOf w i d pair
    by_may true m f =
        let is = found (λ k. is_partner w i d k) 0 (length w.positions) j e in
        record { other = j; link = record { partner = is.0; below = omega (arith, is.1); may = m }; is = ap (λ o. unwrap_or o (in_order i j)) f }
    by_may false m f = absurd (cc)

-- Who may be linked.

not_below : (a b : ℕ) → nat_lt a b ≡ false → b ≤ a
not_below a b e = grind (arith, nat_tests)

below_where : (a b : ℕ) → nat_lt a b ≡ true → a < b
below_where a b e = grind (arith, nat_tests)

-- one that is open is there, and has room for a bond
open_inside : (w : Configuration) (i : ℕ) → IsValid w → is_open w i ≡ true → i < length w.positions
open_inside w i v h = by_test (nat_lt i (length w.positions)) refl
  where
    by_test : (b : Bool) → nat_lt i (length w.positions) ≡ b → i < length w.positions
    by_test true e = below_where i (length w.positions) e
    by_test false e =
        let past : length w.valences ≤ i = omega (arith, v.marks.valued, not_below i (length w.positions) e) in
        let none : valence_of w i ≡ 0 = get_or_past w.valences i 0 past in
        let less : length (neighbours_of w.bonds i) < valence_of w i = below_where _ _ h in
        absurd (omega (arith, none, less))

room_where_open : (w : Configuration) (i : ℕ) → IsValid w → is_open w i ≡ true → is_full w.bonds i ≡ false
room_where_open w i v h =
    let l : i < length w.valences = omega (arith, v.marks.valued, open_inside w i v h) in
    let most : valence_of w i ≤ GREATEST_VALENCE = v.marks.valences i 0 l in
    not_full (length (neighbours_of w.bonds i)) (valence_of w i) h most
  where
    not_full : (a b : ℕ) → nat_lt a b ≡ true → b ≤ 8 → nat_le 8 a ≡ false
    not_full a b e l = grind (arith, nat_tests)

turned_unbonded : (w : Configuration) (i j : ℕ) → IsValid w → are_bonded w.bonds i j ≡ false → (b : Bool) → are_bonded w.bonds j i ≡ b → b ≡ false
turned_unbonded w i j v h true e = absurd (let f = v.bonds.both j i e in cc)
turned_unbonded w i j v h false e = refl

-- the two that are linked, in either order
module _ (w : Configuration) (i : ℕ) (d : Dir) (j : ℕ) (v : IsValid w) (l : IsLinkTo w i d j) where
  abbrev known : Bool
  known = is_some (id_of w.set (link_vector d))

  both : (known && is_open w i && is_open w j) ≡ true
  both = and_left (known && is_open w i && is_open w j) (not (are_bonded w.bonds i j)) l.may

  first : (known && is_open w i) ≡ true
  first = and_left (known && is_open w i) (is_open w j) both

  first_open : is_open w i ≡ true
  first_open = and_right known (is_open w i) first

  second_open : is_open w j ≡ true
  second_open = and_right (known && is_open w i) (is_open w j) both

  is_false : (b : Bool) → not b ≡ true → b ≡ false
  is_false true e = sym e
  is_false false e = refl

  unbonded : are_bonded w.bonds i j ≡ false
  unbonded = is_false (are_bonded w.bonds i j) (and_right (known && is_open w i && is_open w j) (not (are_bonded w.bonds i j)) l.may)

  vector : may_bond w.shape w.set (position_of w i) (position_of w j) ≡ true
  vector =
      let same : wrapped w.shape (minus (position_of w j) (position_of w i)) ≡ link_vector d = same_from_same_vector _ _ l.partner in
      ap (λ v. is_some (id_of w.set v)) same ∙ and_left known (is_open w i) first

  differ : i ≢ j
  differ e = not_itself w i d v.box.sides (ap (is_partner w i d) e ∙ l.partner)

  above : (a b : ℕ) → nat_lt a b ≡ false → a ≢ b → b < a
  above a b e ne = grind (arith, nat_tests)

  by_order : (b : Bool) → nat_lt i j ≡ b → IsNewLink w (cond b (i, j) (j, i))
  by_order true e = record {
    first = open_inside w i v first_open;
    second = l.below;
    ordered = below_where i j e;
    unbonded = unbonded;
    vector = vector;
    first_room = room_where_open w i v first_open;
    second_room = room_where_open w j v second_open;
  }
  by_order false e = record {
    first = l.below;
    second = open_inside w i v first_open;
    ordered = above i j e differ;
    unbonded = turned_unbonded w i j v unbonded (are_bonded w.bonds j i) refl;
    vector = may_bond-turned w.shape w.set (position_of w i) (position_of w j) v.box v.set v.symmetric vector;
    first_room = room_where_open w j v second_open;
    second_room = room_where_open w i v first_open;
  }

  pub IsNewLink-to : IsNewLink w (in_order i j)
  IsNewLink-to = by_order (nat_lt i j) refl

pub IsNewLink-new : (w : Configuration) (i : ℕ) (d : Dir) (pair : ℕ × ℕ) → IsValid w → new_link w i d ≡ Some pair → IsNewLink w pair
IsNewLink-new w i d pair v h =
    let l = link_to w i d pair (partner_of w i d) refl h in
    subst (IsNewLink w) l.is (IsNewLink-to w i d l.other v l.link)

-- The world after it.

pub IsValid-new : (w : Configuration) (pair : ℕ × ℕ) → IsValid w → IsNewLink w pair → IsValid (bonded w pair.0 pair.1)
IsValid-new w pair v n =
    let differ : pair.0 ≢ pair.1 = λ e. absurd (omega (arith, n.ordered, e)) in
    IsValid-bonded w pair.0 pair.1 v n.first n.second differ n.unbonded n.vector n.first_room n.second_room

pub IsValid-linked : (w : Configuration) (i : ℕ) (d : Dir) → IsValid w → IsValid (with_link w (new_link w i d))
IsValid-linked w i d v = by_link (new_link w i d) refl
  where
    by_link : (o : Option (ℕ × ℕ)) → new_link w i d ≡ o → IsValid (with_link w o)
    by_link None e = v
    by_link (Some pair) e = IsValid-new w pair v (IsNewLink-new w i d pair v e)

-- Logs.

-- each bond makes two monomers neighbours
sum-with_bond : (bonds : List (List ℕ)) (i j : ℕ) → i ≢ j → i < length bonds → j < length bonds → sum_by length (with_bond bonds i j) ≡ sum_by length bonds + 2
sum-with_bond bonds i j ne l m =
    let first = put j (neighbours_of bonds i) in
    let one = sum_by-set length bonds i first [] l in
    let inside : j < length (set bonds i first) = omega (arith, length-set bonds i first) in
    let two = sum_by-set length (set bonds i first) j (put i (neighbours_of bonds j)) [] inside in
    let same : get_or (set bonds i first) j [] ≡ neighbours_of bonds j = get_or-set_other bonds i j first [] (λ e. ne (sym e)) in
    omega (arith, one, two, ap length same, length-put j (neighbours_of bonds i), length-put i (neighbours_of bonds j))

pub TakesPair-new : (w : Configuration) (pair : ℕ × ℕ) (log : Log) → IsValid w → IsNewLink w pair → IsLogOf w log → TakesPair (bonded w pair.0 pair.1) log pair
TakesPair-new w pair log v n l =
    let differ : pair.0 ≢ pair.1 = λ e. absurd (omega (arith, n.ordered, e)) in
    let after = IsValid-new w pair v n in
    let more = sum-with_bond w.bonds pair.0 pair.1 differ (omega (arith, v.bonds.rows, n.first)) (omega (arith, v.bonds.rows, n.second)) in
    let most = sum_by-le length 8 (with_bond w.bonds pair.0 pair.1) after.bonds.few in
    record {
      room = omega (arith, more, most, after.bonds.rows, l.few, l.size);
      after = record { size = l.size; few = omega (arith, more, l.few, length-append log.pairs (pair ∷ [])) };
    }

-- What an engine finds two units from the monomer.

module _ (w : Configuration) (i : ℕ) (d : Dir) (valid : IsValid w) (p : P3) (there : p ≡ plus (position_of w i) (link_vector d)) where
  partner_is : monomer_at w p ≡ partner_of w i d
  partner_is = ap (monomer_at w) there ∙ sym (partner_of-at w i d valid.box.sides)

  pub new_link-none : None ≡ monomer_at w p → new_link w i d ≡ None
  new_link-none none = ap (option_and_then (λ j. cond (may_link w i d j) (Some (in_order i j)) None)) (sym (none ∙ partner_is))

  -- a monomer that is found there is one of the world's
  pub found_below : (j : ℕ) → Some j ≡ monomer_at w p → j < length w.positions
  found_below j some = omega (arith, (found (λ k. stands_at w p k) 0 (length w.positions) j (sym some)).1)

  pub new_link-found : (j : ℕ) → Some j ≡ monomer_at w p → new_link w i d ≡ cond (may_link w i d j) (Some (in_order i j)) None
  new_link-found j some = ap (option_and_then (λ k. cond (may_link w i d k) (Some (in_order i k)) None)) (sym (some ∙ partner_is))

  pub IsNewLink-found : (j : ℕ) → Some j ≡ monomer_at w p → may_link w i d j ≡ true → IsNewLink w (in_order i j)
  IsNewLink-found j some may =
      IsNewLink-to w i d j valid record { partner = (found (λ k. is_partner w i d k) 0 (length w.positions) j (sym (some ∙ partner_is))).0; below = found_below j some; may = may }

pub may_link-true : (w : Configuration) (i : ℕ) (d : Dir) (j : ℕ) → is_some (id_of w.set (link_vector d)) ≡ true → is_open w i ≡ true → is_open w j ≡ true
    → are_bonded w.bonds i j ≡ false → may_link w i d j ≡ true
may_link-true w i d j known first second new = rw (known, first, second, new) refl

pub may_link-closed : (w : Configuration) (i : ℕ) (d : Dir) (j : ℕ) → is_open w j ≡ false → may_link w i d j ≡ false
may_link-closed w i d j h = ap (λ b. is_some (id_of w.set (link_vector d)) && is_open w i && b && not (are_bonded w.bonds i j)) h ∙ none (is_some (id_of w.set (link_vector d)) && is_open w i) (not (are_bonded w.bonds i j))
  where
    none : (a b : Bool) → (a && false && b) ≡ false
    none true b = refl
    none false b = refl

pub may_link-bonded : (w : Configuration) (i : ℕ) (d : Dir) (j : ℕ) → are_bonded w.bonds i j ≡ true → may_link w i d j ≡ false
may_link-bonded w i d j h = ap (λ b. is_some (id_of w.set (link_vector d)) && is_open w i && is_open w j && not b) h ∙ none (is_some (id_of w.set (link_vector d)) && is_open w i && is_open w j)
  where
    none : (a : Bool) → (a && false) ≡ false
    none true = refl
    none false = refl
