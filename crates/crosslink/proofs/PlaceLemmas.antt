-- The partner of a monomer along a direction is the monomer that stands two units from it.
use Rattle.std.proofs.Common.{◌≡◌, ℕ, ◌≤◌, Bool, true, false, ◌&&◌, length, refl, sym, ap, ◌∙◌, arith, ℤ, pos, ◌+ℤ◌, ◌-ℤ◌, nat_abs, find}
use Rattle.std.specs.Ordering.{int_eq}
use Rattle.std.specs.List.{range_with_len}
use Rattle.std.proofs.lemmas.Int.{ints}
use Rattle.std.proofs.lemmas.Bool.Decides.{Decides-int_eq}
use Rattle.bfm_base.specs.declared.place.P3.{P3}
use Rattle.bfm_base.specs.declared.place.Dir.{Dir}
use Rattle.bfm_base.specs.declared.place.Dir.TheVariants.{XUp, XDown, YUp, YDown, ZUp, ZDown}
use Rattle.bfm_geom.specs.Difference.{HasSides, IsNearest, is_periodic, side_of, minus, plus, wrapped, wrapped_along}
use Rattle.bfm_geom.proofs.DifferenceLemmas.{IsWrappedAlong-unique, wrapped_along-is, wrapped_along-near}
use Rattle.bond_set.proofs.PairLemmas.{same_from_same_vector}
use Rattle.bfm_world.specs.Configuration.{Configuration, position_of}
use Rattle.bfm_world.specs.Occupants.{monomer_at, stands_at}
use Rattle.crosslink.specs.Linking.{is_partner, link_vector, partner_of}

-- one test of numbers for another
same_test : (a b c d : ℤ) → (a ≡ b → c ≡ d) → (c ≡ d → a ≡ b) → int_eq a b ≡ int_eq c d
same_test a b c d there back =
    same_bool (int_eq a b) (int_eq c d) (λ h. (Decides-int_eq c d).1 (there ((Decides-int_eq a b).0 h))) (λ h. (Decides-int_eq a b).1 (back ((Decides-int_eq c d).0 h)))
  where
    same_bool : (p q : Bool) → (p ≡ true → q ≡ true) → (q ≡ true → p ≡ true) → p ≡ q
    same_bool true true f g = refl
    same_bool false false f g = refl
    same_bool true false f g = sym (f refl)
    same_bool false true f g = g refl

-- a small number is the wrapped form of a difference exactly where what is left of the difference wraps to nothing
along : (periodic : Bool) (side : ℕ) (d v e : ℤ) → 8 ≤ side → nat_abs v ≤ 2 → e ≡ d -ℤ v → int_eq (wrapped_along periodic side d) v ≡ int_eq (wrapped_along periodic side e) (pos 0)
along false side d v e l small is = same_test d v e (pos 0) (λ h. omega (arith, ints)) (λ h. omega (arith, ints))
along true side d v e l small is = same_test (wrapped_along true side d) v (wrapped_along true side e) (pos 0) there back
  where
    there : wrapped_along true side d ≡ v → wrapped_along true side e ≡ pos 0
    there h =
        let near : IsNearest side d (wrapped_along true side d) = wrapped_along-is true side d (omega arith) in
        let none : IsNearest side e (pos 0) = record { turns = (near.turns.0, omega (arith, ints, near.turns.1, h, is)); above = omega (arith, ints); below = omega (arith, ints) } in
        IsWrappedAlong-unique true side e (wrapped_along true side e) (pos 0) (wrapped_along-is true side e (omega arith)) none

    back : wrapped_along true side e ≡ pos 0 → wrapped_along true side d ≡ v
    back h =
        let none : IsNearest side e (wrapped_along true side e) = wrapped_along-is true side e (omega arith) in
        let near : IsNearest side d v = record { turns = (none.turns.0, omega (arith, ints, none.turns.1, h, is)); above = omega (arith, ints); below = omega (arith, ints) } in
        IsWrappedAlong-unique true side d (wrapped_along true side d) v (wrapped_along-is true side d (omega arith)) near

-- two units along a direction are at most two along each axis
pub record IsShort (v : P3) : Type 0 where
  pub x : nat_abs v.x ≤ 2
  pub y : nat_abs v.y ≤ 2
  pub z : nat_abs v.z ≤ 2

pub IsShort-link : (d : Dir) → IsShort (link_vector d)
IsShort-link XUp = record { x = omega arith; y = omega arith; z = omega arith }
IsShort-link XDown = record { x = omega arith; y = omega arith; z = omega arith }
IsShort-link YUp = record { x = omega arith; y = omega arith; z = omega arith }
IsShort-link YDown = record { x = omega arith; y = omega arith; z = omega arith }
IsShort-link ZUp = record { x = omega arith; y = omega arith; z = omega arith }
IsShort-link ZDown = record { x = omega arith; y = omega arith; z = omega arith }

is_partner-stands : (w : Configuration) (i : ℕ) (d : Dir) (j : ℕ) → HasSides w.shape → is_partner w i d j ≡ stands_at w (plus (position_of w i) (link_vector d)) j
is_partner-stands w i d j sides =
    let p = position_of w i in
    let q = position_of w j in
    let v = link_vector d in
    let small = IsShort-link d in
    let x = along (is_periodic w.shape 0) (side_of w.shape 0) (q.x -ℤ p.x) v.x (q.x -ℤ (p.x +ℤ v.x)) sides.x.0 small.x (omega (arith, ints)) in
    let y = along (is_periodic w.shape 1) (side_of w.shape 1) (q.y -ℤ p.y) v.y (q.y -ℤ (p.y +ℤ v.y)) sides.y.0 small.y (omega (arith, ints)) in
    let z = along (is_periodic w.shape 2) (side_of w.shape 2) (q.z -ℤ p.z) v.z (q.z -ℤ (p.z +ℤ v.z)) sides.z.0 small.z (omega (arith, ints)) in
    λ k. x k && (y k && z k)

pub partner_of-at : (w : Configuration) (i : ℕ) (d : Dir) → HasSides w.shape → partner_of w i d ≡ monomer_at w (plus (position_of w i) (link_vector d))
partner_of-at w i d sides = λ k. find (λ j. is_partner-stands w i d j sides k) (range_with_len 0 (length w.positions))

-- no monomer is its own partner
nothing_along : (periodic : Bool) (side : ℕ) (c : ℤ) → 8 ≤ side → wrapped_along periodic side (c -ℤ c) ≡ pos 0
nothing_along false side c l = omega (arith, ints)
nothing_along true side c l =
    let none : c -ℤ c ≡ pos 0 = omega (arith, ints) in
    ap (wrapped_along true side) none ∙ wrapped_along-near side (pos 0) (omega arith) (omega (arith, ints)) (omega (arith, ints))

some_units : (d : Dir) (v : P3) → v.x ≡ pos 0 → v.y ≡ pos 0 → v.z ≡ pos 0 → v ≡ link_vector d → ⊥
some_units XUp v x y z e = absurd (omega (arith, ints, x, ap (λ (u : P3). u.x) e))
some_units XDown v x y z e = absurd (omega (arith, ints, x, ap (λ (u : P3). u.x) e))
some_units YUp v x y z e = absurd (omega (arith, ints, y, ap (λ (u : P3). u.y) e))
some_units YDown v x y z e = absurd (omega (arith, ints, y, ap (λ (u : P3). u.y) e))
some_units ZUp v x y z e = absurd (omega (arith, ints, z, ap (λ (u : P3). u.z) e))
some_units ZDown v x y z e = absurd (omega (arith, ints, z, ap (λ (u : P3). u.z) e))

pub not_itself : (w : Configuration) (i : ℕ) (d : Dir) → HasSides w.shape → is_partner w i d i ≡ true → ⊥
not_itself w i d sides h =
    let p = position_of w i in
    some_units d (wrapped w.shape (minus p p))
    (nothing_along (is_periodic w.shape 0) (side_of w.shape 0) p.x sides.x.0)
    (nothing_along (is_periodic w.shape 1) (side_of w.shape 1) p.y sides.y.0)
    (nothing_along (is_periodic w.shape 2) (side_of w.shape 2) p.z sides.z.0)
    (same_from_same_vector (wrapped w.shape (minus p p)) (link_vector d) h)
