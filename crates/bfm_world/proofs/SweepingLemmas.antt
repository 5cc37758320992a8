-- Where the set of bond vectors is free, no legal step sweeps a bond through another that shares no monomer with it.
use Rattle.std.proofs.Common.{◌≡◌, ◌≢◌, ℕ, ◌+◌, ◌<◌, ◌≤◌, max, Bool, true, false, not, ◌&&◌, nat_le, inl, inr, List, length, get_or, remove, refl, ap, sym, ◌∙◌, subst, arith, AllPairs, ℤ, pos, neg_ℤ, ◌+ℤ◌, ◌-ℤ◌, ◌*ℤ◌, nat_abs, IsTrue}
use Rattle.std.specs.List.{Contains}
use Rattle.std.proofs.lemmas.Bool.{cases_lt}
use Rattle.std.proofs.lemmas.Bool.Decides.{nat_tests}
use Rattle.std.proofs.lemmas.Int.{ints}
use Rattle.std.proofs.lemmas.List.Elements.{All-contains}
use Rattle.bfm_base.specs.declared.place.P3.{P3}
use Rattle.bfm_base.specs.declared.place.Dir.{Dir}
use Rattle.bfm_base.specs.declared.place.Dir.TheVariants.{XUp, XDown, YUp, YDown, ZUp, ZDown}
use Rattle.bfm_base.specs.declared.place.Shape.{Shape}
use Rattle.bfm_base.specs.Direction.{step_of}
use Rattle.bfm_base.specs.Place.{extent_of}
use Rattle.bfm_geom.specs.Difference.{HasSides, IsNearest, side_of, is_periodic, plus, minus, wrapped, wrapped_along, overlaps}
use Rattle.bfm_geom.specs.Walls.{is_within_walls}
use Rattle.bfm_geom.specs.Upright.{origin}
use Rattle.bfm_geom.proofs.IntegerLemmas.{sums, +ℤ-*ℤ, neg_ℤ-*ℤ}
use Rattle.bfm_geom.proofs.DifferenceLemmas.{no_turn, wrapped_along-is, overlaps-symmetric, P3-same, extent_of-plus}
use Rattle.bond_set.specs.BondSet.{IsBondSet, vectors_of, is_bond_vector}
use Rattle.bond_set.specs.Crossing.{after_step, CrossingMove, IsClear, IsFree}
use Rattle.bond_set.proofs.PairLemmas.{id_of-present, extent_of-bond_vector}
use Rattle.bfm_world.specs.Bonds.{are_bonded, neighbours_of}
use Rattle.bfm_world.specs.Configuration.{Configuration, IsValid, may_bond, is_clear, is_fixed, is_legal, keeps_bonds, position_of, target_of}
use Rattle.bfm_world.specs.Sweeping.{IsImageAlong, IsImage, bond_from, SweepsBond, CrossesNone}
use Rattle.bfm_world.proofs.BondLemmas.{and_left, and_right}
use Rattle.bfm_world.proofs.ValidLemmas.{clear_of_others}
use Rattle.bfm_world.proofs.VectorLemmas.{may_bond-turned, keeps_bonds-at}

-- ---- images along an axis
-- the wrapped form is an image, and so is the difference itself
IsImageAlong-wrapped : (periodic : Bool) (side : ℕ) (d : ℤ) → 0 < side → IsImageAlong periodic side d (wrapped_along periodic side d)
IsImageAlong-wrapped false side d h = refl
IsImageAlong-wrapped true side d h =
    let nearest : IsNearest side d (wrapped_along true side d) = wrapped_along-is true side d h in
    nearest.turns

IsImageAlong-self : (periodic : Bool) (side : ℕ) (d : ℤ) → IsImageAlong periodic side d d
IsImageAlong-self false side d = refl
IsImageAlong-self true side d = (pos 0, omega (arith, ints))

-- images add up, and subtract
IsImageAlong-plus : (periodic : Bool) (side : ℕ) (d x e y f z : ℤ) → IsImageAlong periodic side d x → IsImageAlong periodic side e y → f ≡ d +ℤ e → z ≡ x +ℤ y → IsImageAlong periodic side f z
IsImageAlong-plus false side d x e y f z h k s t = omega (arith, sums, h, k)
IsImageAlong-plus true side d x e y f z h k s t = (h.0 +ℤ k.0, omega (arith, sums, h.1, k.1, +ℤ-*ℤ h.0 k.0 (pos side)))

IsImageAlong-minus : (periodic : Bool) (side : ℕ) (d x e y f z : ℤ) → IsImageAlong periodic side d x → IsImageAlong periodic side e y → f ≡ d -ℤ e → z ≡ x -ℤ y → IsImageAlong periodic side f z
IsImageAlong-minus false side d x e y f z h k s t = omega (arith, sums, h, k)
IsImageAlong-minus true side d x e y f z h k s t =
    (h.0 -ℤ k.0, omega (arith, sums, h.1, k.1, +ℤ-*ℤ h.0 (neg_ℤ k.0) (pos side), neg_ℤ-*ℤ k.0 (pos side)))

-- two images of one difference that are less than a side apart are one
IsImageAlong-near : (periodic : Bool) (side : ℕ) (d x y : ℤ) → IsImageAlong periodic side d x → IsImageAlong periodic side d y → nat_abs x + nat_abs y < side → x ≡ y
IsImageAlong-near false side d x y h k l = h ∙ sym k
IsImageAlong-near true side d x y h k l =
    let whole : x -ℤ y ≡ (h.0 -ℤ k.0) *ℤ pos side = omega (arith, sums, h.1, k.1, +ℤ-*ℤ h.0 (neg_ℤ k.0) (pos side), neg_ℤ-*ℤ k.0 (pos side)) in
    let none : x -ℤ y ≡ pos 0 = no_turn side (h.0 -ℤ k.0) (x -ℤ y) whole (omega (arith, sums)) (omega (arith, sums)) in
    omega (arith, sums)

-- no image is nearer than the wrapped form
nat_abs-image : (periodic : Bool) (side : ℕ) (d x : ℤ) → 0 < side → IsImageAlong periodic side d x → nat_abs (wrapped_along periodic side d) ≤ nat_abs x
nat_abs-image false side d x l h = omega (arith, ap nat_abs h)
nat_abs-image true side d x l h =
    let w : ℤ = wrapped_along true side d in
    let nearest : IsNearest side d w = wrapped_along-is true side d l in
    elim (cases_lt (nat_abs x) (nat_abs w)) [
      | inl b ↦ let same : x ≡ w = IsImageAlong-near true side d x w h nearest.turns (omega (arith, ints)) in
          omega (arith, ap nat_abs same)
      | inr b ↦ b
    ]

-- ---- images
IsImage-wrapped : (shape : Shape) (d : P3) → HasSides shape → IsImage shape d (wrapped shape d)
IsImage-wrapped shape d box = record {
  x = IsImageAlong-wrapped (is_periodic shape 0) (side_of shape 0) d.x (omega (arith, box.x));
  y = IsImageAlong-wrapped (is_periodic shape 1) (side_of shape 1) d.y (omega (arith, box.y));
  z = IsImageAlong-wrapped (is_periodic shape 2) (side_of shape 2) d.z (omega (arith, box.z));
}

-- the place itself seen from itself
IsImage-origin : (shape : Shape) (p : P3) → IsImage shape (minus p p) origin
IsImage-origin shape p =
    let at : (axis : ℕ) (n : ℤ) → IsImageAlong (is_periodic shape axis) (side_of shape axis) (n -ℤ n) (pos 0) =
    λ axis n. let none : pos 0 ≡ n -ℤ n = omega (arith, sums) in
    subst (λ m. IsImageAlong (is_periodic shape axis) (side_of shape axis) m (pos 0)) none (IsImageAlong-self (is_periodic shape axis) (side_of shape axis) (pos 0)) in
    record { x = at 0 p.x; y = at 1 p.y; z = at 2 p.z }

-- from a: an image of p, and one of the difference of q from p, lead to an image of q
IsImage-onward : (shape : Shape) (a p q x y : P3) → IsImage shape (minus p a) x → IsImage shape (minus q p) y → IsImage shape (minus q a) (plus x y)
IsImage-onward shape a p q x y h k =
    let along : (axis : ℕ) (m n o s t : ℤ) → IsImageAlong (is_periodic shape axis) (side_of shape axis) (n -ℤ m) s → IsImageAlong (is_periodic shape axis) (side_of shape axis) (o -ℤ n) t
    → IsImageAlong (is_periodic shape axis) (side_of shape axis) (o -ℤ m) (s +ℤ t) =
    λ axis m n o s t f g. IsImageAlong-plus (is_periodic shape axis) (side_of shape axis) (n -ℤ m) s (o -ℤ n) t (o -ℤ m) (s +ℤ t) f g (omega (arith, sums)) refl in
    record { x = along 0 a.x p.x q.x x.x y.x h.x k.x; y = along 1 a.y p.y q.y x.y y.y h.y k.y; z = along 2 a.z p.z q.z x.z y.z h.z k.z }

-- from a: images of p and of q are apart by an image of their difference
IsImage-between : (shape : Shape) (a p q x y : P3) → IsImage shape (minus p a) x → IsImage shape (minus q a) y → IsImage shape (minus p q) (minus x y)
IsImage-between shape a p q x y h k =
    let along : (axis : ℕ) (m n o s t : ℤ) → IsImageAlong (is_periodic shape axis) (side_of shape axis) (n -ℤ m) s → IsImageAlong (is_periodic shape axis) (side_of shape axis) (o -ℤ m) t
    → IsImageAlong (is_periodic shape axis) (side_of shape axis) (n -ℤ o) (s -ℤ t) =
    λ axis m n o s t f g. IsImageAlong-minus (is_periodic shape axis) (side_of shape axis) (n -ℤ m) s (o -ℤ m) t (n -ℤ o) (s -ℤ t) f g (omega (arith, sums)) refl in
    record { x = along 0 a.x p.x q.x x.x y.x h.x k.x; y = along 1 a.y p.y q.y x.y y.y h.y k.y; z = along 2 a.z p.z q.z x.z y.z h.z k.z }

-- a step leads to an image of where it leads
IsImage-step : (shape : Shape) (a p x v : P3) → IsImage shape (minus p a) x → IsImage shape (minus (plus p v) a) (plus x v)
IsImage-step shape a p x v h =
    let along : (axis : ℕ) (m n s t : ℤ) → IsImageAlong (is_periodic shape axis) (side_of shape axis) (n -ℤ m) s → IsImageAlong (is_periodic shape axis) (side_of shape axis) (n +ℤ t -ℤ m) (s +ℤ t) =
    λ axis m n s t f. IsImageAlong-plus (is_periodic shape axis) (side_of shape axis) (n -ℤ m) s t t (n +ℤ t -ℤ m) (s +ℤ t) f (IsImageAlong-self (is_periodic shape axis) (side_of shape axis) t) (omega (arith, sums)) refl in
    record { x = along 0 a.x p.x x.x v.x h.x; y = along 1 a.y p.y x.y v.y h.y; z = along 2 a.z p.z x.z v.z h.z }

-- no image is nearer than the wrapped form
extent_of-image : (shape : Shape) (d x : P3) → HasSides shape → IsImage shape d x → extent_of (wrapped shape d) ≤ extent_of x
extent_of-image shape d x box h =
    let along_x = nat_abs-image (is_periodic shape 0) (side_of shape 0) d.x x.x (omega (arith, box.x)) h.x in
    let along_y = nat_abs-image (is_periodic shape 1) (side_of shape 1) d.y x.y (omega (arith, box.y)) h.y in
    let along_z = nat_abs-image (is_periodic shape 2) (side_of shape 2) d.z x.z (omega (arith, box.z)) h.z in
    omega (arith, along_x, along_y, along_z)

-- an image that is less than a side from the wrapped form is that form
wrapped-image : (shape : Shape) (d x : P3) → HasSides shape → IsImage shape d x → extent_of x + extent_of (wrapped shape d) < 8 → x ≡ wrapped shape d
wrapped-image shape d x box h l =
    P3-same x (wrapped shape d)
    (IsImageAlong-near (is_periodic shape 0) (side_of shape 0) d.x x.x _ h.x (IsImageAlong-wrapped (is_periodic shape 0) (side_of shape 0) d.x (omega (arith, box.x))) (omega (arith, box.x)))
    (IsImageAlong-near (is_periodic shape 1) (side_of shape 1) d.y x.y _ h.y (IsImageAlong-wrapped (is_periodic shape 1) (side_of shape 1) d.y (omega (arith, box.y))) (omega (arith, box.y)))
    (IsImageAlong-near (is_periodic shape 2) (side_of shape 2) d.z x.z _ h.z (IsImageAlong-wrapped (is_periodic shape 2) (side_of shape 2) d.z (omega (arith, box.z))) (omega (arith, box.z)))

-- ---- places that do not overlap
some_is_far : (a b c : ℕ) → (nat_le a 1 && nat_le b 1 && nat_le c 1) ≡ false → 2 ≤ max a (max b c)
some_is_far a b c h = grind (arith, nat_tests)

-- images of places that do not overlap are at least 2 apart
extent_of-apart : (shape : Shape) (a p q x y : P3) → HasSides shape → IsImage shape (minus p a) x → IsImage shape (minus q a) y → overlaps shape q p ≡ false → 2 ≤ extent_of (minus x y)
extent_of-apart shape a p q x y box h k apart =
    let d : P3 = wrapped shape (minus p q) in
    let far : 2 ≤ extent_of d = some_is_far (nat_abs d.x) (nat_abs d.y) (nat_abs d.z) apart in
    omega (arith, far, extent_of-image shape (minus p q) (minus x y) box (IsImage-between shape a p q x y h k))

-- monomers that are apart, in either order
overlaps-apart : (shape : Shape) (ps : List P3) (i j : ℕ) (d : P3) → HasSides shape → AllPairs (λ p q. overlaps shape p q ≡ false) ps → i < length ps → j < length ps → i ≢ j
    → overlaps shape (get_or ps i d) (get_or ps j d) ≡ false
overlaps-apart shape ps i j d box apart l m ne = elim (cases_lt i j) [
  | inl b ↦ apart i j d b m
  | inr b ↦ elim (cases_lt j i) [
    | inl c ↦ overlaps-symmetric shape (get_or ps i d) (get_or ps j d) box ∙ apart j i d c l
    | inr c ↦ absurd (ne (omega arith))
  ]
]

-- ---- bonds
-- a vector of a bond set reaches 3 at most
extent_of-vector : (set : List (P3 × ℕ)) (v : P3) → IsBondSet set → Contains (vectors_of set) v → extent_of v ≤ 3
extent_of-vector set v bonds inside = extent_of-bond_vector v (All-contains (λ u. IsTrue (is_bond_vector u)) (vectors_of set) v bonds.vectors inside)

-- a step is one lattice unit
extent_of-step : (dir : Dir) → extent_of (step_of dir) ≤ 1
extent_of-step XUp = omega arith
extent_of-step XDown = omega arith
extent_of-step YUp = omega arith
extent_of-step YDown = omega arith
extent_of-step ZUp = omega arith
extent_of-step ZDown = omega arith

module _ (w : Configuration) (v : IsValid w) where
  -- both monomers of a bond are there
  bonded_inside : (i j : ℕ) → are_bonded w.bonds i j ≡ true → (i < length w.positions) × (j < length w.positions)
  bonded_inside i j e = ((v.bonds.others j i (v.bonds.both i j e)).0, (v.bonds.others i j e).0)

  -- the vector of a bond is in the set
  bond_from-in : (i j : ℕ) → are_bonded w.bonds i j ≡ true → Contains (vectors_of w.set) (bond_from w i j)
  bond_from-in i j e =
      let inside = bonded_inside i j e in
      (id_of-present w.set (bond_from w i j)).0 (v.vectors i j inside.0 inside.1 e)

  -- two different monomers do not overlap
  monomers_apart : (i j : ℕ) → i < length w.positions → j < length w.positions → i ≢ j → overlaps w.shape (position_of w i) (position_of w j) ≡ false
  monomers_apart i j l m ne = overlaps-apart w.shape w.positions i j origin v.box.sides v.apart l m ne

  module _ (m : ℕ) (dir : Dir) (legal : is_legal w m dir ≡ true) where
    abbrev target : P3
    target = target_of w m dir

    -- what a legal step keeps
    step_clear : is_clear w.shape (remove w.positions m) target ≡ true
    step_clear =
        let movable = not (is_fixed w m) in
        let walls = is_within_walls w.shape target in
        let free = is_clear w.shape (remove w.positions m) target in
        let kept = keeps_bonds w.shape w.set w.positions (neighbours_of w.bonds m) target in
        and_right (movable && walls) free (and_left (movable && walls && free) kept legal)

    step_keeps : keeps_bonds w.shape w.set w.positions (neighbours_of w.bonds m) target ≡ true
    step_keeps =
        let movable = not (is_fixed w m) in
        let walls = is_within_walls w.shape target in
        let free = is_clear w.shape (remove w.positions m) target in
        let kept = keeps_bonds w.shape w.set w.positions (neighbours_of w.bonds m) target in
        and_right (movable && walls && free) kept legal

    -- the bond that the step leaves has a vector of the set
    moved_bond-in : (a : ℕ) → are_bonded w.bonds m a ≡ true → Contains (vectors_of w.set) (wrapped w.shape (minus target (position_of w a)))
    moved_bond-in a e =
        let away : may_bond w.shape w.set target (position_of w a) ≡ true = keeps_bonds-at w.shape w.set w.positions (neighbours_of w.bonds m) target a step_keeps e (bonded_inside m a e).1 in
        (id_of-present w.set (wrapped w.shape (minus target (position_of w a)))).0
        (may_bond-turned w.shape w.set target (position_of w a) v.box v.set v.symmetric away)

    -- after the step, the moved bond is an image of the difference of the two monomers
    after_step-image : (a : ℕ) → IsImage w.shape (minus target (position_of w a)) (after_step (bond_from w a m) dir)
    after_step-image a =
        IsImage-step w.shape (position_of w a) (position_of w m) (bond_from w a m) (step_of dir) (IsImage-wrapped w.shape (minus (position_of w m) (position_of w a)) v.box.sides)

    -- and since both are short it is their wrapped difference
    after_step-in : (a : ℕ) → are_bonded w.bonds m a ≡ true → Contains (vectors_of w.set) (after_step (bond_from w a m) dir)
    after_step-in a e =
        let b = bond_from w a m in
        let d = minus target (position_of w a) in
        let before : extent_of b ≤ 3 = extent_of-vector w.set b v.set (bond_from-in a m (v.bonds.both m a e)) in
        let after : extent_of (wrapped w.shape d) ≤ 3 = extent_of-vector w.set (wrapped w.shape d) v.set (moved_bond-in a e) in
        let near : extent_of (after_step b dir) ≤ extent_of b + extent_of (step_of dir) = extent_of-plus (after_step b dir) b (step_of dir) refl in
        let short : extent_of (after_step b dir) + extent_of (wrapped w.shape d) < 8 = omega (arith, before, after, near, extent_of-step dir) in
        subst (Contains (vectors_of w.set)) (sym (wrapped-image w.shape d (after_step b dir) v.box.sides (after_step-image a) short)) (moved_bond-in a e)

    -- a monomer that is neither m nor a stands clear of the bond of m and a, in each image
    IsClear-image : (a k : ℕ) (x : P3) → are_bonded w.bonds m a ≡ true → k < length w.positions → (k ≢ m) × (k ≢ a) → IsImage w.shape (minus (position_of w k) (position_of w a)) x
        → IsClear (bond_from w a m) (after_step (bond_from w a m) dir) x
    IsClear-image a k x e l ne image =
        let pa = position_of w a in
        let pk = position_of w k in
        let inside = bonded_inside m a e in
        let to_a : overlaps w.shape pa pk ≡ false = monomers_apart a k inside.1 l (λ q. ne.1 (sym q)) in
        let to_m : overlaps w.shape (position_of w m) pk ≡ false = monomers_apart m k inside.0 l (λ q. ne.0 (sym q)) in
        let to_target : overlaps w.shape target pk ≡ false = overlaps-symmetric w.shape target pk v.box.sides ∙ clear_of_others w.shape w.positions m target step_clear k origin ne.0 l in
        record {
          neighbour = omega (arith, ints, extent_of-apart w.shape pa pk pa x origin v.box.sides image (IsImage-origin w.shape pa) to_a);
          before = extent_of-apart w.shape pa pk (position_of w m) x (bond_from w a m) v.box.sides image (IsImage-wrapped w.shape (minus (position_of w m) pa) v.box.sides) to_m;
          after = extent_of-apart w.shape pa pk target x (after_step (bond_from w a m) dir) v.box.sides image (after_step-image a) to_target;
        }

    -- such a sweep would be a crossing move of the set
    SweepsBond-crossing : (a c f : ℕ) (s : SweepsBond w m dir a c f) → CrossingMove w.set (bond_from w a m) dir s.meets.0 (bond_from w c f)
    SweepsBond-crossing a c f s =
        let inside = bonded_inside c f s.other in
        let onward = IsImage-onward w.shape (position_of w a) (position_of w c) (position_of w f) s.meets.0 (bond_from w c f) s.meets.1.image (IsImage-wrapped w.shape (minus (position_of w f) (position_of w c)) v.box.sides) in
        record {
          bond = bond_from-in a m (v.bonds.both m a s.moved);
          moved = after_step-in a s.moved;
          other = bond_from-in c f s.other;
          sweeps = record {
            start = IsClear-image a c s.meets.0 s.moved inside.0 s.differ.first s.meets.1.image;
            end = IsClear-image a f (plus s.meets.0 (bond_from w c f)) s.moved inside.1 s.differ.second onward;
            meets = s.meets.1.meets;
          };
        }

-- where the set is free, a legal step in a valid world sweeps no bond through one that shares no monomer with it
pub CrossesNone-free : (w : Configuration) (m : ℕ) (dir : Dir) → IsValid w → IsFree w.set → is_legal w m dir ≡ true → CrossesNone w m dir
CrossesNone-free w m dir v free legal a c f s = free (bond_from w a m) dir s.meets.0 (bond_from w c f) (SweepsBond-crossing w v m dir legal a c f s)
