-- Starts: monomers that are placed one by one while nobody is bonded, and bonds of two units along an axis.
use Rattle.std.proofs.Common.{◌≡◌, ℕ, zero, suc, ◌+◌, ◌<◌, ◌≤◌, Bool, true, false, cond, not, ◌&&◌, [], ◌∷◌, ◌++◌, length, map, refl, ap, sym, ◌∙◌, arith, ℤ, pos, ◌+ℤ◌, ◌-ℤ◌, nat_abs, is_some, None, Some}
use Rattle.std.specs.List.{range_with_len}
use Rattle.std.proofs.lemmas.Bool.{and_parts, leb-true, le-leb}
use Rattle.std.proofs.lemmas.Int.{ints}
use Rattle.std.proofs.lemmas.List.FromFn.{length-map-range_with_len, map-range_with_len_more}
use Rattle.bfm_base.specs.declared.place.P3.{P3}
use Rattle.bfm_base.specs.declared.place.Dir.{Dir}
use Rattle.bfm_base.specs.declared.place.Dir.TheVariants.{XUp, XDown, YUp, YDown, ZUp, ZDown}
use Rattle.bfm_base.specs.declared.place.Shape.{Shape}
use Rattle.bfm_base.specs.declared.cause.Cause.TheVariants.{Outside, Overlap, BadBond}
use Rattle.bfm_base.specs.Direction.{step_of}
use Rattle.bfm_base.specs.Place.{extent_of}
use Rattle.bfm_geom.specs.Difference.{IsBox, IsNearest, side_of, is_periodic, plus, minus, overlaps, wrapped, wrapped_along}
use Rattle.bfm_geom.specs.Walls.{is_within_walls, is_within_walls_along}
use Rattle.bfm_geom.proofs.DifferenceLemmas.{wrapped_along-is, wrapped_along-near, no_turn, P3-same}
use Rattle.bond_set.specs.BondSet.{id_of}
use Rattle.bond_set.specs.UsualSet.{usual_set, usual_vectors, near_vectors}
use Rattle.bfm_world.specs.Bonds.{neighbours_of}
use Rattle.bfm_world.specs.Chains.{LiesTwoOn}
use Rattle.bfm_world.specs.Configuration.{Configuration, is_clear, keeps_bonds, may_bond, reach_of}
use Rattle.bfm_world.specs.Draft.{Draft, with_positions, place_refusal}

pub both : (a b : Bool) → a ≡ true → b ≡ true → (a && b) ≡ true
both true true h k = refl
both true false h k = k
both false b h k = h

-- ---- along one axis
-- a monomer that fills two sites of a side stands within the walls
pub within_along : (periodic : Bool) (side c : ℕ) → c + 2 ≤ side → is_within_walls_along periodic side (pos c) ≡ true
within_along true side c l = refl
within_along false side c l = le-leb (c + 2) side l

-- within one side, coordinates whose wrapped difference is at most 1 differ by at most 1
pub close_along : (periodic : Bool) (side p q : ℕ) → p + 2 ≤ side → q + 2 ≤ side → nat_abs (wrapped_along periodic side (pos q -ℤ pos p)) ≤ 1 → (p ≤ q + 1) × (q ≤ p + 1)
close_along false side p q l m near = (omega (arith, ints), omega (arith, ints))
close_along true side p q l m near =
    let d : ℤ = pos q -ℤ pos p in
    let w : ℤ = wrapped_along true side d in
    let nearest : IsNearest side d w = wrapped_along-is true side d (omega arith) in
    let still : w -ℤ d ≡ pos 0 = no_turn side nearest.turns.0 (w -ℤ d) (omega (arith, ints, nearest.turns.1)) (omega (arith, ints)) (omega (arith, ints)) in (omega (arith, ints), omega (arith, ints))

-- a difference of two units at most is its own wrapped form
near_along : (periodic : Bool) (side : ℕ) (d e : ℤ) → 8 ≤ side → d ≡ e → nat_abs e ≤ 2 → wrapped_along periodic side d ≡ e
near_along false side d e l same near = same
near_along true side d e l same near = ap (wrapped_along true side) same ∙ wrapped_along-near side e (omega arith) (omega (arith, ints)) (omega (arith, ints))

-- places whose cubes overlap are close along each axis
pub record AreClose (shape : Shape) (p q : P3) : Type 0 where
  pub x : nat_abs (wrapped_along (is_periodic shape 0) (side_of shape 0) (q.x -ℤ p.x)) ≤ 1
  pub y : nat_abs (wrapped_along (is_periodic shape 1) (side_of shape 1) (q.y -ℤ p.y)) ≤ 1
  pub z : nat_abs (wrapped_along (is_periodic shape 2) (side_of shape 2) (q.z -ℤ p.z)) ≤ 1

are_close : (shape : Shape) (p q : P3) → overlaps shape p q ≡ true → AreClose shape p q
are_close shape p q h =
    let parts = and_parts _ _ h in
    let front = and_parts _ _ parts.0 in
    record { x = leb-true _ _ front.0; y = leb-true _ _ front.1; z = leb-true _ _ parts.1 }

-- two monomers are apart where they are not close
pub overlaps-apart : (shape : Shape) (p q : P3) → (AreClose shape p q → ⊥) → overlaps shape p q ≡ false
overlaps-apart shape p q h = by_test (overlaps shape p q) refl
  where
    by_test : (t : Bool) → overlaps shape p q ≡ t → t ≡ false
    by_test true e = absurd (h (are_close shape p q e))
    by_test false e = refl

-- ---- bonds of two units
usual_twice : (dir : Dir) → is_some (id_of usual_set (plus (step_of dir) (step_of dir))) ≡ true
unfolding usual_set usual_vectors near_vectors
usual_twice XUp = refl
usual_twice XDown = refl
usual_twice YUp = refl
usual_twice YDown = refl
usual_twice ZUp = refl
usual_twice ZDown = refl

small : (dir : Dir) → extent_of (plus (step_of dir) (step_of dir)) ≤ 2
small XUp = omega arith
small XDown = omega arith
small YUp = omega arith
small YDown = omega arith
small ZUp = omega arith
small ZDown = omega arith

-- with the usual set, a bond may run two units along an axis
pub may_bond-two : (shape : Shape) (p q : P3) → IsBox shape → LiesTwoOn p q → may_bond shape usual_set p q ≡ true
may_bond-two shape p q box (dir, e) =
    let near = small dir in
    let vector : wrapped shape (minus (plus (plus p (step_of dir)) (step_of dir)) p) ≡ plus (step_of dir) (step_of dir) =
    P3-same _ _ (near_along (is_periodic shape 0) (side_of shape 0) _ _ box.sides.x.0 (twice_away p.x (step_of dir).x) (omega arith))
    (near_along (is_periodic shape 1) (side_of shape 1) _ _ box.sides.y.0 (twice_away p.y (step_of dir).y) (omega arith))
    (near_along (is_periodic shape 2) (side_of shape 2) _ _ box.sides.z.0 (twice_away p.z (step_of dir).z) (omega arith)) in
    ap (λ r. is_some (id_of usual_set (wrapped shape (minus r p)))) e ∙ (ap (λ u. is_some (id_of usual_set u)) vector ∙ usual_twice dir)
  where
    twice_away : (p s : ℤ) → p +ℤ s +ℤ s -ℤ p ≡ s +ℤ s
    twice_away p s = omega (arith, ints)

-- ---- placing
-- The monomer with the number k may stand at its place once those before it stand at theirs.
pub record MayStand (shape : Shape) (place : ℕ → P3) (k : ℕ) : Type 0 where
  pub inside : is_within_walls shape (place k) ≡ true
  pub apart : (j : ℕ) → j < k → overlaps shape (place j) (place k) ≡ false

clear_from : (shape : Shape) (place : ℕ → P3) (k a n : ℕ) → MayStand shape place k → a + n ≤ k → is_clear shape (map place (range_with_len a n)) (place k) ≡ true
clear_from shape place k a zero s l = refl
clear_from shape place k a (suc n) s l = both _ _ (ap not (s.apart a (omega arith))) (clear_from shape place k (a + 1) n s (omega arith))

passes : (inside clear kept : Bool) → inside ≡ true → clear ≡ true → kept ≡ true → cond (not inside) (Some Outside) (cond (not clear) (Some Overlap) (cond (not kept) (Some BadBond) None)) ≡ None
passes inside clear kept a b c = rw (a, b, c) refl

module _ (start now : Draft) (place : ℕ → P3) (k : ℕ) (e : now ≡ with_positions start (map place (range_with_len 0 k))) where
  pub placed_so_far : length now.world.positions ≡ k
  placed_so_far = ap (λ (d : Draft). length d.world.positions) e ∙ length-map-range_with_len place 0 k

  -- the next monomer is not refused
  pub place_refusal-next : MayStand start.world.shape place k → ((i : ℕ) → neighbours_of start.world.bonds i ≡ []) → place_refusal now.world (place k) ≡ None
  place_refusal-next s none =
      let w : Configuration = (with_positions start (map place (range_with_len 0 k))).world in
      ap (λ (d : Draft). place_refusal d.world (place k)) e
      ∙ passes (is_within_walls w.shape (place k)) (is_clear w.shape w.positions (place k)) (keeps_bonds w.shape w.set w.positions (neighbours_of w.bonds (length w.positions)) (place k)) s.inside
      (clear_from w.shape place k 0 k s (omega arith)) (ap (λ row. keeps_bonds w.shape w.set w.positions row (place k)) (none (length w.positions)))

  pub placed_next : (later : Draft) (p : P3) → p ≡ place k → later ≡ with_positions now (now.world.positions ++ p ∷ []) → later ≡ with_positions start (map place (range_with_len 0 (k + 1)))
  placed_next later p here new =
      new
      ∙ (ap (λ (d : Draft). with_positions d (d.world.positions ++ p ∷ [])) e
      ∙ (ap (λ q. with_positions start (map place (range_with_len 0 k) ++ q ∷ [])) here
      ∙ ap (with_positions start) (sym (map-range_with_len_more place 0 k k (omega arith)))))

-- places that are each no further than a bound reach no further
pub reach_of-map-range_with_len : (place : ℕ → P3) (first n most : ℕ) → ((k : ℕ) → k < first + n → extent_of (place k) ≤ most) → reach_of (map place (range_with_len first n)) ≤ most
reach_of-map-range_with_len place first zero most near = omega arith
reach_of-map-range_with_len place first (suc n) most near =
    let here : extent_of (place first) ≤ most = near first (omega arith) in
    let rest : reach_of (map place (range_with_len (first + 1) n)) ≤ most = reach_of-map-range_with_len place (first + 1) n most (λ k l. near k (omega arith)) in
    omega arith
