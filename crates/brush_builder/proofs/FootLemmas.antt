-- The places of a brush: within the walls, apart from each other, and within a chain each two units above the one before it.
use Rattle.std.proofs.Common.{◌≡◌, ℕ, ◌+◌, ◌*◌, ◌/◌, ◌%◌, ◌<◌, ◌≤◌, true, inl, inr, ap, sym, ◌∙◌, arith, pos}
use Rattle.std.proofs.Math.Nat.{mul_comm, mul-le-mul_right}
use Rattle.std.proofs.lemmas.Bool.{cases_order}
use Rattle.std.proofs.lemmas.Int.{ints}
use Rattle.std.proofs.lemmas.Nat.{mod_below, div_below, div-add-mod', le-div, mul-le}
use Rattle.bfm_base.specs.declared.limits.TheConstants.{GREATEST_SIDE}
use Rattle.bfm_base.specs.declared.place.Dir.TheVariants.{ZUp}
use Rattle.bfm_base.specs.declared.place.Shape.{Shape}
use Rattle.bfm_base.specs.Place.{extent_of}
use Rattle.bfm_geom.specs.Difference.{IsBox, side_of, is_periodic}
use Rattle.bfm_geom.proofs.DifferenceLemmas.{P3-same}
use Rattle.bfm_world.specs.Chains.{goes_on, LiesTwoOn}
use Rattle.bfm_world.proofs.BondLemmas.{test-eq}
use Rattle.bfm_world.proofs.StartLemmas.{both, within_along, close_along, AreClose, overlaps-apart, MayStand}
use Rattle.brush_builder.specs.Brush.{feet_along, feet_in, room_above, place_of}

-- a foot in its row leaves room for the monomer
spaced_below : (side s a : ℕ) → 2 ≤ s → a < side / s → s * a + 2 ≤ side
spaced_below side s a two l =
    let up : a + 1 ≤ side / s = omega arith in
    omega (arith, mul-le-mul_right s up, div-add-mod' side s, mul_comm s a)

-- feet that are close are one
spaced_same : (s a b : ℕ) → 2 ≤ s → s * a ≤ s * b + 1 → s * b ≤ s * a + 1 → a ≡ b
spaced_same s a b two h k =
    elim (cases_order a b) [
      | inl e ↦ e
      | inr (inl l) ↦ let up : a + 1 ≤ b = omega arith in absurd (omega (arith, mul-le-mul_right s up, mul_comm s a, mul_comm s b))
      | inr (inr l) ↦ let up : b + 1 ≤ a = omega arith in absurd (omega (arith, mul-le-mul_right s up, mul_comm s a, mul_comm s b))
    ]

-- some foot carries a chain
pub some_monomers : (shape : Shape) (spacing size : ℕ) → 0 < spacing → spacing ≤ side_of shape 0 → spacing ≤ side_of shape 1 → 1 ≤ size → 1 ≤ feet_in shape spacing * size
some_monomers shape spacing size apart across deep some =
    let x : 1 ≤ feet_along shape spacing 0 = le-div 1 (side_of shape 0) spacing apart (omega arith) in
    let y : 1 ≤ feet_along shape spacing 1 = le-div 1 (side_of shape 1) spacing apart (omega arith) in
    mul-le 1 1 (feet_in shape spacing) size (mul-le 1 1 (feet_along shape spacing 0) (feet_along shape spacing 1) x y) some

module _ (shape : Shape) (box : IsBox shape) (spacing size : ℕ) (two : 2 ≤ spacing) (across : spacing ≤ side_of shape 0) (deep : spacing ≤ side_of shape 1) (some : 0 < size) (room : size ≤ room_above shape) where
  some_feet : 0 < feet_along shape spacing 0
  some_feet = le-div 1 (side_of shape 0) spacing (omega arith) (omega arith)

  column_below : (k : ℕ) → k / size % feet_along shape spacing 0 < feet_along shape spacing 0
  column_below k = mod_below (k / size) (feet_along shape spacing 0) some_feet

  row_below : (k : ℕ) → k < feet_in shape spacing * size → k / size / feet_along shape spacing 0 < feet_along shape spacing 1
  row_below k l =
      let chain : k / size < feet_in shape spacing = div_below k size (feet_in shape spacing) some l in
      div_below (k / size) (feet_along shape spacing 0) (feet_along shape spacing 1) some_feet (omega (arith, mul_comm (feet_along shape spacing 0) (feet_along shape spacing 1)))

  x_fits : (k : ℕ) → spacing * (k / size % feet_along shape spacing 0) + 2 ≤ side_of shape 0
  x_fits k = spaced_below (side_of shape 0) spacing (k / size % feet_along shape spacing 0) two (column_below k)

  y_fits : (k : ℕ) → k < feet_in shape spacing * size → spacing * (k / size / feet_along shape spacing 0) + 2 ≤ side_of shape 1
  y_fits k l = spaced_below (side_of shape 1) spacing (k / size / feet_along shape spacing 0) two (row_below k l)

  z_fits : (k : ℕ) → 2 * (k % size) + 2 ≤ side_of shape 2
  z_fits k = omega (arith, mod_below k size some)

  -- monomers that are close are one
  same_monomer : (j k : ℕ) → j < feet_in shape spacing * size → k < feet_in shape spacing * size → AreClose shape (place_of shape spacing size j) (place_of shape spacing size k) → j ≡ k
  same_monomer j k lj lk close =
      let row = feet_along shape spacing 0 in
      let x = close_along (is_periodic shape 0) (side_of shape 0) (spacing * (j / size % row)) (spacing * (k / size % row)) (x_fits j) (x_fits k) close.x in
      let y = close_along (is_periodic shape 1) (side_of shape 1) (spacing * (j / size / row)) (spacing * (k / size / row)) (y_fits j lj) (y_fits k lk) close.y in
      let z = close_along (is_periodic shape 2) (side_of shape 2) (2 * (j % size)) (2 * (k % size)) (z_fits j) (z_fits k) close.z in
      let columns : j / size % row ≡ k / size % row = spaced_same spacing _ _ two x.0 x.1 in
      let rows : j / size / row ≡ k / size / row = spaced_same spacing _ _ two y.0 y.1 in
      let heights : j % size ≡ k % size = omega arith in
      let chains : j / size ≡ k / size =
      sym (div-add-mod' (j / size) row) ∙ (ap (λ r. r * row + j / size % row) rows ∙ (ap (λ c. k / size / row * row + c) columns ∙ div-add-mod' (k / size) row)) in
      sym (div-add-mod' j size) ∙ (ap (λ c. c * size + j % size) chains ∙ (ap (λ h. k / size * size + h) heights ∙ div-add-mod' k size))

  -- each monomer may stand at its place once those before it stand at theirs
  pub MayStand-place_of : (k : ℕ) → k < feet_in shape spacing * size → MayStand shape (place_of shape spacing size) k
  MayStand-place_of k l = record {
    inside = both _ _
        (both _ _ (within_along (is_periodic shape 0) (side_of shape 0) (spacing * (k / size % feet_along shape spacing 0)) (x_fits k))
        (within_along (is_periodic shape 1) (side_of shape 1) (spacing * (k / size / feet_along shape spacing 0)) (y_fits k l)))
        (within_along (is_periodic shape 2) (side_of shape 2) (2 * (k % size)) (z_fits k));
    apart = λ j m. overlaps-apart shape (place_of shape spacing size j) (place_of shape spacing size k) (λ close. let same = same_monomer j k (omega arith) l close in absurd (omega arith));
  }

  -- no coordinate is above the greatest side
  pub place_of-near : (k : ℕ) → k < feet_in shape spacing * size → extent_of (place_of shape spacing size k) ≤ GREATEST_SIDE
  place_of-near k l = omega (arith, box.sides.x.1, box.sides.y.1, box.sides.z.1, x_fits k, y_fits k l, z_fits k)

  -- the next monomer of a chain stands two units above
  pub place_of-next : (k : ℕ) → goes_on size k ≡ true → LiesTwoOn (place_of shape spacing size k) (place_of shape spacing size (k + 1))
  place_of-next k same =
      let chain : (k + 1) / size ≡ k / size = sym (test-eq (k / size) ((k + 1) / size) same) in
      let up : (k + 1) % size ≡ k % size + 1 = omega (arith, div-add-mod' k size, div-add-mod' (k + 1) size, ap (λ c. c * size) chain) in (
        ZUp,
        P3-same _ _ (ap (λ c. pos (spacing * (c % feet_along shape spacing 0))) chain ∙ omega (arith, ints))
            (ap (λ c. pos (spacing * (c / feet_along shape spacing 0))) chain ∙ omega (arith, ints)) (omega (arith, ints)),
      )
