-- The places of the cells: within the walls, apart from each other, each two units from the one before it.
use Rattle.std.proofs.Common.{◌≡◌, ℕ, ◌+◌, ◌*◌, ◌/◌, ◌<◌, ◌≤◌, true, length, ap, ◌∙◌, arith, pos}
use Rattle.std.proofs.lemmas.Int.{ints}
use Rattle.std.proofs.lemmas.List.FromFn.{length-map-range_with_len}
use Rattle.bfm_base.specs.declared.limits.TheConstants.{GREATEST_SIDE}
use Rattle.bfm_base.specs.declared.place.Dir.TheVariants.{XUp, XDown, YUp, YDown, ZUp}
use Rattle.bfm_base.specs.declared.place.Shape.{Shape}
use Rattle.bfm_base.specs.Place.{extent_of}
use Rattle.bfm_geom.specs.Difference.{IsBox, side_of, is_periodic}
use Rattle.bfm_geom.specs.Walls.{is_within_walls}
use Rattle.bfm_geom.proofs.DifferenceLemmas.{P3-same}
use Rattle.bfm_world.specs.Chains.{LiesTwoOn}
use Rattle.bfm_world.proofs.StartLemmas.{both, within_along, close_along, AreClose, overlaps-apart, MayStand}
use Rattle.melt_builder.specs.Melt.{cells_along, cells_in, to_and_fro, place_of, melt_positions}
use Rattle.melt_builder.proofs.WayLemmas.{to_and_fro-below, to_and_fro-same, NextStep, forth, back, over, next_step, layer_below}

pub length-melt_positions : (shape : Shape) (n : ℕ) → length (melt_positions shape n) ≡ n
length-melt_positions shape n = length-map-range_with_len (place_of shape) 0 n

module _ (shape : Shape) (box : IsBox shape) where
  some_x : 0 < cells_along shape 0
  some_x = omega (arith, box.sides.x.0)

  some_y : 0 < cells_along shape 1
  some_y = omega (arith, box.sides.y.0)

  column_below : (k : ℕ) → to_and_fro (cells_along shape 0) k < cells_along shape 0
  column_below k = to_and_fro-below (cells_along shape 0) k some_x

  row_below : (k : ℕ) → to_and_fro (cells_along shape 1) (k / cells_along shape 0) < cells_along shape 1
  row_below k = to_and_fro-below (cells_along shape 1) (k / cells_along shape 0) some_y

  height_below : (k : ℕ) → k < cells_in shape → k / cells_along shape 0 / cells_along shape 1 < cells_along shape 2
  height_below k l = layer_below (cells_along shape 0) (cells_along shape 1) (cells_along shape 2) k some_x some_y l

  place_of-within : (k : ℕ) → k < cells_in shape → is_within_walls shape (place_of shape k) ≡ true
  place_of-within k l =
      both _ _
      (both _ _ (within_along (is_periodic shape 0) (side_of shape 0) (2 * to_and_fro (cells_along shape 0) k) (omega (arith, column_below k)))
      (within_along (is_periodic shape 1) (side_of shape 1) (2 * to_and_fro (cells_along shape 1) (k / cells_along shape 0)) (omega (arith, row_below k))))
      (within_along (is_periodic shape 2) (side_of shape 2) (2 * (k / cells_along shape 0 / cells_along shape 1)) (omega (arith, height_below k l)))

  -- cells that are close are one
  same_cell : (j k : ℕ) → j < cells_in shape → k < cells_in shape → AreClose shape (place_of shape j) (place_of shape k) → j ≡ k
  same_cell j k lj lk close =
      let x = close_along (is_periodic shape 0) (side_of shape 0) (2 * to_and_fro (cells_along shape 0) j) (2 * to_and_fro (cells_along shape 0) k) (omega (arith, column_below j)) (omega (arith, column_below k)) close.x in
      let y = close_along (is_periodic shape 1) (side_of shape 1) (2 * to_and_fro (cells_along shape 1) (j / cells_along shape 0)) (2 * to_and_fro (cells_along shape 1) (k / cells_along shape 0)) (omega (arith, row_below j))
      (omega (arith, row_below k)) close.y in
      let z = close_along (is_periodic shape 2) (side_of shape 2) (2 * (j / cells_along shape 0 / cells_along shape 1)) (2 * (k / cells_along shape 0 / cells_along shape 1)) (omega (arith, height_below j lj))
      (omega (arith, height_below k lk)) close.z in
      to_and_fro-same (cells_along shape 0) j k some_x
      (to_and_fro-same (cells_along shape 1) (j / cells_along shape 0) (k / cells_along shape 0) some_y (omega arith) (omega arith)) (omega arith)

  -- each monomer may stand in its cell once those before it stand in theirs
  pub MayStand-place_of : (k : ℕ) → k < cells_in shape → MayStand shape (place_of shape) k
  MayStand-place_of k l = record {
    inside = place_of-within k l;
    apart = λ j m. overlaps-apart shape (place_of shape j) (place_of shape k) (λ close. let same = same_cell j k (omega arith) l close in absurd (omega arith));
  }

  -- no coordinate is above the greatest side
  pub place_of-near : (k : ℕ) → k < cells_in shape → extent_of (place_of shape k) ≤ GREATEST_SIDE
  place_of-near k l = omega (arith, box.sides.x.1, box.sides.y.1, box.sides.z.1, column_below k, row_below k, height_below k l)

  -- the next cell lies beside this one
  pub place_of-next : (k : ℕ) → LiesTwoOn (place_of shape k) (place_of shape (k + 1))
  place_of-next k = along_x (next_step (cells_along shape 0) k some_x)
    where
      along_y : (k + 1) / cells_along shape 0 ≡ k / cells_along shape 0 + 1 → to_and_fro (cells_along shape 0) (k + 1) ≡ to_and_fro (cells_along shape 0) k → NextStep (cells_along shape 1) (k / cells_along shape 0)
          → LiesTwoOn (place_of shape k) (place_of shape (k + 1))
      along_y line same (forth layer e) =
          (YUp, P3-same _ _ (omega (arith, ints)) (ap (λ r. pos (2 * to_and_fro (cells_along shape 1) r)) line ∙ omega (arith, ints)) (ap (λ r. pos (2 * (r / cells_along shape 1))) line ∙ omega (arith, ints)))
      along_y line same (back layer e) =
          (YDown, P3-same _ _ (omega (arith, ints)) (ap (λ r. pos (2 * to_and_fro (cells_along shape 1) r)) line ∙ omega (arith, ints)) (ap (λ r. pos (2 * (r / cells_along shape 1))) line ∙ omega (arith, ints)))
      along_y line same (over layer e) =
          (ZUp, P3-same _ _ (omega (arith, ints)) (ap (λ r. pos (2 * to_and_fro (cells_along shape 1) r)) line ∙ omega (arith, ints)) (ap (λ r. pos (2 * (r / cells_along shape 1))) line ∙ omega (arith, ints)))

      along_x : NextStep (cells_along shape 0) k → LiesTwoOn (place_of shape k) (place_of shape (k + 1))
      along_x (forth line e) =
          (XUp, P3-same _ _ (omega (arith, ints)) (ap (λ r. pos (2 * to_and_fro (cells_along shape 1) r)) line ∙ omega (arith, ints)) (ap (λ r. pos (2 * (r / cells_along shape 1))) line ∙ omega (arith, ints)))
      along_x (back line e) =
          (XDown, P3-same _ _ (omega (arith, ints)) (ap (λ r. pos (2 * to_and_fro (cells_along shape 1) r)) line ∙ omega (arith, ints)) (ap (λ r. pos (2 * (r / cells_along shape 1))) line ∙ omega (arith, ints)))
      along_x (over line e) = along_y line e (next_step (cells_along shape 1) (k / cells_along shape 0) some_y)
