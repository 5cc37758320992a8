-- The places of a network's monomers: apart from each other, and two units on from one monomer to the next along an axis.
use Rattle.std.proofs.Common.{◌≡◌, ℕ, ◌+◌, ◌*◌, ◌<◌, ◌≤◌, true, length, refl, ap, ◌∙◌, arith, pos, ◌-ℤ◌, is_some}
use Rattle.std.proofs.lemmas.Int.{ints}
use Rattle.std.proofs.lemmas.List.FromFn.{length-map-range_with_len, get_or-map-range_with_len}
use Rattle.std.proofs.lemmas.Nat.{mul-le}
use Rattle.bfm_base.specs.Direction.{step_of}
use Rattle.bfm_base.specs.Place.{extent_of}
use Rattle.bfm_geom.specs.Difference.{IsBox, IsNearest, plus, minus, wrapped, wrapped_along}
use Rattle.bfm_geom.proofs.DifferenceLemmas.{wrapped_along-is, IsWrappedAlong-unique, wrapped_along-near, P3-same}
use Rattle.bond_set.specs.BondSet.{id_of}
use Rattle.bond_set.specs.UsualSet.{usual_set, usual_vectors, near_vectors}
use Rattle.bfm_world.specs.Configuration.{may_bond, position_at}
use Rattle.bfm_world.proofs.StartLemmas.{both, within_along, close_along, AreClose, overlaps-apart, MayStand}
use Rattle.network_builder.specs.declared.nodes.Axis.{Axis}
use Rattle.network_builder.specs.declared.nodes.Axis.TheVariants.{X, Y, Z}
use Rattle.network_builder.specs.Network.{IsNetwork, side_for, network_shape, monomers_in, cell_along, place_of, network_positions, is_on, next_along, direction_along}
use Rattle.network_builder.proofs.NodeLemmas.{cells, side-cells, enough_cells}
use Rattle.network_builder.proofs.StrandLemmas.{is_same_axis}
use Rattle.network_builder.proofs.CellLemmas.{IsNext, on, around, StepsOn, cell_along-same, cell_along-below, cell_along-next}

-- ---- along one axis
-- a step to the next cell is two units, wrapped
two_on : (side n p q : ℕ) → side ≡ 2 * n → 4 ≤ n → IsNext n p q → wrapped_along true side (pos (2 * q) -ℤ pos (2 * p)) ≡ pos 2
two_on side n p q e l (on f) =
    let plain : pos (2 * q) -ℤ pos (2 * p) ≡ pos 2 = omega (arith, ints) in
    ap (wrapped_along true side) plain ∙ wrapped_along-near side (pos 2) (omega arith) (omega (arith, ints)) (omega (arith, ints))
two_on side n p q e l (around f g) =
    let nearest : IsNearest side (pos (2 * q) -ℤ pos (2 * p)) (pos 2) =
    record { turns = (pos 1, omega (arith, ints)); above = omega (arith, ints); below = omega (arith, ints) } in
    IsWrappedAlong-unique true side (pos (2 * q) -ℤ pos (2 * p)) _ _ (wrapped_along-is true side (pos (2 * q) -ℤ pos (2 * p)) (omega arith)) nearest

-- and within a cell it is none
none_on : (side p q : ℕ) → 8 ≤ side → q ≡ p → wrapped_along true side (pos (2 * q) -ℤ pos (2 * p)) ≡ pos 0
none_on side p q l e =
    let plain : pos (2 * q) -ℤ pos (2 * p) ≡ pos 0 = omega (arith, ints) in
    ap (wrapped_along true side) plain ∙ wrapped_along-near side (pos 0) (omega arith) (omega (arith, ints)) (omega (arith, ints))

-- the usual set has the vectors of two units along an axis
usual_twice : (a : Axis) → is_some (id_of usual_set (plus (step_of (direction_along a)) (step_of (direction_along a)))) ≡ true
unfolding usual_set usual_vectors near_vectors
usual_twice X = refl
usual_twice Y = refl
usual_twice Z = refl

module _ (nodes strand : ℕ) (net : IsNetwork nodes strand) where
  abbrev side : ℕ
  side = side_for nodes strand

  pub IsBox-network : IsBox (network_shape nodes strand)
  IsBox-network =
      let least : 8 ≤ side = net.least in
      let most : side ≤ 512 = omega (arith, net.greatest) in
      record {
        sides = record { x = (least, most); y = (least, most); z = (least, most) };
        sites = mul-le (side * side) side 65536 256 (mul-le side side 256 256 net.greatest net.greatest) net.greatest;
      }

  fits : (axis : Axis) (k : ℕ) → k < monomers_in nodes strand → 2 * cell_along nodes strand axis k + 2 ≤ side
  fits axis k l = let e = side-cells nodes strand in let below = cell_along-below nodes strand net axis k l in omega arith

  -- monomers that are close are one
  same_monomer : (j k : ℕ) → j < monomers_in nodes strand → k < monomers_in nodes strand → AreClose (network_shape nodes strand) (place_of nodes strand j) (place_of nodes strand k) → j ≡ k
  same_monomer j k lj lk close =
      let x = close_along true side (2 * cell_along nodes strand X j) (2 * cell_along nodes strand X k) (fits X j lj) (fits X k lk) close.x in
      let y = close_along true side (2 * cell_along nodes strand Y j) (2 * cell_along nodes strand Y k) (fits Y j lj) (fits Y k lk) close.y in
      let z = close_along true side (2 * cell_along nodes strand Z j) (2 * cell_along nodes strand Z k) (fits Z j lj) (fits Z k lk) close.z in
      cell_along-same nodes strand j k (omega arith) (omega arith) (omega arith)

  -- each monomer may stand at its place once those before it stand at theirs
  pub MayStand-place_of : (k : ℕ) → k < monomers_in nodes strand → MayStand (network_shape nodes strand) (place_of nodes strand) k
  MayStand-place_of k l = record {
    inside = both _ _ (both _ _ (within_along true side (2 * cell_along nodes strand X k) (fits X k l)) (within_along true side (2 * cell_along nodes strand Y k) (fits Y k l)))
        (within_along true side (2 * cell_along nodes strand Z k) (fits Z k l));
    apart = λ j m. overlaps-apart (network_shape nodes strand) (place_of nodes strand j) (place_of nodes strand k) (λ close. let same = same_monomer j k (omega arith) l close in absurd (omega arith));
  }

  -- no coordinate is above the greatest side
  pub place_of-near : (k : ℕ) → k < monomers_in nodes strand → extent_of (place_of nodes strand k) ≤ 512
  place_of-near k l = omega (arith, net.greatest, fits X k l, fits Y k l, fits Z k l)

  -- from a monomer to the next along an axis it is two units, wrapped
  module _ (a : Axis) (m : ℕ) (l : m < monomers_in nodes strand) (on_axis : is_on strand a m ≡ true) where
    abbrev next : ℕ
    next = next_along nodes strand a m

    pub wrapped-next : wrapped (network_shape nodes strand) (minus (place_of nodes strand next) (place_of nodes strand m)) ≡ plus (step_of (direction_along a)) (step_of (direction_along a))
    wrapped-next = by_axis a (cell_along-next nodes strand net a m l on_axis X) (cell_along-next nodes strand net a m l on_axis Y) (cell_along-next nodes strand net a m l on_axis Z)
      where
        two : (b : Axis) → IsNext (cells nodes strand) (cell_along nodes strand b m) (cell_along nodes strand b next) → wrapped_along true side (pos (2 * cell_along nodes strand b next) -ℤ pos (2 * cell_along nodes strand b m)) ≡ pos 2
        two b s = two_on side (cells nodes strand) _ _ (side-cells nodes strand) (enough_cells nodes strand net) s

        none : (b : Axis) → cell_along nodes strand b next ≡ cell_along nodes strand b m → wrapped_along true side (pos (2 * cell_along nodes strand b next) -ℤ pos (2 * cell_along nodes strand b m)) ≡ pos 0
        none b s = none_on side _ _ net.least s

        by_axis : (c : Axis) → StepsOn (is_same_axis c X) (cells nodes strand) (cell_along nodes strand X m) (cell_along nodes strand X next)
            → StepsOn (is_same_axis c Y) (cells nodes strand) (cell_along nodes strand Y m) (cell_along nodes strand Y next)
            → StepsOn (is_same_axis c Z) (cells nodes strand) (cell_along nodes strand Z m) (cell_along nodes strand Z next)
            → wrapped (network_shape nodes strand) (minus (place_of nodes strand next) (place_of nodes strand m)) ≡ plus (step_of (direction_along c)) (step_of (direction_along c))
        by_axis X x y z = P3-same _ _ (two X x) (none Y y) (none Z z)
        by_axis Y x y z = P3-same _ _ (none X x) (two Y y) (none Z z)
        by_axis Z x y z = P3-same _ _ (none X x) (none Y y) (two Z z)

    -- so a bond may run there
    pub may_bond-next : may_bond (network_shape nodes strand) usual_set (place_of nodes strand m) (place_of nodes strand next) ≡ true
    may_bond-next = ap (λ v. is_some (id_of usual_set v)) wrapped-next ∙ usual_twice a

-- ---- the list of positions
pub length-network_positions : (nodes strand : ℕ) → length (network_positions nodes strand) ≡ monomers_in nodes strand
length-network_positions nodes strand = length-map-range_with_len (place_of nodes strand) 0 (monomers_in nodes strand)

pub position_at-network : (nodes strand k : ℕ) → k < monomers_in nodes strand → position_at (network_positions nodes strand) k ≡ place_of nodes strand k
position_at-network nodes strand k l = get_or-map-range_with_len (place_of nodes strand) 0 (monomers_in nodes strand) k k (record { x = pos 0; y = pos 0; z = pos 0 }) l (omega arith)
