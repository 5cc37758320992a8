-- Melts of linear chains. The box is cut into cells of two sites a side, one way leads to and fro through all cells,
-- and the monomers stand along it, one in each cell. Cells and monomers are counted from 0.
use Rattle.std.specs.Prelude.{ℕ, ◌-◌, ◌*◌, ◌/◌, ◌%◌, nat_eq, pos, List, map, if◌then◌else◌}
use Rattle.std.specs.List.{range_with_len}
use Rattle.bfm_base.specs.declared.place.P3.{P3}
use Rattle.bfm_base.specs.declared.place.Shape.{Shape}
use Rattle.bfm_geom.specs.Difference.{side_of}
use Rattle.bond_set.specs.UsualSet.{usual_set}
use Rattle.contact_table.specs.Contacts.{no_contacts}
use Rattle.bfm_world.specs.Configuration.{Configuration}
use Rattle.bfm_world.specs.Draft.{begun, with_positions, with_bonds}
use Rattle.bfm_world.specs.Chains.{chain_bonds}

-- how many cells there are along an axis, and in all
abbrev pub cells_along : Shape → ℕ → ℕ
cells_along shape axis = side_of shape axis / 2

abbrev pub cells_in : Shape → ℕ
cells_in shape = cells_along shape 0 * cells_along shape 1 * cells_along shape 2

-- Where one stands along a line of n places after k steps, going to and fro: forth along one line, one step over to the
-- next, back along that one.
abbrev pub to_and_fro : ℕ → ℕ → ℕ
to_and_fro n k = if nat_eq (k / n % 2) 0 then k % n else n - 1 - k % n

-- The place of cell k, two sites for each cell. Its row is k / nx, and its layer is row / ny: the way goes to and fro
-- along x in each row, to and fro along y from row to row of a layer, and up along z from layer to layer.
abbrev pub place_of : Shape → ℕ → P3
place_of shape k =
    let row = k / cells_along shape 0 in
    record {
      x = pos (2 * to_and_fro (cells_along shape 0) k);
      y = pos (2 * to_and_fro (cells_along shape 1) row);
      z = pos (2 * (row / cells_along shape 1));
    }

-- the places of the first n cells
abbrev pub melt_positions : Shape → ℕ → List P3
melt_positions shape n = map (place_of shape) (range_with_len 0 n)

-- so many chains of this length
abbrev pub melt_world : Shape → ℕ → ℕ → Configuration
melt_world shape chains length =
    let n = chains * length in
    (with_bonds (with_positions (begun shape usual_set no_contacts n) (melt_positions shape n)) (chain_bonds length n)).world
