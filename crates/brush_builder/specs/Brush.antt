-- Brushes: upright chains of one length, whose feet stand on the lower wall of the z axis in rows along x, as far apart
-- as the spacing says. Chains and monomers are counted from 0, and the foot is the first monomer of its chain.
use Rattle.std.specs.Prelude.{ℕ, ◌*◌, ◌/◌, ◌%◌, Bool, nat_eq, pos, List, map}
use Rattle.std.specs.List.{range_with_len}
use Rattle.bfm_base.specs.declared.place.P3.{P3}
use Rattle.bfm_base.specs.declared.place.Shape.{Shape}
use Rattle.bfm_geom.specs.Difference.{side_of}
use Rattle.bond_set.specs.UsualSet.{usual_set}
use Rattle.contact_table.specs.Contacts.{no_contacts}
use Rattle.bfm_world.specs.Configuration.{Configuration}
use Rattle.bfm_world.specs.Draft.{begun, with_positions, with_bonds, with_fixed_list}
use Rattle.bfm_world.specs.Chains.{chain_bonds}

-- how many feet there are along an axis, and in all
abbrev pub feet_along : Shape → ℕ → ℕ → ℕ
feet_along shape spacing axis = side_of shape axis / spacing

abbrev pub feet_in : Shape → ℕ → ℕ
feet_in shape spacing = feet_along shape spacing 0 * feet_along shape spacing 1

-- how many monomers of an upright chain fit between the walls
abbrev pub room_above : Shape → ℕ
room_above shape = side_of shape 2 / 2

-- The place of monomer k in chains of this length: above the foot of its chain, two units for each monomer before it.
abbrev pub place_of : Shape → ℕ → ℕ → ℕ → P3
place_of shape spacing length k =
    let chain = k / length in
    record {
      x = pos (spacing * (chain % feet_along shape spacing 0));
      y = pos (spacing * (chain / feet_along shape spacing 0));
      z = pos (2 * (k % length));
    }

-- the places of the first n monomers
abbrev pub brush_positions : Shape → ℕ → ℕ → ℕ → List P3
brush_positions shape spacing length n = map (place_of shape spacing length) (range_with_len 0 n)

-- The first monomer of a chain is its foot. Of the first n monomers the feet are fixed.
abbrev pub is_foot : ℕ → ℕ → Bool
is_foot length k = nat_eq (k % length) 0

abbrev pub feet_marks : ℕ → ℕ → List Bool
feet_marks length n = map (is_foot length) (range_with_len 0 n)

-- a chain of this length on each foot
abbrev pub brush_world : Shape → ℕ → ℕ → Configuration
brush_world shape spacing length =
    let n = feet_in shape spacing * length in
    let chains = with_bonds (with_positions (begun shape usual_set no_contacts n) (brush_positions shape spacing length n)) (chain_bonds length n) in
    (with_fixed_list chains (feet_marks length n)).world
