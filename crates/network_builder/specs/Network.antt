-- Networks: nodes in a cubic lattice, each joined by a strand to the next one along each axis, in a box that is periodic
-- along all axes. Nodes and monomers are counted from 0. A node takes successive monomers: itself, then those of its
-- strand along x, of that along y, and of that along z.
use Rattle.std.specs.Prelude.{ℕ, ◌+◌, ◌-◌, ◌*◌, ◌/◌, ◌%◌, ◌≤◌, Bool, true, ◌&&◌, ◌||◌, nat_lt, nat_le, nat_eq, pos, List, [], ◌∷◌, map, if◌then◌else◌}
use Rattle.std.specs.List.{range_with_len, filter}
use Rattle.bfm_base.specs.declared.limits.TheConstants.{LEAST_SIDE, MOST_MONOMERS}
use Rattle.bfm_base.specs.declared.place.P3.{P3}
use Rattle.bfm_base.specs.declared.place.Dir.{Dir}
use Rattle.bfm_base.specs.declared.place.Dir.TheVariants.{XUp, YUp, ZUp}
use Rattle.bfm_base.specs.declared.place.Shape.{Shape}
use Rattle.bond_set.specs.UsualSet.{usual_set}
use Rattle.contact_table.specs.Contacts.{no_contacts}
use Rattle.bfm_world.specs.Configuration.{Configuration}
use Rattle.bfm_world.specs.Draft.{begun, with_positions, with_bonds}
use Rattle.network_builder.specs.declared.nodes.Axis.{Axis}
use Rattle.network_builder.specs.declared.nodes.Axis.TheVariants.{X, Y, Z}
use Rattle.network_builder.specs.declared.nodes.Node.{Node}

-- how many monomers a node takes: itself and those of its three strands
abbrev pub monomers_of_node : ℕ → ℕ
monomers_of_node strand = 1 + 3 * strand

-- the monomers of so many nodes along each axis, whose strands have so many monomers
abbrev pub monomers_in : ℕ → ℕ → ℕ
monomers_in nodes strand = nodes * nodes * nodes * monomers_of_node strand

-- the side of the box: two lattice units for each node of a row and for each monomer of its strands along the row
abbrev pub side_for : ℕ → ℕ → ℕ
side_for nodes strand = 2 * nodes * (strand + 1)

abbrev pub network_shape : ℕ → ℕ → Shape
network_shape nodes strand = record {
  sides = side_for nodes strand ∷ side_for nodes strand ∷ side_for nodes strand ∷ [];
  periodic = true ∷ true ∷ true ∷ [];
}

-- The box is large enough, and it has at most as many sites and the network as many monomers as may be.
pub record IsNetwork (nodes strand : ℕ) : Type 0 where
  pub least : LEAST_SIDE ≤ side_for nodes strand
  pub greatest : side_for nodes strand ≤ 256
  pub few : monomers_in nodes strand ≤ MOST_MONOMERS

-- ---- nodes
-- The place of a node in the lattice of nodes, and its number: x runs fastest, and z slowest.
abbrev pub node_at : ℕ → ℕ → Node
node_at nodes g = record { x = g % nodes; y = g / nodes % nodes; z = g / nodes / nodes }

abbrev pub number_of : ℕ → Node → ℕ
number_of nodes node = node.x + nodes * (node.y + nodes * node.z)

abbrev pub node_along : Axis → Node → ℕ
node_along X node = node.x
node_along Y node = node.y
node_along Z node = node.z

-- the next place in a row of n places, and after the last one the first
abbrev pub next_in_row : ℕ → ℕ → ℕ
next_in_row n c = if nat_eq (c + 1) n then 0 else c + 1

-- the next node along an axis
abbrev pub next_node : ℕ → Axis → Node → Node
next_node nodes X node = record { x = next_in_row nodes node.x; y = node.y; z = node.z }
next_node nodes Y node = record { x = node.x; y = next_in_row nodes node.y; z = node.z }
next_node nodes Z node = record { x = node.x; y = node.y; z = next_in_row nodes node.z }

-- ---- strands
-- how many strands of a node come before that along an axis
abbrev pub strands_before : Axis → ℕ
strands_before X = 0
strands_before Y = 1
strands_before Z = 2

-- How many steps monomer m stands from its node along an axis: as many as its place in the strand along that axis says,
-- and none where it is no monomer of that strand.
abbrev pub steps_along : ℕ → Axis → ℕ → ℕ
steps_along strand axis m =
    let within = m % monomers_of_node strand in
    let before = strands_before axis * strand in
    if nat_lt before within && nat_le within (before + strand) then within - before else 0

-- How many steps monomer m stands from the first node along an axis. A step is two lattice units.
abbrev pub cell_along : ℕ → ℕ → Axis → ℕ → ℕ
cell_along nodes strand axis m = (strand + 1) * node_along axis (node_at nodes (m / monomers_of_node strand)) + steps_along strand axis m

abbrev pub place_of : ℕ → ℕ → ℕ → P3
place_of nodes strand m = record { x = pos (2 * cell_along nodes strand X m); y = pos (2 * cell_along nodes strand Y m); z = pos (2 * cell_along nodes strand Z m) }

abbrev pub network_positions : ℕ → ℕ → List P3
network_positions nodes strand = map (place_of nodes strand) (range_with_len 0 (monomers_in nodes strand))

-- ---- bonds
-- monomer m is a node, or it belongs to the strand of its node along an axis
abbrev pub is_on : ℕ → Axis → ℕ → Bool
is_on strand axis m = nat_eq (m % monomers_of_node strand) 0 || nat_lt 0 (steps_along strand axis m)

-- The monomer that comes after such a monomer along the axis: the first of the strand after its node, the next one within
-- the strand, and after the last one the next node, which comes after the node itself where strands have no monomers.
abbrev pub next_along : ℕ → ℕ → Axis → ℕ → ℕ
next_along nodes strand axis m =
    let node = m / monomers_of_node strand in
    let steps = steps_along strand axis m in
    if nat_lt steps strand then node * monomers_of_node strand + strands_before axis * strand + steps + 1
    else number_of nodes (next_node nodes axis (node_at nodes node)) * monomers_of_node strand

-- along this axis, j comes after i
abbrev pub comes_after : ℕ → ℕ → Axis → ℕ → ℕ → Bool
comes_after nodes strand axis i j = is_on strand axis i && nat_eq (next_along nodes strand axis i) j

-- Two monomers are joined along an axis where one comes after the other, and bonded where they are joined along some axis.
abbrev pub are_joined_along : ℕ → ℕ → Axis → ℕ → ℕ → Bool
are_joined_along nodes strand axis i j = comes_after nodes strand axis i j || comes_after nodes strand axis j i

abbrev pub are_joined : ℕ → ℕ → ℕ → ℕ → Bool
are_joined nodes strand i j = are_joined_along nodes strand X i j || are_joined_along nodes strand Y i j || are_joined_along nodes strand Z i j

-- those that monomer i is bonded to, in ascending order
abbrev pub network_neighbours : ℕ → ℕ → ℕ → List ℕ
network_neighbours nodes strand i = filter (are_joined nodes strand i) (range_with_len 0 (monomers_in nodes strand))

abbrev pub network_bonds : ℕ → ℕ → List (List ℕ)
network_bonds nodes strand = map (network_neighbours nodes strand) (range_with_len 0 (monomers_in nodes strand))

-- the direction along which the strands of an axis run
abbrev pub direction_along : Axis → Dir
direction_along X = XUp
direction_along Y = YUp
direction_along Z = ZUp

abbrev pub network_world : ℕ → ℕ → Configuration
network_world nodes strand =
    let new = begun (network_shape nodes strand) usual_set no_contacts (monomers_in nodes strand) in
    (with_bonds (with_positions new (network_positions nodes strand)) (network_bonds nodes strand)).world
