-- The numbers of a network are small, and nodes have their places by their numbers.
use Rattle.std.proofs.Common.{◌≡◌, ℕ, zero, suc, ◌+◌, ◌*◌, ◌/◌, ◌%◌, ◌^◌, ◌<◌, ◌≤◌, inl, inr, ap, sym, ◌∙◌, subst, arith}
use Rattle.std.proofs.Math.Nat.{mul_comm, mul_assoc, mul-le-mul_left, div-add-mod}
use Rattle.std.proofs.lemmas.Bool.Decides.{eqb_tells}
use Rattle.std.proofs.lemmas.Nat.{mod_below, div_below, div-mul-add, mod-mul-add, mul-le}
use Rattle.network_builder.specs.declared.nodes.Axis.{Axis}
use Rattle.network_builder.specs.declared.nodes.Axis.TheVariants.{X, Y, Z}
use Rattle.network_builder.specs.Network.{IsNetwork, side_for, monomers_of_node, monomers_in, node_at, number_of, node_along, next_in_row}

-- how many cells of two units there are along an axis
abbrev pub cells : ℕ → ℕ → ℕ
cells nodes strand = nodes * (strand + 1)

pub side-cells : (nodes strand : ℕ) → side_for nodes strand ≡ 2 * cells nodes strand
side-cells nodes strand = mul_assoc 2 nodes (strand + 1)

-- ---- a network's numbers are small
pub some_nodes : (nodes strand : ℕ) → IsNetwork nodes strand → 0 < nodes
some_nodes zero strand net = absurd (let l : 8 ≤ 2 * cells zero strand = subst (λ s. 8 ≤ s) (side-cells zero strand) net.least in omega arith)
some_nodes (suc nodes) strand net = omega arith

pub few_cells : (nodes strand : ℕ) → IsNetwork nodes strand → cells nodes strand ≤ 128
few_cells nodes strand net = let l : 2 * cells nodes strand ≤ 256 = subst (λ s. s ≤ 256) (side-cells nodes strand) net.greatest in omega arith

pub enough_cells : (nodes strand : ℕ) → IsNetwork nodes strand → 4 ≤ cells nodes strand
enough_cells nodes strand net = let l : 8 ≤ 2 * cells nodes strand = subst (λ s. 8 ≤ s) (side-cells nodes strand) net.least in omega arith

pub short_strands : (nodes strand : ℕ) → IsNetwork nodes strand → strand < 128
short_strands nodes strand net =
    let one : 1 * (strand + 1) ≤ nodes * (strand + 1) = mul-le 1 (strand + 1) nodes (strand + 1) (some_nodes nodes strand net) (omega arith) in
    omega (arith, few_cells nodes strand net)

pub few_nodes : (nodes strand : ℕ) → IsNetwork nodes strand → nodes ≤ 128
few_nodes nodes strand net =
    let one : nodes * 1 ≤ nodes * (strand + 1) = mul-le nodes 1 nodes (strand + 1) (omega arith) (omega arith) in
    omega (arith, few_cells nodes strand net)

pub few_numbers : (nodes strand g : ℕ) → IsNetwork nodes strand → g < nodes * nodes * nodes → g < 2 ^ 32
few_numbers nodes strand g net l =
    let all : nodes * nodes * nodes * 1 ≤ monomers_in nodes strand = mul-le (nodes * nodes * nodes) 1 (nodes * nodes * nodes) (monomers_of_node strand) (omega arith) (omega arith) in
    omega (arith, net.few)

-- ---- rows of nodes
row_below : (n m a b : ℕ) → a < n → b < m → a + n * b < n * m
row_below n m a b h k =
    let up : b + 1 ≤ m = omega arith in
    let more : n * (b + 1) ≤ n * m = mul-le-mul_left n up in
    omega arith

pub next_in_row-below : (n c : ℕ) → c < n → next_in_row n c < n
next_in_row-below n c h = elim (eqb_tells (c + 1) n) [ inl a ↦ rw a.0 (omega arith) | inr a ↦ rw a.0 (omega (arith, a.1)) ]

-- ---- a node and its number
module _ (nodes x y z : ℕ) (in_row : x < nodes) (in_layer : y < nodes) where
  number_turned : x + nodes * (y + nodes * z) ≡ (z * nodes + y) * nodes + x
  number_turned = omega (arith, mul_comm nodes (y + nodes * z), mul_comm nodes z, ap (λ m. m * nodes) (mul_comm nodes z))

  row_of-number : (x + nodes * (y + nodes * z)) / nodes ≡ z * nodes + y
  row_of-number = ap (λ m. m / nodes) number_turned ∙ div-mul-add (z * nodes + y) nodes x in_row

  -- the node with its number is the one at its place
  pub x_of-number : (x + nodes * (y + nodes * z)) % nodes ≡ x
  x_of-number = ap (λ m. m % nodes) number_turned ∙ mod-mul-add (z * nodes + y) nodes x in_row

  pub y_of-number : (x + nodes * (y + nodes * z)) / nodes % nodes ≡ y
  y_of-number = ap (λ m. m % nodes) row_of-number ∙ mod-mul-add z nodes y in_layer

  pub z_of-number : (x + nodes * (y + nodes * z)) / nodes / nodes ≡ z
  z_of-number = ap (λ m. m / nodes) row_of-number ∙ div-mul-add z nodes y in_layer

-- the number of the node with this number
pub number_of-node_at : (nodes g : ℕ) → number_of nodes (node_at nodes g) ≡ g
number_of-node_at nodes g =
    let row : nodes * (g / nodes / nodes) + g / nodes % nodes ≡ g / nodes = div-add-mod (g / nodes) nodes in
    let all : nodes * (g / nodes) + g % nodes ≡ g = div-add-mod g nodes in
    let turned : g / nodes % nodes + nodes * (g / nodes / nodes) ≡ g / nodes = omega arith in
    ap (λ r. g % nodes + nodes * r) turned ∙ omega arith

-- a node is within the lattice
pub node_at-below : (nodes g : ℕ) (axis : Axis) → 0 < nodes → g < nodes * nodes * nodes → node_along axis (node_at nodes g) < nodes
node_at-below nodes g X some l = mod_below g nodes some
node_at-below nodes g Y some l = mod_below (g / nodes) nodes some
node_at-below nodes g Z some l = div_below (g / nodes) nodes nodes some (div_below g nodes (nodes * nodes) some l)

pub number_of-below : (nodes x y z : ℕ) → x < nodes → y < nodes → z < nodes → x + nodes * (y + nodes * z) < nodes * nodes * nodes
number_of-below nodes x y z in_x in_y in_z =
    subst (λ m. x + nodes * (y + nodes * z) < m) (sym (mul_assoc nodes nodes nodes)) (row_below nodes (nodes * nodes) x (y + nodes * z) in_x (row_below nodes nodes y z in_y in_z))
