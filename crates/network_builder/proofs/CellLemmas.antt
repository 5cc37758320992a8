-- The cells of a network's monomers: no two share one, and the monomer that comes after another stands in the next cell.
use Rattle.std.proofs.Common.{◌≡◌, ℕ, ◌+◌, ◌*◌, ◌/◌, ◌%◌, ◌<◌, ◌≤◌, Bool, true, false, cond, ◌⊎◌, nat_lt, nat_eq, inl, inr, refl, ap, sym, ◌∙◌, subst, arith}
use Rattle.std.proofs.Math.Nat.{mul_comm, mul-le-mul_left, mul-le-mul_right}
use Rattle.std.proofs.lemmas.Bool.Decides.{nat_tests, eqb_tells}
use Rattle.std.proofs.lemmas.Nat.{mod_below, div_below, div-add-mod', div-mul-add, mod-mul-add}
use Rattle.network_builder.specs.declared.nodes.Axis.{Axis}
use Rattle.network_builder.specs.declared.nodes.Axis.TheVariants.{X, Y, Z}
use Rattle.network_builder.specs.declared.nodes.Node.{Node}
use Rattle.network_builder.specs.Network.{IsNetwork, monomers_of_node, monomers_in, node_at, number_of, node_along, next_in_row, next_node, strands_before, steps_along, cell_along, is_on, next_along}
use Rattle.network_builder.proofs.NodeLemmas.{cells, some_nodes, enough_cells, next_in_row-below, x_of-number, y_of-number, z_of-number, number_of-node_at, node_at-below, number_of-below}
use Rattle.network_builder.proofs.StrandLemmas.{steps_within, steps_within-most, steps_within-node, steps_within-strand, steps_within-same, is_same_axis, is_on-other}

-- a node and the steps from it are told by the cell
cell_parts : (n c d s t : ℕ) → s < n → t < n → n * c + s ≡ n * d + t → (c ≡ d) × (s ≡ t)
cell_parts n c d s t ls lt e =
    let turned : c * n + s ≡ d * n + t = omega (arith, mul_comm n c, mul_comm n d) in (
      sym (div-mul-add c n s ls) ∙ (ap (λ m. m / n) turned ∙ div-mul-add d n t lt),
      sym (mod-mul-add c n s ls) ∙ (ap (λ m. m % n) turned ∙ mod-mul-add d n t lt),
    )

-- ---- axes
pub axis_same : (a b : Axis) → is_same_axis a b ≡ true → a ≡ b
axis_same X X e = refl
axis_same X Y e = absurd (cc)
axis_same X Z e = absurd (cc)
axis_same Y X e = absurd (cc)
axis_same Y Y e = refl
axis_same Y Z e = absurd (cc)
axis_same Z X e = absurd (cc)
axis_same Z Y e = absurd (cc)
axis_same Z Z e = refl

same_axis : (a : Axis) → is_same_axis a a ≡ true
same_axis X = refl
same_axis Y = refl
same_axis Z = refl

-- the next node stands one place on along its axis, and at the same place along the others
next_node-along : (nodes : ℕ) (a b : Axis) (node : Node) → node_along b (next_node nodes a node) ≡ cond (is_same_axis a b) (next_in_row nodes (node_along b node)) (node_along b node)
next_node-along nodes X X node = refl
next_node-along nodes X Y node = refl
next_node-along nodes X Z node = refl
next_node-along nodes Y X node = refl
next_node-along nodes Y Y node = refl
next_node-along nodes Y Z node = refl
next_node-along nodes Z X node = refl
next_node-along nodes Z Y node = refl
next_node-along nodes Z Z node = refl

next_node-below : (nodes : ℕ) (a b : Axis) (node : Node) → node_along b node < nodes → node_along b (next_node nodes a node) < nodes
next_node-below nodes a b node l = rw next_node-along (by_test (is_same_axis a b))
  where
    by_test : (same : Bool) → cond same (next_in_row nodes (node_along b node)) (node_along b node) < nodes
    by_test true = next_in_row-below nodes (node_along b node) l
    by_test false = l

node_at-number_of : (nodes : ℕ) (b : Axis) (node : Node) → node.x < nodes → node.y < nodes → node_along b (node_at nodes (number_of nodes node)) ≡ node_along b node
node_at-number_of nodes X node lx ly = x_of-number nodes node.x node.y node.z lx ly
node_at-number_of nodes Y node lx ly = y_of-number nodes node.x node.y node.z lx ly
node_at-number_of nodes Z node lx ly = z_of-number nodes node.x node.y node.z lx ly

strands_before-most : (a : Axis) (strand : ℕ) → strands_before a * strand ≤ 2 * strand
strands_before-most X strand = omega arith
strands_before-most Y strand = omega arith
strands_before-most Z strand = omega arith

-- ---- the next cell
-- In a ring of n cells q comes after p.
pub data IsNext (n p q : ℕ) : Type 0 where
  on : q ≡ p + 1 → IsNext n p q
  around : p + 1 ≡ n → q ≡ 0 → IsNext n p q

-- so it does along this axis, and along another it is the same
abbrev pub StepsOn : Bool → ℕ → ℕ → ℕ → Type 0
StepsOn true n p q = IsNext n p q
StepsOn false n p q = q ≡ p

-- the last cell of a row
last_cell : (nodes strand c s : ℕ) → c + 1 ≡ nodes → s ≡ strand → (strand + 1) * c + s + 1 ≡ nodes * (strand + 1)
last_cell nodes strand c s e f =
    let all : (strand + 1) * (c + 1) ≡ nodes * (strand + 1) = ap (λ n. (strand + 1) * n) e ∙ mul_comm (strand + 1) nodes in
    omega arith

-- the cell after the last one of a strand
next_node_cell : (strand c s : ℕ) → s ≡ strand → (strand + 1) * (c + 1) ≡ (strand + 1) * c + s + 1
next_node_cell strand c s e = omega arith

-- the cell that comes after another is not that one
IsNext-other : (n p q : ℕ) → 2 ≤ n → IsNext n p q → q ≡ p → ⊥
IsNext-other n p q l (on e) f = absurd (omega arith)
IsNext-other n p q l (around e f) g = absurd (omega arith)

-- a cell comes after one cell only
IsNext-same : (n p p' q : ℕ) → IsNext n p q → IsNext n p' q → p ≡ p'
IsNext-same n p p' q (on e) (on f) = omega arith
IsNext-same n p p' q (on e) (around f g) = absurd (omega arith)
IsNext-same n p p' q (around e f) (on g) = absurd (omega arith)
IsNext-same n p p' q (around e f) (around g h) = omega arith

module _ (nodes strand : ℕ) where
  -- the node of a monomer, and how many others of the node come before it
  abbrev node_of : ℕ → ℕ
  node_of m = m / monomers_of_node strand

  abbrev within : ℕ → ℕ
  within m = m % monomers_of_node strand

  within-below : (m : ℕ) → within m < monomers_of_node strand
  within-below m = mod_below m (monomers_of_node strand) (omega arith)

  parts : (p q : ℕ) (axis : Axis) → cell_along nodes strand axis p ≡ cell_along nodes strand axis q
      → (node_along axis (node_at nodes (node_of p)) ≡ node_along axis (node_at nodes (node_of q))) × (steps_within strand axis (within p) ≡ steps_within strand axis (within q))
  parts p q axis e = cell_parts (strand + 1) _ _ _ _ (omega (arith, steps_within-most strand axis (within p))) (omega (arith, steps_within-most strand axis (within q))) e

  -- monomers in one cell are one
  pub cell_along-same : (p q : ℕ) → cell_along nodes strand X p ≡ cell_along nodes strand X q → cell_along nodes strand Y p ≡ cell_along nodes strand Y q → cell_along nodes strand Z p ≡ cell_along nodes strand Z q → p ≡ q
  cell_along-same p q x y z =
      let px = parts p q X x in
      let py = parts p q Y y in
      let pz = parts p q Z z in
      let node : node_of p ≡ node_of q =
      sym (number_of-node_at nodes (node_of p))
      ∙ (ap (λ c. c + nodes * (node_of p / nodes % nodes + nodes * (node_of p / nodes / nodes))) px.0
      ∙ (ap (λ c. node_of q % nodes + nodes * (c + nodes * (node_of p / nodes / nodes))) py.0
      ∙ (ap (λ c. node_of q % nodes + nodes * (node_of q / nodes % nodes + nodes * c)) pz.0 ∙ number_of-node_at nodes (node_of q)))) in
      let rest : within p ≡ within q = steps_within-same strand (within p) (within q) (within-below p) (within-below q) px.1 py.1 pz.1 in
      sym (div-add-mod' p (monomers_of_node strand))
      ∙ (ap (λ g. g * monomers_of_node strand + within p) node ∙ (ap (λ r. node_of q * monomers_of_node strand + r) rest ∙ div-add-mod' q (monomers_of_node strand)))

  module _ (net : IsNetwork nodes strand) where
    some : 0 < nodes
    some = some_nodes nodes strand net

    node_of-below : (m : ℕ) → m < monomers_in nodes strand → node_of m < nodes * nodes * nodes
    node_of-below m l = div_below m (monomers_of_node strand) (nodes * nodes * nodes) (omega arith) l

    node-below : (m : ℕ) (axis : Axis) → m < monomers_in nodes strand → node_along axis (node_at nodes (node_of m)) < nodes
    node-below m axis l = node_at-below nodes (node_of m) axis some (node_of-below m l)

    -- each cell is within the box
    pub cell_along-below : (axis : Axis) (m : ℕ) → m < monomers_in nodes strand → cell_along nodes strand axis m < cells nodes strand
    cell_along-below axis m l =
        let up : node_along axis (node_at nodes (node_of m)) + 1 ≤ nodes = omega (arith, node-below m axis l) in
        omega (arith, mul-le-mul_left (strand + 1) up, mul_comm nodes (strand + 1), steps_within-most strand axis (within m))

    -- ---- the monomer that comes after another along an axis
    module _ (a : Axis) (m : ℕ) (l : m < monomers_in nodes strand) (on_axis : is_on strand a m ≡ true) where
      abbrev steps : ℕ
      steps = steps_along strand a m

      abbrev node : Node
      node = node_at nodes (node_of m)

      abbrev place : ℕ
      place = strands_before a * strand + (steps + 1)

      -- within the strand, and at its end
      abbrev inner : ℕ
      inner = node_of m * monomers_of_node strand + strands_before a * strand + steps + 1

      abbrev over : ℕ
      over = number_of nodes (next_node nodes a node) * monomers_of_node strand

      cell_at : (b : Axis) (k g r : ℕ) → k ≡ g * monomers_of_node strand + r → r < monomers_of_node strand → cell_along nodes strand b k ≡ (strand + 1) * node_along b (node_at nodes g) + steps_within strand b r
      cell_at b k g r e lr =
          let node_is : k / monomers_of_node strand ≡ g = ap (λ n. n / monomers_of_node strand) e ∙ div-mul-add g (monomers_of_node strand) r lr in
          let rest_is : k % monomers_of_node strand ≡ r = ap (λ n. n % monomers_of_node strand) e ∙ mod-mul-add g (monomers_of_node strand) r lr in
          ap (λ n. (strand + 1) * node_along b (node_at nodes n) + steps_along strand b k) node_is ∙ ap (λ n. (strand + 1) * node_along b (node_at nodes g) + steps_within strand b n) rest_is

      place-below : steps < strand → place < monomers_of_node strand
      place-below h = omega (arith, strands_before-most a strand)

      cell_inner : (b : Axis) → steps < strand → cell_along nodes strand b inner ≡ (strand + 1) * node_along b node + cond (is_same_axis a b) (steps + 1) 0
      cell_inner b h =
          cell_at b inner (node_of m) place (omega arith) (place-below h)
          ∙ ap (λ s. (strand + 1) * node_along b node + s) (steps_within-strand strand a b (steps + 1) place (omega arith) (omega arith) refl)

      inside : (b : Axis) → node_along b node < nodes
      inside b = node-below m b l

      over_inside : (b : Axis) → node_along b (next_node nodes a node) < nodes
      over_inside b = next_node-below nodes a b node (inside b)

      cell_over : (b : Axis) → cell_along nodes strand b over ≡ (strand + 1) * cond (is_same_axis a b) (next_in_row nodes (node_along b node)) (node_along b node)
      cell_over b =
          let next = next_node nodes a node in
          cell_at b over (number_of nodes next) 0 (omega arith) (omega arith)
          ∙ (ap (λ c. (strand + 1) * c + steps_within strand b 0) (node_at-number_of nodes b next (over_inside X) (over_inside Y))
          ∙ (ap (λ s. (strand + 1) * node_along b next + s) (steps_within-node strand b 0 refl)
          ∙ (omega arith ∙ ap (λ c. (strand + 1) * c) (next_node-along nodes a b node))))

      other_cell : (b : Axis) → is_same_axis a b ≡ false → cell_along nodes strand b m ≡ (strand + 1) * node_along b node
      other_cell b other = ap (λ s. (strand + 1) * node_along b node + s) (is_on-other strand a b m on_axis other) ∙ omega arith

      inner_steps : (b : Axis) → steps < strand → (same : Bool) → is_same_axis a b ≡ same → StepsOn same (cells nodes strand) (cell_along nodes strand b m) (cell_along nodes strand b inner)
      inner_steps b h true e =
          let own : cell_along nodes strand b inner ≡ (strand + 1) * node_along b node + (steps + 1) = cell_inner b h ∙ ap (λ t. (strand + 1) * node_along b node + cond t (steps + 1) 0) e in
          let same_steps : steps_along strand a m ≡ steps_along strand b m = ap (λ c. steps_along strand c m) (axis_same a b e) in
          on (omega arith)
      inner_steps b h false e = cell_inner b h ∙ (ap (λ t. (strand + 1) * node_along b node + cond t (steps + 1) 0) e ∙ (omega arith ∙ sym (other_cell b e)))

      over_steps : (b : Axis) → strand ≤ steps → (same : Bool) → is_same_axis a b ≡ same → StepsOn same (cells nodes strand) (cell_along nodes strand b m) (cell_along nodes strand b over)
      over_steps b h true e = by_row (eqb_tells (node_along b node + 1) nodes)
        where
          own : cell_along nodes strand b over ≡ (strand + 1) * next_in_row nodes (node_along b node)
          own = cell_over b ∙ ap (λ t. (strand + 1) * cond t (next_in_row nodes (node_along b node)) (node_along b node)) e

          last : steps_along strand b m ≡ strand
          last =
              let same_steps : steps_along strand a m ≡ steps_along strand b m = ap (λ c. steps_along strand c m) (axis_same a b e) in
              omega (arith, steps_within-most strand b (within m))

          by_row : ((nat_eq (node_along b node + 1) nodes ≡ true) × (node_along b node + 1 ≡ nodes)) ⊎ ((nat_eq (node_along b node + 1) nodes ≡ false) × (node_along b node + 1 ≡ nodes → ⊥))
              → IsNext (cells nodes strand) (cell_along nodes strand b m) (cell_along nodes strand b over)
          by_row (inl f) =
              around (last_cell nodes strand (node_along b node) (steps_along strand b m) f.1 last) (own ∙ (ap (λ t. (strand + 1) * cond t 0 (node_along b node + 1)) f.0 ∙ omega arith))
          by_row (inr f) = on (own ∙ (ap (λ t. (strand + 1) * cond t 0 (node_along b node + 1)) f.0 ∙ next_node_cell strand (node_along b node) (steps_along strand b m) last))
      over_steps b h false e = cell_over b ∙ (ap (λ t. (strand + 1) * cond t (next_in_row nodes (node_along b node)) (node_along b node)) e ∙ sym (other_cell b e))

      -- it stands in the next cell along the axis
      pub cell_along-next : (b : Axis) → StepsOn (is_same_axis a b) (cells nodes strand) (cell_along nodes strand b m) (cell_along nodes strand b (next_along nodes strand a m))
      cell_along-next b = by_test (nat_lt steps strand) (λ e. grind (arith, nat_tests)) (λ e. grind (arith, nat_tests))
        where
          by_test : (t : Bool) → (t ≡ true → steps < strand) → (t ≡ false → strand ≤ steps) → StepsOn (is_same_axis a b) (cells nodes strand) (cell_along nodes strand b m) (cell_along nodes strand b (cond t inner over))
          by_test true h k = inner_steps b (h refl) (is_same_axis a b) refl
          by_test false h k = over_steps b (k refl) (is_same_axis a b) refl

      -- ---- and it is one of the network
      pub inner_below : steps < strand → inner < monomers_in nodes strand
      inner_below h =
          let up : node_of m + 1 ≤ nodes * nodes * nodes = omega (arith, node_of-below m l) in
          omega (arith, mul-le-mul_right (monomers_of_node strand) up, place-below h)

      pub number_below : number_of nodes (next_node nodes a node) < nodes * nodes * nodes
      number_below = number_of-below nodes (next_node nodes a node).x (next_node nodes a node).y (next_node nodes a node).z (over_inside X) (over_inside Y) (over_inside Z)

      pub over_below : over < monomers_in nodes strand
      over_below =
          let up : number_of nodes (next_node nodes a node) + 1 ≤ nodes * nodes * nodes = omega (arith, number_below) in
          omega (arith, mul-le-mul_right (monomers_of_node strand) up)

      pub next_along-below : next_along nodes strand a m < monomers_in nodes strand
      next_along-below = by_test (nat_lt steps strand) (λ e. grind (arith, nat_tests))
        where
          by_test : (t : Bool) → (t ≡ true → steps < strand) → cond t inner over < monomers_in nodes strand
          by_test true h = inner_below (h refl)
          by_test false h = over_below

      -- and another one
      pub next_along-other : next_along nodes strand a m ≡ m → ⊥
      next_along-other e =
          let own : IsNext (cells nodes strand) (cell_along nodes strand a m) (cell_along nodes strand a (next_along nodes strand a m)) =
          subst (λ same. StepsOn same (cells nodes strand) (cell_along nodes strand a m) (cell_along nodes strand a (next_along nodes strand a m))) (same_axis a) (cell_along-next a) in
          IsNext-other (cells nodes strand) _ _ (omega (arith, enough_cells nodes strand net)) own (ap (cell_along nodes strand a) e)

    -- a monomer comes after one monomer only
    pub next_along-same : (a : Axis) (p q : ℕ) → p < monomers_in nodes strand → q < monomers_in nodes strand → is_on strand a p ≡ true → is_on strand a q ≡ true → next_along nodes strand a p ≡ next_along nodes strand a q → p ≡ q
    next_along-same a p q lp lq on_p on_q e = cell_along-same p q (along X) (along Y) (along Z)
      where
        by_axis : (b : Axis) (same : Bool) → StepsOn same (cells nodes strand) (cell_along nodes strand b p) (cell_along nodes strand b (next_along nodes strand a p))
            → StepsOn same (cells nodes strand) (cell_along nodes strand b q) (cell_along nodes strand b (next_along nodes strand a p)) → cell_along nodes strand b p ≡ cell_along nodes strand b q
        by_axis b true s t = IsNext-same (cells nodes strand) _ _ _ s t
        by_axis b false s t = sym s ∙ t

        along : (b : Axis) → cell_along nodes strand b p ≡ cell_along nodes strand b q
        along b =
            by_axis b (is_same_axis a b) (cell_along-next a p lp on_p b)
            (subst (λ k. StepsOn (is_same_axis a b) (cells nodes strand) (cell_along nodes strand b q) (cell_along nodes strand b k)) (sym e) (cell_along-next a q lq on_q b))
