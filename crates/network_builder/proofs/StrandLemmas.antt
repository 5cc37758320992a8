-- The monomers of a node and its strands: how many steps each stands from the node along each axis.
use Rattle.std.proofs.Common.{◌≡◌, ℕ, ◌+◌, ◌-◌, ◌*◌, ◌%◌, ◌<◌, ◌≤◌, Bool, true, false, cond, ◌&&◌, nat_lt, nat_le, nat_eq, inl, inr, ◌⊎◌, ap, sym, ◌∙◌, arith}
use Rattle.std.proofs.lemmas.Bool.{cases_lt}
use Rattle.std.proofs.lemmas.Bool.Decides.{nat_tests, eqb_tells}
use Rattle.network_builder.specs.declared.nodes.Axis.{Axis}
use Rattle.network_builder.specs.declared.nodes.Axis.TheVariants.{X, Y, Z}
use Rattle.network_builder.specs.Network.{monomers_of_node, strands_before, steps_along, is_on}

-- the steps along an axis of the monomer that has so many others of its node before it
abbrev pub steps_within : ℕ → Axis → ℕ → ℕ
steps_within strand axis r = cond (nat_lt (strands_before axis * strand) r && nat_le r (strands_before axis * strand + strand)) (r - strands_before axis * strand) 0

-- ---- within a strand, before it and after it
module _ (low high r : ℕ) where
  inside : low < r → r ≤ high → cond (nat_lt low r && nat_le r high) (r - low) 0 ≡ r - low
  inside h k = grind (arith, nat_tests)

  before : r ≤ low → cond (nat_lt low r && nat_le r high) (r - low) 0 ≡ 0
  before h = grind (arith, nat_tests)

  after : high < r → cond (nat_lt low r && nat_le r high) (r - low) 0 ≡ 0
  after h = grind (arith, nat_tests)

  at_most : cond (nat_lt low r && nat_le r high) (r - low) 0 ≤ high - low
  at_most = grind (arith, nat_tests)

-- no strand has more steps than monomers
pub steps_within-most : (strand : ℕ) (axis : Axis) (r : ℕ) → steps_within strand axis r ≤ strand
steps_within-most strand axis r = omega (arith, at_most (strands_before axis * strand) (strands_before axis * strand + strand) r)

-- the node stands at no steps from itself
pub steps_within-node : (strand : ℕ) (axis : Axis) (r : ℕ) → r ≡ 0 → steps_within strand axis r ≡ 0
steps_within-node strand axis r e = before (strands_before axis * strand) (strands_before axis * strand + strand) r (omega arith)

-- one axis is the other
abbrev pub is_same_axis : Axis → Axis → Bool
is_same_axis X X = true
is_same_axis X Y = false
is_same_axis X Z = false
is_same_axis Y X = false
is_same_axis Y Y = true
is_same_axis Y Z = false
is_same_axis Z X = false
is_same_axis Z Y = false
is_same_axis Z Z = true

-- monomer s of a strand stands s steps along its axis, and none along the others
pub steps_within-strand : (strand : ℕ) (a b : Axis) (s r : ℕ) → 1 ≤ s → s ≤ strand → r ≡ strands_before a * strand + s → steps_within strand b r ≡ cond (is_same_axis a b) s 0
steps_within-strand strand X X s r one most e = inside (0 * strand) (0 * strand + strand) r (omega arith) (omega arith) ∙ omega arith
steps_within-strand strand X Y s r one most e = before (1 * strand) (1 * strand + strand) r (omega arith)
steps_within-strand strand X Z s r one most e = before (2 * strand) (2 * strand + strand) r (omega arith)
steps_within-strand strand Y X s r one most e = after (0 * strand) (0 * strand + strand) r (omega arith)
steps_within-strand strand Y Y s r one most e = inside (1 * strand) (1 * strand + strand) r (omega arith) (omega arith) ∙ omega arith
steps_within-strand strand Y Z s r one most e = before (2 * strand) (2 * strand + strand) r (omega arith)
steps_within-strand strand Z X s r one most e = after (0 * strand) (0 * strand + strand) r (omega arith)
steps_within-strand strand Z Y s r one most e = after (1 * strand) (1 * strand + strand) r (omega arith)
steps_within-strand strand Z Z s r one most e = inside (2 * strand) (2 * strand + strand) r (omega arith) (omega arith) ∙ omega arith

-- a monomer with some steps along an axis is that of the strand which they say
pub steps_within-inside : (strand : ℕ) (axis : Axis) (r : ℕ) → 0 < steps_within strand axis r → r ≡ strands_before axis * strand + steps_within strand axis r
steps_within-inside strand axis r some = by_place (cases_lt (strands_before axis * strand) r) (cases_lt (strands_before axis * strand + strand) r)
  where
    by_place : (strands_before axis * strand < r) ⊎ (r ≤ strands_before axis * strand) → (strands_before axis * strand + strand < r) ⊎ (r ≤ strands_before axis * strand + strand)
        → r ≡ strands_before axis * strand + steps_within strand axis r
    by_place (inr l) k = absurd (omega (arith, before (strands_before axis * strand) (strands_before axis * strand + strand) r l))
    by_place (inl l) (inl k) = absurd (omega (arith, after (strands_before axis * strand) (strands_before axis * strand + strand) r k))
    by_place (inl l) (inr k) = omega (arith, inside (strands_before axis * strand) (strands_before axis * strand + strand) r l k)

-- ---- each monomer of a node has steps of its own
-- The monomer is the node, or on one of the strands.
data Stands (strand r : ℕ) : Type 0 where
  at_node : r ≡ 0 → Stands strand r
  on_strand : (axis : Axis) (s : ℕ) → 1 ≤ s → s ≤ strand → r ≡ strands_before axis * strand + s → Stands strand r

stands : (strand r : ℕ) → r < monomers_of_node strand → Stands strand r
stands strand r l = by_place (cases_lt 0 r) (cases_lt strand r) (cases_lt (2 * strand) r)
  where
    by_place : (0 < r) ⊎ (r ≤ 0) → (strand < r) ⊎ (r ≤ strand) → (2 * strand < r) ⊎ (r ≤ 2 * strand) → Stands strand r
    by_place (inr h) k m = at_node (omega arith)
    by_place (inl h) (inr k) m = on_strand X r (omega arith) (omega arith) (omega arith)
    by_place (inl h) (inl k) (inr m) = on_strand Y (r - strand) (omega arith) (omega arith) (omega arith)
    by_place (inl h) (inl k) (inl m) = on_strand Z (r - 2 * strand) (omega arith) (omega arith) (omega arith)

-- which monomer has these steps
abbrev from_steps : ℕ → ℕ → ℕ → ℕ → ℕ
from_steps strand x y z = cond (nat_lt 0 x) x (cond (nat_lt 0 y) (strand + y) (cond (nat_lt 0 z) (2 * strand + z) 0))

from_steps-within : (strand r : ℕ) → r < monomers_of_node strand → from_steps strand (steps_within strand X r) (steps_within strand Y r) (steps_within strand Z r) ≡ r
from_steps-within strand r l = by_place (stands strand r l)
  where
    by_place : Stands strand r → from_steps strand (steps_within strand X r) (steps_within strand Y r) (steps_within strand Z r) ≡ r
    by_place (at_node e) = rw (steps_within-node strand X r e, steps_within-node strand Y r e, steps_within-node strand Z r e) (sym e)
    by_place (on_strand X s one most e) =
        rw (steps_within-strand strand X X s r one most e, steps_within-strand strand X Y s r one most e, steps_within-strand strand X Z s r one most e) (grind (arith, nat_tests))
    by_place (on_strand Y s one most e) =
        rw (steps_within-strand strand Y X s r one most e, steps_within-strand strand Y Y s r one most e, steps_within-strand strand Y Z s r one most e) (grind (arith, nat_tests))
    by_place (on_strand Z s one most e) =
        rw (steps_within-strand strand Z X s r one most e, steps_within-strand strand Z Y s r one most e, steps_within-strand strand Z Z s r one most e) (grind (arith, nat_tests))

pub steps_within-same : (strand q r : ℕ) → q < monomers_of_node strand → r < monomers_of_node strand → steps_within strand X q ≡ steps_within strand X r → steps_within strand Y q ≡ steps_within strand Y r
    → steps_within strand Z q ≡ steps_within strand Z r → q ≡ r
steps_within-same strand q r lq lr x y z =
    sym (from_steps-within strand q lq)
    ∙ (ap (λ s. from_steps strand s (steps_within strand Y q) (steps_within strand Z q)) x
    ∙ (ap (λ s. from_steps strand (steps_within strand X r) s (steps_within strand Z q)) y
    ∙ (ap (λ s. from_steps strand (steps_within strand X r) (steps_within strand Y r) s) z ∙ from_steps-within strand r lr)))

-- ---- a monomer on an axis
-- it has no steps along the others
pub is_on-other : (strand : ℕ) (a b : Axis) (m : ℕ) → is_on strand a m ≡ true → is_same_axis a b ≡ false → steps_along strand b m ≡ 0
is_on-other strand a b m on other = by_test (eqb_tells (m % monomers_of_node strand) 0)
  where
    r : ℕ
    r = m % monomers_of_node strand

    by_test : ((nat_eq r 0 ≡ true) × (r ≡ 0)) ⊎ ((nat_eq r 0 ≡ false) × (r ≡ 0 → ⊥)) → steps_along strand b m ≡ 0
    by_test (inl e) = steps_within-node strand b r e.1
    by_test (inr e) =
        let some : 0 < steps_within strand a r = grind (arith, nat_tests) in
        steps_within-strand strand a b (steps_within strand a r) r (omega arith) (steps_within-most strand a r) (steps_within-inside strand a r some) ∙ ap (λ same. cond same (steps_within strand a r) 0) other
