-- Linear chains of one length, one after another: monomer k belongs to the chain with the number k / length, and
-- successive monomers of a chain are bonded. Monomers and chains are counted from 0.
use Rattle.std.specs.Prelude.{◌≡◌, ℕ, zero, suc, ◌+◌, ◌/◌, Bool, nat_eq, List, [], ◌∷◌, ◌++◌, map, ◌⊎◌, if◌then◌else◌}
use Rattle.std.specs.List.{range_with_len}
use Rattle.bfm_base.specs.declared.place.P3.{P3}
use Rattle.bfm_base.specs.declared.place.Dir.{Dir}
use Rattle.bfm_base.specs.Direction.{step_of}
use Rattle.bfm_geom.specs.Difference.{plus}

-- the next monomer is of the same chain
abbrev pub goes_on : ℕ → ℕ → Bool
goes_on length k = nat_eq (k / length) ((k + 1) / length)

-- the monomer before k, where it is of the same chain
abbrev pub before_in_chain : ℕ → ℕ → List ℕ
before_in_chain length zero = []
before_in_chain length (suc k) = if goes_on length k then k ∷ [] else []

-- the monomer after k, where it is of the same chain
abbrev pub after_in_chain : ℕ → ℕ → List ℕ
after_in_chain length k = if goes_on length k then (k + 1) ∷ [] else []

-- those that monomer k is bonded to
abbrev pub chain_neighbours : ℕ → ℕ → List ℕ
chain_neighbours length k = before_in_chain length k ++ after_in_chain length k

-- the bonds of n monomers in chains, the last of which is whole
abbrev pub chain_bonds : ℕ → ℕ → List (List ℕ)
chain_bonds length n = map (chain_neighbours length) (range_with_len 0 n)

-- two monomers follow each other in a chain, in either order
pub record AreSuccessive (length i j : ℕ) : Type 0 where
  pub chain : i / length ≡ j / length
  pub beside : (j ≡ i + 1) ⊎ (i ≡ j + 1)

-- from p, q lies two units further along a direction: as near as two monomers come, and a bond vector of the usual set
abbrev pub LiesTwoOn : P3 → P3 → Type 0
LiesTwoOn p q = (dir : Dir) × (q ≡ plus (plus p (step_of dir)) (step_of dir))
