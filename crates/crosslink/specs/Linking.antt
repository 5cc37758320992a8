-- Crosslinks: bonds that form in a run between monomers two lattice units apart along an axis.
use Rattle.std.specs.Prelude.{ℕ, Bool, not, ◌&&◌, nat_lt, length, Option, None, Some, is_some, find, option_and_then, if◌then◌else◌}
use Rattle.std.specs.List.{range_with_len}
use Rattle.bfm_base.specs.declared.place.P3.{P3}
use Rattle.bfm_base.specs.declared.place.Dir.{Dir}
use Rattle.bfm_base.specs.Direction.{step_of}
use Rattle.bfm_geom.specs.Difference.{minus, plus, wrapped}
use Rattle.bond_set.specs.BondSet.{id_of, same_vector}
use Rattle.bfm_world.specs.Bonds.{neighbours_of, are_bonded}
use Rattle.bfm_world.specs.Configuration.{Configuration, position_of, valence_of, bonded}

-- two lattice units along a direction
abbrev pub link_vector : Dir → P3
link_vector d = plus (step_of d) (step_of d)

-- the wrapped difference from monomer i to monomer j is two units along the direction
abbrev pub is_partner : Configuration → ℕ → Dir → ℕ → Bool
is_partner w i d j = same_vector (wrapped w.shape (minus (position_of w j) (position_of w i))) (link_vector d)

-- the partner of monomer i along a direction, where it has one
abbrev pub partner_of : Configuration → ℕ → Dir → Option ℕ
partner_of w i d = find (λ j. is_partner w i d j) (range_with_len 0 (length w.positions))

-- A monomer may have a further bond by linking where it has fewer bonds than its valence: so never with valence 0.
abbrev pub is_open : Configuration → ℕ → Bool
is_open w i = nat_lt (length (neighbours_of w.bonds i)) (valence_of w i)

-- monomers i and j may be linked along a direction
abbrev pub may_link : Configuration → ℕ → Dir → ℕ → Bool
may_link w i d j = is_some (id_of w.set (link_vector d)) && is_open w i && is_open w j && not (are_bonded w.bonds i j)

-- a pair, the lesser number first
abbrev pub in_order : ℕ → ℕ → ℕ × ℕ
in_order i j = if nat_lt i j then (i, j) else (j, i)

-- the pair that is linked when a link is tried for monomer i along a direction
abbrev pub new_link : Configuration → ℕ → Dir → Option (ℕ × ℕ)
new_link w i d = option_and_then (λ j. if may_link w i d j then Some (in_order i j) else None) (partner_of w i d)

-- the world after it
abbrev pub with_link : Configuration → Option (ℕ × ℕ) → Configuration
with_link w None = w
with_link w (Some pair) = bonded w pair.0 pair.1
