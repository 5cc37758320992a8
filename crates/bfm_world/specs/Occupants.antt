-- Which monomer stands at a place. Places that differ by whole sides along periodic axes are one.
use Rattle.std.specs.Prelude.{ℕ, Bool, length, Option, find}
use Rattle.std.specs.List.{range_with_len}
use Rattle.bfm_base.specs.declared.place.P3.{P3}
use Rattle.bfm_geom.specs.Difference.{minus, wrapped}
use Rattle.bfm_geom.specs.Upright.{origin}
use Rattle.bond_set.specs.BondSet.{same_vector}
use Rattle.bfm_world.specs.Configuration.{Configuration, position_of}

-- the wrapped difference from the place to monomer i is nothing
abbrev pub stands_at : Configuration → P3 → ℕ → Bool
stands_at w p i = same_vector (wrapped w.shape (minus (position_of w i) p)) origin

-- the monomer that stands at the place, where one does
abbrev pub monomer_at : Configuration → P3 → Option ℕ
monomer_at w p = find (λ i. stands_at w p i) (range_with_len 0 (length w.positions))
