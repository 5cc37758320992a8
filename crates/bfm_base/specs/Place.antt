-- Places on the lattice.
use Rattle.std.specs.Prelude.{ℕ, max, nat_abs}
use Rattle.bfm_base.specs.declared.place.P3.{P3}

-- the greatest absolute value of a coordinate
abbrev pub extent_of : P3 → ℕ
extent_of p = max (nat_abs p.x) (max (nat_abs p.y) (nat_abs p.z))
