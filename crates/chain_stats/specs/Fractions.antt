-- How large a chain of monomers is and how far it went, as exact fractions (textbook, multiplied out). Monomers are
-- counted from 0, and coordinates are absolute: nothing is wrapped.
use Rattle.std.specs.Prelude.{ℕ, ◌-◌, ◌*◌, ◌<◌, ◌≤◌, min, max, nat_eq, pos, List, length, slice_index, All}
use Rattle.std.specs.List.{fold, sum_by, range_with_len, IsDistinct}
use Rattle.bfm_base.specs.declared.place.P3.{P3}
use Rattle.bfm_geom.specs.Difference.{plus, minus, square_of}
use Rattle.bfm_world.specs.Configuration.{Configuration, position_at, position_of}
use Rattle.chain_stats.specs.declared.fraction.Fraction.{Fraction}

-- the sum of the vectors of these monomers, and the sum of their squared lengths
abbrev pub vector_sum : (ℕ → P3) → List ℕ → P3
vector_sum vector monomers = fold (λ sum i. plus sum (vector i)) (record { x = pos 0; y = pos 0; z = pos 0 }) monomers

abbrev pub square_sum : (ℕ → P3) → List ℕ → ℕ
square_sum vector monomers = sum_by (λ i. square_of (vector i)) monomers

-- some monomers of the world, at least one, each once
pub record AreMembers (w : Configuration) (members : List ℕ) : Type 0 where
  pub some : 1 ≤ length members
  pub there : All (λ i. i < length w.positions) members
  pub each_once : IsDistinct nat_eq members

-- the squared radius of gyration: the mean square of the positions, less the square of their mean
abbrev pub radius_of : Configuration → List ℕ → Fraction
radius_of w members = record {
  top = length members * square_sum (position_of w) members - square_of (vector_sum (position_of w) members);
  bottom = length members * length members;
}

-- the least and the greatest of some numbers
abbrev pub least_of : List ℕ → ℕ
least_of numbers = fold min (slice_index numbers 0) numbers

abbrev pub greatest_of : List ℕ → ℕ
greatest_of numbers = fold max (slice_index numbers 0) numbers

-- the squared distance from end to end: of the least member and the greatest
abbrev pub end_square_of : Configuration → List ℕ → ℕ
end_square_of w members = square_of (minus (position_of w (greatest_of members)) (position_of w (least_of members)))

-- how far a monomer went since it stood at the first of these positions
abbrev pub displacement_of : List P3 → Configuration → ℕ → P3
displacement_of first w i = minus (position_of w i) (position_at first i)

-- the squared displacement of the centre of mass
abbrev pub drift_of : List P3 → Configuration → List ℕ → Fraction
drift_of first w members = record {
  top = square_of (vector_sum (displacement_of first w) members);
  bottom = length members * length members;
}

-- the mean of the squared displacements of all monomers
abbrev pub mean_square_of : List P3 → Configuration → Fraction
mean_square_of first w = record {
  top = square_sum (displacement_of first w) (range_with_len 0 (length w.positions));
  bottom = length w.positions;
}
