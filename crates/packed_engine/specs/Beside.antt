-- The weights of contacts of a monomer, by the places beside it. Two monomers in contact differ by at most two units
-- along each axis.
use Rattle.std.specs.Prelude.{◌≡◌, ◌≤◌, ℕ, ◌/◌, ◌%◌, length, ℤ, pos, ◌+ℤ◌, ◌-ℤ◌, Bool, if◌then◌else◌}
use Rattle.std.specs.List.{fold, range_with_len}
use Rattle.bfm_base.specs.declared.limits.TheConstants.{GREATEST_CLASS}
use Rattle.bfm_base.specs.declared.place.P3.{P3}
use Rattle.bfm_geom.specs.Difference.{is_contact_square, minus, square_of, wrapped}
use Rattle.bond_set.specs.BondSet.{same_vector}
use Rattle.contact_table.specs.Contacts.{ContactTable, weight_of}
use Rattle.bfm_world.specs.Acceptance.{contact_weight}
use Rattle.bfm_world.specs.Configuration.{Configuration, position_of}

-- the offsets of at most two units along each axis, by numbers from 0 to 124
abbrev pub offset_at : ℕ → P3
offset_at k = record { x = pos (k / 25) -ℤ pos 2; y = pos (k / 5 % 5) -ℤ pos 2; z = pos (k % 5) -ℤ pos 2 }

-- two monomers that differ by it are in contact
abbrev pub is_contact_offset : P3 → Bool
is_contact_offset o = is_contact_square (square_of o)

-- the difference from a place to monomer j, wrapped
abbrev pub difference_to : Configuration → P3 → ℕ → P3
difference_to w p j = wrapped w.shape (minus (position_of w j) p)

-- what the contact of monomer i at p with monomer j weighs where j stands at this offset from p, else nothing
abbrev pub weight_with : Configuration → ℕ → P3 → P3 → ℕ → ℤ
weight_with w i p o j = if same_vector (difference_to w p j) o then contact_weight w i p j else pos 0

-- what its contacts at this offset weigh together
abbrev pub weight_beside : Configuration → ℕ → P3 → P3 → ℤ
weight_beside w i p o = fold (λ sum j. sum +ℤ weight_with w i p o j) (pos 0) (range_with_len 0 (length w.positions))

-- no contact of any two classes weighs anything
abbrev pub WeighsNothing : ContactTable → Type 0
WeighsNothing table = (a b : ℕ) → a ≤ GREATEST_CLASS → b ≤ GREATEST_CLASS → weight_of table a b ≡ pos 0
