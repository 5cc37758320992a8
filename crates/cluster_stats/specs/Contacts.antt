-- The contacts of a world: pairs of monomers whose wrapped difference has the squared length 4, 5 or 6. Monomers are
-- counted from 0.
use Rattle.std.specs.Prelude.{◌≡◌, ℕ, ◌≤◌, max, min, Bool, ◌&&◌, nat_eq, nat_lt, List, length, slice_index, count_by}
use Rattle.std.specs.List.{sum_by, range_with_len}
use Rattle.bfm_base.specs.declared.limits.TheConstants.{GREATEST_CLASS}
use Rattle.bfm_geom.specs.Difference.{are_in_contact}
use Rattle.bfm_world.specs.Configuration.{Configuration, position_of, class_at}
use Rattle.contact_table.specs.Contacts.{is_same_pair, pair_number}

-- whether monomers i and j are in contact
abbrev pub touch : Configuration → ℕ → ℕ → Bool
touch w i j = are_in_contact w.shape (position_of w i) (position_of w j)

-- how many of the monomers after monomer i pass a test
abbrev pub later_count : Configuration → ℕ → (ℕ → Bool) → ℕ
later_count w i passes = count_by (λ j. nat_lt i j && passes j) (range_with_len 0 (length w.positions))

-- how many pairs of monomers pass a test, each pair with the lower monomer first
abbrev pub pair_count : Configuration → (ℕ → ℕ → Bool) → ℕ
pair_count w passes = sum_by (λ i. later_count w i (passes i)) (range_with_len 0 (length w.positions))

-- how many pairs of monomers are in contact
abbrev pub contact_total : Configuration → ℕ
contact_total w = pair_count w (touch w)

-- and how many of these have the classes a and b, in either order
abbrev pub contact_count : Configuration → ℕ → ℕ → ℕ
contact_count w a b = pair_count w (λ i j. touch w i j && is_same_pair a b (class_at w i) (class_at w j))

-- a number of contacts for each pair of classes, and the number of all
pub record ContactTally : Type 0 where
  pub counts : List ℕ
  pub total : ℕ

-- the number of two classes in either order
abbrev pub class_pair : ℕ → ℕ → ℕ
class_pair a b = pair_number (max a b) (min a b)

abbrev pub count_of : ContactTally → ℕ → ℕ → ℕ
count_of tally a b = slice_index tally.counts (class_pair a b)

-- whether monomers i and j are in contact, and their classes have this number
abbrev pub touch_with : Configuration → ℕ → ℕ → ℕ → Bool
touch_with w pair i j = touch w i j && nat_eq (class_pair (class_at w i) (class_at w j)) pair

-- the tally gives the number of contacts of each two classes, and of all
pub record AreContactCounts (w : Configuration) (tally : ContactTally) : Type 0 where
  pub counts : (a b : ℕ) → a ≤ GREATEST_CLASS → b ≤ GREATEST_CLASS → count_of tally a b ≡ contact_count w a b
  pub total : tally.total ≡ contact_total w
