-- A world of monomers as plain data, when it is valid, and the local move in it (Carmesin and
-- Kremer 1988). Monomers are counted from 0.
use Rattle.std.specs.Prelude.{◌≡◌, ℕ, ◌<◌, ◌≤◌, max, Bool, true, false, not, ◌&&◌, nat_le, if◌then◌else◌, pos, List, [], ◌∷◌, length, slice_index_or, slice_get, slice_set, remove, All, AllPairs, Option, None, Some, is_some}
use Rattle.std.specs.List.{list_all}
use Rattle.bfm_base.specs.declared.limits.TheConstants.{MOST_MONOMERS, GREATEST_LABEL, GREATEST_VALENCE, GREATEST_CLASS}
use Rattle.bfm_base.specs.declared.place.P3.{P3}
use Rattle.bfm_base.specs.declared.place.Dir.{Dir}
use Rattle.bfm_base.specs.declared.place.Shape.{Shape}
use Rattle.bfm_base.specs.Direction.{step_of}
use Rattle.bfm_base.specs.Place.{extent_of}
use Rattle.bfm_geom.specs.Difference.{IsBox, plus, minus, wrapped, overlaps}
use Rattle.bfm_geom.specs.Walls.{is_within_walls}
use Rattle.bond_set.specs.BondSet.{IsBondSet, IsSymmetric, id_of}
use Rattle.contact_table.specs.Contacts.{ContactTable, IsContactTable}
use Rattle.bfm_world.specs.Bonds.{AreBonds, neighbours_of, are_bonded, with_bond}
use Rattle.bfm_world.specs.declared.parts.Parts.{Parts}

-- the box, the set of bond vectors with their identifiers, the weights of contacts with the thresholds of acceptance, the
-- position of each monomer, the bonds, and what is said of each monomer: its label, how many bonds it may have by
-- linking, and whether it is fixed
pub record Configuration : Type 0 where
  pub shape : Shape
  pub set : List (P3 × ℕ)
  pub table : ContactTable
  pub positions : List P3
  pub bonds : List (List ℕ)
  pub labels : List ℕ
  pub valences : List ℕ
  pub fixed : List Bool

-- what the parts of a world hold
abbrev pub configuration_of : Parts → Configuration
configuration_of parts = record {
  shape = parts.shape;
  set = parts.set;
  table = parts.table;
  positions = parts.positions.items;
  bonds = parts.bonds;
  labels = parts.labels.items;
  valences = parts.valences.items;
  fixed = parts.fixed.items;
}

-- a monomer at p overlaps none at these positions
abbrev pub is_clear : Shape → List P3 → P3 → Bool
is_clear shape others p = list_all (λ q. not (overlaps shape q p)) others

-- the wrapped difference from p to q is a vector of the set
abbrev pub may_bond : Shape → List (P3 × ℕ) → P3 → P3 → Bool
may_bond shape set p q = is_some (id_of set (wrapped shape (minus q p)))

-- the same where there is no second monomer yet
abbrev pub may_reach : Shape → List (P3 × ℕ) → P3 → Option P3 → Bool
may_reach shape set p None = true
may_reach shape set p (Some q) = may_bond shape set p q

-- from p, a bond may run to each of these monomers that has a position
abbrev pub keeps_bonds : Shape → List (P3 × ℕ) → List P3 → List ℕ → P3 → Bool
keeps_bonds shape set positions neighbours p = list_all (λ j. may_reach shape set p (slice_get positions j)) neighbours

-- the position with this number in the list
abbrev pub position_at : List P3 → ℕ → P3
position_at positions i = slice_index_or positions i (record { x = pos 0; y = pos 0; z = pos 0 })

-- each bond between monomers that have positions has a vector of the set
abbrev pub HasVectors : Shape → List (P3 × ℕ) → List P3 → List (List ℕ) → Type 0
HasVectors shape set positions bonds =
    (i j : ℕ) → i < length positions → j < length positions → are_bonded bonds i j ≡ true → may_bond shape set (position_at positions i) (position_at positions j) ≡ true

-- Each of so many monomers has a label, a valence and a mark whether it is fixed.
pub record AreMarked (count : ℕ) (label_list valence_list : List ℕ) (fixed_list : List Bool) : Type 0 where
  pub labelled : length label_list ≡ count
  pub labels : All (λ label. label ≤ GREATEST_LABEL) label_list
  pub valued : length valence_list ≡ count
  pub valences : All (λ valence. valence ≤ GREATEST_VALENCE) valence_list
  pub marked : length fixed_list ≡ count

-- A world of so many monomers, not all of which need have positions yet: those that have are within the walls and do
-- not overlap, and each bond between them has a vector of the set, which holds the negative of each of its vectors.
pub record IsSound (count : ℕ) (w : Configuration) : Type 0 where
  pub box : IsBox w.shape
  pub set : IsBondSet w.set
  pub symmetric : IsSymmetric w.set
  pub table : IsContactTable w.table
  pub some : 1 ≤ count
  pub few : count ≤ MOST_MONOMERS
  pub room : length w.positions ≤ count
  pub inside : All (λ p. is_within_walls w.shape p ≡ true) w.positions
  pub apart : AllPairs (λ p q. overlaps w.shape p q ≡ false) w.positions
  pub bonds : AreBonds count w.bonds
  pub vectors : HasVectors w.shape w.set w.positions w.bonds
  pub marks : AreMarked count w.labels w.valences w.fixed

-- the same where each monomer has its position
abbrev pub IsValid : Configuration → Type 0
IsValid w = IsSound (length w.positions) w

-- the greatest absolute coordinate of a list of places
abbrev pub reach_of : List P3 → ℕ
reach_of [] = 0
reach_of (p ∷ ps) = max (extent_of p) (reach_of ps)

-- the class of a monomer with this label
abbrev pub class_of : ℕ → ℕ
class_of label = if nat_le label GREATEST_CLASS then label else 0

-- the label of monomer i, its class, and its valence
abbrev pub label_of : Configuration → ℕ → ℕ
label_of w i = slice_index_or w.labels i 0

abbrev pub class_at : Configuration → ℕ → ℕ
class_at w i = class_of (label_of w i)

abbrev pub valence_of : Configuration → ℕ → ℕ
valence_of w i = slice_index_or w.valences i 0

-- monomer i never moves
abbrev pub is_fixed : Configuration → ℕ → Bool
is_fixed w i = slice_index_or w.fixed i false

-- where monomer i stands, and where it would stand after a step
abbrev pub position_of : Configuration → ℕ → P3
position_of w i = position_at w.positions i

abbrev pub target_of : Configuration → ℕ → Dir → P3
target_of w i d = plus (position_of w i) (step_of d)

-- A step is legal where the monomer is not fixed, the new place is within the walls and overlaps no other monomer, and
-- each bond of the monomer keeps a vector of the set.
abbrev pub is_legal : Configuration → ℕ → Dir → Bool
is_legal w i d =
    not (is_fixed w i)
    && is_within_walls w.shape (target_of w i d)
    && is_clear w.shape (remove w.positions i) (target_of w i d)
    && keeps_bonds w.shape w.set w.positions (neighbours_of w.bonds i) (target_of w i d)

-- the world after the step of monomer i
abbrev pub moved : Configuration → ℕ → Dir → Configuration
moved w i d = record w { positions = slice_set w.positions i (target_of w i d) }

-- the world with one bond more, between monomers i and j
abbrev pub bonded : Configuration → ℕ → ℕ → Configuration
bonded w i j = record w { bonds = with_bond w.bonds i j }
