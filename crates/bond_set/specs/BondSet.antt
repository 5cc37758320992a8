-- Sets of bond vectors. A contract sees a set as the list of its pairs of vector and identifier,
-- in the order of adding.
use Rattle.std.specs.Prelude.{ℕ, ℤ, pos, negsuc, neg_ℤ, unsigned_abs, ◌≤◌, Bool, false, ◌&&◌, ◌||◌, not, ◌==◌, nat_le, nat_eq, if◌then◌else◌, IsTrue, List, map, length, Option, Some, None, is_some, is_none}
use Rattle.std.specs.List.{All, Contains, find, IsDistinct}
use Rattle.std.specs.Map.{lookup}
use Rattle.std.specs.Ordering.{int_eq}
use Rattle.bfm_base.specs.declared.limits.TheConstants.{MOST_VECTORS}
use Rattle.bfm_base.specs.declared.place.P3.{P3}
use Rattle.bfm_base.specs.Place.{extent_of}
use Rattle.bfm_base.specs.declared.cause.Cause.{Cause}
use Rattle.bfm_base.specs.declared.cause.Cause.TheVariants.{OutOfLimit, BadVector, Repeated}

-- two vectors have the same components
abbrev pub same_vector : P3 → P3 → Bool
same_vector a b = int_eq a.x b.x && (int_eq a.y b.y && int_eq a.z b.z)

-- the vector that points the other way
abbrev pub negative_of : P3 → P3
negative_of v = record { x = neg_ℤ v.x; y = neg_ℤ v.y; z = neg_ℤ v.z }

-- a bond reaches 2 or 3 lattice units along an axis
abbrev pub is_bond_vector : P3 → Bool
is_bond_vector v = (extent_of v == 2) || (extent_of v == 3)

-- an identifier is a byte, but not 0, a tab or a byte that ends a line
abbrev pub is_identifier : ℤ → Bool
is_identifier (pos n) = nat_le 1 n && nat_le n 255 && not ((n == 9) || (n == 10) || (n == 13))
is_identifier (negsuc n) = false

-- how many vectors a set has at most
abbrev pub most_vectors : ℕ
most_vectors = MOST_VECTORS

-- the vectors in their order
abbrev pub vectors_of : List (P3 × ℕ) → List P3
vectors_of pairs = map (λ e. e.0) pairs

-- the identifiers in their order
abbrev pub ids_of : List (P3 × ℕ) → List ℕ
ids_of pairs = map (λ e. e.1) pairs

-- the pairs, with the identifier before the vector
abbrev pub flipped : List (P3 × ℕ) → List (ℕ × P3)
flipped pairs = map (λ e. (e.1, e.0)) pairs

-- a bond set: at most 200 pairs of a bond vector and an identifier, and neither comes twice
pub record IsBondSet (pairs : List (P3 × ℕ)) : Type 0 where
  pub few : length pairs ≤ most_vectors
  pub vectors : All (λ v. IsTrue (is_bond_vector v)) (vectors_of pairs)
  pub ids : All (λ id. IsTrue (is_identifier (pos id))) (ids_of pairs)
  pub vectors_differ : IsDistinct same_vector (vectors_of pairs)
  pub ids_differ : IsDistinct nat_eq (ids_of pairs)

-- the identifier of a vector
abbrev pub id_of : List (P3 × ℕ) → P3 → Option ℕ
id_of pairs v = lookup (same_vector v) pairs

-- the vector of an identifier
abbrev pub vector_of : List (P3 × ℕ) → ℕ → Option P3
vector_of pairs id = lookup (nat_eq id) (flipped pairs)

-- the least cause for which a pair is refused, where there is one
unfoldable pub refusal_of : List (P3 × ℕ) → P3 → ℤ → Option Cause
refusal_of pairs v id =
    if not (is_identifier id) || nat_le most_vectors (length pairs) then Some OutOfLimit
    else if not (is_bond_vector v) then Some BadVector
    else if is_some (id_of pairs v) || is_some (vector_of pairs (unsigned_abs id)) then Some Repeated
    else None

-- the set holds the negative of each of its vectors
abbrev pub IsSymmetric : List (P3 × ℕ) → Type 0
IsSymmetric pairs = All (λ v. Contains (vectors_of pairs) (negative_of v)) (vectors_of pairs)

-- the negative of a vector is not in the set
abbrev pub is_unpaired : List (P3 × ℕ) → P3 → Bool
is_unpaired pairs v = is_none (id_of pairs (negative_of v))

-- the first vector whose negative is not in the set
abbrev pub first_unpaired : List (P3 × ℕ) → Option P3
first_unpaired pairs = find (is_unpaired pairs) (vectors_of pairs)
