-- The weights of contacts between classes of monomers, and the thresholds of acceptance (Metropolis and others 1953).
use Rattle.std.specs.Prelude.{◌≡◌, ◌≤◌, ℕ, suc, zero, ◌+◌, ◌*◌, ℤ, pos, negsuc, unsigned_abs, Bool, ◌&&◌, ◌||◌, ◌==◌, List, [], ◌∷◌, ◌++◌, length, replicate, slice_index_or, slice_set}
use Rattle.std.specs.List.{All}
use Rattle.bfm_base.specs.declared.limits.TheConstants.{GREATEST_CLASS, GREATEST_WEIGHT, GREATEST_THRESHOLD}
use Rattle.contact_table.specs.declared.table.TheConstants.{MOST_THRESHOLDS}

-- the weight of a contact by the number of a pair of classes, and the thresholds of 1, 2 and so on
pub record ContactTable : Type 0 where
  pub weights : List ℤ
  pub thresholds : List ℕ

-- a class that can have weights
abbrev pub IsClass : ℕ → Type 0
IsClass a = (1 ≤ a) × (a ≤ GREATEST_CLASS)

-- the number of two classes in this order; there are 16 with class 0, which is that of monomers without one
abbrev pub pair_number : ℕ → ℕ → ℕ
pair_number a b = 16 * a + b

-- the weight of a contact between monomers of two classes
abbrev pub weight_of : ContactTable → ℕ → ℕ → ℤ
weight_of table a b = slice_index_or table.weights (pair_number a b) (pos 0)

-- the threshold of a change delta of the sum of all weights: 2^32 up to 0, then the table's own, counted from 1, and 0 beyond the last
abbrev pub threshold_of : ContactTable → ℤ → ℕ
threshold_of table (negsuc n) = GREATEST_THRESHOLD
threshold_of table (pos zero) = GREATEST_THRESHOLD
threshold_of table (pos (suc k)) = slice_index_or table.thresholds k 0

-- a table: the order of a pair says nothing, monomers without a class have no weights, and all is within its limits
pub record IsContactTable (table : ContactTable) : Type 0 where
  pub pairs : length table.weights ≡ 256
  pub symmetric : (a b : ℕ) → a ≤ GREATEST_CLASS → b ≤ GREATEST_CLASS → weight_of table a b ≡ weight_of table b a
  pub unclassed : (b : ℕ) → b ≤ GREATEST_CLASS → weight_of table 0 b ≡ pos 0
  pub weights : All (λ w. unsigned_abs w ≤ GREATEST_WEIGHT) table.weights
  pub few : length table.thresholds ≤ MOST_THRESHOLDS
  pub thresholds : All (λ t. t ≤ GREATEST_THRESHOLD) table.thresholds

-- the table that weighs nothing and has no thresholds
unfoldable pub no_contacts : ContactTable
no_contacts = record { weights = replicate 256 (pos 0); thresholds = [] }

-- whether the classes c and d are those of the pair a and b, in either order
abbrev pub is_same_pair : ℕ → ℕ → ℕ → ℕ → Bool
is_same_pair a b c d = ((c == a) && (d == b)) || ((c == b) && (d == a))

-- the pair a and b weighs w, in either order
abbrev pub with_weight : ℕ → ℕ → ℤ → ContactTable → ContactTable
with_weight a b w table = record {
  weights = slice_set (slice_set table.weights (pair_number a b) w) (pair_number b a) w;
  thresholds = table.thresholds;
}

-- one threshold more
abbrev pub with_threshold : ℕ → ContactTable → ContactTable
with_threshold t table = record { weights = table.weights; thresholds = table.thresholds ++ t ∷ [] }
