-- The entries by which a file tells a table: two classes and the weight of their contacts, or a threshold.
use Rattle.std.specs.Prelude.{ℕ, ◌-◌, ℤ, pos, List, [], ◌∷◌, if◌then◌else◌}
use Rattle.std.specs.List.{flat_map, range_with_len}
use Rattle.std.specs.Ordering.{int_eq}
use Rattle.contact_table.specs.Contacts.{ContactTable, weight_of, with_threshold, with_weight}

-- the table in which each entry was set in turn: of several for one pair the last counts
abbrev pub with_entries : List ((ℕ × ℕ) × ℤ) → ContactTable → ContactTable
with_entries [] table = table
with_entries (e ∷ es) table = with_entries es (with_weight e.0.0 e.0.1 e.1 table)

-- the table to which each threshold was added in turn
abbrev pub with_thresholds : List ℕ → ContactTable → ContactTable
with_thresholds [] table = table
with_thresholds (t ∷ ts) table = with_thresholds ts (with_threshold t table)

-- the entry of a pair, and none where it weighs 0
abbrev pub entry_of : ContactTable → ℕ → ℕ → List ((ℕ × ℕ) × ℤ)
entry_of table a b = if int_eq (weight_of table a b) (pos 0) then [] else ((a, b), weight_of table a b) ∷ []

-- the entries of a class with itself and each class above it, in ascending order
abbrev pub entries_of_class : ContactTable → ℕ → List ((ℕ × ℕ) × ℤ)
entries_of_class table a = flat_map (entry_of table a) (range_with_len a (16 - a))

-- the entries of a table, class by class: each pair that does not weigh 0 once, with the lesser class first
unfoldable pub entries_of : ContactTable → List ((ℕ × ℕ) × ℤ)
entries_of table = flat_map (entries_of_class table) (range_with_len 1 15)
