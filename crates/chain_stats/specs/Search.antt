-- What the search for molecules keeps. The root of a monomer is the least monomer of its molecule; until the
-- search has come to a monomer, the number of all monomers stands in its place.
use Rattle.std.specs.Prelude.{◌≡◌, ℕ, ◌+◌, ◌<◌, ◌≤◌, ◌⊎◌, Bool, true, if◌then◌else◌, nat_eq, nat_lt, List, length, map, slice_index, All, count_by}
use Rattle.std.specs.List.{Contains, filter, sum_by, range_with_len}
use Rattle.bfm_world.specs.Bonds.{are_bonded}
use Rattle.chain_stats.specs.declared.molecule_list.Section.{Section}
use Rattle.chain_stats.specs.Molecules.{AreJoined}

abbrev pub root_of : List ℕ → ℕ → ℕ
root_of roots i = slice_index roots i

-- the search came to this monomer
abbrev pub IsFound : ℕ → List ℕ → ℕ → Type 0
IsFound count roots i = (i < count) × (root_of roots i < count)

-- how many monomers the search has not come to
abbrev pub missing : ℕ → List ℕ → ℕ
missing count roots = sum_by (λ root. if nat_eq root count then 1 else 0) roots

-- each monomer that is found is joined to its root, which is no greater
pub record AreFound (bonds : List (List ℕ)) (count : ℕ) (roots : List ℕ) : Type 0 where
  pub each : length roots ≡ count
  pub within : (i : ℕ) → i < count → root_of roots i ≤ count
  pub least : (i : ℕ) → IsFound count roots i → root_of roots i ≤ i
  pub joined : (i : ℕ) → IsFound count roots i → AreJoined bonds (root_of roots i) i

-- the molecules whose least monomers are below a number are found whole, and no other
pub record AreSearched (bonds : List (List ℕ)) (count number : ℕ) (roots : List ℕ) : Type 0 where
  pub found : AreFound bonds count roots
  pub limit : (i : ℕ) → IsFound count roots i → root_of roots i < number
  pub closed : (i j : ℕ) → IsFound count roots i → are_bonded bonds i j ≡ true → root_of roots j ≡ root_of roots i
  pub before : (i : ℕ) → i < count → i < number → root_of roots i < count

-- beside these, some of the molecule of a number: those from which the search has not gone on wait
pub record IsSpreading (bonds : List (List ℕ)) (count number : ℕ) (roots waiting : List ℕ) : Type 0 where
  pub found : AreFound bonds count roots
  pub limit : (i : ℕ) → IsFound count roots i → root_of roots i ≤ number
  pub closed : (i j : ℕ) → i < count → root_of roots i < number → are_bonded bonds i j ≡ true → root_of roots j ≡ root_of roots i
  pub open_at : (i j : ℕ) → i < count → root_of roots i ≡ number → are_bonded bonds i j ≡ true → Contains waiting i ⊎ (root_of roots j ≡ number)
  pub before : (i : ℕ) → i < count → i ≤ number → root_of roots i < count
  pub waits : All (λ i. (i < count) × (root_of roots i ≡ number)) waiting

-- a monomer that is its own root is the least of a molecule
abbrev pub is_root : List ℕ → ℕ → Bool
is_root roots i = nat_eq (root_of roots i) i

abbrev pub roots_below : List ℕ → ℕ → List ℕ
roots_below roots number = filter (is_root roots) (range_with_len 0 number)

-- the monomers below a number that have this root
abbrev pub members_below : List ℕ → ℕ → ℕ → List ℕ
members_below roots number root = filter (λ i. nat_eq (root_of roots i) root) (range_with_len 0 number)

-- all monomers by their roots, in ascending order
abbrev pub groups_of : List ℕ → List (List ℕ)
groups_of roots = map (members_below roots (length roots)) (roots_below roots (length roots))

-- how many monomers have this root, and how many one that is less
abbrev pub size_of : List ℕ → ℕ → ℕ
size_of roots root = count_by (λ r. nat_eq r root) roots

abbrev pub start_of : List ℕ → ℕ → ℕ
start_of roots root = count_by (λ r. nat_lt r root) roots

-- where the members of a molecule stand in the list of all
abbrev pub section_of : List ℕ → ℕ → Section
section_of roots root = record { start = start_of roots root; end = start_of roots (root + 1) }
