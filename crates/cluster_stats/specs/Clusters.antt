-- The clusters of a world: the sets of all monomers that lists join whose successive members are in contact. Monomers are
-- counted from 0.
use Rattle.std.specs.Prelude.{◌≡◌, ℕ, ◌≤◌, nat_eq, nat_lt, List, length, map, filter, All, Contains, count_by}
use Rattle.std.specs.List.{range_with_len}
use Rattle.bfm_world.specs.Bonds.{IsAscending}
use Rattle.bfm_world.specs.Configuration.{Configuration}
use Rattle.chain_stats.specs.Molecules.{AreMolecules, molecules_of}
use Rattle.cluster_stats.specs.Contacts.{touch}

-- for each monomer those that are in contact with it, in ascending order
abbrev pub contact_lists : Configuration → List (List ℕ)
contact_lists w =
    let monomers = range_with_len 0 (length w.positions) in
    map (λ i. filter (touch w i) monomers) monomers

-- the world whose bonds are these contacts
abbrev pub with_contacts : Configuration → Configuration
with_contacts w = record w { bonds = contact_lists w }

-- the clusters of a world, in order of their least monomers: they are what its molecules would be if its contacts were its bonds
abbrev pub AreClusters : Configuration → List (List ℕ) → Type 0
AreClusters w clusters = AreMolecules (with_contacts w) clusters

-- how many of some clusters have this size
abbrev pub number_of_size : List (List ℕ) → ℕ → ℕ
number_of_size clusters size = count_by (λ cluster. nat_eq (length cluster) size) clusters

-- the sizes that stand in rows of size and number
abbrev pub sizes_in : List (ℕ × ℕ) → List ℕ
sizes_in rows = map (λ row. row.0) rows

-- each row has a size and how many clusters have it, at least one; sizes ascend, and the size of each cluster has a row
pub record AreSizes (clusters : List (List ℕ)) (rows : List (ℕ × ℕ)) : Type 0 where
  pub counted : All (λ row. (1 ≤ row.1) × (row.1 ≡ number_of_size clusters row.0)) rows
  pub ascending : IsAscending (sizes_in rows)
  pub all : All (λ cluster. Contains (sizes_in rows) (length cluster)) clusters

-- the sizes of the clusters of a world, and how many have each
abbrev pub AreClusterSizes : Configuration → List (ℕ × ℕ) → Type 0
AreClusterSizes w rows = (clusters : List (List ℕ)) × AreClusters w clusters × AreSizes clusters rows

-- The same rows, as a function of the clusters, none of which has more monomers than `most`: each size from 1 on that one has,
-- with the number of such clusters.
abbrev pub size_rows : List (List ℕ) → ℕ → List (ℕ × ℕ)
size_rows clusters most =
    let sizes = filter (λ size. nat_lt 0 (number_of_size clusters size)) (range_with_len 1 most) in
    map (λ size. (size, number_of_size clusters size)) sizes

-- the rows of the clusters of a world
abbrev pub cluster_rows : Configuration → List (ℕ × ℕ)
cluster_rows w = size_rows (molecules_of (with_contacts w)) (length w.positions)
