-- The molecules of a world: the sets of all monomers that lists join whose successive members are bonded. Monomers are
-- counted from 0.
use Rattle.std.specs.Prelude.{◌≡◌, ◌↔◌, ℕ, zero, suc, ◌<◌, ◌≤◌, Bool, true, ◌&&◌, ◌||◌, not, nat_eq, List, [], ◌∷◌, length, map, filter, slice_index, All}
use Rattle.std.specs.List.{Contains, list_all, list_any, range_with_len}
use Rattle.bfm_world.specs.Bonds.{are_bonded, IsAscending}
use Rattle.bfm_world.specs.Configuration.{Configuration}

-- from monomer i on, each member of the list is bonded to the one before it, and the last one is j
abbrev pub IsWay : List (List ℕ) → ℕ → List ℕ → ℕ → Type 0
IsWay bonds i [] j = i ≡ j
IsWay bonds i (k ∷ ks) j = (are_bonded bonds i k ≡ true) × IsWay bonds k ks j

-- such a list joins the two
abbrev pub AreJoined : List (List ℕ) → ℕ → ℕ → Type 0
AreJoined bonds i j = (way : List ℕ) × IsWay bonds i way j

-- the first of some monomers, which is the least where they ascend
abbrev pub first_of : List ℕ → ℕ
first_of members = slice_index members 0

-- all monomers that are joined to the first of them, in ascending order
pub record IsMolecule (w : Configuration) (members : List ℕ) : Type 0 where
  pub some : 1 ≤ length members
  pub monomers : All (λ i. i < length w.positions) members
  pub ascending : IsAscending members
  pub joined : (i : ℕ) → Contains members i ↔ AreJoined w.bonds (first_of members) i

-- the molecules of a world, in order of their least monomers: each monomer is in one
pub record AreMolecules (w : Configuration) (molecules : List (List ℕ)) : Type 0 where
  pub each : All (IsMolecule w) molecules
  pub order : IsAscending (map first_of molecules)
  pub all : (i : ℕ) → i < length w.positions → (members : List ℕ) × Contains molecules members × Contains members i

-- The same molecules, as a function of the world.

-- all monomers
abbrev pub monomers_of : Configuration → List ℕ
monomers_of w = range_with_len 0 (length w.positions)

-- whether a list of at most so many bonds joins monomer i to monomer j
abbrev pub join_within : Configuration → ℕ → ℕ → ℕ → Bool
join_within w zero i j = nat_eq i j
join_within w (suc bonds) i j = join_within w bonds i j || list_any (λ k. join_within w bonds i k && are_bonded w.bonds k j) (monomers_of w)

-- whether the two are joined: where they are, fewer bonds do it than there are monomers
abbrev pub are_joined : Configuration → ℕ → ℕ → Bool
are_joined w i j = join_within w (length w.positions) i j

-- whether no monomer before monomer i is joined to it
abbrev pub is_least : Configuration → ℕ → Bool
is_least w i = list_all (λ j. not (are_joined w j i)) (range_with_len 0 i)

-- all monomers that are joined to monomer i, in ascending order
abbrev pub molecule_with : Configuration → ℕ → List ℕ
molecule_with w i = filter (are_joined w i) (monomers_of w)

-- the molecules of a world, in order of their least monomers
abbrev pub molecules_of : Configuration → List (List ℕ)
molecules_of w = map (molecule_with w) (filter (is_least w) (monomers_of w))
