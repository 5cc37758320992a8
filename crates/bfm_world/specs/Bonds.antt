-- The bonds of a world: for each monomer those that it is bonded to, in ascending order. So a set of bonds
-- has one form. Monomers are counted from 0.
use Rattle.std.specs.Prelude.{◌≡◌, ◌≢◌, ℕ, ◌<◌, ◌≤◌, Bool, true, false, nat_lt, nat_le, nat_eq, List, [], ◌∷◌, length, slice_index_or, slice_set, All, if◌then◌else◌}
use Rattle.std.specs.List.{list_any, AllByRecursion}
use Rattle.bfm_base.specs.declared.limits.TheConstants.{MOST_BONDS}

abbrev pub neighbours_of : List (List ℕ) → ℕ → List ℕ
neighbours_of bonds i = slice_index_or bonds i []

abbrev pub are_bonded : List (List ℕ) → ℕ → ℕ → Bool
are_bonded bonds i j = list_any (λ k. nat_eq k j) (neighbours_of bonds i)

abbrev pub is_full : List (List ℕ) → ℕ → Bool
is_full bonds i = nat_le MOST_BONDS (length (neighbours_of bonds i))

-- a number among ascending ones, where it belongs
abbrev pub put : ℕ → List ℕ → List ℕ
put j [] = j ∷ []
put j (k ∷ ks) = if nat_lt j k then j ∷ k ∷ ks else k ∷ put j ks

-- one bond more: each of the two is then a neighbour of the other
abbrev pub with_bond : List (List ℕ) → ℕ → ℕ → List (List ℕ)
with_bond bonds i j = slice_set (slice_set bonds i (put j (neighbours_of bonds i))) j (put i (neighbours_of bonds j))

-- ascending numbers without one of them
abbrev pub without : ℕ → List ℕ → List ℕ
without j [] = []
without j (k ∷ ks) = if nat_eq k j then ks else k ∷ without j ks

-- one bond less: neither of the two is then a neighbour of the other
abbrev pub without_bond : List (List ℕ) → ℕ → ℕ → List (List ℕ)
without_bond bonds i j = slice_set (slice_set bonds i (without j (neighbours_of bonds i))) j (without i (neighbours_of bonds j))

-- Two monomers are not bonded to each other now, and whoever else was bonded is so still.
pub record Separates (i j : ℕ) (old new : List (List ℕ)) : Type 0 where
  pub gone : are_bonded new i j ≡ false
  pub back : are_bonded new j i ≡ false
  pub others : (k m : ℕ) → ¬ ((k ≡ i) × (m ≡ j)) → ¬ ((k ≡ j) × (m ≡ i)) → are_bonded new k m ≡ are_bonded old k m

-- Two monomers are bonded to each other now, and whoever else was bonded is so still.
pub record Joins (i j : ℕ) (old new : List (List ℕ)) : Type 0 where
  pub there : are_bonded new i j ≡ true
  pub back : are_bonded new j i ≡ true
  pub others : (k m : ℕ) → ¬ ((k ≡ i) × (m ≡ j)) → ¬ ((k ≡ j) × (m ≡ i)) → are_bonded new k m ≡ are_bonded old k m

-- each number is below those after it
abbrev pub IsAscending : List ℕ → Type 0
IsAscending [] = Unit {0}
IsAscending (k ∷ ks) = AllByRecursion (λ m. k < m) ks × IsAscending ks

-- A bond joins two different monomers, at most once, and no monomer has too many.
pub record AreBonds (count : ℕ) (bonds : List (List ℕ)) : Type 0 where
  pub rows : length bonds ≡ count
  pub few : All (λ row. length row ≤ MOST_BONDS) bonds
  pub ascending : All IsAscending bonds
  pub both : (i j : ℕ) → are_bonded bonds i j ≡ true → are_bonded bonds j i ≡ true
  pub others : (i j : ℕ) → are_bonded bonds i j ≡ true → (j < count) × (j ≢ i)
