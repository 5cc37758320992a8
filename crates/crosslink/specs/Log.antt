-- The pairs that were linked.
use Rattle.std.specs.Prelude.{◌≡◌, ℕ, ◌*◌, ◌<◌, ◌≤◌, List, [], ◌∷◌, ◌++◌, length, sum_by}
use Rattle.bfm_world.specs.Configuration.{Configuration}

-- for a world of so many monomers, the pairs in the order of linking
pub record Log : Type 0 where
  pub monomers : ℕ
  pub pairs : List (ℕ × ℕ)

-- a log with these pairs
abbrev pub with_pairs : Log → List (ℕ × ℕ) → Log
with_pairs log pairs = record log { pairs = pairs }

-- A log of this world: it was made for as many monomers, and has no more pairs than there are bonds, each of which makes two
-- monomers neighbours.
pub record IsLogOf (w : Configuration) (log : Log) : Type 0 where
  pub size : log.monomers ≡ length w.positions
  pub few : 2 * length log.pairs ≤ sum_by length w.bonds

-- a log with one pair more
abbrev pub with_pair : Log → ℕ × ℕ → Log
with_pair log pair = with_pairs log (log.pairs ++ pair ∷ [])

-- There is room for the pair, and the log with it is one of this world.
pub record TakesPair (w : Configuration) (log : Log) (pair : ℕ × ℕ) : Type 0 where
  pub room : length log.pairs < 4 * log.monomers
  pub after : IsLogOf w (with_pair log pair)
