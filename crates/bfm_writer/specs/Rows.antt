-- The rows of a frame, which its lines show. Monomers are counted from 0.
use Rattle.std.specs.Prelude.{ℕ, ◌+◌, List, [], ◌∷◌, Option, None, Some, if◌then◌else◌}
use Rattle.bfm_base.specs.declared.place.P3.{P3}
use Rattle.bfm_geom.specs.Difference.{plus, minus}
use Rattle.bond_set.specs.BondSet.{id_of, vector_of}
use Rattle.bfm_world.specs.Bonds.{are_bonded}
use Rattle.bfm_world.specs.Configuration.{Configuration, position_of}

-- the position of the first monomer of a row, and the identifier of the difference from each of its monomers to the next
pub record Row : Type 0 where
  pub start : P3
  pub ids : List ℕ

-- The identifier by which monomer k + 1 continues the row of monomer k: the two are bonded, and the plain difference of
-- their positions is in the set.
abbrev pub continuation : Configuration → ℕ → Option ℕ
continuation w k =
    if are_bonded w.bonds k (k + 1) then id_of w.set (minus (position_of w (k + 1)) (position_of w k)) else None

-- A monomer before the rows of those behind it: where an identifier leads to the next monomer, it is the new start of that
-- one's row, and else a row by itself.
abbrev pub put_before : P3 → Option ℕ → List Row → List Row
put_before p (Some id) (row ∷ rows) = record { start = p; ids = id ∷ row.ids } ∷ rows
put_before p leads rows = record { start = p; ids = [] } ∷ rows

-- the rows of the monomers from k on, which stand at these positions, made from the last monomer to the first
abbrev pub rows_from : Configuration → ℕ → List P3 → List Row
rows_from w k [] = []
rows_from w k (p ∷ ps) = put_before p (continuation w k) (rows_from w (k + 1) ps)

-- the rows of the frame of a world
abbrev pub rows_of : Configuration → List Row
rows_of w = rows_from w 0 w.positions

-- where a vector leads from p; with none it is p
abbrev pub led : P3 → Option P3 → P3
led p None = p
led p (Some v) = plus p v

-- the positions that identifiers lead to, from p on
abbrev pub positions_along : List (P3 × ℕ) → P3 → List ℕ → List P3
positions_along set p [] = p ∷ []
positions_along set p (id ∷ ids) = p ∷ positions_along set (led p (vector_of set id)) ids

-- the positions of the monomers of a row
abbrev pub row_positions : List (P3 × ℕ) → Row → List P3
row_positions set row = positions_along set row.start row.ids
