-- What is left to write of rows of which a part is written.
use Rattle.std.specs.Prelude.{ℕ, List, [], ◌∷◌, ◌++◌, codes, drop}
use Rattle.std.specs.List.{flat_map}
use Rattle.bfm_world.specs.Configuration.{Configuration}
use Rattle.bfm_writer.specs.declared.frames.Part.{Part}
use Rattle.bfm_writer.specs.declared.frames.Part.TheVariants.{Start, Ids}
use Rattle.bfm_writer.specs.Rows.{Row, rows_from}
use Rattle.bfm_writer.specs.Text.{ids_text, row_text}

-- an identifier of a row, of which this part is written
abbrev pub id_text : Part → ℕ → List ℕ
id_text Start id = codes " " ++ id ∷ []
id_text Ids id = id ∷ []

-- identifiers of a row, of which this part is written
abbrev pub ids_left : Part → List ℕ → List ℕ
ids_left Start ids = ids_text ids
ids_left Ids ids = ids

-- what is left of rows, where this part of the first one is written
abbrev pub left_of : Part → List Row → List ℕ
left_of part [] = []
left_of part (row ∷ rows) = ids_left part row.ids ++ codes "\n" ++ flat_map row_text rows

-- what is left behind monomer k, where this part of its row is written
abbrev pub left_behind : Part → Configuration → ℕ → List ℕ
left_behind part w k = left_of part (rows_from w k (drop k w.positions))
