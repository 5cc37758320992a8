-- The texts of frames and groups. Monomers are counted from 0 here and from 1 in a text.
use Rattle.std.specs.Prelude.{ℕ, ◌+◌, min, max, List, [], ◌∷◌, ◌++◌, codes, decimal}
use Rattle.std.specs.Fmt.{signed_decimal}
use Rattle.std.specs.List.{concat, flat_map}
use Rattle.bfm_base.specs.declared.place.P3.{P3}
use Rattle.bfm_world.specs.Configuration.{Configuration}
use Rattle.bfm_writer.specs.Rows.{Row, rows_of}

-- three numbers with a space between them
abbrev pub position_text : P3 → List ℕ
position_text p = concat (signed_decimal p.x ∷ codes " " ∷ signed_decimal p.y ∷ codes " " ∷ signed_decimal p.z ∷ [])

-- one space and the identifiers, where there are any
abbrev pub ids_text : List ℕ → List ℕ
ids_text [] = []
ids_text (id ∷ ids) = codes " " ++ id ∷ ids

abbrev pub row_text : Row → List ℕ
row_text row = position_text row.start ++ ids_text row.ids ++ codes "\n"

abbrev pub time_line : ℕ → List ℕ
time_line mcs = concat (codes "!mcs=" ∷ decimal mcs ∷ codes "\n" ∷ [])

-- a frame: its time, and its rows
abbrev pub frame_text : Configuration → ℕ → List ℕ
frame_text w mcs = time_line mcs ++ flat_map row_text (rows_of w)

-- a bond: the numbers of its monomers, the lesser one first
abbrev pub bond_line : ℕ × ℕ → List ℕ
bond_line b = concat (decimal (min b.0 b.1 + 1) ∷ codes " " ∷ decimal (max b.0 b.1 + 1) ∷ codes "\n" ∷ [])

-- the bonds that were added since the last frame, in the order of adding
abbrev pub added_text : List (ℕ × ℕ) → List ℕ
added_text [] = []
added_text (b ∷ bonds) = codes "!add_bonds\n" ++ flat_map bond_line (b ∷ bonds)

-- an empty line, the added bonds, and the frame
abbrev pub group_text : Configuration → ℕ → List (ℕ × ℕ) → List ℕ
group_text w mcs added = codes "\n" ++ (added_text added ++ frame_text w mcs)
