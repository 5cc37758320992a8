-- What a file holds, in numbers.
use Rattle.std.specs.Prelude.{ℕ, ◌/◌, List, [], ◌∷◌, length, codes}
use Rattle.std.specs.List.{concat, sum_by}
use Rattle.std.specs.Int.{from_bool}
use Rattle.bfm_geom.specs.Difference.{side_of, is_periodic}
use Rattle.bfm_commands.specs.declared.loaded.Loaded.{Loaded}
use Rattle.bfm_session.specs.NumberLines.{number_line}

-- how many bonds there are: each bond makes two monomers neighbours
abbrev pub bond_count : List (List ℕ) → ℕ
bond_count bonds = sum_by length bonds / 2

-- the last whole frame of a file: its monomers, box, set and bonds; then how many whole frames there are, the time of the
-- last one, the length of the kept part, and how many commands were skipped
abbrev pub info_text : Loaded → List ℕ
info_text loaded =
    let w = loaded.world in
    concat (
    number_line (codes "monomers") (length w.positions ∷ [])
    ∷ number_line (codes "box") (side_of w.shape 0 ∷ side_of w.shape 1 ∷ side_of w.shape 2 ∷ [])
    ∷ number_line (codes "periodic") (from_bool (is_periodic w.shape 0) ∷ from_bool (is_periodic w.shape 1) ∷ from_bool (is_periodic w.shape 2) ∷ [])
    ∷ number_line (codes "vectors") (length w.set ∷ [])
    ∷ number_line (codes "bonds") (bond_count w.bonds ∷ [])
    ∷ number_line (codes "frames") (loaded.frames ∷ [])
    ∷ number_line (codes "mcs") (loaded.mcs ∷ [])
    ∷ number_line (codes "kept") (loaded.kept ∷ [])
    ∷ number_line (codes "skipped") (loaded.skipped ∷ [])
    ∷ []
    )
