-- The crossing lines: what a verdict says of a set of bond vectors.
use Rattle.std.specs.Prelude.{ℕ, List, [], ◌∷◌, ◌++◌, codes}
use Rattle.std.specs.Fmt.{signed_decimal}
use Rattle.std.specs.List.{concat, flat_map}
use Rattle.bfm_base.specs.Direction.{step_of}
use Rattle.bfm_base.specs.declared.place.P3.{P3}
use Rattle.bfm_geom.specs.declared.meeting.Weights.{Weights}
use Rattle.bfm_writer.specs.Text.{position_text}
use Rattle.crossing_check.specs.declared.judgement.SetVerdict.{SetVerdict}
use Rattle.crossing_check.specs.declared.judgement.SetVerdict.TheVariants.{Free, Crossing}

-- three numbers, each with a space before it
abbrev pub spaced : P3 → List ℕ
spaced place = codes " " ++ position_text place

-- the line of a crossing move
abbrev pub places_line : List P3 → List ℕ
places_line places = codes "crossing" ++ (flat_map spaced places ++ codes "\n")

-- the line of weights
abbrev pub weights_line : Weights → List ℕ
weights_line k =
    concat (
    codes "weights "
    ∷ signed_decimal k.u
    ∷ codes " "
    ∷ signed_decimal k.v
    ∷ codes " "
    ∷ signed_decimal k.w
    ∷ codes " "
    ∷ signed_decimal k.p
    ∷ codes " "
    ∷ signed_decimal k.q
    ∷ codes "\n"
    ∷ []
    )

-- that the set is free; or its first crossing move, by b, the step, c and e, and then the weights that show the common point
abbrev pub crossing_text : SetVerdict → List ℕ
crossing_text Free = codes "crossing free\n"
crossing_text (Crossing b dir c e weights) = places_line (b ∷ step_of dir ∷ c ∷ e ∷ []) ++ weights_line weights
