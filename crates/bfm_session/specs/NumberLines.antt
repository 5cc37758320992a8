-- Lines that are a name and whole numbers.
use Rattle.std.specs.Prelude.{ℕ, List, ◌++◌, codes, decimal}
use Rattle.std.specs.List.{flat_map}

-- a number, with a space before it
abbrev pub spaced_number : ℕ → List ℕ
spaced_number n = codes " " ++ decimal n

abbrev pub number_line : List ℕ → List ℕ → List ℕ
number_line name ns = name ++ (flat_map spaced_number ns ++ codes "\n")
