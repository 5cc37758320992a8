-- Whole numbers as they stand in a file: an optional minus, and one or more decimal digits.
use Rattle.std.specs.Prelude.{ℕ, ◌&&◌, nat_eq, nat_lt, List, length, drop, codes, Option, Some, None, option_map, IsSome, ℤ, pos, neg_ℤ, if◌then◌else◌}
use Rattle.std.specs.List.{list_all, starts_with}
use Rattle.std.specs.Char.{is_ascii_digit}
use Rattle.std.specs.Str.Parse.{digits_value}

-- the value of one or more decimal digits, or none where the text is anything else
abbrev pub natural_of : List ℕ → Option ℕ
natural_of text = if nat_lt 0 (length text) && list_all is_ascii_digit text then Some (digits_value 10 text) else None

-- the value of a whole number, or none where the text is no number
abbrev pub number_of : List ℕ → Option ℤ
number_of text =
    if starts_with nat_eq text (codes "-") then option_map (λ n. neg_ℤ (pos n)) (natural_of (drop 1 text))
    else option_map (λ n. pos n) (natural_of text)

-- the text is a whole number, of any size
abbrev pub IsNumber : List ℕ → Type 0
IsNumber text = IsSome (number_of text)
