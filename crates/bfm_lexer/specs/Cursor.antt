-- A number at the very start of a text, as a cursor finds it.
use Rattle.std.specs.Prelude.{ℕ, ◌+◌, ◌*◌, Bool, true, false, min, List, [], ◌∷◌, drop, Option, None, Some, option_map, ℤ, pos, negsuc, neg_ℤ, ◌==◌, if◌then◌else◌}
use Rattle.std.specs.Char.{is_ascii_digit, digit_value}
use Rattle.bfm_base.specs.declared.limits.TheConstants.{GREATEST_NUMBER}
use Rattle.bfm_lexer.specs.Kinds.{is_blank}

-- the digits before made n: the number with the digits that follow, and what stands behind them
abbrev pub digits_from : ℕ → List ℕ → ℕ × List ℕ
digits_from n [] = (n, [])
digits_from n (d ∷ ds) = if is_ascii_digit d then digits_from (n * 10 + digit_value d) ds else (n, d ∷ ds)

abbrev pub begins_with_digit : List ℕ → Bool
begins_with_digit [] = false
begins_with_digit (d ∷ ds) = is_ascii_digit d

-- the number without a sign at the start of a text, and what stands behind its last digit
abbrev pub natural_at : List ℕ → Option (ℕ × List ℕ)
natural_at text = if begins_with_digit text then Some (digits_from 0 text) else None

-- the same number below 0
abbrev pub minus : ℕ × List ℕ → ℤ × List ℕ
minus read = (neg_ℤ (pos read.0), read.1)

abbrev pub plus : ℕ × List ℕ → ℤ × List ℕ
plus read = (pos read.0, read.1)

abbrev pub begins_with : ℕ → List ℕ → Bool
begins_with c [] = false
begins_with c (b ∷ bs) = b == c

-- the number with an optional sign at the start of a text, and what stands behind its last digit
abbrev pub number_at : List ℕ → Option (ℤ × List ℕ)
number_at text = if begins_with 45 text then option_map minus (natural_at (drop 1 text)) else option_map plus (natural_at text)

abbrev pub begins_with_blank : List ℕ → Bool
begins_with_blank [] = false
begins_with_blank (b ∷ bs) = is_blank b

-- a field ends before this
abbrev pub ends : List ℕ → Bool
ends [] = true
ends (b ∷ bs) = is_blank b

-- such a byte at the start of a text, and then what stands behind it
abbrev pub mark_at : ℕ → List ℕ → Option (List ℕ)
mark_at c text = if begins_with c text then Some (drop 1 text) else None

-- A number as it is handed on. Where it is above 2^62 in absolute value, the next one beyond stands for it.
abbrev pub capped : ℤ → ℤ
capped (pos n) = pos (min n (GREATEST_NUMBER + 1))
capped (negsuc n) = negsuc (min n GREATEST_NUMBER)

abbrev pub capped_natural : ℕ → ℕ
capped_natural n = min n (GREATEST_NUMBER + 1)

-- what was read of a text, as it is handed on
unfoldable pub handed : Option (ℤ × List ℕ) → Option (ℤ × List ℕ)
handed read = option_map (λ r. (capped r.0, r.1)) read

unfoldable pub handed_natural : Option (ℕ × List ℕ) → Option (ℕ × List ℕ)
handed_natural read = option_map (λ r. (capped_natural r.0, r.1)) read
