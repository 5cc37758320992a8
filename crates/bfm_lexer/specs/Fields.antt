-- The fields of a text, which blanks part, and the marks that stand between them.
use Rattle.std.specs.Prelude.{ℕ, ◌==◌, Bool, not, ◌||◌, List, [], ◌∷◌, Option, None, Some, option_map, option_and_then, ℤ, if◌then◌else◌}
use Rattle.std.specs.Char.{is_ascii_digit}
use Rattle.bfm_lexer.specs.Kinds.{is_blank, is_bare}
use Rattle.bfm_lexer.specs.Numbers.{natural_of, number_of}

infixl 10 ◌>>=◌
-- the next step, where the last one gave something
abbrev pub ◌>>=◌ : {A B : Type 0} → Option A → (A → Option B) → Option B
o >>= next = option_and_then next o

-- a byte that stands between fields and belongs to none
abbrev pub is_mark : ℕ → Bool
is_mark c = not (is_blank c || is_ascii_digit c)

-- the text without the blanks at its start
abbrev pub after_blanks : List ℕ → List ℕ
after_blanks [] = []
after_blanks (b ∷ bs) = if is_blank b then after_blanks bs else b ∷ bs

-- what stands before the first blank
abbrev pub up_to_blank : List ℕ → List ℕ
up_to_blank [] = []
up_to_blank (b ∷ bs) = if is_blank b then [] else b ∷ up_to_blank bs

-- the first blank, and what stands behind it
abbrev pub from_blank : List ℕ → List ℕ
from_blank [] = []
from_blank (b ∷ bs) = if is_blank b then b ∷ bs else from_blank bs

-- the first field of a text; it is empty where there is none
abbrev pub field : List ℕ → List ℕ
field text = up_to_blank (after_blanks text)

-- what stands behind the first field
abbrev pub behind_field : List ℕ → List ℕ
behind_field text = from_blank (after_blanks text)

-- what stands before and behind the first byte c
abbrev pub split_once : ℕ → List ℕ → Option (List ℕ × List ℕ)
split_once c [] = None
split_once c (b ∷ bs) = if b == c then Some ([], bs) else option_map (λ parts. (b ∷ parts.0, parts.1)) (split_once c bs)

-- what stands behind the first c, where only blanks stand before it
unfoldable pub behind_mark : ℕ → List ℕ → Option (List ℕ)
behind_mark c text = do
  parts ← split_once c text
  if is_bare parts.0 then Some parts.1 else None

-- the number that the first field is, and what stands behind that field
unfoldable pub number_field : List ℕ → Option (ℤ × List ℕ)
number_field text = option_map (λ n. (n, behind_field text)) (number_of (field text))

-- the same of a number without a sign
unfoldable pub natural_field : List ℕ → Option (ℕ × List ℕ)
natural_field text = option_map (λ n. (n, behind_field text)) (natural_of (field text))

-- what was read, where only blanks stand behind it
abbrev pub alone : {A : Type 0} → A × List ℕ → Option A
alone read = if is_bare read.1 then Some read.0 else None

-- the number that is the only field of a text
unfoldable pub lone_number : List ℕ → Option ℤ
lone_number text = number_field text >>= alone

unfoldable pub lone_natural : List ℕ → Option ℕ
lone_natural text = natural_field text >>= alone

-- the number that is the only field before the first c, and what stands behind that c
unfoldable pub number_before : ℕ → List ℕ → Option (ℤ × List ℕ)
number_before c text = do
  parts ← split_once c text
  n ← lone_number parts.0
  Some (n, parts.1)

unfoldable pub natural_before : ℕ → List ℕ → Option (ℕ × List ℕ)
natural_before c text = do
  parts ← split_once c text
  n ← lone_natural parts.0
  Some (n, parts.1)
