-- The words of a job: keys with whole numbers, as `key=number`, and switches, as `switch=state`.
use Rattle.std.specs.Prelude.{ℕ, Bool, true, false, ◌&&◌, ◌||◌, ◌==◌, nat_le, List, [], ◌∷◌, ◌++◌, length, Option, None, Some, is_some, is_none, option_and_then, if◌then◌else◌}
use Rattle.std.specs.List.{list_any, before_first, after_first}
use Rattle.std.specs.Option.{unwrap_or}
use Rattle.std.specs.Str.{bytes_eq}
use Rattle.bfm_lexer.specs.Numbers.{natural_of}

-- a key: its name, the range of its number, and the number that it has where no word gives one
pub record Key : Type 0 where
  pub name : List ℕ
  pub least : ℕ
  pub greatest : ℕ
  pub usual : Option ℕ

-- a switch: its name, and the words for on and for off; it is off where no word switches it
pub record Switch : Type 0 where
  pub name : List ℕ
  pub on : List ℕ
  pub off : List ℕ

-- a number, where it is from least to greatest
abbrev pub within : ℕ → ℕ → Option ℕ → Option ℕ
within least greatest None = None
within least greatest (Some n) = if nat_le least n && nat_le n greatest then Some n else None

-- what stands before the first `=`, which is byte 61, and behind it
abbrev pub name_in : List ℕ → List ℕ
name_in word = before_first (λ b. b == 61) word

abbrev pub value_in : List ℕ → List ℕ
value_in word = after_first (λ b. b == 61) word

-- what a word `name=value` says of this name: its value
abbrev pub value_of : List ℕ → List ℕ → Option (List ℕ)
value_of name word = if list_any (λ b. b == 61) word && bytes_eq (name_in word) name then Some (value_in word) else None

-- the number that a word gives a key
abbrev pub given : Key → List ℕ → Option ℕ
given key word = option_and_then (λ digits. within key.least key.greatest (natural_of digits)) (value_of key.name word)

-- what a value says of a switch: that it is on, or that it is off
abbrev pub state_in : Switch → List ℕ → Option Bool
state_in switch value = if bytes_eq value switch.on then Some true else if bytes_eq value switch.off then Some false else None

-- whether a word switches a switch on, or off
abbrev pub switched : Switch → List ℕ → Option Bool
switched switch word = option_and_then (state_in switch) (value_of switch.name word)

-- what the first of the words gives which gives anything
abbrev pub first_of : {A : Type 0} → (List ℕ → Option A) → List (List ℕ) → Option A
first_of gives [] = None
first_of gives (word ∷ words) = if is_some (gives word) then gives word else first_of gives words

abbrev pub given_by : Key → List (List ℕ) → Option ℕ
given_by key words = first_of (given key) words

abbrev pub switched_by : Switch → List (List ℕ) → Option Bool
switched_by switch words = first_of (switched switch) words

-- a word gives a key a number, or a switch a state, that no word before it gives
abbrev pub gives_first : List (List ℕ) → List ℕ → Key → Bool
gives_first before word key = is_some (given key word) && is_none (given_by key before)

abbrev pub sets_first : List (List ℕ) → List ℕ → Switch → Bool
sets_first before word switch = is_some (switched switch word) && is_none (switched_by switch before)

-- a word does so for one of the keys, or one of the switches
abbrev pub is_right : List Key → List Switch → List (List ℕ) → List ℕ → Bool
is_right keys switches before word = list_any (gives_first before word) keys || list_any (sets_first before word) switches

-- the first of the words that is not right, by how many words stand before it
abbrev pub first_wrong : List Key → List Switch → List (List ℕ) → List (List ℕ) → Option ℕ
first_wrong keys switches before [] = None
first_wrong keys switches before (word ∷ words) =
    if is_right keys switches before word then first_wrong keys switches (before ++ word ∷ []) words else Some (length before)

-- the number of a key: a word gives it, or it is the usual one
abbrev pub number_for : Key → List (List ℕ) → Option ℕ
number_for key words = if is_some (given_by key words) then given_by key words else key.usual

-- a switch is on: a word switches it on
abbrev pub is_on : Switch → List (List ℕ) → Bool
is_on switch words = unwrap_or (switched_by switch words) false
