-- What the rows that are written are as lines.
use Rattle.std.proofs.Common.{◌≡◌, ℕ, ◌^◌, ◌<◌, Bool, true, false, ◌||◌, nat_eq, List, [], ◌∷◌, ◌++◌, length, None, Some, ℤ, pos, negsuc, nat_abs, decimal, refl, ap, ◌∙◌, length-append, arith}
use Rattle.std.specs.Char.{is_ascii_digit}
use Rattle.std.specs.Fmt.{signed_decimal}
use Rattle.std.specs.List.{list_all}
use Rattle.std.specs.Str.Parse.{IsNumeral}
use Rattle.std.proofs.lemmas.Fmt.{decimal_is_IsNumeral_wide}
use Rattle.std.proofs.lemmas.Bool.Decides.{nat_tests}
use Rattle.bfm_lexer.specs.Kinds.{is_blank, kind_of}
use Rattle.bfm_lexer.specs.declared.kinds.LineKind.TheVariants as kinds
use Rattle.bfm_commands.specs.Commands.{name_of, known_of, command_of}
use Rattle.bfm_commands.specs.Meaning.{nothing, command, entry, text_meaning, meaning_of}
use Rattle.bfm_commands.specs.declared.commands.Known.{Known}
use Rattle.bfm_commands.specs.declared.commands.Known.TheVariants.{NumberOfMonomers, BoxX, BoxY, BoxZ, PeriodicX, PeriodicY, PeriodicZ, SetOfBondVectors, Bonds, Attributes, Valence, Fixed, Contacts, Acceptance, Mcs, AddBonds, RemoveBonds, Stream, Solid}
use Rattle.bfm_commands.proofs.EntryLemmas.{text_meaning-command, text_meaning-entry, text_meaning-nothing}
use Rattle.bfm_session.proofs.ReadBackNumbers.{digit_byte}
use Rattle.bfm_session.proofs.ReadBackLines.{is_plain, IsRow, plain-append, plain-decimal, length-decimal, without_return-row}

-- An empty line.

command_of-blank : command_of [] ≡ None
unfolding command_of
command_of-blank = refl

pub meaning-blank : meaning_of [] ≡ nothing
meaning-blank = text_meaning-nothing [] kinds.Blank command_of-blank refl refl

-- A row that begins with a digit or a minus is an entry.

abbrev pub begins_number : List ℕ → Bool
begins_number [] = false
begins_number (b ∷ bs) = is_ascii_digit b || nat_eq b 45

pub begins_number-append : (xs ys : List ℕ) → begins_number xs ≡ true → begins_number (xs ++ ys) ≡ true
begins_number-append [] ys e = absurd (cc)
begins_number-append (x ∷ xs) ys e = e

begins_number-digits : (ds : List ℕ) → IsNumeral 10 ds → begins_number ds ≡ true
begins_number-digits [] is = absurd (omega (arith, is.0))
begins_number-digits (d ∷ ds) is = let digit = digit_byte d is.1.0 in rw digit refl

pub begins_number-decimal : (n : ℕ) → n < 10 ^ 64 → begins_number (decimal n) ≡ true
begins_number-decimal n small = begins_number-digits (decimal n) (decimal_is_IsNumeral_wide n small).0

pub begins_number-signed : (z : ℤ) → nat_abs z < 10 ^ 64 → begins_number (signed_decimal z) ≡ true
begins_number-signed (pos n) small = begins_number-decimal n small
begins_number-signed (negsuc n) small = refl

-- what is no blank and no mark of a line
record IsPlainFirst (b : ℕ) : Type 0 where
  no_command : nat_eq 33 b ≡ false
  no_comment : nat_eq 35 b ≡ false
  no_blank : is_blank b ≡ false

plain_first : (b : ℕ) → (is_ascii_digit b || nat_eq b 45) ≡ true → IsPlainFirst b
plain_first b e = record { no_command = grind (arith, nat_tests); no_comment = grind (arith, nat_tests); no_blank = grind (arith, nat_tests) }

command_of-number : (b : ℕ) (bs : List ℕ) → IsPlainFirst b → command_of (b ∷ bs) ≡ None
unfolding command_of
command_of-number b bs p = rw (p.no_command, p.no_comment) refl

kind_of-number : (b : ℕ) (bs : List ℕ) → IsPlainFirst b → kind_of (b ∷ bs) ≡ kinds.Entry
kind_of-number b bs p = rw (p.no_blank, p.no_command, p.no_comment) refl

text_meaning-number : (row : List ℕ) → begins_number row ≡ true → text_meaning row ≡ entry row
text_meaning-number [] e = absurd (cc)
text_meaning-number (b ∷ bs) e = let p = plain_first b e in text_meaning-entry (b ∷ bs) (command_of-number b bs p) (kind_of-number b bs p)

pub meaning-number : (row : List ℕ) → IsRow row → begins_number row ≡ true → meaning_of row ≡ entry row
meaning-number row r e = ap text_meaning (without_return-row row r) ∙ text_meaning-number row e

-- The row of a command, alone and with a value.

abbrev pub command_row : Known → List ℕ
command_row known = 33 ∷ name_of known

abbrev pub assigned_row : Known → ℕ → List ℕ
assigned_row known n = 33 ∷ (name_of known ++ 61 ∷ decimal n)

command_of-name : (known : Known) → command_of (command_row known) ≡ Some (Some known, [])
unfolding command_of known_of
command_of-name NumberOfMonomers = refl
command_of-name BoxX = refl
command_of-name BoxY = refl
command_of-name BoxZ = refl
command_of-name PeriodicX = refl
command_of-name PeriodicY = refl
command_of-name PeriodicZ = refl
command_of-name SetOfBondVectors = refl
command_of-name Bonds = refl
command_of-name Attributes = refl
command_of-name Valence = refl
command_of-name Fixed = refl
command_of-name Contacts = refl
command_of-name Acceptance = refl
command_of-name Mcs = refl
command_of-name AddBonds = refl
command_of-name RemoveBonds = refl
command_of-name Stream = refl
command_of-name Solid = refl

command_of-assigned : (known : Known) (rest : List ℕ) → command_of (33 ∷ (name_of known ++ 61 ∷ rest)) ≡ Some (Some known, 61 ∷ rest)
unfolding command_of known_of
command_of-assigned NumberOfMonomers rest = refl
command_of-assigned BoxX rest = refl
command_of-assigned BoxY rest = refl
command_of-assigned BoxZ rest = refl
command_of-assigned PeriodicX rest = refl
command_of-assigned PeriodicY rest = refl
command_of-assigned PeriodicZ rest = refl
command_of-assigned SetOfBondVectors rest = refl
command_of-assigned Bonds rest = refl
command_of-assigned Attributes rest = refl
command_of-assigned Valence rest = refl
command_of-assigned Fixed rest = refl
command_of-assigned Contacts rest = refl
command_of-assigned Acceptance rest = refl
command_of-assigned Mcs rest = refl
command_of-assigned AddBonds rest = refl
command_of-assigned RemoveBonds rest = refl
command_of-assigned Stream rest = refl
command_of-assigned Solid rest = refl

plain_name : (known : Known) → list_all is_plain (name_of known) ≡ true
plain_name NumberOfMonomers = refl
plain_name BoxX = refl
plain_name BoxY = refl
plain_name BoxZ = refl
plain_name PeriodicX = refl
plain_name PeriodicY = refl
plain_name PeriodicZ = refl
plain_name SetOfBondVectors = refl
plain_name Bonds = refl
plain_name Attributes = refl
plain_name Valence = refl
plain_name Fixed = refl
plain_name Contacts = refl
plain_name Acceptance = refl
plain_name Mcs = refl
plain_name AddBonds = refl
plain_name RemoveBonds = refl
plain_name Stream = refl
plain_name Solid = refl

length_name : (known : Known) → length (name_of known) < 100
length_name NumberOfMonomers = omega arith
length_name BoxX = omega arith
length_name BoxY = omega arith
length_name BoxZ = omega arith
length_name PeriodicX = omega arith
length_name PeriodicY = omega arith
length_name PeriodicZ = omega arith
length_name SetOfBondVectors = omega arith
length_name Bonds = omega arith
length_name Attributes = omega arith
length_name Valence = omega arith
length_name Fixed = omega arith
length_name Contacts = omega arith
length_name Acceptance = omega arith
length_name Mcs = omega arith
length_name AddBonds = omega arith
length_name RemoveBonds = omega arith
length_name Stream = omega arith
length_name Solid = omega arith

pub IsRow-command : (known : Known) → IsRow (command_row known)
IsRow-command known = let l = length_name known in record { plain = plain_name known; short = omega (arith, l) }

pub IsRow-assigned : (known : Known) (n : ℕ) → n < 10 ^ 64 → IsRow (assigned_row known n)
IsRow-assigned known n small =
    let l = length_name known in
    let d = length-decimal n small in
    record {
      plain = plain-append (name_of known) (61 ∷ decimal n) (plain_name known) (plain-decimal n small);
      short = omega (arith, l, d, length-append (name_of known) (61 ∷ decimal n));
    }

pub meaning-command : (known : Known) → meaning_of (command_row known) ≡ command (Some known) []
meaning-command known = ap text_meaning (without_return-row _ (IsRow-command known)) ∙ text_meaning-command _ (Some known) [] (command_of-name known)

pub meaning-assigned : (known : Known) (n : ℕ) → n < 10 ^ 64 → meaning_of (assigned_row known n) ≡ command (Some known) (61 ∷ decimal n)
meaning-assigned known n small =
    ap text_meaning (without_return-row _ (IsRow-assigned known n small)) ∙ text_meaning-command _ (Some known) (61 ∷ decimal n) (command_of-assigned known (decimal n))
