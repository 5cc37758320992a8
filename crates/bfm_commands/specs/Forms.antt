-- The forms of single lines, which are given without newline and without one carriage return at the end. The form of a
-- whole line is judged before the size of any number in it.
use Rattle.std.specs.Prelude.{ℕ, ◌-◌, ◌&&◌, ◌==◌, nat_le, nat_lt, ℤ, pos, negsuc, unsigned_abs, List, [], ◌∷◌, Option, None, Some, Result, Ok, Err, if◌then◌else◌}
use Rattle.std.specs.Option.{ok_or, option_or, option_map}
use Rattle.bfm_base.specs.declared.place.P3.{P3}
use Rattle.bfm_base.specs.Place.{extent_of}
use Rattle.bfm_base.specs.declared.cause.Cause.{Cause}
use Rattle.bfm_base.specs.declared.cause.Cause.TheVariants.{BadLine, OutOfLimit, BadMonomer}
use Rattle.bfm_base.specs.declared.limits.TheConstants.{MOST_MONOMERS, START_REACH, GREATEST_NUMBER, GREATEST_CLASS, GREATEST_WEIGHT, GREATEST_THRESHOLD}
use Rattle.bfm_lexer.specs.Fields.{◌>>=◌, behind_mark, number_field, lone_number, lone_natural, number_before, natural_before}
use Rattle.bfm_commands.specs.declared.forms.Range.{Range}

-- The numbers of each form, of any size.

-- `=` and one number, as it follows the name of a command
unfoldable pub value_number : List ℕ → Option ℤ
value_number rest = behind_mark 61 rest >>= lone_number

-- `x y z:id`
unfoldable pub vector_numbers : List ℕ → Option (P3 × ℤ)
vector_numbers line = do
  x ← number_field line
  y ← number_field x.1
  z ← number_before 58 y.1
  id ← lone_number z.1
  Some (record { x = x.0; y = y.0; z = z.0 }, id)

-- `i j`
unfoldable pub pair_numbers : List ℕ → Option (ℤ × ℤ)
pair_numbers line = do
  i ← number_field line
  j ← lone_number i.1
  Some (i.0, j)

-- the first and the last number of a range, and the number that it is given
abbrev pub Numbered : Type 0
Numbered = (ℤ × ℤ) × ℤ

-- `a:t`
unfoldable pub single_numbers : List ℕ → Option Numbered
single_numbers line = do
  a ← number_before 58 line
  t ← lone_number a.1
  Some ((a.0, a.0), t)

-- `a-b:t`, where a and b have no sign
unfoldable pub span_numbers : List ℕ → Option Numbered
span_numbers line = do
  a ← natural_before 45 line
  b ← natural_before 58 a.1
  t ← lone_number b.1
  Some ((pos a.0, pos b.0), t)

-- `a-b:t` or `a:t`
unfoldable pub range_numbers : List ℕ → Option Numbered
range_numbers line = option_or (single_numbers line) (span_numbers line)

-- `a` alone, as the range from a to a
unfoldable pub lone_pair : List ℕ → Option (ℤ × ℤ)
lone_pair line = do
  a ← lone_number line
  Some (a, a)

-- `a-b`, where a and b have no sign
unfoldable pub lone_span : List ℕ → Option (ℤ × ℤ)
lone_span line = do
  a ← natural_before 45 line
  b ← lone_natural a.1
  Some (pos a.0, pos b)

-- `a-b` or `a`
unfoldable pub monomers_numbers : List ℕ → Option (ℤ × ℤ)
monomers_numbers line = option_or (lone_pair line) (lone_span line)

-- the end of a line, or one space and a string of any bytes
abbrev pub string_of : List ℕ → Option (List ℕ)
string_of [] = Some []
string_of (b ∷ bytes) = if b == 32 then Some bytes else None

-- `x y z`, and the string of identifiers that may follow
unfoldable pub frame_numbers : List ℕ → Option (P3 × List ℕ)
frame_numbers line = do
  x ← number_field line
  y ← number_field x.1
  z ← number_field y.1
  ids ← string_of z.1
  Some (record { x = x.0; y = y.0; z = z.0 }, ids)

-- `a b:w`
unfoldable pub contact_numbers : List ℕ → Option Numbered
contact_numbers line = do
  a ← number_field line
  b ← number_before 58 a.1
  w ← lone_number b.1
  Some ((a.0, b.0), w)

-- The limits of each form.

-- the number, where it is in the range
abbrev pub natural_within : ℕ → ℕ → ℤ → Option ℕ
natural_within least greatest (pos n) = if nat_le least n && nat_le n greatest then Some n else None
natural_within least greatest (negsuc n) = None

-- the monomer with this number; monomers are numbered from 1 in a file, and from 0 here
abbrev pub monomer_of : ℤ → Option ℕ
monomer_of n = option_map (λ number. number - 1) (natural_within 1 MOST_MONOMERS n)

abbrev pub limited_value : ℕ → ℕ → Option ℤ → Result ℕ Cause
limited_value least greatest None = Err BadLine
limited_value least greatest (Some n) = ok_or (natural_within least greatest n) OutOfLimit

-- the value of a command, which stands in the rest of its line
unfoldable pub value_of : List ℕ → ℕ → ℕ → Result ℕ Cause
value_of rest least greatest = limited_value least greatest (value_number rest)

abbrev pub limited_vector : Option (P3 × ℤ) → Result (P3 × ℤ) Cause
limited_vector None = Err BadLine
limited_vector (Some entry) =
    if nat_le (extent_of entry.0) GREATEST_NUMBER && nat_le (unsigned_abs entry.1) GREATEST_NUMBER then Ok entry else Err OutOfLimit

-- a vector and its identifier
unfoldable pub vector_entry : List ℕ → Result (P3 × ℤ) Cause
vector_entry line = limited_vector (vector_numbers line)

abbrev pub other_monomers : Option ℕ → Option ℕ → Result (ℕ × ℕ) Cause
other_monomers None j = Err OutOfLimit
other_monomers (Some i) None = Err OutOfLimit
other_monomers (Some i) (Some j) = if i == j then Err BadMonomer else Ok (i, j)

abbrev pub limited_pair : Option (ℤ × ℤ) → Result (ℕ × ℕ) Cause
limited_pair None = Err BadLine
limited_pair (Some entry) = other_monomers (monomer_of entry.0) (monomer_of entry.1)

-- two monomers
unfoldable pub pair_entry : List ℕ → Result (ℕ × ℕ) Cause
pair_entry line = limited_pair (pair_numbers line)

-- the monomers from the first to the last
abbrev pub range_of : ℕ → ℕ → Result Range Cause
range_of first last = if nat_lt last first then Err BadMonomer else Ok (record { first = first; last = last })

abbrev pub ordered_monomers : Option ℕ → Option ℕ → Result Range Cause
ordered_monomers None last = Err OutOfLimit
ordered_monomers (Some first) None = Err OutOfLimit
ordered_monomers (Some first) (Some last) = range_of first last

abbrev pub limited_monomers : Option (ℤ × ℤ) → Result Range Cause
limited_monomers None = Err BadLine
limited_monomers (Some entry) = ordered_monomers (monomer_of entry.0) (monomer_of entry.1)

-- the monomers of a range
unfoldable pub monomers_entry : List ℕ → Result Range Cause
monomers_entry line = limited_monomers (monomers_numbers line)

abbrev pub valued_range : Result Range Cause → Option ℕ → Result (Range × ℕ) Cause
valued_range range None = Err OutOfLimit
valued_range (Err cause) (Some value) = Err cause
valued_range (Ok range) (Some value) = Ok (range, value)

abbrev pub limited_range : ℕ → Option Numbered → Result (Range × ℕ) Cause
limited_range greatest None = Err BadLine
limited_range greatest (Some entry) = valued_range (limited_monomers (Some entry.0)) (natural_within 0 greatest entry.1)

-- the monomers of a range, and what they are given
unfoldable pub range_entry : List ℕ → ℕ → Result (Range × ℕ) Cause
range_entry line greatest = limited_range greatest (range_numbers line)

abbrev pub weight_within : ℤ → Option ℤ
weight_within w = if nat_le (unsigned_abs w) GREATEST_WEIGHT then Some w else None

abbrev pub contact_of : Option ℕ → Option ℕ → Option ℤ → Result ((ℕ × ℕ) × ℤ) Cause
contact_of None second weight = Err OutOfLimit
contact_of (Some first) None weight = Err OutOfLimit
contact_of (Some first) (Some second) None = Err OutOfLimit
contact_of (Some first) (Some second) (Some weight) = Ok ((first, second), weight)

abbrev pub limited_contact : Option Numbered → Result ((ℕ × ℕ) × ℤ) Cause
limited_contact None = Err BadLine
limited_contact (Some entry) =
    contact_of (natural_within 1 GREATEST_CLASS entry.0.0) (natural_within 1 GREATEST_CLASS entry.0.1) (weight_within entry.1)

-- two classes of monomers, and the weight of their contacts
unfoldable pub contact_entry : List ℕ → Result ((ℕ × ℕ) × ℤ) Cause
contact_entry line = limited_contact (contact_numbers line)

-- an acceptance threshold
unfoldable pub threshold_entry : List ℕ → Result ℕ Cause
threshold_entry line = limited_value 0 GREATEST_THRESHOLD (lone_number line)

abbrev pub limited_frame : Option (P3 × List ℕ) → Result (P3 × List ℕ) Cause
limited_frame None = Err BadLine
limited_frame (Some line) = if nat_le (extent_of line.0) START_REACH then Ok line else Err OutOfLimit

-- the position of a line's first monomer, and the identifiers of the vectors to the next ones
unfoldable pub frame_line : List ℕ → Result (P3 × List ℕ) Cause
frame_line line = limited_frame (frame_numbers line)
