-- The rows of values and of lists, as a header is read.
use Rattle.std.proofs.Common.{◌≡◌, ℕ, ◌^◌, ◌<◌, ◌≤◌, true, false, cond, nat_le, pos, List, [], ◌∷◌, ◌++◌, map, decimal, None, Some, refl, sym, ap, ◌∙◌, subst, append_assoc, append-nil, arith}
use Rattle.std.specs.List.{AllByRecursion}
use Rattle.std.proofs.lemmas.Bool.Decides.{nat_tests}
use Rattle.bfm_base.specs.declared.cause.Cause.TheVariants.{OutOfLimit}
use Rattle.bfm_commands.specs.Forms.{value_number}
use Rattle.bfm_commands.specs.Meaning.{Meaning, command, entry, meaning_of, role_of}
use Rattle.bfm_commands.specs.History.{History, begins, has_begun, given_of, given_as, natural_in, find_given, stands}
use Rattle.bfm_commands.specs.Causes.{known_cause, entry_cause, meaning_cause, cause_of}
use Rattle.bfm_commands.specs.declared.commands.Known.{Known}
use Rattle.bfm_commands.specs.declared.owner.Owner.{Owner}
use Rattle.bfm_commands.specs.declared.owner.Owner.TheVariants.{Command}
use Rattle.bfm_commands.specs.declared.commands.Known.TheVariants.{NumberOfMonomers, BoxX, BoxY, BoxZ, PeriodicX, PeriodicY, PeriodicZ, SetOfBondVectors, Bonds, Attributes, Valence, Fixed, Contacts, Acceptance}
use Rattle.bfm_commands.specs.declared.settings.Given.{Given}
use Rattle.bfm_commands.specs.History.{is_same}
use Rattle.bfm_session.proofs.ReadBackLines.{IsRow, is_long-row}
use Rattle.bfm_session.proofs.ReadBackRows.{listed_rows}
use Rattle.bfm_session.proofs.ReadBackEntries.{value_number-back}
use Rattle.bfm_session.proofs.ReadBackMeanings.{begins_number, command_row, assigned_row, IsRow-command, IsRow-assigned, meaning-command, meaning-assigned, meaning-number}
use Rattle.bfm_session.proofs.ReadBackWalk.{Said, Says, said_command, said_entry, Says-command, Says-entry, Reads, Reads-none, Reads-one, Reads-append}

-- the cause of a row, by what it is
pub cause_of-row : (before : History) (row : List ℕ) (m : Meaning) → IsRow row → meaning_of row ≡ m → cause_of before row ≡ meaning_cause before m
cause_of-row before row m r is =
    ap (λ long. cond long (Some OutOfLimit) (meaning_cause before (meaning_of row))) (is_long-row row r) ∙ ap (meaning_cause before) is

-- The commands of a header: those with a value, which is from the one to the other, and those of a list.

pub data IsValued : Known → ℕ → ℕ → Type 0 where
  count : IsValued NumberOfMonomers 1 262144
  side_x : IsValued BoxX 8 512
  side_y : IsValued BoxY 8 512
  side_z : IsValued BoxZ 8 512
  periodic_x : IsValued PeriodicX 0 1
  periodic_y : IsValued PeriodicY 0 1
  periodic_z : IsValued PeriodicZ 0 1

pub data IsListing : Known → Type 0 where
  vector_list : IsListing SetOfBondVectors
  bond_list : IsListing Bonds
  label_list : IsListing Attributes
  valence_list : IsListing Valence
  fixed_list : IsListing Fixed
  contact_list : IsListing Contacts
  threshold_list : IsListing Acceptance

-- a value in its range
record IsGood (rest : List ℕ) (least greatest n : ℕ) : Type 0 where
  number : value_number rest ≡ Some (pos n)
  above : nat_le least n ≡ true
  below : nat_le n greatest ≡ true

-- such a command is right where it does not stand there yet
value_cause : (before : History) (known : Known) (least greatest n : ℕ) (rest : List ℕ) → IsValued known least greatest → IsGood rest least greatest n
    → has_begun before ≡ false → stands known (given_of before) ≡ false → known_cause before known (role_of known) rest ≡ None
value_cause before known least greatest n rest count good none new = rw (good.number, good.above, good.below, none, new) refl
value_cause before known least greatest n rest side_x good none new = rw (good.number, good.above, good.below, none, new) refl
value_cause before known least greatest n rest side_y good none new = rw (good.number, good.above, good.below, none, new) refl
value_cause before known least greatest n rest side_z good none new = rw (good.number, good.above, good.below, none, new) refl
value_cause before known least greatest n rest periodic_x good none new = rw (good.number, good.above, good.below, none, new) refl
value_cause before known least greatest n rest periodic_y good none new = rw (good.number, good.above, good.below, none, new) refl
value_cause before known least greatest n rest periodic_z good none new = rw (good.number, good.above, good.below, none, new) refl

list_cause : (before : History) (known : Known) → IsListing known → has_begun before ≡ false → stands known (given_of before) ≡ false → known_cause before known (role_of known) [] ≡ None
list_cause before known vector_list none new = rw (none, new) refl
list_cause before known bond_list none new = rw (none, new) refl
list_cause before known label_list none new = rw (none, new) refl
list_cause before known valence_list none new = rw (none, new) refl
list_cause before known fixed_list none new = rw (none, new) refl
list_cause before known contact_list none new = rw (none, new) refl
list_cause before known threshold_list none new = rw (none, new) refl

-- what they give
value_gives : (known : Known) (least greatest n : ℕ) (rest : List ℕ) → IsValued known least greatest → value_number rest ≡ Some (pos n)
    → given_as known (role_of known) rest ≡ record { command = known; value = Some n } ∷ []
value_gives known least greatest n rest count number = ap (λ o. record { command = NumberOfMonomers; value = natural_in o } ∷ []) number
value_gives known least greatest n rest side_x number = ap (λ o. record { command = BoxX; value = natural_in o } ∷ []) number
value_gives known least greatest n rest side_y number = ap (λ o. record { command = BoxY; value = natural_in o } ∷ []) number
value_gives known least greatest n rest side_z number = ap (λ o. record { command = BoxZ; value = natural_in o } ∷ []) number
value_gives known least greatest n rest periodic_x number = ap (λ o. record { command = PeriodicX; value = natural_in o } ∷ []) number
value_gives known least greatest n rest periodic_y number = ap (λ o. record { command = PeriodicY; value = natural_in o } ∷ []) number
value_gives known least greatest n rest periodic_z number = ap (λ o. record { command = PeriodicZ; value = natural_in o } ∷ []) number

value_starts : (known : Known) (least greatest : ℕ) (rest : List ℕ) → IsValued known least greatest → begins (command (Some known) rest) ≡ false
value_starts known least greatest rest count = refl
value_starts known least greatest rest side_x = refl
value_starts known least greatest rest side_y = refl
value_starts known least greatest rest side_z = refl
value_starts known least greatest rest periodic_x = refl
value_starts known least greatest rest periodic_y = refl
value_starts known least greatest rest periodic_z = refl

list_starts : (known : Known) → IsListing known → begins (command (Some known) []) ≡ false
list_starts known vector_list = refl
list_starts known bond_list = refl
list_starts known label_list = refl
list_starts known valence_list = refl
list_starts known fixed_list = refl
list_starts known contact_list = refl
list_starts known threshold_list = refl

-- what is said with one more value
abbrev pub said_value : Known → ℕ → Said → Said
said_value known n said = record said { owner = Command known; given = record { command = known; value = Some n } ∷ said.given }

-- one value
pub Reads-value : (known : Known) (least greatest n : ℕ) (said : Said) → IsValued known least greatest → least ≤ n → n ≤ greatest → greatest < 10 ^ 64 → stands known said.given ≡ false
    → Reads (assigned_row known n ∷ []) said (said_value known n said)
Reads-value known least greatest n said valued low high small new =
    let short : n < 10 ^ 64 = omega arith in
    let number = value_number-back n short in
    let rest = 61 ∷ decimal n in
    let good : IsGood rest least greatest n = record { number = number; above = grind (arith, nat_tests); below = grind (arith, nat_tests) } in
    Reads-one (assigned_row known n) said (said_value known n said)
    (λ before s. (
      cause_of-row before (assigned_row known n) (command (Some known) rest) (IsRow-assigned known n short) (meaning-assigned known n short)
          ∙ value_cause before known least greatest n rest valued good s.begun (ap (stands known) s.given ∙ new),
      subst (λ (l : List Given). Says (assigned_row known n ∷ before) (record said { owner = Command known; given = l ++ said.given })) (value_gives known least greatest n rest valued number)
          (Says-command before said (assigned_row known n) known rest s (meaning-assigned known n short) (value_starts known least greatest rest valued)),
    ))

-- the command of a list
pub Reads-list_command : (known : Known) (said : Said) → IsListing known → stands known said.given ≡ false → Reads (command_row known ∷ []) said (said_command known [] said)
Reads-list_command known said listing new =
    Reads-one (command_row known) said (said_command known [] said)
    (λ before s. (
      cause_of-row before (command_row known) (command (Some known) []) (IsRow-command known) (meaning-command known)
          ∙ list_cause before known listing s.begun (ap (stands known) s.given ∙ new),
      Says-command before said (command_row known) known [] s (meaning-command known) (list_starts known listing),
    ))

-- one entry
pub Reads-entry : (owner : Known) (row : List ℕ) (said new : Said) → said.owner ≡ Command owner → IsRow row → begins_number row ≡ true
    → ((before : History) → Says before said → entry_cause before (Command owner) row ≡ None) → said_entry owner row said ≡ new → Reads (row ∷ []) said new
Reads-entry owner row said new owned r number right same =
    let is = meaning-number row r number in
    Reads-one row said new
    (λ before s. (
      cause_of-row before row (entry row) r is ∙ ap (λ o. entry_cause before o row) (s.owner ∙ owned) ∙ right before s,
      subst (Says (row ∷ before)) same (Says-entry before said row owner row s owned is),
    ))

-- The rows of a list, each after those before it.
pub Reads-each : {X : Type 0} (row : X → List ℕ) (state : List X → Said) (whole : List X)
    → ((done : List X) (x : X) (rest : List X) → done ++ x ∷ rest ≡ whole → Reads (row x ∷ []) (state done) (state (done ++ x ∷ [])))
    → (done xs : List X) → done ++ xs ≡ whole → Reads (map row xs) (state done) (state whole)
Reads-each row state whole step done [] e = subst (λ l. Reads [] (state done) (state l)) (sym (append-nil done) ∙ e) (Reads-none (state done))
Reads-each row state whole step done (x ∷ xs) e =
    Reads-append (row x ∷ []) (map row xs) (state done) (state (done ++ x ∷ [])) (state whole) (step done x xs e)
    (Reads-each row state whole step (done ++ x ∷ []) xs (append_assoc done (x ∷ []) xs ∙ e))

-- the last command, and the commands, behind a list that is written where it has entries
abbrev pub owner_with : {X : Type 0} → Known → List X → Owner → Owner
owner_with known [] owner = owner
owner_with known (x ∷ xs) owner = Command known

abbrev pub given_with : {X : Type 0} → Known → List X → List Given → List Given
given_with known [] given = given
given_with known (x ∷ xs) given = record { command = known; value = None } ∷ given

-- a list, by what its command and its entries add
pub Reads-listed : {X : Type 0} (known : Known) (row : X → List ℕ) (fill : Owner → List Given → List X → Said) (owner : Owner) (given : List Given) (xs : List X)
    → Reads (command_row known ∷ []) (fill owner given []) (fill (Command known) (record { command = known; value = None } ∷ given) [])
    → ((g : List Given) (done : List X) (x : X) (rest : List X) → done ++ x ∷ rest ≡ xs → Reads (row x ∷ []) (fill (Command known) g done) (fill (Command known) g (done ++ x ∷ [])))
    → Reads (listed_rows (command_row known) (map row xs)) (fill owner given []) (fill (owner_with known xs owner) (given_with known xs given) xs)
Reads-listed known row fill owner given [] first step = Reads-none (fill owner given [])
Reads-listed known row fill owner given (x ∷ xs) first step =
    let now : List Given = record { command = known; value = None } ∷ given in
    Reads-append (command_row known ∷ []) (map row (x ∷ xs)) (fill owner given []) (fill (Command known) now []) (fill (Command known) now (x ∷ xs)) first
    (Reads-each row (fill (Command known) now) (x ∷ xs) (step now) [] (x ∷ xs) refl)

-- another command is found as before
pub find_given-with : {X : Type 0} (known other : Known) (xs : List X) (given : List Given) → is_same known other ≡ false → find_given other (given_with known xs given) ≡ find_given other given
find_given-with known other [] given differ = refl
find_given-with known other (x ∷ xs) given differ = rw differ refl

-- what holds of each holds of one of them
pub one_of : {X : Type 0} (P : X → Type 0) (done : List X) (x : X) (rest : List X) → AllByRecursion P (done ++ x ∷ rest) → P x
one_of P [] x rest all = all.0
one_of P (d ∷ done) x rest all = one_of P done x rest all.1
