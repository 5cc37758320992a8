-- The numbers that the commands of a header give, and their ranges.
use Rattle.std.specs.Prelude.{◌≡◌, ℕ, ◌≤◌, Option, None, Some}
use Rattle.bfm_commands.specs.Meaning.{role_of}
use Rattle.bfm_commands.specs.declared.role.Role.{Role}
use Rattle.bfm_commands.specs.declared.role.Role.TheVariants as roles
use Rattle.bfm_commands.specs.declared.settings.Given.{Given}

-- a number that a command gives is in its range
abbrev pub IsInRange : Role → Option ℕ → Type 0
IsInRange (roles.Value smallest greatest) (Some n) = (smallest ≤ n) × (n ≤ greatest)
IsInRange role value = Unit {0}

-- a number is there exactly where a command gives one, and it is in its range
abbrev pub IsRightValue : Role → Option ℕ → Type 0
IsRightValue (roles.Value smallest greatest) (Some n) = (smallest ≤ n) × (n ≤ greatest)
IsRightValue (roles.Value smallest greatest) None = ⊥
IsRightValue role value = Unit {0}

abbrev pub IsGivenRight : Given → Type 0
IsGivenRight given = IsRightValue (role_of given.command) given.value

-- this is the number that a command gives
abbrev pub IsGivenAs : Role → Option ℕ → ℕ → Type 0
IsGivenAs (roles.Value smallest greatest) value n = (value ≡ Some n) × (smallest ≤ n) × (n ≤ greatest)
IsGivenAs role value n = Unit {0}
