-- The numbers that the commands of a header give.
use Rattle.std.proofs.Common.{ℕ, Option, None, Some, unwrap_or, refl}
use Rattle.bfm_commands.specs.Settings.{IsRightValue, IsGivenAs}
use Rattle.bfm_commands.specs.declared.role.Role.{Role}
use Rattle.bfm_commands.specs.declared.role.Role.TheVariants as roles

-- a number that is right is the one that its command gives
pub IsGivenAs-right : (role : Role) (value : Option ℕ) → IsRightValue role value → IsGivenAs role value (unwrap_or value 0)
IsGivenAs-right (roles.Value smallest greatest) (Some n) right = (refl, right.0, right.1)
IsGivenAs-right (roles.Value smallest greatest) None right = absurd right
IsGivenAs-right roles.List value right = tt
IsGivenAs-right roles.Change value right = tt
IsGivenAs-right roles.Frame value right = tt
IsGivenAs-right roles.Unbuilt value right = tt
