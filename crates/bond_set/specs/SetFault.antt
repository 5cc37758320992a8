-- Why a pair was not added to a set of bond vectors.
use Rattle.std.specs.Prelude.{Option, None, Some}
use Rattle.bfm_base.specs.declared.cause.Cause.{Cause}
use Rattle.bond_set.specs.declared.set.SetFault.{SetFault}
use Rattle.bond_set.specs.declared.set.SetFault.TheVariants.{Refused, Memory}

-- the cause that a fault names; want of memory names none
abbrev pub refused_cause : SetFault → Option Cause
refused_cause (Refused cause) = Some cause
refused_cause Memory = None
