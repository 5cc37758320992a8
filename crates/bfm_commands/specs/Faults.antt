-- Why a line was not taken, where the set of bond vectors did not take its vector.
use Rattle.bond_set.specs.declared.set.SetFault.{SetFault}
use Rattle.bond_set.specs.declared.set.SetFault.TheVariants as sets
use Rattle.bfm_commands.specs.declared.fault.LineFault.{LineFault}
use Rattle.bfm_commands.specs.declared.fault.LineFault.TheVariants as lines

-- the same cause, or want of memory
abbrev pub line_fault : SetFault → LineFault
line_fault (sets.Refused cause) = lines.Refused cause
line_fault sets.Memory = lines.Memory
