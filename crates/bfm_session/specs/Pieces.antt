-- What the pieces of a file come to, one after another.
use Rattle.std.specs.Prelude.{◌≡◌, ℕ, List, Some, take}
use Rattle.bfm_base.specs.declared.cause.ReadStop.{ReadStop}
use Rattle.bfm_base.specs.declared.cause.ReadStop.TheVariants as stops
use Rattle.bfm_commands.specs.Verdict.{first_wrong_of}
use Rattle.bfm_session.specs.Loading.{limited_verdict, too_long}
use Rattle.bfm_session.specs.declared.loading.LoadFault.{LoadFault}
use Rattle.bfm_session.specs.declared.loading.LoadFault.TheVariants as faults

abbrev pub fault_of : ReadStop → LoadFault
fault_of (stops.Refused wrong) = faults.Refused wrong
fault_of stops.Memory = faults.Memory

-- these bytes are not loaded, whatever stands behind them; memory may be wanting at any time
abbrev pub Decides : LoadFault → ℕ → List ℕ → Type 0
Decides (faults.Refused wrong) limit bytes = first_wrong_of (take limit bytes) ≡ Some wrong
Decides faults.TooLong limit bytes = limited_verdict limit bytes ≡ too_long
Decides faults.ReadFault limit bytes = ⊥
Decides faults.Memory limit bytes = Unit {0}
