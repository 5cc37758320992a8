use Rattle.std.proofs.Common.{◌≡◌, ◌+◌, ◌-◌, ◌≤◌, vec_len}
use Rattle.std.specs.Io.KnownBytes.{Consumes}
use Rattle.bfm_commands.specs.Reading.{StandsFor}
use Rattle.bfm_session.proofs.loading.read_all.Given as goal

abbrev pub invariant-loop-reader : goal.invariant-loop-reader
invariant-loop-reader g l =
    Consumes (g.I.Source.left l.initial.input) (g.I.Source.left l.input) l.bytes.items
    × (g.I.Source.faults l.input ≡ g.I.Source.faults l.initial.input)
    × (vec_len l.bytes ≤ l.limit)
    × StandsFor l.reader l.bytes.items

abbrev pub decreases-loop-reader : goal.decreases-loop-reader
decreases-loop-reader g l = l.limit + 1 - vec_len l.bytes
