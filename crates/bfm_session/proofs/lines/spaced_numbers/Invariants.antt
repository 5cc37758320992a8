use Rattle.std.proofs.Common.{take}
use Rattle.std.specs.List.{flat_map}
use Rattle.bfm_base.specs.Account.{TookAll}
use Rattle.bfm_session.specs.NumberLines.{spaced_number}
use Rattle.bfm_session.proofs.lines.spaced_numbers.Given as goal

-- the numbers so far are written
abbrev pub invariant-loop-n : goal.invariant-loop-n
invariant-loop-n g l =
    TookAll (g.S.Sink.account l.initial.sink) (g.S.Sink.account l.sink) (flat_map spaced_number (take l.n-index l.numbers))
