use Rattle.std.proofs.Common.{take}
use Rattle.std.specs.List.{flat_map}
use Rattle.bfm_base.specs.Account.{TookAll}
use Rattle.bfm_session.specs.NumberLines.{number_line}
use Rattle.bfm_session.proofs.lines.number_lines.Given as goal

abbrev pub invariant-loop-name : goal.invariant-loop-name
invariant-loop-name g l =
    TookAll (g.S.Sink.account l.initial.sink) (g.S.Sink.account l.sink) (flat_map (λ line. number_line line.0.now line.1.now) (take l.name-index l.lines))
