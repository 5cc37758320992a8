use Rattle.std.proofs.Common.{take}
use Rattle.std.specs.List.{flat_map}
use Rattle.bfm_base.specs.Account.{TookAll}
use Rattle.bfm_session.specs.Tables.{drift_line}
use Rattle.bfm_session.proofs.tables.drift_lines.Given as goal

abbrev pub invariant-loop-k : goal.invariant-loop-k
invariant-loop-k g l =
    TookAll (g.S.Sink.account l.initial.sink) (g.S.Sink.account l.sink) (flat_map (drift_line l.fn.first l.fn.world) (take l.k l.fn.molecules))
