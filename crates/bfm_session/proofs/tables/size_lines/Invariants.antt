use Rattle.std.proofs.Common.{take}
use Rattle.std.specs.List.{flat_map}
use Rattle.bfm_base.specs.Account.{TookAll}
use Rattle.bfm_session.specs.Tables.{size_line}
use Rattle.bfm_session.proofs.tables.size_lines.Given as goal

abbrev pub invariant-loop-size : goal.invariant-loop-size
invariant-loop-size g l =
    TookAll (g.S.Sink.account l.initial.sink) (g.S.Sink.account l.sink) (flat_map size_line (take l.size-index l.sizes))
