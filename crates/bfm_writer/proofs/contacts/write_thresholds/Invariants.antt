use Rattle.std.proofs.Common.{◌-◌, ◌++◌, drop}
use Rattle.std.specs.List.{flat_map}
use Rattle.bfm_writer.specs.Batch.{TookFirst}
use Rattle.bfm_writer.specs.Header.{threshold_line}
use Rattle.bfm_writer.proofs.contacts.write_thresholds.Given as goal

-- what is gathered and the thresholds that follow are left of all
abbrev pub invariant-loop-delta : goal.invariant-loop-delta
invariant-loop-delta g l =
    TookFirst (g.S.Sink.account l.initial.sink) (g.S.Sink.account l.sink)
    (l.initial.batch ++ flat_map threshold_line l.table.thresholds) (l.batch ++ flat_map threshold_line (drop (l.delta - 1) l.table.thresholds))
