use Rattle.std.proofs.Common.{◌++◌, drop}
use Rattle.std.specs.List.{flat_map}
use Rattle.bfm_writer.specs.Batch.{TookFirst}
use Rattle.bfm_writer.specs.Header.{value_line}
use Rattle.bfm_writer.proofs.headers.write_value_lines.Given as goal

-- what is gathered and the values that follow are left of all
abbrev pub invariant-loop-command : goal.invariant-loop-command
invariant-loop-command g l =
    TookFirst (g.S.Sink.account l.initial.sink) (g.S.Sink.account l.sink)
    (l.initial.batch ++ flat_map (λ v. value_line (v.0.now, v.1)) l.values)
    (l.batch ++ flat_map (λ v. value_line (v.0.now, v.1)) (drop l.command-index l.values))
