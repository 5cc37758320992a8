use Rattle.std.proofs.Common.{◌++◌, ◌-◌}
use Rattle.std.specs.List.{flat_map}
use Rattle.bfm_writer.specs.Batch.{TookFirst}
use Rattle.bfm_writer.specs.Part.{left_behind}
use Rattle.bfm_writer.specs.Rows.{rows_of}
use Rattle.bfm_writer.specs.Text.{row_text}
use Rattle.bfm_writer.proofs.frames.write_rows.Given as goal

-- what is gathered and what is behind the monomer before are left of all
abbrev pub invariant-loop-k : goal.invariant-loop-k
invariant-loop-k g l =
    TookFirst (g.S.Sink.account l.fn.sink) (g.S.Sink.account l.sink) (l.fn.batch ++ flat_map row_text (rows_of l.world))
    (l.batch ++ left_behind l.part l.world (l.k - 1))
