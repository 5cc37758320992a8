use Rattle.std.proofs.Common.{◌++◌, drop}
use Rattle.std.specs.List.{flat_map}
use Rattle.bfm_writer.specs.Batch.{TookFirst}
use Rattle.bfm_writer.specs.Header.{vector_line}
use Rattle.bfm_writer.proofs.headers.write_vectors.Given as goal

-- what is gathered and the vectors that follow are left of all
abbrev pub invariant-loop-k : goal.invariant-loop-k
invariant-loop-k g l =
    TookFirst (g.S.Sink.account l.initial.sink) (g.S.Sink.account l.sink)
    (l.initial.batch ++ flat_map vector_line l.set) (l.batch ++ flat_map vector_line (drop l.k l.set))
