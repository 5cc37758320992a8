use Rattle.std.proofs.Common.{◌++◌, drop}
use Rattle.bfm_writer.specs.Batch.{TookFirst}
use Rattle.bfm_writer.proofs.batch.Batch.put.Given as goal

-- what is gathered and the bytes that follow are left of all
abbrev pub invariant-loop-byte : goal.invariant-loop-byte
invariant-loop-byte g l =
    TookFirst (g.S.Sink.account l.initial.sink) (g.S.Sink.account l.sink) (l.initial.self ++ l.bytes) (l.self ++ drop l.byte-index l.bytes)
