use Rattle.std.proofs.Common.{◌++◌, drop}
use Rattle.std.specs.List.{flat_map}
use Rattle.bfm_writer.specs.Batch.{TookFirst}
use Rattle.bfm_writer.proofs.batch.Batch.put_pieces.Given as goal

-- what is gathered and the pieces that follow are left of all
abbrev pub invariant-loop-piece : goal.invariant-loop-piece
invariant-loop-piece g l =
    TookFirst (g.S.Sink.account l.initial.sink) (g.S.Sink.account l.sink)
    (l.initial.self ++ flat_map (λ piece. piece.now) l.pieces) (l.self ++ flat_map (λ piece. piece.now) (drop l.piece-index l.pieces))
