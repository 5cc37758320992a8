use Rattle.std.proofs.Common.{take}
use Rattle.std.specs.List.{flat_map}
use Rattle.bfm_base.specs.Account.{TookAll}
use Rattle.bfm_base.proofs.stream.send_pieces.Given as goal

abbrev pub invariant-loop-piece : goal.invariant-loop-piece
invariant-loop-piece g l =
    TookAll (g.S.Sink.account l.initial.sink) (g.S.Sink.account l.sink) (flat_map (λ piece. piece.now) (take l.piece-index l.pieces))
