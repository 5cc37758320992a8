use Rattle.std.proofs.Common.{◌+◌, [], drop, sym, subst}
use Rattle.std.specs.List.{flat_map}
use Rattle.std.proofs.lemmas.Result.{err_from_is_err_and}
use Rattle.bfm_base.specs.Account.{TookPrefix}
use Rattle.bfm_base.proofs.SendLemmas.{TookPrefix-append, TookPrefix-later}
use Rattle.bfm_base.proofs.PieceLemmas.{flat_map-around}
use Rattle.bfm_base.proofs.stream.send_pieces.Goals as goal

pub returns-in_err-send : goal.returns-in_err-send
returns-in_err-send g c =
    let p = err_from_is_err_and c.from_residual.result c.from_residual.ensures.1 in
    let whole = flat_map-around (λ piece. piece.now) c.args.pieces.now c.loop-piece.piece-index (record { ref_ptr = (0, 0); now = [] }) c.loop-piece-test.true in
    let part = TookPrefix-later _ _ _ _ _ c.loop-piece.invariant c.in_err-send.ensures.sent in
    rw p.1 (subst (TookPrefix (g.S.Sink.account c.args.sink.now) (g.S.Sink.account c.send.new.sink))
    (sym whole) (TookPrefix-append _ _ _ (flat_map (λ piece. piece.now) (drop (c.loop-piece.piece-index + 1) c.args.pieces.now)) part))
