use Rattle.std.proofs.Common.{◌+◌, pos, drop, sym, subst}
use Rattle.std.specs.List.{flat_map}
use Rattle.std.proofs.lemmas.Result.{err_from_is_err_and}
use Rattle.bfm_base.specs.Account.{TookPrefix}
use Rattle.bfm_base.proofs.SendLemmas.{TookPrefix-append, TookPrefix-later}
use Rattle.bfm_base.proofs.PieceLemmas.{flat_map-around}
use Rattle.bfm_session.specs.CrossingText.{spaced}
use Rattle.bfm_session.proofs.crossing.spaced_places.Goals as goal

pub returns-in_err-spaced : goal.returns-in_err-spaced
returns-in_err-spaced g c =
    let p = err_from_is_err_and c.from_residual.result c.from_residual.ensures.1 in
    let i = c.loop-place.place-index in
    let whole = flat_map-around spaced c.args.places.now i (record { x = pos 0; y = pos 0; z = pos 0 }) c.loop-place-test.true in
    let part = TookPrefix-later _ _ _ _ _ c.loop-place.invariant c.in_err-spaced.ensures in
    rw p.1 (subst (TookPrefix (g.S.Sink.account c.args.sink.now) (g.S.Sink.account c.spaced.new.sink))
    (sym whole) (TookPrefix-append _ _ _ (flat_map spaced (drop (i + 1) c.args.places.now)) part))
