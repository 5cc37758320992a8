use Rattle.std.proofs.Common.{◌+◌, drop, sym, subst}
use Rattle.std.specs.List.{flat_map}
use Rattle.std.proofs.lemmas.Result.{err_from_is_err_and}
use Rattle.bfm_base.specs.Account.{TookPrefix}
use Rattle.bfm_base.proofs.SendLemmas.{TookPrefix-append, TookPrefix-later}
use Rattle.bfm_base.proofs.PieceLemmas.{flat_map-around}
use Rattle.bfm_session.specs.NumberLines.{spaced_number}
use Rattle.bfm_session.proofs.lines.spaced_numbers.Goals as goal

pub returns-in_err-spaced_number : goal.returns-in_err-spaced_number
returns-in_err-spaced_number g c =
    let p = err_from_is_err_and c.from_residual.result c.from_residual.ensures.1 in
    let i = c.loop-n.n-index in
    let whole = flat_map-around spaced_number c.args.numbers.now i 0 c.loop-n-test.true in
    let part = TookPrefix-later _ _ _ _ _ c.loop-n.invariant c.in_err-spaced_number.ensures in
    rw p.1 (subst (TookPrefix (g.S.Sink.account c.args.sink.now) (g.S.Sink.account c.spaced_number.new.sink))
    (sym whole) (TookPrefix-append _ _ _ (flat_map spaced_number (drop (i + 1) c.args.numbers.now)) part))
