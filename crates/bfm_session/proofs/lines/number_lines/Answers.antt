use Rattle.std.proofs.Common.{◌+◌, [], drop, sym, subst}
use Rattle.std.specs.List.{flat_map}
use Rattle.std.proofs.Concat.{flat_map-take_more}
use Rattle.std.proofs.lemmas.Result.{err_from_is_err_and}
use Rattle.bfm_base.specs.Account.{TookAll, TookPrefix}
use Rattle.bfm_base.proofs.SendLemmas.{TookAll-append, TookPrefix-append, TookPrefix-later}
use Rattle.bfm_base.proofs.PieceLemmas.{flat_map-around}
use Rattle.bfm_session.specs.NumberLines.{number_line}
use Rattle.bfm_session.proofs.lines.number_lines.Goals as goal

pub returns-in_err-number_line : goal.returns-in_err-number_line
returns-in_err-number_line g c =
    let p = err_from_is_err_and c.from_residual.result c.from_residual.ensures.1 in
    let i = c.loop-name.name-index in
    let whole = flat_map-around (λ line. number_line line.0.now line.1.now) c.args.lines.now i (record { ref_ptr = (0, 0); now = [] }, record { ref_ptr = (0, 0); now = [] }) c.loop-name-test.true in
    let part = TookPrefix-later _ _ _ _ _ c.loop-name.invariant c.in_err-number_line.ensures in
    rw p.1 (subst (TookPrefix (g.S.Sink.account c.args.sink.now) (g.S.Sink.account c.number_line.new.sink))
    (sym whole) (TookPrefix-append _ _ _ (flat_map (λ line. number_line line.0.now line.1.now) (drop (i + 1) c.args.lines.now)) part))

pub loop-name-preserved : goal.loop-name-preserved
loop-name-preserved g c =
    let i = c.loop-name.name-index in
    let more = flat_map-take_more (λ line. number_line line.0.now line.1.now) c.args.lines.now i (record { ref_ptr = (0, 0); now = [] }, record { ref_ptr = (0, 0); now = [] }) c.loop-name-test.true in
    subst (TookAll (g.S.Sink.account c.args.sink.now) (g.S.Sink.account c.number_line.new.sink)) more (TookAll-append _ _ _ _ _ c.loop-name.invariant c.in_ok-number_line.ensures)
