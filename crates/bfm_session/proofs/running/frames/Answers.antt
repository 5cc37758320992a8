use Rattle.std.proofs.lemmas.Result.{err_from_is_err_and}
use Rattle.bfm_base.proofs.SendLemmas.{TookAll-append, TookPrefix-append, TookPrefix-later, Delivered-flushed, TookPrefix-flushed}
use Rattle.sweep_run.specs.Sweep.{begun_with}
use Rattle.bfm_session.specs.Running.{groups_text}
use Rattle.bfm_session.proofs.running.frames.Goals as goal

pub returns-in_err-send-clause-written : goal.returns-in_err-send-clause-written
returns-in_err-send-clause-written g c =
    let p = err_from_is_err_and c.from_residual.result c.from_residual.ensures.1 in
    let order = c.args.order.now in
    rw p.1 (TookPrefix-append _ _ _ (groups_text order c.args.mcs order.frames (begun_with (g.E.Engine.configuration c.args.engine.now))) c.in_err-send.ensures.sent)

pub returns-in_err-tally-clause-written : goal.returns-in_err-tally-clause-written
returns-in_err-tally-clause-written g c =
    let p = err_from_is_err_and c.from_residual-in_err-tally.result c.from_residual-in_err-tally.ensures.1 in
    rw p.1 (TookPrefix-later _ _ _ _ _ c.in_ok-send.ensures.sent c.in_err-tally.ensures.sent)

pub returns-in_err-flush-clause-written : goal.returns-in_err-flush-clause-written
returns-in_err-flush-clause-written g c =
    let p = err_from_is_err_and c.from_residual-in_err-flush.result c.from_residual-in_err-flush.ensures.1 in
    rw p.1 (TookPrefix-flushed _ _ _ _ (TookAll-append _ _ _ _ _ c.in_ok-send.ensures.sent c.in_ok-tally.ensures.sent) c.in_err-flush.ensures.failed)

pub returns-clause-written : goal.returns-clause-written
returns-clause-written g c = Delivered-flushed _ _ _ _ (TookAll-append _ _ _ _ _ c.in_ok-send.ensures.sent c.in_ok-tally.ensures.sent) c.in_ok-flush.ensures.flushed
