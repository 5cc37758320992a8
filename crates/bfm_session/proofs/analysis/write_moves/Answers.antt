use Rattle.std.proofs.Common.{◌++◌, subst}
use Rattle.std.specs.List.{flat_map}
use Rattle.std.proofs.lemmas.Result.{err_from_is_err_and}
use Rattle.bfm_base.specs.Account.{TookAll}
use Rattle.bfm_session.specs.Tables.{drift_line, mean_line}
use Rattle.bfm_session.proofs.TableLemmas.{Answers-flush}
use Rattle.bfm_session.proofs.analysis.write_moves.Goals as goal

pub returns-in_err-flush : goal.returns-in_err-flush
returns-in_err-flush g c =
    let p = err_from_is_err_and c.from_residual-in_err-flush.result c.from_residual-in_err-flush.ensures.1 in
    let old = g.O.Sink.account c.args.output.now in
    let mid = g.O.Sink.account c.move_lines.new.sink in
    let taken = subst (λ molecules. TookAll old mid (mean_line c.args.first.now c.args.world.now ++ flat_map (drift_line c.args.first.now c.args.world.now) molecules)) c.in_ok-molecules.ensures.value c.in_ok-move_lines.ensures in
    Answers-flush _ p.0 old mid _ _ _ p.1 p.2 taken c.in_err-flush.ensures.failed
