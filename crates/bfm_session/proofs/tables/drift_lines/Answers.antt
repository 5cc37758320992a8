use Rattle.std.proofs.Common.{◌<◌, [], ap, sym, subst}
use Rattle.std.proofs.lemmas.Result.{err_from_is_err_and}
use Rattle.chain_stats.specs.Fractions.{AreMembers}
use Rattle.bfm_session.specs.Tables.{drift_line}
use Rattle.bfm_session.proofs.TableLemmas.{TookAll-line, TookPrefix-line, members-molecule}
use Rattle.bfm_session.proofs.tables.drift_lines.Goals as goal

pub drift_line-requires-clause-members : goal.drift_line-requires-clause-members
drift_line-requires-clause-members g c =
    let inside = subst (λ n. c.loop-k.k < n) c.count-k-end.ensures c.loop-k-test.true in
    subst (AreMembers c.args.world.now) (sym c.members.ensures) (members-molecule c.args.world.now c.args.molecules.now c.loop-k.k c.requires.molecules inside)

pub returns-in_err-drift_line : goal.returns-in_err-drift_line
returns-in_err-drift_line g c =
    let p = err_from_is_err_and c.from_residual.result c.from_residual.ensures.1 in
    let inside = subst (λ n. c.loop-k.k < n) c.count-k-end.ensures c.loop-k-test.true in
    let line = drift_line c.args.first.now c.args.world.now in
    rw p.1 (TookPrefix-line line c.args.molecules.now c.loop-k.k [] inside _ _ _ c.loop-k.invariant _ (ap line c.members.ensures) c.in_err-drift_line.ensures)

pub loop-k-preserved : goal.loop-k-preserved
loop-k-preserved g c =
    let inside = subst (λ n. c.loop-k.k < n) c.count-k-end.ensures c.loop-k-test.true in
    let line = drift_line c.args.first.now c.args.world.now in
    TookAll-line line c.args.molecules.now c.loop-k.k [] inside _ _ _ c.loop-k.invariant _ (ap line c.members.ensures) c.in_ok-drift_line.ensures
