use Rattle.std.proofs.Common.{◌≡◌, ◌+◌, ◌*◌, ◌≤◌, length}
use Rattle.bfm_base.specs.Account.{TookAll}
use Rattle.bfm_world.specs.Configuration.{reach_of}
use Rattle.crosslink.specs.Log.{IsLogOf}
use Rattle.sweep_run.specs.Sweep.{begun_with, cleared, progress_of}
use Rattle.bfm_session.specs.Running.{after_frames, groups_text}
use Rattle.bfm_session.proofs.running.groups.Given as goal

abbrev pub invariant-loop-frame : goal.invariant-loop-frame
invariant-loop-frame g l =
    let start = g.E.Engine.configuration l.initial.engine in
    let now = g.E.Engine.configuration l.engine in
    let done = l.frame * l.order.every in
    TookAll (g.O.Sink.account l.initial.output) (g.O.Sink.account l.output)
    (groups_text l.order l.mcs l.frame (begun_with start))
    × (progress_of now l.tally l.log ≡ cleared (after_frames l.order l.mcs l.frame (begun_with start)))
    × IsLogOf now l.log
    × (length now.positions ≡ length start.positions)
    × (reach_of now.positions ≤ reach_of start.positions + length start.positions * done)
    × (l.tally.accepted ≤ length start.positions * done)
    × (l.tally.links ≤ length start.positions * done)
