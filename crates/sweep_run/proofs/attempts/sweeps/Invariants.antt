use Rattle.std.proofs.Common.{◌≡◌, ◌+◌, ◌*◌, ◌<◌, ◌≤◌, length}
use Rattle.bfm_world.specs.Configuration.{reach_of}
use Rattle.bond_set.specs.Crossing.{IsFree}
use Rattle.crosslink.specs.Log.{IsLogOf}
use Rattle.sweep_run.specs.Sweep.{IsFewMore, after_sweeps, progress_of, NoMoveCrosses}
use Rattle.sweep_run.proofs.attempts.sweeps.Given as goal

abbrev pub invariant-loop-done : goal.invariant-loop-done
invariant-loop-done g l =
    let start = g.E.Engine.configuration l.initial.engine in
    let now = g.E.Engine.configuration l.engine in
    let n = length start.positions in record {
      run : progress_of now l.tally l.log ≡ after_sweeps l.linking l.seed l.first l.done (progress_of start l.initial.tally l.initial.log);
      logged : IsLogOf now l.log;
      monomers : length now.positions ≡ n;
      reach : reach_of now.positions ≤ reach_of start.positions + n * l.done;
      few : IsFewMore (n * l.done) l.initial.tally l.tally;
      uncrossed : 0 < l.done → IsFree start.set → NoMoveCrosses l.linking l.seed l.first start;
    }
