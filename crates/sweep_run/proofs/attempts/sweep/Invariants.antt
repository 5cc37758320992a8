use Rattle.std.proofs.Common.{◌*◌, ◌<◌}
use Rattle.crosslink.specs.Log.{IsLogOf}
use Rattle.sweep_run.specs.Sweep.{progress_of}
use Rattle.sweep_run.proofs.SweepLemmas.{Stands}
use Rattle.sweep_run.proofs.attempts.sweep.Given as goal

abbrev pub invariant-loop-attempt : goal.invariant-loop-attempt
invariant-loop-attempt g l = record {
  stands : Stands l.linking (progress_of (g.E.Engine.configuration l.initial.engine) l.initial.tally l.initial.log) (progress_of (g.E.Engine.configuration l.engine) l.tally l.log)
      l.seed l.monomers (l.monomers * l.t) l._attempt l.words;
  logged : IsLogOf (g.E.Engine.configuration l.engine) l.log;
  some : 0 < l.monomers;
}
