use Rattle.std.proofs.Common.{◌≡◌, ◌+◌, ◌*◌, length, arith, ap, sym, ◌∙◌, add-one}
use Rattle.sweep_run.specs.Sweep.{after_sweeps, progress_of, swept}
use Rattle.sweep_run.proofs.SweepLemmas.{after_sweeps-suc, NoMoveCrosses-more}
use Rattle.sweep_run.proofs.attempts.sweeps.Goals as goal

pub loop-done-preserved : goal.loop-done-preserved
loop-done-preserved g c =
    let seed = c.args.seed in
    let first = c.args.first in
    let linking = c.args.linking in
    let k = c.loop-done.done in
    let n = length (g.E.Engine.configuration c.args.engine.now).positions in
    let start = progress_of (g.E.Engine.configuration c.args.engine.now) c.args.tally.now c.args.log.now in
    let now = progress_of (g.E.Engine.configuration c.loop-done.engine) c.loop-done.tally c.loop-done.log in
    let inv = c.loop-done.invariant in
    let more = c.sweep.ensures in
    let step : n * (k + 1) ≡ n * k + n = omega arith in
    record {
      run = more.run ∙ (ap (swept linking seed (first + k)) inv.run ∙ (sym (after_sweeps-suc linking seed first k start) ∙ ap (λ j. after_sweeps linking seed first j start) (sym (add-one k))));
      logged = more.log;
      monomers = more.monomers ∙ inv.monomers;
      reach = omega (arith, more.reach, inv.monomers, inv.reach, step);
      few = record { accepted = omega (arith, more.few.accepted, inv.monomers, inv.few.accepted, step); links = omega (arith, more.few.links, inv.monomers, inv.few.links, step) };
      uncrossed = λ _. NoMoveCrosses-more linking seed first k start now inv.run inv.uncrossed more.uncrossed;
    }

pub returns-clause-uncrossed : goal.returns-clause-uncrossed
returns-clause-uncrossed g c free done a less = c.loop-done.invariant.uncrossed (omega arith) free done a
