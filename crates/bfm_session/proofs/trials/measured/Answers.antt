use Rattle.std.proofs.Common.{◌∙◌, false, ap}
use Rattle.chain_stats.specs.Molecules.{molecules_of}
use Rattle.sweep_run.specs.Sweep.{Progress, after_sweeps}
use Rattle.bfm_session.specs.Trial.{after_first, top_sum}
use Rattle.bfm_session.proofs.trials.measured.Goals as goal

pub returns-clause-accepted : goal.returns-clause-accepted
unfolding after_first
returns-clause-accepted g c =
    let start = g.E.Engine.configuration c.args.engine.now in
    let begun = ap (λ pairs. after_sweeps false c.args.seed 0 c.args.count (record { world = start; tally = record { accepted = 0; links = 0 }; log = pairs })) c.requires.empty in
    ap (λ (run : Progress). run.tally.accepted) (c.sweeps.ensures.run ∙ begun)

pub returns-clause-radius : goal.returns-clause-radius
unfolding after_first
returns-clause-radius g c =
    let start = g.E.Engine.configuration c.args.engine.now in
    let begun = ap (λ pairs. after_sweeps false c.args.seed 0 c.args.count (record { world = start; tally = record { accepted = 0; links = 0 }; log = pairs })) c.requires.empty in
    let last = ap (λ (run : Progress). run.world) (c.sweeps.ensures.run ∙ begun) in
    let world = c.world-2.ensures ∙ last in
    let found = c.in_ok-molecules.ensures.value ∙ ap molecules_of (c.world.ensures ∙ last) in
    c.top_sum.ensures ∙ (λ i. top_sum (world i) (found i))
