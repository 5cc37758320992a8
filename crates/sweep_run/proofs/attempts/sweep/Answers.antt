use Rattle.std.proofs.Common.{◌≡◌, ◌+◌, ◌*◌, ◌<◌, arith, ap, ◌∙◌, ℕ, subst}
use Rattle.bfm_base.specs.declared.place.Dir.{Dir}
use Rattle.bfm_world.specs.Configuration.{Configuration, IsValid}
use Rattle.sweep_stream.specs.RandomWords.{generator_after}
use Rattle.sweep_run.specs.Sweep.{Progress, attempted, direction_of, monomer_of, progress_of, tried, turned}
use Rattle.sweep_run.proofs.SweepLemmas.{Stands-more, NoMoveCrosses-free}
use Rattle.sweep_run.proofs.attempts.sweep.Goals as goal

pub loop-attempt-preserved : goal.loop-attempt-preserved
loop-attempt-preserved g c =
    let n = c.len-monomers.result in
    let seed = c.args.seed in
    let linking = c.args.linking in
    let k = n * c.args.t + c.loop-attempt._attempt in
    let start = progress_of (g.E.Engine.configuration c.args.engine.now) c.args.tally.now c.args.log.now in
    let old = progress_of (g.E.Engine.configuration c.loop-attempt.engine) c.loop-attempt.tally c.loop-attempt.log in
    let new = progress_of (g.E.Engine.configuration c.turn.new.engine) c.turn.new.tally c.turn.new.log in
    let inv = c.loop-attempt.invariant in
    let choice = c.next_choice-choice in
    let at : c.loop-attempt.words ≡ generator_after seed (3 * k) = inv.stands.words in
    let monomer = choice.ensures.monomer seed k at in
    let direction = choice.ensures.direction seed k at in
    let word = choice.ensures.word seed k at in
    let step : ℕ → Dir → ℕ → Progress = λ i d w. tried linking (attempted old i d w) i d in
    let run : new ≡ turned linking n seed k old =
    c.turn.ensures.run
    ∙ (ap (λ i. step i choice.result.dir choice.result.word) monomer
    ∙ (ap (λ d. step (monomer_of n seed k) d choice.result.word) direction ∙ ap (step (monomer_of n seed k) (direction_of seed k)) word)) in
    let below : monomer_of n seed k < n = omega (arith, choice.ensures.below, monomer) in
    record {
      stands = Stands-more linking start old new seed n (n * c.args.t) c.loop-attempt._attempt c.loop-attempt.words choice.new.words inv.stands below run (choice.ensures.words seed k at);
      logged = c.turn.ensures.log;
      some = inv.some;
    }

pub returns-clause-uncrossed : goal.returns-clause-uncrossed
returns-clause-uncrossed g c free =
    let w = g.E.Engine.configuration c.args.engine.now in
    NoMoveCrosses-free c.args.linking c.args.seed c.args.t w (subst (λ (v : Configuration). IsValid v) c.world.ensures c.len-monomers.ensures.valid) free
