use Rattle.std.proofs.Common.{◌≡◌, ℕ, suc, ◌+◌, ◌*◌, ◌^◌, ◌<◌, ◌≤◌, ◌++◌, length, arith, refl, ap, sym, ◌∙◌, subst, add-one}
use Rattle.std.proofs.Math.Nat.{mul-le-mul_left, mul-le-mul_right}
use Rattle.std.proofs.lemmas.Result.{err_from_is_err_and}
use Rattle.bfm_base.specs.Account.{TookAll, TookPrefix}
use Rattle.bfm_base.proofs.SendLemmas.{TookAll-append, TookPrefix-append, TookPrefix-later}
use Rattle.bfm_world.specs.Configuration.{reach_of}
use Rattle.crosslink.specs.Log.{IsLogOf}
use Rattle.sweep_run.specs.Sweep.{after_sweeps, begun_with, cleared, progress_of}
use Rattle.bfm_session.specs.Running.{after_frames, groups_text}
use Rattle.bfm_session.proofs.ReadBackRun.{at_next_frame-cleared}
use Rattle.bfm_session.proofs.TextLemmas.{groups_text-front, groups_text-more}
use Rattle.bfm_session.proofs.running.groups.Goals as goal

-- one more round of sweeps is within the whole run
within_run : (n reach frame frames every : ℕ) → frame < frames → reach + n * (frames * every) ≤ 2 ^ 44 → reach + n * (frame * every) + n * every ≤ 2 ^ 44
within_run n reach frame frames every l h =
    let more : (frame + 1) * every ≤ frames * every = mul-le-mul_right every (omega arith) in
    let far : n * ((frame + 1) * every) ≤ n * (frames * every) = mul-le-mul_left n more in
    let same : n * ((frame + 1) * every) ≡ n * (frame * every) + n * every = omega arith in
    omega (arith, far, same, h)

pub sweeps-requires-clause-reach : goal.sweeps-requires-clause-reach
sweeps-requires-clause-reach g c =
    let start = g.E.Engine.configuration c.args.engine.now in
    let now = g.E.Engine.configuration c.loop-frame.engine in
    let inv = c.loop-frame.invariant in
    let e = c.args.order.now.every in
    let fits = within_run (length start.positions) (reach_of start.positions) c.loop-frame.frame c.args.order.now.frames e c.loop-frame-test.true c.requires.reach in
    let same : length now.positions * e ≡ length start.positions * e = ap (λ n. n * e) inv.3 in
    omega (arith, fits, same, inv.4)

pub sweeps-requires-clause-counts : goal.sweeps-requires-clause-counts
sweeps-requires-clause-counts g c =
    let start = g.E.Engine.configuration c.args.engine.now in
    let now = g.E.Engine.configuration c.loop-frame.engine in
    let inv = c.loop-frame.invariant in
    let e = c.args.order.now.every in
    let fits = within_run (length start.positions) (reach_of start.positions) c.loop-frame.frame c.args.order.now.frames e c.loop-frame-test.true c.requires.reach in
    let same : length now.positions * e ≡ length start.positions * e = ap (λ n. n * e) inv.3 in
    record { accepted = omega (arith, fits, same, inv.5); links = omega (arith, fits, same, inv.6) }

pub returns-in_err-write_group-clause-sent : goal.returns-in_err-write_group-clause-sent
returns-in_err-write_group-clause-sent g c =
    let p = err_from_is_err_and c.from_residual.result c.from_residual.ensures.1 in
    let order = c.args.order.now in
    let frame = c.loop-frame.frame in
    let start = begun_with (g.E.Engine.configuration c.args.engine.now) in
    let new = progress_of (g.E.Engine.configuration c.sweeps.new.engine) c.sweeps.new.tally c.sweeps.new.log in
    let inv = c.loop-frame.invariant in
    let round = c.sweeps.ensures.run ∙ ap (after_sweeps order.linking order.seed (c.args.mcs + frame * order.every) order.every) inv.1 in
    let part = TookPrefix-later _ _ _ _ _ inv.0 c.in_err-write_group.ensures.sent in
    let here = groups_text-more order c.args.mcs frame start new new.world new.log round refl refl in
    let whole = groups_text-front order c.args.mcs (suc frame) order.frames start (omega arith) in
    rw p.1 (subst (TookPrefix (g.O.Sink.account c.args.output.now) (g.O.Sink.account c.write_group.new.output))
    (ap (λ l. l ++ whole.0) here ∙ sym whole.1) (TookPrefix-append _ _ _ whole.0 part))

pub loop-frame-preserved : goal.loop-frame-preserved
loop-frame-preserved g c =
    let order = c.args.order.now in
    let frame = c.loop-frame.frame in
    let w0 = g.E.Engine.configuration c.args.engine.now in
    let w1 = g.E.Engine.configuration c.loop-frame.engine in
    let w2 = g.E.Engine.configuration c.sweeps.new.engine in
    let start = begun_with w0 in
    let new = progress_of w2 c.sweeps.new.tally c.sweeps.new.log in
    let inv = c.loop-frame.invariant in
    let more = c.sweeps.ensures in
    let round = more.run ∙ ap (after_sweeps order.linking order.seed (c.args.mcs + frame * order.every) order.every) inv.1 in
    let here = groups_text-more order c.args.mcs frame start new new.world new.log round refl refl in
    let taken = TookAll-append _ _ _ _ _ inv.0 c.in_ok-write_group.ensures.sent in
    let same : length w1.positions * order.every ≡ length w0.positions * order.every = ap (λ n. n * order.every) inv.3 in
    let step : length w0.positions * ((frame + 1) * order.every) ≡ length w0.positions * (frame * order.every) + length w0.positions * order.every = omega arith in (
      subst (TookAll (g.O.Sink.account c.args.output.now) (g.O.Sink.account c.write_group.new.output)) (here ∙ ap (λ k. groups_text order c.args.mcs k start) (sym (add-one frame))) taken,
      ap (λ log. progress_of w2 c.sweeps.new.tally log) c.in_ok-write_group.ensures.cleared
          ∙ (ap cleared round ∙ (at_next_frame-cleared order c.args.mcs frame start ∙ ap (λ k. cleared (after_frames order c.args.mcs k start)) (sym (add-one frame)))),
      subst (IsLogOf w2) (sym c.in_ok-write_group.ensures.cleared) (record { size = more.log.size; few = omega arith }),
      more.monomers ∙ inv.3,
      omega (arith, more.reach, inv.4, same, step),
      omega (arith, more.few.accepted, inv.5, same, step),
      omega (arith, more.few.links, inv.6, same, step),
    )
