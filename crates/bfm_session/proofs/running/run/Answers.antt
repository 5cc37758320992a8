use Rattle.std.proofs.Common.{◌≡◌, ℕ, ◌++◌, ◌∙◌, false, ap, refl, sym, subst, arith}
use Rattle.std.proofs.lemmas.Bool.Decides.{nat_tests}
use Rattle.bfm_base.specs.Account.{Delivered, TookPrefix}
use Rattle.bond_set.specs.Crossing.{IsFree}
use Rattle.bfm_world.specs.Configuration.{Configuration}
use Rattle.crossing_check.specs.Verdict.{IsVerdict}
use Rattle.crossing_check.specs.declared.judgement.SetVerdict.{SetVerdict}
use Rattle.sweep_run.specs.Sweep.{begun_with}
use Rattle.sweep_run.specs.declared.tally.Tally.{Tally}
use Rattle.sweep_run.proofs.SweepLemmas.{NoMoveCrosses-free}
use Rattle.bfm_session.specs.Parts.{FinishesFromEachFront, GoesInParts, GoesOn}
use Rattle.bfm_session.specs.Running.{after_frames, groups_text, is_too_far, last_mcs, run_text}
use Rattle.bfm_session.specs.declared.running.RunDone.{RunDone}
use Rattle.bfm_session.proofs.CutRun.{cut_run}
use Rattle.bfm_session.proofs.PartsRun.{goes_on, in_parts}
use Rattle.bfm_session.proofs.running.run.Goals as goal

pub returns-then-mcs-from-clause-uncrossed : goal.returns-then-mcs-from-clause-uncrossed
returns-then-mcs-from-clause-uncrossed g c free = NoMoveCrosses-free c.args.order.now.linking c.args.order.now.seed c.args.loaded.mcs c.args.loaded.world c.len.ensures.valid free

pub returns-in_default-new-clause-uncrossed : goal.returns-in_default-new-clause-uncrossed
returns-in_default-new-clause-uncrossed g c free = NoMoveCrosses-free c.args.order.now.linking c.args.order.now.seed c.args.loaded.mcs c.args.loaded.world c.len.ensures.valid free

pub returns-in_default-clause-uncrossed : goal.returns-in_default-clause-uncrossed
returns-in_default-clause-uncrossed g c free = NoMoveCrosses-free c.args.order.now.linking c.args.order.now.seed c.args.loaded.mcs c.args.loaded.world c.len.ensures.valid free

pub returns-in-Ok-frames-clause-uncrossed : goal.returns-in-Ok-frames-clause-uncrossed
returns-in-Ok-frames-clause-uncrossed g c free = NoMoveCrosses-free c.args.order.now.linking c.args.order.now.seed c.args.loaded.mcs c.args.loaded.world c.len.ensures.valid free

pub returns-in-Ok-frames-clause-told_free : goal.returns-in-Ok-frames-clause-told_free
returns-in-Ok-frames-clause-told_free g c told =
    let judged = subst (IsVerdict c.set.result.now) told c.verdict-verdict.ensures.verdict in
    let free : IsFree c.args.loaded.world.set = subst IsFree c.set.ensures judged in
    NoMoveCrosses-free c.args.order.now.linking c.args.order.now.seed c.args.loaded.mcs c.args.loaded.world c.len.ensures.valid free

pub returns-clause-uncrossed : goal.returns-clause-uncrossed
returns-clause-uncrossed g c free = NoMoveCrosses-free c.args.order.now.linking c.args.order.now.seed c.args.loaded.mcs c.args.loaded.world c.len.ensures.valid free

pub returns-in-Ok-frames-clause-goes_on : goal.returns-in-Ok-frames-clause-goes_on
returns-in-Ok-frames-clause-goes_on g c bytes verdict part =
    let near : is_too_far c.args.loaded c.args.order.now ≡ false = grind (arith, nat_tests) in
    subst (λ kept. GoesOn c.args.loaded c.args.order.now (run_text c.args.loaded c.args.order.now kept)) (sym part)
    (goes_on bytes c.args.loaded c.args.order.now verdict c.len.ensures.valid near)

pub returns-in-Ok-frames-clause-in_parts : goal.returns-in-Ok-frames-clause-in_parts
returns-in-Ok-frames-clause-in_parts g c bytes verdict part =
    let near : is_too_far c.args.loaded c.args.order.now ≡ false = grind (arith, nat_tests) in
    subst (GoesInParts c.args.loaded c.args.order.now) (sym part) (in_parts bytes c.args.loaded c.args.order.now verdict c.len.ensures.valid near)

pub returns-in-Ok-frames-clause-cut : goal.returns-in-Ok-frames-clause-cut
returns-in-Ok-frames-clause-cut g c bytes verdict part =
    let near : is_too_far c.args.loaded c.args.order.now ≡ false = grind (arith, nat_tests) in
    subst (FinishesFromEachFront c.args.loaded c.args.order.now) (sym part) (cut_run bytes c.args.loaded c.args.order.now verdict c.len.ensures.valid near)

pub returns-in_default-new-clause-does : goal.returns-in_default-new-clause-does
returns-in_default-new-clause-does g c =
    let near : is_too_far c.args.loaded c.args.order.now ≡ false = grind (arith, nat_tests) in
    (c.verdict-verdict.result, (near, refl))

abbrev told : ℕ → Tally → SetVerdict → RunDone
told mcs tally verdict = record { mcs = mcs; tally = tally; verdict = verdict }

pub returns-in-Ok-frames-clause-does : goal.returns-in-Ok-frames-clause-does
returns-in-Ok-frames-clause-does g c =
    let loaded = c.args.loaded in
    let order = c.args.order.now in
    let verdict = c.verdict-verdict.result in
    let near : is_too_far loaded order ≡ false = grind (arith, nat_tests) in
    let tally = c.in-Ok-frames.ensures.tally ∙ ap (λ (w : Configuration). (after_frames order loaded.mcs order.frames (begun_with w)).tally) c.in-Ok-new.ensures.engine in
    let done = ap (λ (t : Tally). told (last_mcs loaded order) t verdict) tally in (
      verdict,
      (
        near,
        subst (λ set. IsVerdict set verdict) c.set.ensures c.verdict-verdict.ensures.verdict,
        done,
        subst (λ (w : Configuration). Delivered (g.O.Sink.account c.args.output.now) (g.O.Sink.account c.frames.new.output) (c.args.kept.now ++ groups_text order loaded.mcs order.frames (begun_with w)))
            c.in-Ok-new.ensures.engine c.in-Ok-frames.ensures.written,
      ),
    )

pub returns-clause-does : goal.returns-clause-does
returns-clause-does g c =
    let loaded = c.args.loaded in
    let order = c.args.order.now in
    let verdict = c.verdict-verdict.result in
    let near : is_too_far loaded order ≡ false = grind (arith, nat_tests) in (
      verdict,
      (
        near,
        subst (λ set. IsVerdict set verdict) c.set.ensures c.verdict-verdict.ensures.verdict,
        subst (λ (w : Configuration). TookPrefix (g.O.Sink.account c.args.output.now) (g.O.Sink.account c.frames.new.output) (c.args.kept.now ++ groups_text order loaded.mcs order.frames (begun_with w)))
            c.in-Ok-new.ensures.engine c.in-Err.ensures.written,
      ),
    )
