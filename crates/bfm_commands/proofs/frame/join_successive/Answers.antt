use Rattle.std.proofs.Common.{◌≡◌, ◌+◌, ◌∙◌, sym, arith, Ok}
use Rattle.std.proofs.lemmas.Result.{err_from_is_err_and}
use Rattle.bfm_world.specs.Draft.{join_answer}
use Rattle.bfm_commands.proofs.FrameLemmas.{JoinedSoFar-more, JoinedSoFar-refused, JoinedSoFar-all}
use Rattle.bfm_commands.proofs.frame.join_successive.Goals as goal

pub returns-in_err-join-clause-err : goal.returns-in_err-join-clause-err
returns-in_err-join-clause-err c =
    let p = err_from_is_err_and c.from_residual.result c.from_residual.ensures.1 in
    let k = c.loop-k.k in
    let q =
    JoinedSoFar-refused c.args.builder.now c.loop-k.builder c.args.first c.args.count k c.loop-k.invariant (omega arith) c.requires.placed (c.requires.steps k (omega arith) (omega arith)) c.in_err-join.field-0.0
    (sym c.join.ensures.answer ∙ c.in_err-join.was) in
    rw p.1 (p.2 ∙ q.0, q.1)

pub loop-k-preserved : goal.loop-k-preserved
loop-k-preserved c =
    let k = c.loop-k.k in
    let answer : join_answer c.loop-k.builder k (k + 1) ≡ Ok c.in_ok-join.field-0 = sym c.join.ensures.answer ∙ c.in_ok-join.was in
    JoinedSoFar-more c.args.builder.now c.loop-k.builder c.args.first c.args.count k c.loop-k.invariant (omega arith) c.requires.placed (c.requires.steps k (omega arith) (omega arith)) c.join.new.self
    c.in_ok-join.field-0 answer (λ h. c.join.ensures.exact (c.join.ensures.answer ∙ h)) (λ h. c.join.ensures.same (λ q. h (sym c.join.ensures.answer ∙ q))) c.join.ensures.sound

pub returns-clause-ok : goal.returns-clause-ok
returns-clause-ok c = JoinedSoFar-all c.args.builder.now c.loop-k.builder c.args.first c.args.count c.loop-k.k c.loop-k.invariant (omega arith)
