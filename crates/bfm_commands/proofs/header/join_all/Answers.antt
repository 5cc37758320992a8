use Rattle.std.proofs.Common.{◌≡◌, true, Ok, sym, ap, ◌∙◌}
use Rattle.std.proofs.lemmas.Result.{err_from_is_err_and}
use Rattle.bfm_base.specs.declared.cause.Cause.TheVariants.{TooManyBonds}
use Rattle.bfm_commands.specs.History.{with_pairs}
use Rattle.bfm_commands.specs.Causes.{is_overfull}
use Rattle.bfm_commands.proofs.PairLemmas.{join_refused, join_done}
use Rattle.bfm_commands.proofs.header.join_all.Goals as goal

refused : (c : goal.After-from_residual) → (c.in_err-join.field-0.0 ≡ TooManyBonds) × (is_overfull (with_pairs c.args.builder.now.world.bonds c.args.pairs.now) ≡ true)
refused c =
    join_refused c.args.builder.now c.loop-i.builder c.args.pairs.now c.loop-i.i-index c.loop-i-test.true c.loop-i.invariant.0 c.loop-i.invariant.1
    c.requires.present c.requires.differ c.requires.unplaced c.requires.rows c.in_err-join.field-0.0 (sym c.join.ensures.answer ∙ c.in_err-join.was)

pub returns-in_err-join-clause-cause : goal.returns-in_err-join-clause-cause
returns-in_err-join-clause-cause c =
    let p = err_from_is_err_and c.from_residual.result c.from_residual.ensures.1 in
    rw (p.1, p.2) (refused c).0

pub returns-in_err-join-clause-overfull : goal.returns-in_err-join-clause-overfull
returns-in_err-join-clause-overfull c =
    let p = err_from_is_err_and c.from_residual.result c.from_residual.ensures.1 in
    rw p.1 (refused c).1

pub loop-i-preserved : goal.loop-i-preserved
loop-i-preserved c =
    join_done c.args.builder.now c.loop-i.builder c.args.pairs.now c.loop-i.i-index c.loop-i-test.true c.loop-i.invariant.0 c.loop-i.invariant.1
    c.requires.present c.requires.differ c.requires.unplaced c.requires.rows c.join.new.self c.in_ok-join.field-0 (sym c.join.ensures.answer ∙ c.in_ok-join.was)
    (λ h. c.join.ensures.exact (c.in_ok-join.was ∙ ap (λ b. Ok b) h)) (λ h. c.join.ensures.same (λ e. let was = c.in_ok-join.was in absurd (cc)))
