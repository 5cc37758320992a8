use Rattle.std.proofs.Common.{◌≡◌, ◌∙◌, ap, subst, length, take, drop, arith, length-take, Some, sym, None, List}
use Rattle.std.proofs.lemmas.Result.{err_from_is_err_and}
use Rattle.bfm_base.specs.declared.place.P3.{P3}
use Rattle.bfm_world.specs.Draft.{Draft, with_positions}
use Rattle.bfm_commands.specs.Placing.{placing_cause}
use Rattle.bfm_commands.proofs.SuccessiveLemmas.{LineOutcome-placing, LineOutcome-ok, LineOutcome-err}
use Rattle.bfm_commands.proofs.frame.place_line.Goals as goal

pub returns-then-not-place_all-clause-err : goal.returns-then-not-place_all-clause-err
returns-then-not-place_all-clause-err c =
    let draft : Draft = c.args.builder.now in
    let ps : List P3 = c.args.positions.now in
    let refused = c.place_all.ensures.refused c.if-not-place_all.true in
    let same : with_positions c.place_all.new.builder (take c.args.begun ps) ≡ draft = ap (with_positions c.place_all.new.builder) (sym c.requires.placed) ∙ sym refused.0 in
    LineOutcome-placing draft ps c.args.begun c.requires.sound c.requires.placed c.requires.begun c.requires.room c.requires.steps c.unwrap.result
    (ap (λ (d : Draft). placing_cause d.world (drop c.args.begun ps)) (sym same) ∙ (sym c.in_ok-cause.ensures ∙ c.unwrap.ensures))

pub returns-clause-ok : goal.returns-clause-ok
returns-clause-ok c =
    let draft : Draft = c.args.builder.now in
    let ps : List P3 = c.args.positions.now in
    let placed = c.place_all.ensures.placed c.if-not-place_all.false in
    let count : length draft.world.positions ≡ c.args.begun = omega (arith, ap length c.requires.placed, length-take c.args.begun ps, c.requires.begun) in
    let none : placing_cause draft.world (drop c.args.begun ps) ≡ None = subst (λ n. placing_cause draft.world (drop n ps) ≡ None) count placed.1 in
    let joined = c.in_ok-join_successive.ensures.ok in
    LineOutcome-ok draft ps c.args.begun c.requires.sound c.requires.placed c.requires.begun c.requires.room c.requires.steps c.place_all.new.builder placed.0 none c.join_successive.new.builder joined.0 joined.1

pub returns-in_err-join_successive-clause-err : goal.returns-in_err-join_successive-clause-err
returns-in_err-join_successive-clause-err c =
    let p = err_from_is_err_and c.from_residual-in_err-join_successive.result c.from_residual-in_err-join_successive.ensures.1 in
    let draft : Draft = c.args.builder.now in
    let ps : List P3 = c.args.positions.now in
    let placed = c.place_all.ensures.placed c.if-not-place_all.false in
    let count : length draft.world.positions ≡ c.args.begun = omega (arith, ap length c.requires.placed, length-take c.args.begun ps, c.requires.begun) in
    let none : placing_cause draft.world (drop c.args.begun ps) ≡ None = subst (λ n. placing_cause draft.world (drop n ps) ≡ None) count placed.1 in
    let refused = c.in_err-join_successive.ensures.err in
    rw (p.1, p.2) (LineOutcome-err draft ps c.args.begun c.requires.sound c.requires.placed c.requires.begun c.requires.room c.requires.steps c.place_all.new.builder placed.0 none refused.1 ∙ ap Some (sym refused.0))
