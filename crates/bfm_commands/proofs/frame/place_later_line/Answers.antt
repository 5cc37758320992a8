use Rattle.std.proofs.Common.{◌≡◌, ◌-◌, ◌∙◌, true, false, refl, ap, subst, length, take, drop, arith, length-take, Some, sym, None, List}
use Rattle.bfm_base.specs.declared.place.P3.{P3}
use Rattle.bfm_world.specs.Draft.{Draft, with_positions}
use Rattle.bfm_commands.specs.History.{chain}
use Rattle.bfm_commands.specs.Causes.{some_unbonded}
use Rattle.bfm_commands.specs.Placing.{placing_cause}
use Rattle.bfm_commands.proofs.SuccessiveLemmas.{later_cause-parts, with_later_line-whole}
use Rattle.bfm_commands.proofs.frame.place_later_line.Goals as goal

pub returns-then-not-place_all-clause-err : goal.returns-then-not-place_all-clause-err
returns-then-not-place_all-clause-err c =
    let draft : Draft = c.args.builder.now in
    let ps : List P3 = c.args.positions.now in
    let refused = c.place_all.ensures.refused c.if-not-place_all.true in
    let same : with_positions c.place_all.new.builder (take c.args.begun ps) ≡ draft = ap (with_positions c.place_all.new.builder) (sym c.requires.placed) ∙ sym refused.0 in
    later_cause-parts draft ps c.args.begun c.requires.placed c.requires.begun (Some c.unwrap.result) (some_unbonded draft.world.bonds (chain c.args.begun (length ps - 1 - c.args.begun)))
    (ap (λ (d : Draft). placing_cause d.world (drop c.args.begun ps)) (sym same) ∙ (sym c.in_ok-cause.ensures ∙ c.unwrap.ensures)) refl

pub returns-then-some_unbonded-clause-err : goal.returns-then-some_unbonded-clause-err
returns-then-some_unbonded-clause-err c =
    let draft : Draft = c.args.builder.now in
    let ps : List P3 = c.args.positions.now in
    let placed = c.place_all.ensures.placed c.if-not-place_all.false in
    let count : length draft.world.positions ≡ c.args.begun = omega (arith, ap length c.requires.placed, length-take c.args.begun ps, c.requires.begun) in
    let none : placing_cause draft.world (drop c.args.begun ps) ≡ None = subst (λ n. placing_cause draft.world (drop n ps) ≡ None) count placed.1 in
    let pairs = chain c.args.begun (length ps - 1 - c.args.begun) in
    let apart : some_unbonded draft.world.bonds pairs ≡ true = ap (λ (d : Draft). some_unbonded d.world.bonds pairs) (sym placed.0) ∙ (sym c.some_unbonded.ensures ∙ c.if-some_unbonded.true) in
    later_cause-parts draft ps c.args.begun c.requires.placed c.requires.begun None true none apart

pub returns-clause-ok : goal.returns-clause-ok
returns-clause-ok c =
    let draft : Draft = c.args.builder.now in
    let ps : List P3 = c.args.positions.now in
    let placed = c.place_all.ensures.placed c.if-not-place_all.false in
    let count : length draft.world.positions ≡ c.args.begun = omega (arith, ap length c.requires.placed, length-take c.args.begun ps, c.requires.begun) in
    let none : placing_cause draft.world (drop c.args.begun ps) ≡ None = subst (λ n. placing_cause draft.world (drop n ps) ≡ None) count placed.1 in
    let pairs = chain c.args.begun (length ps - 1 - c.args.begun) in
    let bonded : some_unbonded draft.world.bonds pairs ≡ false = ap (λ (d : Draft). some_unbonded d.world.bonds pairs) (sym placed.0) ∙ (sym c.some_unbonded.ensures ∙ c.if-some_unbonded.false) in
    (placed.0 ∙ sym (with_later_line-whole draft ps c.args.begun c.requires.placed c.requires.begun), later_cause-parts draft ps c.args.begun c.requires.placed c.requires.begun None false none bonded)
