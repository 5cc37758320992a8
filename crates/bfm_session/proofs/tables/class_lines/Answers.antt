use Rattle.std.proofs.Common.{◌-◌, List, ℕ, take, sym, ◌∙◌, ap, subst, arith}
use Rattle.std.specs.List.{flat_map}
use Rattle.std.proofs.lemmas.Result.{err_from_is_err_and}
use Rattle.bfm_base.specs.Account.{TookAll}
use Rattle.cluster_stats.specs.Contacts.{count_of}
use Rattle.bfm_session.specs.Tables.{class_line, classes_from}
use Rattle.bfm_session.proofs.TableLemmas.{TookAll-line, TookPrefix-line, class-inside, class-at, classes-all}
use Rattle.bfm_session.proofs.tables.class_lines.Goals as goal

pub returns-in_err-class_line : goal.returns-in_err-class_line
returns-in_err-class_line g c =
    let p = err_from_is_err_and c.from_residual.result c.from_residual.ensures.1 in
    let a = c.args.a in
    let b = c.loop-b.b in
    let line : ℕ → List ℕ = λ b. class_line a b (count_of c.args.counts.now a b) in
    rw p.1 (TookPrefix-line line (classes_from a) (b - a) 0 (class-inside a b c.loop-b.auto.b c.loop-b-test.true) _ _ _ c.loop-b.invariant _
    (ap (class_line a b) c.count.ensures ∙ ap line (sym (class-at a b 0 c.loop-b.auto.b c.loop-b-test.true))) c.in_err-class_line.ensures)

pub loop-b-preserved : goal.loop-b-preserved
loop-b-preserved g c =
    let a = c.args.a in
    let b = c.loop-b.b in
    let line : ℕ → List ℕ = λ b. class_line a b (count_of c.args.counts.now a b) in
    let old = g.S.Sink.account c.args.sink.now in
    let new = g.S.Sink.account c.class_line.new.sink in
    subst (λ n. TookAll old new (flat_map line (take n (classes_from a)))) (grind (arith, c.loop-b.auto.b))
    (TookAll-line line (classes_from a) (b - a) 0 (class-inside a b c.loop-b.auto.b c.loop-b-test.true) _ _ _ c.loop-b.invariant _
    (ap (class_line a b) c.count.ensures ∙ ap line (sym (class-at a b 0 c.loop-b.auto.b c.loop-b-test.true))) c.in_ok-class_line.ensures)

pub returns : goal.returns
returns g c =
    let a = c.args.a in
    let line : ℕ → List ℕ = λ b. class_line a b (count_of c.args.counts.now a b) in
    let old = g.S.Sink.account c.args.sink.now in
    let new = g.S.Sink.account c.loop-b.sink in
    subst (λ bs. TookAll old new (flat_map line bs)) (classes-all a c.loop-b.b c.loop-b.auto.b (omega (arith, c.loop-b-test.false))) c.loop-b.invariant
