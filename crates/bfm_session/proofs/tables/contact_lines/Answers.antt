use Rattle.std.proofs.Common.{[], ◌∷◌, codes, List, ℕ, ap, subst, arith}
use Rattle.std.specs.List.{flat_map}
use Rattle.std.proofs.lemmas.Result.{err_from_is_err_and}
use Rattle.bfm_base.specs.Account.{Sends, TookAll}
use Rattle.cluster_stats.specs.Contacts.{count_of}
use Rattle.bfm_base.proofs.SendLemmas.{Sends-later, TookPrefix-append}
use Rattle.bfm_session.specs.NumberLines.{number_line}
use Rattle.bfm_session.specs.Tables.{class_line, classes_from}
use Rattle.bfm_session.proofs.TableLemmas.{TookAll-line, TookPrefix-line, first-inside, first-at, first-all}
use Rattle.bfm_session.proofs.tables.contact_lines.Goals as goal

pub returns-in_err-class_lines : goal.returns-in_err-class_lines
returns-in_err-class_lines g c =
    let p = err_from_is_err_and c.from_residual.result c.from_residual.ensures.1 in
    let a = c.loop-a.a in
    let lines : ℕ → List ℕ = λ a. flat_map (λ b. class_line a b (count_of c.args.counts.now a b)) (classes_from a) in
    let part = TookPrefix-line lines (classes_from 0) a 0 (first-inside a c.loop-a-test.true) _ _ _ c.loop-a.invariant _
    (ap lines (first-at a 0 c.loop-a-test.true)) c.in_err-class_lines.ensures in
    rw p.1 (TookPrefix-append _ _ _ (number_line (codes "total") (c.args.counts.now.total ∷ [])) part)

pub loop-a-preserved : goal.loop-a-preserved
loop-a-preserved g c =
    let a = c.loop-a.a in
    let lines : ℕ → List ℕ = λ a. flat_map (λ b. class_line a b (count_of c.args.counts.now a b)) (classes_from a) in
    TookAll-line lines (classes_from 0) a 0 (first-inside a c.loop-a-test.true) _ _ _ c.loop-a.invariant _
    (ap lines (first-at a 0 c.loop-a-test.true)) c.in_ok-class_lines.ensures

pub returns : goal.returns
returns g c =
    let lines : ℕ → List ℕ = λ a. flat_map (λ b. class_line a b (count_of c.args.counts.now a b)) (classes_from a) in
    let old = g.S.Sink.account c.args.sink.now in
    let mid = g.S.Sink.account c.loop-a.sink in
    let all = subst (λ classes. TookAll old mid (flat_map lines classes)) (first-all c.loop-a.a (omega (arith, c.loop-a-test.false))) c.loop-a.invariant in
    let new = g.S.Sink.account c.number_line.new.sink in
    let last = subst (λ n. Sends c.number_line.result mid new (number_line (codes "total") (n ∷ []))) c.total.ensures c.number_line.ensures in
    Sends-later c.number_line.result old mid new (flat_map lines (classes_from 0)) (number_line (codes "total") (c.args.counts.now.total ∷ [])) all last
