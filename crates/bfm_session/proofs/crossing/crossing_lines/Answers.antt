use Rattle.std.proofs.Common.{[], ◌∷◌, sym, subst}
use Rattle.std.proofs.lemmas.Result.{err_from_is_err_and}
use Rattle.bfm_base.specs.Account.{Sends, TookAll, TookPrefix}
use Rattle.bfm_base.specs.declared.place.P3.{P3}
use Rattle.bfm_base.proofs.SendLemmas.{Sends-later, TookPrefix-append}
use Rattle.bfm_session.specs.CrossingText.{crossing_text, places_line, weights_line}
use Rattle.bfm_session.proofs.crossing.crossing_lines.Goals as goal

pub returns-in_err-places_line-in-Crossing : goal.returns-in_err-places_line-in-Crossing
returns-in_err-places_line-in-Crossing g c =
    let p = err_from_is_err_and c.from_residual.result c.from_residual.ensures.1 in
    let m = c.in-Crossing in
    let old = g.S.Sink.account c.args.sink.now in
    let new = g.S.Sink.account c.places_line.new.sink in
    let first = subst (λ (d : P3). TookPrefix old new (places_line (m.b ∷ d ∷ m.c ∷ m.e ∷ []))) c.step.ensures c.in_err-places_line-in-Crossing.ensures in
    rw p.1 (subst (λ v. TookPrefix old new (crossing_text v)) (sym m.is) (TookPrefix-append _ _ _ (weights_line m.weights) first))

pub returns-in_ok-places_line-in-Crossing : goal.returns-in_ok-places_line-in-Crossing
returns-in_ok-places_line-in-Crossing g c =
    let m = c.in-Crossing in
    let old = g.S.Sink.account c.args.sink.now in
    let mid = g.S.Sink.account c.places_line.new.sink in
    let new = g.S.Sink.account c.weights_line.new.sink in
    let first = subst (λ (d : P3). TookAll old mid (places_line (m.b ∷ d ∷ m.c ∷ m.e ∷ []))) c.step.ensures c.in_ok-places_line-in-Crossing.ensures in
    subst (λ v. Sends c.weights_line.result old new (crossing_text v)) (sym m.is)
    (Sends-later c.weights_line.result _ _ _ _ _ first c.weights_line.ensures)
