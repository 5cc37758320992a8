use Rattle.std.proofs.Common.{◌∙◌, sym, subst, arith}
use Rattle.bfm_commands.specs.Reading.{Standing, StandsFor}
use Rattle.bfm_commands.proofs.HeldLemmas.{stage_held-places, held-fits}
use Rattle.bfm_commands.proofs.reader.Reader.held.Goals as goal

pub returns-clause-held : goal.returns-clause-held
returns-clause-held c bytes st =
    let s = subst (λ (r : Standing). StandsFor r bytes) (sym c.self.view_is) st in
    let p = c.self.inside.progress in
    let places = c.held.ensures.held ∙ stage_held-places p.summary bytes s.follows.sums in
    let fits = held-fits p.summary bytes s.follows.sums c.held.result c.held.ensures.held c.held.ensures.few (omega (arith, s.fed, (c.self.invariant.0 s.goes_on).1)) in
    omega (arith, c.saturating_add.ensures, c.begun-line.ensures.begun bytes s.follows.cut, places, fits, c.begun-line.ensures.limit)
