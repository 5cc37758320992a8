use Rattle.std.proofs.Common.{◌<◌, length, Option, Some, None, IfNone, arith, subst, sym}
use Rattle.std.proofs.lemmas.List.{take_more}
use Rattle.bfm_geom.specs.Stretch.{Narrows, IsRuledOut}
use Rattle.bfm_geom.proofs.StretchLemmas.{Narrows-append, IsRuledOut-append, IsRuledOut-take}
use Rattle.bfm_geom.proofs.stretch.Stretch.narrowed.Goals as goal

IfNone-from : {X : Type 0} (o : Option X) (P : Type 0) → P → IfNone o P
IfNone-from None P h = h
IfNone-from (Some x) P h = tt

pub returns-in_err-rest-clause-ruled_out : goal.returns-in_err-rest-clause-ruled_out
returns-in_err-rest-clause-ruled_out c =
    let within : c.loop-bound.bound-index < length c.args.bounds.now = omega arith in
    IfNone-from _ _ (IsRuledOut-take c.args.self _ c.args.bounds.now (subst (IsRuledOut c.args.self) (sym (take_more c.args.bounds.now c.loop-bound.bound-index _ within))
    (IsRuledOut-append _ _ _ _ c.loop-bound.invariant c.in_err-rest.ensures.ruled_out)))

pub loop-bound-preserved : goal.loop-bound-preserved
loop-bound-preserved c =
    let within : c.loop-bound.bound-index < length c.args.bounds.now = omega arith in
    subst (λ l. Narrows c.args.self l c.in_ok-rest.rest) (sym (take_more c.args.bounds.now c.loop-bound.bound-index _ within))
    (Narrows-append _ _ _ _ _ c.loop-bound.invariant c.in_ok-rest.ensures.found)
