use Rattle.std.proofs.Common.{◌∙◌, ap, subst, sym, arith, List}
use Rattle.std.specs.Prelude.{IfSome, slice_get}
use Rattle.bfm_base.specs.declared.limits.TheConstants.{PLACE_REACH}
use Rattle.bfm_base.specs.declared.place.P3.{P3}
use Rattle.bfm_geom.specs.Difference.{IsWithin}
use Rattle.bfm_world.proofs.ReachLemmas.{within_reach}
use Rattle.bfm_world.proofs.builder.WorldBuilder.may_join.Goals as goal

pub may_reach-requires-clause-from : goal.may_reach-requires-clause-from
may_reach-requires-clause-from c =
    subst (λ o. IfSome o (IsWithin PLACE_REACH)) (sym (c.position_in.ensures ∙ ap (λ (l : List P3). slice_get l c.args.i) c.deref.ensures.value) ∙ c.in-Some.is)
    (within_reach c.self.inside.parts.positions.items c.args.i PLACE_REACH (omega (arith, c.self.invariant.1)))

pub may_reach-requires-clause-to : goal.may_reach-requires-clause-to
may_reach-requires-clause-to c =
    subst (λ o. IfSome o (IsWithin PLACE_REACH)) (sym (c.position_in-in-Some.ensures ∙ ap (λ (l : List P3). slice_get l c.args.j) c.deref-in-Some.ensures.value))
    (within_reach c.self.inside.parts.positions.items c.args.j PLACE_REACH (omega (arith, c.self.invariant.1)))
