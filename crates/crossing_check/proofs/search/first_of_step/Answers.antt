use Rattle.std.proofs.Common.{◌∙◌, ap, refl, arith}
use Rattle.bfm_geom.specs.Difference.{plus}
use Rattle.crossing_check.proofs.MoveLemmas.{IsEncounter-step, step-first, step-next, step-none}
use Rattle.crossing_check.proofs.PlaceLemmas.{extent_of-member}
use Rattle.crossing_check.proofs.search.first_of_step.Goals as goal

pub first_passage-requires : goal.first_passage-requires
first_passage-requires c =
    let e = c.shifted-after.ensures.value ∙ ap (plus c.args.b) c.step.ensures in
    let moved = c.if-not-may_step.ensures.0 refl in
    let reach = extent_of-member c.args.set.now _ c.len-k-end.ensures.set moved in
    rw e (IsEncounter-step c.args.b c.args.dir c.vector.result c.requires.reach reach c.vector.ensures.reach)

pub returns-in-Some-clause-first : goal.returns-in-Some-clause-first
returns-in-Some-clause-first c =
    let e = c.shifted-after.ensures.value ∙ ap (plus c.args.b) c.step.ensures in
    step-first c.args.set.now c.args.b c.vector.result c.args.dir c.loop-k.k c.in-Some.passage c.len-k-end.ensures.set c.vector.ensures.value
    c.requires.bond (c.if-not-may_step.ensures.0 refl) (rw e at c.loop-k.invariant) (rw e at c.in-Some.ensures.first)

pub loop-k-preserved : goal.loop-k-preserved
loop-k-preserved c =
    step-next c.args.set.now c.args.b c.shifted-after.result c.vector.result c.loop-k.k c.len-k-end.ensures.set c.vector.ensures.value
    c.loop-k.invariant c.in_default.ensures.none

pub returns-clause-none : goal.returns-clause-none
returns-clause-none c =
    let e = c.shifted-after.ensures.value ∙ ap (plus c.args.b) c.step.ensures in
    step-none c.args.set.now c.args.b c.args.dir c.loop-k.k (omega arith) (rw e at c.loop-k.invariant)
