use Rattle.std.proofs.Common.{◌-ℤ◌, arith, pos}
use Rattle.std.proofs.lemmas.Int.{ints}
use Rattle.packed_engine.proofs.StepLemmas.{wrapped_along-low, wrapped_along-plain}
use Rattle.packed_engine.proofs.steps.wrapped_along.Goals as goal

pub returns-then-plain-side-2 : goal.returns-then-plain-side-2
returns-then-plain-side-2 c =
    wrapped_along-low c.args.periodic c.args.side (pos c.args.to -ℤ pos c.args.from) _ c.if-not-periodic.false (omega arith) (omega (arith, ints, c.requires.from, c.requires.to)) (omega (arith, ints)) (omega (arith, ints))

pub returns-else-plain-side-2 : goal.returns-else-plain-side-2
returns-else-plain-side-2 c =
    wrapped_along-plain c.args.periodic c.args.side (pos c.args.to -ℤ pos c.args.from) _ c.if-not-periodic.false (omega arith) (omega (arith, ints)) (omega (arith, ints)) (omega (arith, ints))
