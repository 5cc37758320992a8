use Rattle.std.proofs.Common.{arith}
use Rattle.bfm_geom.proofs.IntegerLemmas.{sums}
use Rattle.bfm_geom.proofs.StretchLemmas.{Narrows-from, Narrows-same, Narrows-to, IsRuledOut-both}
use Rattle.bfm_geom.proofs.stretch.Stretch.clipped.Goals as goal

pub returns-then-at_to-lt0-clause-ruled_out : goal.returns-then-at_to-lt0-clause-ruled_out
returns-then-at_to-lt0-clause-ruled_out c = IsRuledOut-both c.args.self c.args.bound c.requires.stretch (omega (arith, sums)) (omega (arith, sums))

pub returns-then-at_from-lt0-clause-found : goal.returns-then-at_from-lt0-clause-found
returns-then-at_from-lt0-clause-found c =
    Narrows-from c.args.self c.args.bound _ c.requires.stretch c.requires.bound (omega (arith, sums)) (omega (arith, sums)) (omega (arith, sums)) (omega (arith, sums))

pub returns-then-at_to-lt0-2-clause-found : goal.returns-then-at_to-lt0-2-clause-found
returns-then-at_to-lt0-2-clause-found c =
    Narrows-to c.args.self c.args.bound _ c.requires.stretch c.requires.bound (omega (arith, sums)) (omega (arith, sums)) (omega (arith, sums)) (omega (arith, sums))

pub returns-clause-found : goal.returns-clause-found
returns-clause-found c = Narrows-same c.args.self c.args.bound c.requires.stretch (omega (arith, sums)) (omega (arith, sums))
