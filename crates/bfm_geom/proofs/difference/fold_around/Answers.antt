use Rattle.std.proofs.Common.{◌∙◌, sym, arith}
use Rattle.std.proofs.lemmas.Int.{ints}
use Rattle.bfm_geom.proofs.DifferenceLemmas.{wrapped_along-near}
use Rattle.bfm_geom.proofs.difference.fold_around.Goals as goal

pub returns-then-d-side : goal.returns-then-d-side
returns-then-d-side c = omega (arith, ints) ∙ sym (wrapped_along-near c.args.side c.args.d (omega (arith, c.requires.side)) (omega (arith, ints)) (omega (arith, ints)))
