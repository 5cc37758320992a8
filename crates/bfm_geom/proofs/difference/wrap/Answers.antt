use Rattle.std.proofs.Common.{rules}
use Rattle.std.proofs.lemmas.Int.{ints}
use Rattle.bfm_geom.proofs.DifferenceLemmas.{IsWrapped-wrapped}
use Rattle.bfm_geom.proofs.difference.wrap.Goals as goal

pub returns-clause-nearest : goal.returns-clause-nearest
returns-clause-nearest c = IsWrapped-wrapped c.args.shape.now c.args.p _ c.requires.shape (search (rules, ints))
