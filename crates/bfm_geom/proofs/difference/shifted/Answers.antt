use Rattle.bfm_geom.proofs.DifferenceLemmas.{extent_of-plus}
use Rattle.bfm_geom.proofs.difference.shifted.Goals as goal

pub returns-clause-near : goal.returns-clause-near
returns-clause-near c = extent_of-plus c.sum.result c.args.p c.args.vector c.sum.ensures
