use Rattle.std.proofs.Common.{take}
use Rattle.bfm_geom.specs.Stretch.{Narrows}
use Rattle.bfm_geom.proofs.stretch.Stretch.narrowed.Given as goal

abbrev pub invariant-loop-bound : goal.invariant-loop-bound
invariant-loop-bound l = Narrows l.initial.rest (take l.bound-index l.bounds) l.rest
