use Rattle.std.proofs.Common.{◌≡◌, true, take}
use Rattle.bfm_world.specs.Configuration.{is_clear}
use Rattle.bfm_world.proofs.room.is_clear.Given as goal

abbrev pub invariant-loop-other : goal.invariant-loop-other
invariant-loop-other l = is_clear l.shape (take l.other-index l.others) l.p ≡ true
