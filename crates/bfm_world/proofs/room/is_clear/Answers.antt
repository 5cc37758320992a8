use Rattle.std.proofs.Common.{arith, pos}
use Rattle.bfm_world.proofs.ReachLemmas.{extent_at, IsWithin-from_extent}
use Rattle.bfm_world.proofs.room.is_clear.Goals as goal

pub overlap-requires-clause-first : goal.overlap-requires-clause-first
overlap-requires-clause-first c =
    let near = extent_at c.args.others.now c.loop-other.other-index (record { x = pos 0; y = pos 0; z = pos 0 }) c.loop-other-test.true in
    IsWithin-from_extent _ _ (omega (arith, near))
