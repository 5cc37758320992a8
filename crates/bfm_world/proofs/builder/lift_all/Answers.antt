use Rattle.std.proofs.Common.{◌∙◌, arith, pos, refl}
use Rattle.bfm_world.proofs.ReachLemmas.{extent_at, IsWithin-from_extent}
use Rattle.bfm_world.proofs.SiteLemmas.{AreTaken-next, Covers-next}
use Rattle.bfm_world.proofs.builder.lift_all.Goals as goal

pub lift-requires-clause-reach : goal.lift-requires-clause-reach
lift-requires-clause-reach c =
    let near = extent_at c.args.positions.now c.loop-p.p-index (record { x = pos 0; y = pos 0; z = pos 0 }) c.loop-p-test.true in
    IsWithin-from_extent _ _ (omega (arith, near))

pub lift-requires-clause-taken : goal.lift-requires-clause-taken
lift-requires-clause-taken c =
    AreTaken-next c.args.lattice.now.shape c.args.positions.now c.requires.box_limits c.requires.inside c.requires.apart c.loop-p.p-index _ (record { x = pos 0; y = pos 0; z = pos 0 }) c.loop-p.lattice c.loop-p-test.true refl c.loop-p.invariant.taken

pub loop-p-preserved : goal.loop-p-preserved
loop-p-preserved c = record {
  shape = c.lift.ensures.shape ∙ c.loop-p.invariant.shape;
  taken = Covers-next c.args.lattice.now.shape c.args.positions.now c.requires.box_limits c.requires.inside c.requires.apart c.loop-p.p-index _ (record { x = pos 0; y = pos 0; z = pos 0 }) c.loop-p.lattice c.lift.new.self c.loop-p.invariant.shape c.loop-p-test.true refl c.loop-p.invariant.taken c.lift.ensures;
}
