use Rattle.std.proofs.Common.{refl, arith, pos}
use Rattle.bfm_world.proofs.ReachLemmas.{extent_at, IsWithin-from_extent}
use Rattle.bfm_world.proofs.OverlapLemmas.{ApartSoFar-none, ApartSoFar-more, ApartSoFar-refused, ApartSoFar-all, inside-next}
use Rattle.bfm_world.proofs.overlaps.are_apart.Goals as goal

pub loop-p-init : goal.loop-p-init
loop-p-init c =
    ApartSoFar-none c.args.shape c.args.positions.now c.in_ok-lattice.lattice c.in_ok-lattice.ensures.shape c.in_ok-lattice.ensures.free

pub cube_free-requires-clause-reach : goal.cube_free-requires-clause-reach
cube_free-requires-clause-reach c =
    let near = extent_at c.args.positions.now c.loop-p.p-index (record { x = pos 0; y = pos 0; z = pos 0 }) c.loop-p-test.true in
    IsWithin-from_extent _ _ (omega (arith, near, c.requires.reach))

pub cube_free-requires-clause-inside : goal.cube_free-requires-clause-inside
cube_free-requires-clause-inside c =
    inside-next c.args.shape c.args.positions.now c.requires.box_limits c.requires.inside c.loop-p.p-index c.loop-p.lattice c.loop-p.invariant c.loop-p-test.true

pub returns-then-not-cube_free : goal.returns-then-not-cube_free
returns-then-not-cube_free c = (
  λ t. absurd (cc),
  λ apart. absurd (
      ApartSoFar-refused c.args.shape c.args.positions.now c.requires.box_limits c.requires.inside c.loop-p.p-index c.loop-p.lattice c.loop-p.invariant c.loop-p-test.true
      (λ free. let t = c.cube_free.ensures.1 free in let f = c.if-not-cube_free.true in cc)
      apart
      ),
)

pub place-requires-clause-reach : goal.place-requires-clause-reach
place-requires-clause-reach c =
    let near = extent_at c.args.positions.now c.loop-p.p-index (record { x = pos 0; y = pos 0; z = pos 0 }) c.loop-p-test.true in
    IsWithin-from_extent _ _ (omega (arith, near, c.requires.reach))

pub place-requires-clause-inside : goal.place-requires-clause-inside
place-requires-clause-inside c =
    inside-next c.args.shape c.args.positions.now c.requires.box_limits c.requires.inside c.loop-p.p-index c.loop-p.lattice c.loop-p.invariant c.loop-p-test.true

pub loop-p-preserved : goal.loop-p-preserved
loop-p-preserved c =
    ApartSoFar-more c.args.shape c.args.positions.now c.requires.box_limits c.requires.inside c.loop-p.p-index c.loop-p.lattice c.loop-p.invariant c.loop-p-test.true c.place.new.self
    (c.cube_free.ensures.0 c.if-not-cube_free.false) c.place.ensures

pub returns : goal.returns
returns c =
    let apart = ApartSoFar-all c.args.shape c.args.positions.now c.loop-p.p-index c.loop-p.lattice c.loop-p.invariant (omega arith) in
    (λ t. apart, λ a. refl)
