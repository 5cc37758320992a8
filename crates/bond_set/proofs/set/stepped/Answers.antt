use Rattle.std.proofs.Common.{◌≡◌, ◌≤◌, arith, ℤ, ◌+ℤ◌, to_z, of_z, w64, ◌^◌, nat_abs}
use Rattle.std.proofs.lemmas.Int.{ints}
use Rattle.bfm_base.specs.Direction.{step_of}
use Rattle.bfm_base.specs.declared.place.Dir.{Dir}
use Rattle.bfm_base.specs.declared.place.Dir.TheVariants.{XUp, XDown, YUp, YDown, ZUp, ZDown}
use Rattle.bfm_base.specs.Place.{extent_of}
use Rattle.bond_set.proofs.set.stepped.Goals as goal

extent_of-step : (dir : Dir) → extent_of (step_of dir) ≤ 1
extent_of-step XUp = omega arith
extent_of-step XDown = omega arith
extent_of-step YUp = omega arith
extent_of-step YDown = omega arith
extent_of-step ZUp = omega arith
extent_of-step ZDown = omega arith

-- what the code's sum gives
sum : (a b : ℤ) → nat_abs a ≤ 2 ^ 62 → nat_abs b ≤ 1 → to_z w64 (of_z w64 (to_z w64 (of_z w64 a) +ℤ to_z w64 (of_z w64 b))) ≡ a +ℤ b
sum a b h k = omega (arith, ints)

pub returns : goal.returns
returns c =
    let v = c.args.v in
    let step = step_of c.args.dir in
    let small = extent_of-step c.args.dir in
    rw c.step-step.ensures (λ i. record {
      x = sum v.x step.x (omega (arith, c.requires)) (omega (arith, small)) i;
      y = sum v.y step.y (omega (arith, c.requires)) (omega (arith, small)) i;
      z = sum v.z step.z (omega (arith, c.requires)) (omega (arith, small)) i;
    })
