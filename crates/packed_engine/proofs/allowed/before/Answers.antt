use Rattle.std.proofs.Common.{◌≡◌, ◌≤◌, ℤ, ◌-ℤ◌, arith, nat_abs, of_z, to_z, w64}
use Rattle.std.proofs.lemmas.Int.{ints}
use Rattle.bfm_base.specs.Direction.{step_of}
use Rattle.packed_engine.proofs.StepLemmas.{step_short}
use Rattle.packed_engine.proofs.allowed.before.Goals as goal

-- what the code's difference gives
less : (a b : ℤ) → nat_abs a ≤ 4 → nat_abs b ≤ 1 → to_z w64 (of_z w64 (to_z w64 (of_z w64 a) -ℤ to_z w64 (of_z w64 b))) ≡ a -ℤ b
less a b h k = omega (arith, ints)

pub returns : goal.returns
returns c =
    let v = c.args.v in
    let step = step_of c.args.dir in
    let near = step_short c.args.dir in
    rw c.step-step.ensures (λ i. record {
      x = less v.x step.x (omega (arith, c.requires)) (omega (arith, near)) i;
      y = less v.y step.y (omega (arith, c.requires)) (omega (arith, near)) i;
      z = less v.z step.z (omega (arith, c.requires)) (omega (arith, near)) i;
    })
