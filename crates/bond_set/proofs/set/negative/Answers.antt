use Rattle.std.proofs.Common.{◌≡◌, ◌≤◌, neg_ℤ, unsigned_abs, arith, ℤ, ◌-ℤ◌, pos, to_z, of_z, w64}
use Rattle.std.proofs.lemmas.Int.{ints}
use Rattle.bond_set.proofs.set.negative.Goals as goal

-- what the code's minus gives
minus : (z : ℤ) → unsigned_abs z ≤ 3 → to_z w64 (of_z w64 (pos 0 -ℤ to_z w64 (of_z w64 z))) ≡ neg_ℤ z
minus z h = omega (arith, ints)

pub returns : goal.returns
returns c =
    let v = c.args.v in
    let x : unsigned_abs v.x ≤ 3 = omega (arith, c.requires) in
    let y : unsigned_abs v.y ≤ 3 = omega (arith, c.requires) in
    let z : unsigned_abs v.z ≤ 3 = omega (arith, c.requires) in
    λ i. record { x = minus v.x x i; y = minus v.y y i; z = minus v.z z i }
