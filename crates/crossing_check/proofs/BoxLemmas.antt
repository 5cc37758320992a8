-- A triangle and a bond that meet have a number in common along each axis.
use Rattle.std.proofs.Common.{◌≡◌, ℤ, pos, ◌+ℤ◌, ◌-ℤ◌, ◌*ℤ◌, ◌<ℤ◌, ◌≤ℤ◌, arith, ap}
use Rattle.std.proofs.lemmas.Int.{ints}
use Rattle.bfm_base.specs.declared.place.P3.{P3}
use Rattle.bond_set.specs.Crossing.{SweepsThrough}
use Rattle.bfm_geom.proofs.IntegerLemmas.{products, sums, *ℤ_nonnegative, *ℤ_positive}
use Rattle.crossing_check.specs.Passage.{MeetAlong}

-- a mean of 0, b and b2, none of them below `low`, is a mean of c and c + e, with e not above `high`: then c is not below `low - high`
mean-low : (u v w p q b b2 c e low high : ℤ) → pos 0 ≤ℤ u → pos 0 ≤ℤ v → pos 0 ≤ℤ w → pos 0 ≤ℤ p → pos 0 ≤ℤ q → u +ℤ v +ℤ w ≡ p +ℤ q → pos 0 <ℤ (p +ℤ q)
    → u *ℤ pos 0 +ℤ v *ℤ b +ℤ w *ℤ b2 ≡ p *ℤ c +ℤ q *ℤ (c +ℤ e)
    → low ≤ℤ pos 0 → low ≤ℤ b → low ≤ℤ b2 → pos 0 ≤ℤ high → e ≤ℤ high → ¬ (c <ℤ (low -ℤ high))
mean-low u v w p q b b2 c e low high hu hv hw hp hq total some agree l lb lb2 h he below =
    let a = *ℤ_nonnegative u (pos 0 -ℤ low) hu (omega (arith, ints)) in
    let b' = *ℤ_nonnegative v (b -ℤ low) hv (omega (arith, ints)) in
    let c' = *ℤ_nonnegative w (b2 -ℤ low) hw (omega (arith, ints)) in
    let d' = *ℤ_nonnegative q (high -ℤ e) hq (omega (arith, ints)) in
    let e' = *ℤ_nonnegative p high hp h in
    let f = *ℤ_positive (p +ℤ q) (low -ℤ high -ℤ c) some (omega (arith, ints)) in
    omega (arith, sums, simp products at a, simp products at b', simp products at c', simp products at d', e', simp products at f, simp products at agree, simp products at (ap (λ n. low *ℤ n) total))

-- and the other way round
mean-high : (u v w p q b b2 c e low high : ℤ) → pos 0 ≤ℤ u → pos 0 ≤ℤ v → pos 0 ≤ℤ w → pos 0 ≤ℤ p → pos 0 ≤ℤ q → u +ℤ v +ℤ w ≡ p +ℤ q → pos 0 <ℤ (p +ℤ q)
    → u *ℤ pos 0 +ℤ v *ℤ b +ℤ w *ℤ b2 ≡ p *ℤ c +ℤ q *ℤ (c +ℤ e)
    → pos 0 ≤ℤ high → b ≤ℤ high → b2 ≤ℤ high → low ≤ℤ pos 0 → low ≤ℤ e → ¬ ((high -ℤ low) <ℤ c)
mean-high u v w p q b b2 c e low high hu hv hw hp hq total some agree h hb hb2 l le above =
    let a = *ℤ_nonnegative u (high -ℤ pos 0) hu (omega (arith, ints)) in
    let b' = *ℤ_nonnegative v (high -ℤ b) hv (omega (arith, ints)) in
    let c' = *ℤ_nonnegative w (high -ℤ b2) hw (omega (arith, ints)) in
    let d' = *ℤ_nonnegative q (e -ℤ low) hq (omega (arith, ints)) in
    let e' = *ℤ_nonnegative p (pos 0 -ℤ low) hp (omega (arith, ints)) in
    let f = *ℤ_positive (p +ℤ q) (c -ℤ (high -ℤ low)) some (omega (arith, ints)) in
    omega (arith, sums, simp products at a, simp products at b', simp products at c', simp products at d', simp products at e', simp products at f, simp products at agree, simp products at (ap (λ n. high *ℤ n) total))

-- one of two numbers is not above the other
at_least : (a b : ℤ) → ¬ (a <ℤ b) → b ≤ℤ a
at_least a b h = grind (arith, ints)

-- where a bond's first number can lie along an axis
pub MeetAlong-low : (b b2 e c low high : ℤ) → MeetAlong b b2 e c → low ≤ℤ pos 0 → low ≤ℤ b → low ≤ℤ b2 → pos 0 ≤ℤ high → e ≤ℤ high → (low -ℤ high) ≤ℤ c
MeetAlong-low b b2 e c low high m l lb lb2 h he =
    let k = m.weights in
    let not_below = mean-low k.u k.v k.w k.p k.q b b2 c e low high m.corners.0 m.corners.1 m.corners.2 m.ends.0 m.ends.1 m.total m.some m.agree l lb lb2 h he in
    at_least _ _ not_below

pub MeetAlong-high : (b b2 e c low high : ℤ) → MeetAlong b b2 e c → pos 0 ≤ℤ high → b ≤ℤ high → b2 ≤ℤ high → low ≤ℤ pos 0 → low ≤ℤ e → c ≤ℤ (high -ℤ low)
MeetAlong-high b b2 e c low high m h hb hb2 l le =
    let k = m.weights in
    let not_above = mean-high k.u k.v k.w k.p k.q b b2 c e low high m.corners.0 m.corners.1 m.corners.2 m.ends.0 m.ends.1 m.total m.some m.agree h hb hb2 l le in
    at_least _ _ not_above

-- a bond that is swept through meets the triangle along each axis
pub MeetAlong-x : (b b2 c e : P3) → SweepsThrough b b2 c e → MeetAlong b.x b2.x e.x c.x
MeetAlong-x b b2 c e s = let m = s.meets.1 in record { weights = s.meets.0; corners = m.corners; ends = m.ends; total = m.total; some = m.some; agree = m.x }

pub MeetAlong-y : (b b2 c e : P3) → SweepsThrough b b2 c e → MeetAlong b.y b2.y e.y c.y
MeetAlong-y b b2 c e s = let m = s.meets.1 in record { weights = s.meets.0; corners = m.corners; ends = m.ends; total = m.total; some = m.some; agree = m.y }

pub MeetAlong-z : (b b2 c e : P3) → SweepsThrough b b2 c e → MeetAlong b.z b2.z e.z c.z
MeetAlong-z b b2 c e s = let m = s.meets.1 in record { weights = s.meets.0; corners = m.corners; ends = m.ends; total = m.total; some = m.some; agree = m.z }
