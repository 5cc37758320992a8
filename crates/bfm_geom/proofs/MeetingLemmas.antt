-- A triangle and a segment moved so that a corner lies at the origin and the edge opposite to it along z.
use Rattle.std.proofs.Common.{◌≡◌, ◌+◌, Option, None, Some, IfSome, IfNone, refl, sym, ◌∙◌, ap, arith, ℤ, pos, ◌+ℤ◌, ◌-ℤ◌, ◌*ℤ◌, nat_abs}
use Rattle.std.proofs.lemmas.Option.{IfSome_then}
use Rattle.bfm_base.specs.declared.place.P3.{P3}
use Rattle.bfm_base.specs.declared.place.Dir.{Dir}
use Rattle.bfm_base.specs.declared.place.Dir.TheVariants.{XUp, XDown, YUp, YDown, ZUp, ZDown}
use Rattle.bfm_base.specs.Direction.{step_of}
use Rattle.bfm_geom.specs.declared.meeting.Weights.{Weights}
use Rattle.bfm_geom.specs.Difference.{minus}
use Rattle.bfm_geom.specs.Meeting.{Agree, IsCommonPoint, IsUnit, Meets}
use Rattle.bfm_geom.specs.Upright.{IsUprightApart, IsUprightPoint, cycled}
use Rattle.bfm_geom.proofs.IntegerLemmas.{products, sums}

-- a unit vector has one component that is not 0, and that one is 1 or -1
pub IsUnit-size : (v : P3) → IsUnit v → nat_abs v.x + nat_abs v.y + nat_abs v.z ≡ 1
IsUnit-size v (dir, e) = ap (λ p. nat_abs p.x + nat_abs p.y + nat_abs p.z) e ∙ size dir
  where
    size : (dir : Dir) → nat_abs (step_of dir).x + nat_abs (step_of dir).y + nat_abs (step_of dir).z ≡ 1
    size XUp = refl
    size XDown = refl
    size YUp = refl
    size YDown = refl
    size ZUp = refl
    size ZDown = refl

-- the places seen from a
Agree-from : (k : Weights) (a b b2 c d b' b2' c' d' : ℤ) → k.u +ℤ k.v +ℤ k.w ≡ k.p +ℤ k.q → b' ≡ b -ℤ a → b2' ≡ b2 -ℤ a → c' ≡ c -ℤ a → d' ≡ d -ℤ a → Agree k a b b2 c d → Agree k (pos 0) b' b2' c' d'
Agree-from k a b b2 c d b' b2' c' d' e eb eb2 ec ed h = rw (eb, eb2, ec, ed) (from k.u k.v k.w k.p k.q a b b2 c d e h)
  where
    from : (u v w p q a b b2 c d : ℤ) → u +ℤ v +ℤ w ≡ p +ℤ q → u *ℤ a +ℤ v *ℤ b +ℤ w *ℤ b2 ≡ p *ℤ c +ℤ q *ℤ d → u *ℤ pos 0 +ℤ v *ℤ (b -ℤ a) +ℤ w *ℤ (b2 -ℤ a) ≡ p *ℤ (c -ℤ a) +ℤ q *ℤ (d -ℤ a)
    from u v w p q a b b2 c d e h = simp products (omega (arith, sums, simp products at (ap (λ n. a *ℤ n) e)))

-- and the other way round
Agree-back : (k : Weights) (a b b2 c d b' b2' c' d' : ℤ) → k.u +ℤ k.v +ℤ k.w ≡ k.p +ℤ k.q → b' ≡ b -ℤ a → b2' ≡ b2 -ℤ a → c' ≡ c -ℤ a → d' ≡ d -ℤ a → Agree k (pos 0) b' b2' c' d' → Agree k a b b2 c d
Agree-back k a b b2 c d b' b2' c' d' e eb eb2 ec ed h =
    let h' : Agree k (pos 0) (b -ℤ a) (b2 -ℤ a) (c -ℤ a) (d -ℤ a) = rw (← eb, ← eb2, ← ec, ← ed) h in
    from k.u k.v k.w k.p k.q a b b2 c d e h'
  where
    from : (u v w p q a b b2 c d : ℤ) → u +ℤ v +ℤ w ≡ p +ℤ q → u *ℤ pos 0 +ℤ v *ℤ (b -ℤ a) +ℤ w *ℤ (b2 -ℤ a) ≡ p *ℤ (c -ℤ a) +ℤ q *ℤ (d -ℤ a) → u *ℤ a +ℤ v *ℤ b +ℤ w *ℤ b2 ≡ p *ℤ c +ℤ q *ℤ d
    from u v w p q a b b2 c d e h = omega (arith, sums, simp products at (ap (λ n. a *ℤ n) e), simp products at h)

-- the weights of a common point show one of the triangle seen from a, with its axes in another order, and the other way round
pub record IsSeen (a b b2 c d b' : P3) (rise : ℤ) (c' d' : P3) : Type 0 where
  pub there : (k : Weights) → IsCommonPoint a b b2 c d k → IsUprightPoint b' rise c' d' k
  pub back : (k : Weights) → IsUprightPoint b' rise c' d' k → IsCommonPoint a b b2 c d k

-- where b2 lies above or below b
IsSeen-z : (a b b2 c d : P3) → b2.x ≡ b.x → b2.y ≡ b.y → IsSeen a b b2 c d (minus b a) (minus b2 b).z (minus c a) (minus d a)
IsSeen-z a b b2 c d ex ey = record {
  there = λ k m. record {
    corners = m.corners;
    ends = m.ends;
    total = m.total;
    some = m.some;
    x = Agree-from k a.x b.x b2.x c.x d.x _ _ _ _ m.total refl (omega (arith, sums)) refl refl m.x;
    y = Agree-from k a.y b.y b2.y c.y d.y _ _ _ _ m.total refl (omega (arith, sums)) refl refl m.y;
    z = Agree-from k a.z b.z b2.z c.z d.z _ _ _ _ m.total refl (omega (arith, sums)) refl refl m.z;
  };
  back = λ k m. record {
    corners = m.corners;
    ends = m.ends;
    total = m.total;
    some = m.some;
    x = Agree-back k a.x b.x b2.x c.x d.x _ _ _ _ m.total refl (omega (arith, sums)) refl refl m.x;
    y = Agree-back k a.y b.y b2.y c.y d.y _ _ _ _ m.total refl (omega (arith, sums)) refl refl m.y;
    z = Agree-back k a.z b.z b2.z c.z d.z _ _ _ _ m.total refl (omega (arith, sums)) refl refl m.z;
  };
}

-- where it lies beside b along x
IsSeen-x : (a b b2 c d : P3) → b2.y ≡ b.y → b2.z ≡ b.z → IsSeen a b b2 c d (cycled (minus b a)) (minus b2 b).x (cycled (minus c a)) (cycled (minus d a))
IsSeen-x a b b2 c d ey ez = record {
  there = λ k m. record {
    corners = m.corners;
    ends = m.ends;
    total = m.total;
    some = m.some;
    x = Agree-from k a.y b.y b2.y c.y d.y _ _ _ _ m.total refl (omega (arith, sums)) refl refl m.y;
    y = Agree-from k a.z b.z b2.z c.z d.z _ _ _ _ m.total refl (omega (arith, sums)) refl refl m.z;
    z = Agree-from k a.x b.x b2.x c.x d.x _ _ _ _ m.total refl (omega (arith, sums)) refl refl m.x;
  };
  back = λ k m. record {
    corners = m.corners;
    ends = m.ends;
    total = m.total;
    some = m.some;
    x = Agree-back k a.x b.x b2.x c.x d.x _ _ _ _ m.total refl (omega (arith, sums)) refl refl m.z;
    y = Agree-back k a.y b.y b2.y c.y d.y _ _ _ _ m.total refl (omega (arith, sums)) refl refl m.x;
    z = Agree-back k a.z b.z b2.z c.z d.z _ _ _ _ m.total refl (omega (arith, sums)) refl refl m.y;
  };
}

-- where it lies beside b along y
IsSeen-y : (a b b2 c d : P3) → b2.x ≡ b.x → b2.z ≡ b.z → IsSeen a b b2 c d (cycled (cycled (minus b a))) (minus b2 b).y (cycled (cycled (minus c a))) (cycled (cycled (minus d a)))
IsSeen-y a b b2 c d ex ez = record {
  there = λ k m. record {
    corners = m.corners;
    ends = m.ends;
    total = m.total;
    some = m.some;
    x = Agree-from k a.z b.z b2.z c.z d.z _ _ _ _ m.total refl (omega (arith, sums)) refl refl m.z;
    y = Agree-from k a.x b.x b2.x c.x d.x _ _ _ _ m.total refl (omega (arith, sums)) refl refl m.x;
    z = Agree-from k a.y b.y b2.y c.y d.y _ _ _ _ m.total refl (omega (arith, sums)) refl refl m.y;
  };
  back = λ k m. record {
    corners = m.corners;
    ends = m.ends;
    total = m.total;
    some = m.some;
    x = Agree-back k a.x b.x b2.x c.x d.x _ _ _ _ m.total refl (omega (arith, sums)) refl refl m.y;
    y = Agree-back k a.y b.y b2.y c.y d.y _ _ _ _ m.total refl (omega (arith, sums)) refl refl m.z;
    z = Agree-back k a.z b.z b2.z c.z d.z _ _ _ _ m.total refl (omega (arith, sums)) refl refl m.x;
  };
}

-- the same, of the places that the code has: the triangle is seen along its unit step
pub IsSeen-along_z : (a b b2 c d step b' c' d' : P3) → IsUnit (minus b2 b) → step ≡ minus b2 b → b' ≡ minus b a → c' ≡ minus c a → d' ≡ minus d a → ¬ (step.z ≡ pos 0) → IsSeen a b b2 c d b' step.z c' d'
IsSeen-along_z a b b2 c d step b' c' d' unit es eb ec ed n =
    let size : nat_abs (b2.x -ℤ b.x) + nat_abs (b2.y -ℤ b.y) + nat_abs (b2.z -ℤ b.z) ≡ 1 = IsUnit-size (minus b2 b) unit in
    let moves : ¬ (b2.z -ℤ b.z ≡ pos 0) = λ e. n (ap (λ p. p.z) es ∙ e) in
    rw (eb, es, ec, ed) (IsSeen-z a b b2 c d (omega (arith, sums)) (omega (arith, sums)))

-- along x
pub IsSeen-along_x : (a b b2 c d step b' c' d' : P3) → IsUnit (minus b2 b) → step ≡ minus b2 b → b' ≡ cycled (minus b a) → c' ≡ cycled (minus c a) → d' ≡ cycled (minus d a) → ¬ (step.x ≡ pos 0) → IsSeen a b b2 c d b' step.x c' d'
IsSeen-along_x a b b2 c d step b' c' d' unit es eb ec ed n =
    let size : nat_abs (b2.x -ℤ b.x) + nat_abs (b2.y -ℤ b.y) + nat_abs (b2.z -ℤ b.z) ≡ 1 = IsUnit-size (minus b2 b) unit in
    let moves : ¬ (b2.x -ℤ b.x ≡ pos 0) = λ e. n (ap (λ p. p.x) es ∙ e) in
    rw (eb, es, ec, ed) (IsSeen-x a b b2 c d (omega (arith, sums)) (omega (arith, sums)))

-- along y
pub IsSeen-along_y : (a b b2 c d step b' c' d' : P3) → IsUnit (minus b2 b) → step ≡ minus b2 b → b' ≡ cycled (cycled (minus b a)) → c' ≡ cycled (cycled (minus c a)) → d' ≡ cycled (cycled (minus d a)) → step.x ≡ pos 0 → step.z ≡ pos 0
    → IsSeen a b b2 c d b' step.y c' d'
IsSeen-along_y a b b2 c d step b' c' d' unit es eb ec ed nx nz =
    let still_x : b2.x -ℤ b.x ≡ pos 0 = sym (ap (λ p. p.x) es) ∙ nx in
    let still_z : b2.z -ℤ b.z ≡ pos 0 = sym (ap (λ p. p.z) es) ∙ nz in
    rw (eb, es, ec, ed) (IsSeen-y a b b2 c d (omega (arith, sums)) (omega (arith, sums)))

-- how far the step goes along that axis
pub step-size : (b b2 step : P3) → IsUnit (minus b2 b) → step ≡ minus b2 b → nat_abs step.x + nat_abs step.y + nat_abs step.z ≡ 1
step-size b b2 step unit e = ap (λ p. nat_abs p.x + nat_abs p.y + nat_abs p.z) e ∙ IsUnit-size (minus b2 b) unit

-- what is found of the triangle as it is seen, and that nothing is, holds of the triangle itself
pub seen_found : (a b b2 c d b' c' d' : P3) (rise : ℤ) (o : Option Weights) → IsSeen a b b2 c d b' rise c' d' → IfSome o (IsUprightPoint b' rise c' d') → IfSome o (IsCommonPoint a b b2 c d)
seen_found a b b2 c d b' c' d' rise o s h = IfSome_then o h (λ k m. s.back k m)

pub seen_apart : (a b b2 c d b' c' d' : P3) (rise : ℤ) (o : Option Weights) → IsSeen a b b2 c d b' rise c' d' → IfNone o (IsUprightApart b' rise c' d') → IfNone o (¬ (Meets a b b2 c d))
seen_apart a b b2 c d b' c' d' rise None s h = λ (k, m). h (k, s.there k m)
seen_apart a b b2 c d b' c' d' rise (Some x) s h = tt
