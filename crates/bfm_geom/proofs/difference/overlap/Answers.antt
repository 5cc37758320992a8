use Rattle.std.proofs.Common.{◌≡◌, ℕ, Bool, true, false, ◌&&◌, ap, sym, ◌∙◌, arith, ℤ, ◌-ℤ◌, nat_abs, nat_le}
use Rattle.std.proofs.lemmas.Int.{ints}
use Rattle.bfm_geom.specs.Difference.{is_periodic, side_of, wrapped_along}
use Rattle.bfm_geom.proofs.difference.overlap.Goals as goal
use Rattle.bfm_geom.proofs.difference.overlap.Goals.{then-is_near_along, else-is_near_along}

-- three tests in a row: all hold up to the third, or one before it fails
all_hold : (p q r x y z : Bool) → x ≡ p → y ≡ q → z ≡ r → x ≡ true → y ≡ true → z ≡ (p && q && r)
all_hold p q r x y z a b c d e = rw (← a, ← b, ← c, d, e)

first_fails : (p q r x : Bool) → x ≡ p → x ≡ false → false ≡ (p && q && r)
first_fails p q r x a d = rw (← a, d)

second_fails : (p q r x y : Bool) → x ≡ p → y ≡ q → x ≡ true → y ≡ false → false ≡ (p && q && r)
second_fails p q r x y a b d e = rw (← a, ← b, d, e)

pub returns-then-is_near_along-2 : goal.returns-then-is_near_along-2
returns-then-is_near_along-2 c =
    let near : ℕ → ℤ → Bool = λ axis d. nat_le (nat_abs (wrapped_along (is_periodic c.args.shape.now axis) (side_of c.args.shape.now axis) d)) 1 in
    let by : Bool × Bool × Bool = (near 0 (c.args.b.x -ℤ c.args.a.x), near 1 (c.args.b.y -ℤ c.args.a.y), near 2 (c.args.b.z -ℤ c.args.a.z)) in
    elim c.if-is_near_along.branch [
      | then-is_near_along w ↦ all_hold by.0 by.1 by.2 _ _ _
          (c.is_near_along.ensures ∙ ap (near 0) (omega (arith, ints)))
          (w.is_near_along-then-is_near_along.ensures ∙ ap (near 1) (omega (arith, ints)))
          (c.is_near_along-then-is_near_along-2.ensures ∙ ap (near 2) (omega (arith, ints)))
          w.if-is_near_along.true (sym w.value-is ∙ c.if-is_near_along-2.true)
      | else-is_near_along w ↦ absurd (cc)
    ]

pub returns-else-is_near_along-2 : goal.returns-else-is_near_along-2
returns-else-is_near_along-2 c =
    let near : ℕ → ℤ → Bool = λ axis d. nat_le (nat_abs (wrapped_along (is_periodic c.args.shape.now axis) (side_of c.args.shape.now axis) d)) 1 in
    let by : Bool × Bool × Bool = (near 0 (c.args.b.x -ℤ c.args.a.x), near 1 (c.args.b.y -ℤ c.args.a.y), near 2 (c.args.b.z -ℤ c.args.a.z)) in
    c.if-is_near_along-2.false ∙
    elim c.if-is_near_along.branch [
      | then-is_near_along w ↦ second_fails by.0 by.1 by.2 _ _
          (c.is_near_along.ensures ∙ ap (near 0) (omega (arith, ints)))
          (w.is_near_along-then-is_near_along.ensures ∙ ap (near 1) (omega (arith, ints)))
          w.if-is_near_along.true (sym w.value-is ∙ c.if-is_near_along-2.false)
      | else-is_near_along w ↦ first_fails by.0 by.1 by.2 _ (c.is_near_along.ensures ∙ ap (near 0) (omega (arith, ints))) w.if-is_near_along.false
    ]
