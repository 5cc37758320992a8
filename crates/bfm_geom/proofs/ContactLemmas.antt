-- Squared lengths, and which of them make a contact.
use Rattle.std.proofs.Common.{◌≡◌, ℕ, zero, suc, ◌+◌, ◌*◌, ◌<◌, ◌≤◌, Bool, true, false, ◌&&◌, refl, sym, ◌∙◌, ap, arith, nat_abs, nat_le}
use Rattle.std.proofs.Math.Nat.{mul-le-mul}
use Rattle.std.proofs.lemmas.Bool.Decides.{nat_tests}
use Rattle.bfm_base.specs.declared.place.P3.{P3}
use Rattle.bfm_base.specs.declared.place.Shape.{Shape}
use Rattle.bfm_base.specs.Place.{extent_of}
use Rattle.bfm_geom.specs.Difference.{HasSides, are_in_contact, is_contact_square, minus, overlaps, square_of, wrapped}
use Rattle.bfm_geom.proofs.DifferenceLemmas.{nat_abs-wrapped-turned}

square_above : (a : ℕ) → 3 * a ≤ a * a + 2
square_above zero = omega arith
square_above (suc zero) = omega arith
square_above (suc (suc k)) = omega arith

no_contact_above : (square : ℕ) → 7 ≤ square → is_contact_square square ≡ false
no_contact_above square h = grind (arith, nat_tests)

-- one long component is too much
pub no_contact_far : (v : P3) → 2 < extent_of v → is_contact_square (square_of v) ≡ false
no_contact_far v h =
    no_contact_above (square_of v) (omega (arith, h, square_above (nat_abs v.x), square_above (nat_abs v.y), square_above (nat_abs v.z)))

no_contact_below : (square : ℕ) → square ≤ 3 → is_contact_square square ≡ false
no_contact_below square h = grind (arith, nat_tests)

square_below : (a : ℕ) → a ≤ 1 → a * a ≤ 1
square_below a h = mul-le-mul h h

-- three components of at most 1 are too little
near_or_contact : (x y z : ℕ) (a b c : Bool) → nat_le x 1 ≡ a → nat_le y 1 ≡ b → nat_le z 1 ≡ c → is_contact_square (x * x + y * y + z * z) ≡ true → (a && b && c) ≡ false
near_or_contact x y z true true true p q r h =
    let near_x : x ≤ 1 = grind (arith, nat_tests) in
    let near_y : y ≤ 1 = grind (arith, nat_tests) in
    let near_z : z ≤ 1 = grind (arith, nat_tests) in
    sym h ∙ no_contact_below (x * x + y * y + z * z) (omega (arith, square_below x near_x, square_below y near_y, square_below z near_z))
near_or_contact x y z true true false p q r h = refl
near_or_contact x y z true false c p q r h = refl
near_or_contact x y z false b c p q r h = refl

-- monomers in contact do not overlap
pub contact-apart : (shape : Shape) (a b : P3) → are_in_contact shape a b ≡ true → overlaps shape a b ≡ false
contact-apart shape a b h =
    let d = wrapped shape (minus b a) in
    near_or_contact (nat_abs d.x) (nat_abs d.y) (nat_abs d.z) _ _ _ refl refl refl h

-- contact does not ask which of the two monomers comes first
pub contact-symmetric : (shape : Shape) (a b : P3) → HasSides shape → are_in_contact shape a b ≡ are_in_contact shape b a
contact-symmetric shape a b box =
    let square : ℕ → ℕ → ℕ → Bool = λ x y z. is_contact_square (x * x + y * y + z * z) in
    let to = wrapped shape (minus b a) in
    let from = wrapped shape (minus a b) in
    ap (λ x. square x (nat_abs to.y) (nat_abs to.z)) (nat_abs-wrapped-turned shape 0 a.x b.x (omega (arith, box.x)))
    ∙ ap (λ y. square (nat_abs from.x) y (nat_abs to.z)) (nat_abs-wrapped-turned shape 1 a.y b.y (omega (arith, box.y)))
    ∙ ap (λ z. square (nat_abs from.x) (nat_abs from.y) z) (nat_abs-wrapped-turned shape 2 a.z b.z (omega (arith, box.z)))
