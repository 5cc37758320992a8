-- How far monomers are from the origin.
use Rattle.std.proofs.Common.{◌≡◌, ℕ, zero, suc, ◌+◌, ◌<◌, ◌≤◌, max, List, [], ◌∷◌, ◌++◌, length, take, drop, get_or, ℤ, pos, negsuc, nat_abs, ◌+ℤ◌, arith, ap, ◌∙◌}
use Rattle.std.specs.Prelude.{slice_get, IfSome}
use Rattle.std.proofs.lemmas.List.{take_more}
use Rattle.std.proofs.Math.ListN.{set}
use Rattle.std.proofs.Math.IntN.{sub_ℕ}
use Rattle.std.proofs.lemmas.Bool.Decides.{nat_tests}
use Rattle.bfm_base.specs.declared.place.P3.{P3}
use Rattle.bfm_base.specs.declared.place.Dir.{Dir}
use Rattle.bfm_base.specs.declared.place.Dir.TheVariants.{XUp, XDown, YUp, YDown, ZUp, ZDown}
use Rattle.bfm_base.specs.Direction.{step_of}
use Rattle.bfm_geom.specs.Difference.{plus, IsWithin}
use Rattle.bfm_base.specs.Place.{extent_of}
use Rattle.bfm_world.specs.Configuration.{Configuration, reach_of, position_of, target_of}

pub reach_of-append : (xs ys : List P3) → reach_of (xs ++ ys) ≡ max (reach_of xs) (reach_of ys)
reach_of-append [] ys = omega arith
reach_of-append (x ∷ xs) ys = omega (arith, reach_of-append xs ys)

-- no element is further than the reach
pub extent_at : (xs : List P3) (i : ℕ) (d : P3) → i < length xs → extent_of (get_or xs i d) ≤ reach_of xs
extent_at [] i d h = absurd (omega arith)
extent_at (x ∷ xs) zero d h = omega arith
extent_at (x ∷ xs) (suc i) d h = omega (arith, extent_at xs i d (omega arith))

-- one more element
pub reach_of_more : (xs : List P3) (i : ℕ) (d : P3) → i < length xs → reach_of (take (i + 1) xs) ≡ max (reach_of (take i xs)) (extent_of (get_or xs i d))
reach_of_more xs i d h = ap reach_of (take_more xs i d h) ∙ (reach_of-append (take i xs) (get_or xs i d ∷ []) ∙ omega arith)

-- one element changed
pub reach_of-set : (xs : List P3) (i : ℕ) (v : P3) → reach_of (set xs i v) ≤ max (reach_of xs) (extent_of v)
reach_of-set [] i v = omega arith
reach_of-set (x ∷ xs) zero v = omega arith
reach_of-set (x ∷ xs) (suc i) v = omega (arith, reach_of-set xs i v)

-- the whole is a front and the rest
pub reach_of-parts : (xs : List P3) (i : ℕ) → (reach_of (take i xs) ≤ reach_of xs) × (reach_of (drop i xs) ≤ reach_of xs)
reach_of-parts xs zero = (omega arith, omega arith)
reach_of-parts [] (suc i) = (omega arith, omega arith)
reach_of-parts (x ∷ xs) (suc i) = let h = reach_of-parts xs i in (omega (arith, h.0), omega (arith, h.1))

-- the difference of two near numbers is small
nat_abs-sub : (a b n : ℕ) → a ≤ b + n → b ≤ a + n → nat_abs (sub_ℕ a b) ≤ n
nat_abs-sub a b n h k = grind (arith, nat_tests)

-- one unit further or nearer
nat_abs-up : (c : ℤ) → nat_abs (c +ℤ pos 1) ≤ nat_abs c + 1
nat_abs-up (pos n) = omega arith
nat_abs-up (negsuc n) = nat_abs-sub 1 (suc n) (suc n + 1) (omega arith) (omega arith)

nat_abs-down : (c : ℤ) → nat_abs (c +ℤ negsuc 0) ≤ nat_abs c + 1
nat_abs-down (pos n) = nat_abs-sub n 1 (n + 1) (omega arith) (omega arith)
nat_abs-down (negsuc n) = omega arith

nat_abs-still : (c : ℤ) → nat_abs (c +ℤ pos 0) ≤ nat_abs c
nat_abs-still (pos n) = omega arith
nat_abs-still (negsuc n) = nat_abs-sub 0 (suc n) (suc n) (omega arith) (omega arith)

-- a step moves a place by at most one
pub extent_of-step : (p : P3) (d : Dir) → extent_of (plus p (step_of d)) ≤ extent_of p + 1
extent_of-step p XUp = omega (arith, nat_abs-up p.x, nat_abs-still p.y, nat_abs-still p.z)
extent_of-step p XDown = omega (arith, nat_abs-down p.x, nat_abs-still p.y, nat_abs-still p.z)
extent_of-step p YUp = omega (arith, nat_abs-up p.y, nat_abs-still p.x, nat_abs-still p.z)
extent_of-step p YDown = omega (arith, nat_abs-down p.y, nat_abs-still p.x, nat_abs-still p.z)
extent_of-step p ZUp = omega (arith, nat_abs-up p.z, nat_abs-still p.x, nat_abs-still p.y)
extent_of-step p ZDown = omega (arith, nat_abs-down p.z, nat_abs-still p.x, nat_abs-still p.y)

pub IsWithin-from_extent : (p : P3) (n : ℕ) → extent_of p ≤ n → IsWithin n p
IsWithin-from_extent p n h = record { x = omega arith; y = omega arith; z = omega arith }

-- a step goes at most one beyond the reach
pub extent_of-target : (w : Configuration) (i : ℕ) (d : Dir) → i < length w.positions → extent_of (target_of w i d) ≤ reach_of w.positions + 1
extent_of-target w i d h =
    omega (arith, extent_of-step (position_of w i) d, extent_at w.positions i (record { x = pos 0; y = pos 0; z = pos 0 }) h)

-- a position that is there is within the reach
pub within_reach : (positions : List P3) (i n : ℕ) → reach_of positions ≤ n → IfSome (slice_get positions i) (IsWithin n)
within_reach [] i n h = tt
within_reach (p ∷ ps) zero n h = IsWithin-from_extent p n (omega arith)
within_reach (p ∷ ps) (suc i) n h = within_reach ps i n (omega arith)
