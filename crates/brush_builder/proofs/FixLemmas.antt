-- Monomers that are fixed or not, one after the other.
use Rattle.std.proofs.Common.{◌≡◌, ℕ, zero, suc, ◌+◌, ◌-◌, ◌*◌, ◌<◌, Bool, true, false, List, [], ◌∷◌, ◌++◌, length, map, replicate, refl, ap, sym, ◌∙◌, subst, arith, add-zero, zero-add}
use Rattle.std.specs.List.{range_with_len}
use Rattle.std.proofs.Math.ListN.{set}
use Rattle.std.proofs.lemmas.List.FromFn.{length-map-range_with_len, get_or-map-range_with_len}
use Rattle.bfm_base.specs.declared.place.Shape.{Shape}
use Rattle.bfm_world.specs.Configuration.{Configuration, is_fixed}
use Rattle.brush_builder.specs.Brush.{is_foot, feet_in, brush_world}

-- one number more
map-range-more : (f : ℕ → Bool) (a n : ℕ) → map f (range_with_len a (n + 1)) ≡ map f (range_with_len a n) ++ f (a + n) ∷ []
map-range-more f a zero = ap (λ m. f m ∷ []) (sym (add-zero a))
map-range-more f a (suc n) =
    let one : suc n + 1 ≡ suc (n + 1) = omega arith in
    let place : a + 1 + n ≡ a + suc n = omega arith in
    ap (λ m. map f (range_with_len a m)) one
    ∙ (ap (λ xs. f a ∷ xs) (map-range-more f (a + 1) n) ∙ ap (λ m. f a ∷ (map f (range_with_len (a + 1) n) ++ f m ∷ [])) place)

-- the marks of n monomers, of which the first i are told, and the others are not fixed
abbrev pub told : ℕ → ℕ → ℕ → List Bool
told size i n = map (is_foot size) (range_with_len 0 i) ++ replicate (n - i) false

mark-next : (xs : List Bool) (m : ℕ) → set (xs ++ replicate (suc m) false) (length xs) true ≡ (xs ++ true ∷ []) ++ replicate m false
mark-next [] m = refl
mark-next (x ∷ xs) m = ap (λ ys. x ∷ ys) (mark-next xs m)

pass-next : (xs : List Bool) (m : ℕ) → xs ++ replicate (suc m) false ≡ (xs ++ false ∷ []) ++ replicate m false
pass-next [] m = refl
pass-next (x ∷ xs) m = ap (λ ys. x ∷ ys) (pass-next xs m)

module _ (size i n : ℕ) (l : i < n) where
  left : n - i ≡ suc (n - (i + 1))
  left = omega arith

  abbrev front : List Bool
  front = map (is_foot size) (range_with_len 0 i)

  more : (b : Bool) → is_foot size i ≡ b → told size (i + 1) n ≡ (front ++ b ∷ []) ++ replicate (n - (i + 1)) false
  more b e = ap (λ xs. xs ++ replicate (n - (i + 1)) false) (map-range-more (is_foot size) 0 i ∙ ap (λ x. front ++ x ∷ []) (ap (is_foot size) (zero-add i) ∙ e))

  pub told-fixed : is_foot size i ≡ true → set (told size i n) i true ≡ told size (i + 1) n
  told-fixed e =
      ap (λ m. set (front ++ replicate m false) i true) left
      ∙ (ap (λ k. set (front ++ replicate (suc (n - (i + 1))) false) k true) (sym (length-map-range_with_len (is_foot size) 0 i))
      ∙ (mark-next front (n - (i + 1)) ∙ sym (more true e)))

  pub told-passed : is_foot size i ≡ false → told size i n ≡ told size (i + 1) n
  told-passed e = ap (λ m. front ++ replicate m false) left ∙ (pass-next front (n - (i + 1)) ∙ sym (more false e))

-- which monomers of a brush are fixed
pub fixed-brush : (w : Configuration) (shape : Shape) (spacing size i : ℕ) → w ≡ brush_world shape spacing size → i < feet_in shape spacing * size → is_fixed w i ≡ is_foot size i
fixed-brush w shape spacing size i e l =
    subst (λ (c : Configuration). is_fixed c i ≡ is_foot size i) (sym e) (get_or-map-range_with_len (is_foot size) 0 (feet_in shape spacing * size) i i false l (omega arith))
