-- The sites that monomers fill: they tell whether one more has room, and follow what is placed and lifted.
use Rattle.std.proofs.Common.{◌≡◌, ℕ, ◌+◌, ◌<◌, Bool, true, false, ◌↔◌, List, [], ◌∷◌, ◌++◌, length, get_or, drop, refl, sym, ap, ◌∙◌, subst, arith, AllPairs, IsTrue}
use Rattle.std.proofs.lemmas.List.{drop_more, get_or-drop, length-drop}
use Rattle.std.proofs.lemmas.List.Elements.{All-drop}
use Rattle.bfm_base.specs.declared.place.P3.{P3}
use Rattle.bfm_base.specs.declared.place.Shape.{Shape}
use Rattle.bfm_geom.specs.Difference.{IsBox, overlaps}
use Rattle.bfm_geom.specs.Walls.{is_within_walls}
use Rattle.packed_lattice.specs.Sites.{AreFree, AreTaken, Marks, Sites, covers}
use Rattle.packed_lattice.specs.Cover.{Covers}
use Rattle.packed_lattice.proofs.CoverLemmas.{AllInside, AreFree-clear, AreTaken-covered, Covers-lift, Covers-place, is_clear-others}
use Rattle.bfm_world.specs.Configuration.{Configuration, is_clear}
use Rattle.bfm_world.specs.Draft.{IsFilled}

-- the cube at a place is free exactly where a monomer there overlaps none that is placed
pub AreFree-filled : (w : Configuration) (sites : Sites) (p : P3) → IsFilled w sites → IsBox w.shape → AllInside w.shape w.positions → is_within_walls w.shape p ≡ true
    → AreFree sites (covers sites.shape p) ↔ (is_clear w.shape w.positions p ≡ true)
AreFree-filled w sites p h =
    subst (λ (shape : Shape). IsBox shape → AllInside shape w.positions → is_within_walls shape p ≡ true → AreFree sites (covers sites.shape p) ↔ (is_clear shape w.positions p ≡ true)) h.shape
    (λ box inside walls. AreFree-clear w.positions sites p box h.taken inside walls)

same_tests : (a b : Bool) → (a ≡ true → b ≡ true) → (b ≡ true → a ≡ true) → a ≡ b
same_tests true b f g = sym (f refl)
same_tests false true f g = g refl
same_tests false false f g = refl

-- so an answer that tells the one tells the other
pub is_clear-filled : (w : Configuration) (sites : Sites) (p : P3) (answer : Bool) → IsFilled w sites → IsBox w.shape → AllInside w.shape w.positions → is_within_walls w.shape p ≡ true
    → (IsTrue answer ↔ AreFree sites (covers sites.shape p)) → answer ≡ is_clear w.shape w.positions p
is_clear-filled w sites p answer h box inside walls told =
    let clear = AreFree-filled w sites p h box inside walls in
    same_tests answer (is_clear w.shape w.positions p) (λ t. clear.0 (told.0 t)) (λ t. told.1 (clear.1 t))

-- one more monomer
pub IsFilled-placed : (w : Configuration) (old new : Sites) (p : P3) → IsFilled w old → Marks old new (covers old.shape p) true → IsFilled (record w { positions = w.positions ++ p ∷ [] }) new
IsFilled-placed w old new p h m = record {
  shape = m.shape ∙ h.shape;
  taken = Covers-place w.positions old new p h.taken m;
}

AllPairs-drop : {A : Type 0} (R : A → A → Type 0) (n : ℕ) (xs : List A) → AllPairs R xs → AllPairs R (drop n xs)
AllPairs-drop R n xs h i j d l m = rw (get_or-drop n xs i d, get_or-drop n xs j d) (h (n + i) (n + j) d (omega arith) (omega (arith, length-drop n xs)))

-- monomers within the walls, no two of them overlapping
module _ (shape : Shape) (positions : List P3) (box : IsBox shape) (inside : AllInside shape positions) (apart : AllPairs (λ p q. overlaps shape p q ≡ false) positions) where
  -- the next one of them to be lifted, and those after it
  from_next : (k : ℕ) (p d : P3) → k < length positions → p ≡ get_or positions k d → drop k positions ≡ p ∷ drop (k + 1) positions
  from_next k p d l e = drop_more positions k d l ∙ ap (λ q. q ∷ drop (k + 1) positions) (sym e)

  -- its cube is taken
  pub AreTaken-next : (k : ℕ) (p d : P3) (sites : Sites) → k < length positions → p ≡ get_or positions k d → Covers (drop k positions) sites → AreTaken sites (covers sites.shape p)
  AreTaken-next k p d sites l e h =
      AreTaken-covered (p ∷ drop (k + 1) positions) 0 p d sites (omega arith) refl (subst (λ ps. Covers ps sites) (from_next k p d l e) h)

  -- and where it is lifted, those after it remain
  pub Covers-next : (k : ℕ) (p d : P3) (old new : Sites) → old.shape ≡ shape → k < length positions → p ≡ get_or positions k d → Covers (drop k positions) old
      → Marks old new (covers old.shape p) false → Covers (drop (k + 1) positions) new
  Covers-next k p d old new same l e h m =
      let rest = drop (k + 1) positions in
      let all = from_next k p d l e in
      let apart' : AllPairs (λ a b. overlaps shape a b ≡ false) (p ∷ rest) = subst (AllPairs (λ a b. overlaps shape a b ≡ false)) all (AllPairs-drop (λ a b. overlaps shape a b ≡ false) k positions apart) in
      let clear : is_clear shape rest p ≡ true = is_clear-others shape (p ∷ rest) 0 d box apart' (omega arith) in
      let walls : is_within_walls shape p ≡ true = subst (λ q. is_within_walls shape q ≡ true) (sym e) (inside k d l) in
      subst (λ (s : Shape). IsBox s → AllInside s rest → is_within_walls s p ≡ true → is_clear s rest p ≡ true → Covers rest new) same
      (λ b i w c. Covers-lift (p ∷ rest) 0 p d old new b i w (omega arith) refl c (subst (λ ps. Covers ps old) all h) m)
      box (All-drop (λ q. is_within_walls shape q ≡ true) (k + 1) positions inside) walls clear
