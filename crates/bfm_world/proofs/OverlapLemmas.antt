-- Monomers that are placed on a lattice one after the other: no two overlap where each finds its cube free.
use Rattle.std.proofs.Common.{◌≡◌, ℕ, ◌+◌, ◌<◌, ◌≤◌, true, false, not, inl, inr, List, ◌∷◌, ◌++◌, [], length, take, get_or, pos, sym, ◌∙◌, subst, arith, AllPairs, ◌↔◌, length-take}
use Rattle.std.proofs.lemmas.Bool.{cases_lt, not_from_false}
use Rattle.std.proofs.lemmas.List.{get_or-take, get_or_default, take_all, take_more}
use Rattle.std.proofs.lemmas.List.Elements.{All-take}
use Rattle.std.proofs.lemmas.List.Quantifiers.{all_pairs_push}
use Rattle.std.proofs.lemmas.List.Sums.{list_all-from_AllPass}
use Rattle.bfm_base.specs.declared.place.P3.{P3}
use Rattle.bfm_base.specs.declared.place.Shape.{Shape}
use Rattle.bfm_geom.specs.Difference.{IsBox, overlaps}
use Rattle.bfm_geom.specs.Walls.{is_within_walls}
use Rattle.packed_lattice.specs.Sites.{AreFree, IsEmpty, Marks, Sites, covers}
use Rattle.packed_lattice.specs.Cover.{Covers}
use Rattle.packed_lattice.proofs.CoverLemmas.{AllInside, AreFree-clear, Covers-empty, Covers-place}
use Rattle.bfm_world.specs.Configuration.{is_clear, position_at}
use Rattle.bfm_world.proofs.ValidLemmas.{clear_at}

-- no two of these overlap
abbrev pub AreApart : Shape → List P3 → Type 0
AreApart shape positions = AllPairs (λ p q. overlaps shape p q ≡ false) positions

-- the first k of them are on the lattice, and no two of those overlap
pub record ApartSoFar (shape : Shape) (positions : List P3) (k : ℕ) (sites : Sites) : Type 0 where
  pub box : sites.shape ≡ shape
  pub taken : Covers (take k positions) sites
  pub apart : AreApart shape (take k positions)

pub ApartSoFar-none : (shape : Shape) (positions : List P3) (sites : Sites) → sites.shape ≡ shape → IsEmpty sites → ApartSoFar shape positions 0 sites
ApartSoFar-none shape positions sites same empty = record { box = same; taken = Covers-empty sites empty; apart = λ i j d l m. absurd (omega arith) }

pub ApartSoFar-all : (shape : Shape) (positions : List P3) (k : ℕ) (sites : Sites) → ApartSoFar shape positions k sites → length positions ≤ k → AreApart shape positions
ApartSoFar-all shape positions k sites s l = subst (AreApart shape) (take_all k positions l) s.apart

-- where no two overlap, each overlaps none before it
pub clear_before : (shape : Shape) (positions : List P3) (k : ℕ) → k < length positions → AreApart shape positions → is_clear shape (take k positions) (position_at positions k) ≡ true
clear_before shape positions k l apart =
    list_all-from_AllPass (λ q. not (overlaps shape q (position_at positions k))) (take k positions) (λ j d m.
    let below : j < k = omega (arith, length-take k positions) in
    let same : position_at positions k ≡ get_or positions k d = get_or_default positions k (record { x = pos 0; y = pos 0; z = pos 0 }) d l in
    not_from_false _ (rw (same, get_or-take k positions j d below) (apart j k d below l)))

-- and the other way round: of some that are known not to overlap, and others behind them
pub AreApart-clear : (shape : Shape) (positions : List P3) (n : ℕ) → AreApart shape (take n positions)
    → ((k : ℕ) → n ≤ k → k < length positions → is_clear shape (take k positions) (position_at positions k) ≡ true) → AreApart shape positions
AreApart-clear shape positions n front clear i j d l m = elim (cases_lt j n) [
  | inl b ↦ rw (sym (get_or-take n positions i d (omega arith)), sym (get_or-take n positions j d b)) (front i j d l (omega (arith, length-take n positions)))
  | inr a ↦
      let same : position_at positions j ≡ get_or positions j d = get_or_default positions j (record { x = pos 0; y = pos 0; z = pos 0 }) d m in
      rw (sym same, sym (get_or-take j positions i d l)) (clear_at shape (take j positions) (position_at positions j) (clear j a m) i d (omega (arith, length-take j positions)))
]

module _ (shape : Shape) (positions : List P3) (box : IsBox shape) (inside : AllInside shape positions) (k : ℕ) (sites : Sites) (s : ApartSoFar shape positions k sites) (l : k < length positions) where
  abbrev p : P3
  p = position_at positions k

  -- the lattice's box holds it
  pub inside-next : is_within_walls sites.shape p ≡ true
  inside-next = subst (λ (b : Shape). is_within_walls b p ≡ true) (sym s.box) (inside k (record { x = pos 0; y = pos 0; z = pos 0 }) l)

  -- its cube is free exactly where it overlaps none before it
  free-clear : AreFree sites (covers sites.shape p) ↔ (is_clear shape (take k positions) p ≡ true)
  free-clear =
      subst (λ (box : Shape). IsBox box → AllInside box (take k positions) → is_within_walls box p ≡ true → AreFree sites (covers sites.shape p) ↔ (is_clear box (take k positions) p ≡ true)) s.box
      (λ b i w. AreFree-clear (take k positions) sites p b s.taken i w)
      box (All-take (λ q. is_within_walls shape q ≡ true) k positions inside) (inside k (record { x = pos 0; y = pos 0; z = pos 0 }) l)

  pub ApartSoFar-more : (new : Sites) → AreFree sites (covers sites.shape p) → Marks sites new (covers sites.shape p) true → ApartSoFar shape positions (k + 1) new
  ApartSoFar-more new free m =
      let more : take (k + 1) positions ≡ take k positions ++ p ∷ [] = take_more positions k (record { x = pos 0; y = pos 0; z = pos 0 }) l in
      record {
        box = m.shape ∙ s.box;
        taken = subst (λ ps. Covers ps new) (sym more) (Covers-place (take k positions) sites new p s.taken m);
        apart = subst (AreApart shape) (sym more) (all_pairs_push (λ q r. overlaps shape q r ≡ false) (take k positions) p s.apart (clear_at shape (take k positions) p (free-clear.0 free)));
      }

  pub ApartSoFar-refused : ¬ AreFree sites (covers sites.shape p) → ¬ AreApart shape positions
  ApartSoFar-refused taken apart = taken (free-clear.1 (clear_before shape positions k l apart))
