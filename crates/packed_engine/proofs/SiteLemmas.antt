-- The sites that monomers fill: those of the first ones of a world, and how they tell of a step and follow it.
use Rattle.std.proofs.Common.{◌≡◌, ℕ, suc, ◌+◌, ◌<◌, ◌≤◌, Bool, true, false, not, ◌&&◌, ◌↔◌, IsTrue, length, get_or, take, drop, remove, refl, sym, ap, ◌∙◌, subst, arith}
use Rattle.std.proofs.lemmas.List.{get_or-take, get_or_default, length-take, take_all, take_more}
use Rattle.std.proofs.lemmas.List.Elements.{All-append, All-drop, All-take}
use Rattle.std.proofs.lemmas.List.Sums.{list_all-from_AllPass}
use Rattle.std.proofs.lemmas.Bool.{and_from, and_parts, not_from_false}
use Rattle.bfm_base.specs.declared.place.Dir.{Dir}
use Rattle.bfm_base.specs.declared.place.P3.{P3}
use Rattle.bfm_base.specs.declared.place.Shape.{Shape}
use Rattle.bfm_base.specs.Direction.{step_of}
use Rattle.bfm_geom.specs.Difference.{IsBox, overlaps, plus}
use Rattle.bfm_geom.specs.Upright.{origin}
use Rattle.bfm_geom.specs.Walls.{is_within_walls}
use Rattle.packed_lattice.specs.Sites.{AreFree, AreTaken, IsEmpty, Marks, Shifts, Sites, covers, newly_covers}
use Rattle.packed_lattice.specs.Cover.{Covers}
use Rattle.packed_lattice.proofs.CoverLemmas.{AllInside, AreFree-step, AreTaken-covered, Covers-empty, Covers-shift, is_clear-others}
use Rattle.bfm_world.specs.Bonds.{neighbours_of}
use Rattle.bfm_world.specs.Configuration.{Configuration, IsValid, is_clear, is_fixed, is_legal, keeps_bonds, moved, position_of, target_of}
use Rattle.bfm_world.specs.Draft.{IsFilled}
use Rattle.bfm_world.proofs.SiteLemmas.{AreFree-filled, IsFilled-placed}

-- the world of the first monomers, so many
abbrev pub first_of : Configuration → ℕ → Configuration
first_of w n = record w { positions = take n w.positions }

-- none of them fills any site
pub IsFilled-none : (w : Configuration) (sites : Sites) → sites.shape ≡ w.shape → IsEmpty sites → IsFilled (first_of w 0) sites
IsFilled-none w sites same empty = record { shape = same; taken = Covers-empty sites empty }

-- and all of them are the world
pub IsFilled-all : (w : Configuration) (n : ℕ) (sites : Sites) → length w.positions ≤ n → IsFilled (first_of w n) sites → IsFilled w sites
IsFilled-all w n sites l h = record { shape = h.shape; taken = subst (λ ps. Covers ps sites) (take_all n w.positions l) h.taken }

module _ (w : Configuration) (valid : IsValid w) (i : ℕ) (l : i < length w.positions) where
  inside : is_within_walls w.shape (position_of w i) ≡ true
  inside = valid.inside i origin l

  -- the next monomer is clear of those before it
  clear-before : is_clear w.shape (take i w.positions) (position_of w i) ≡ true
  clear-before = list_all-from_AllPass (λ q. not (overlaps w.shape q (position_of w i))) (take i w.positions) (λ k e m.
      let before : k < i = omega (arith, length-take i w.positions, m) in
      let same : get_or (take i w.positions) k e ≡ position_of w k = get_or-take i w.positions k e before ∙ get_or_default w.positions k e origin (omega arith) in
      not_from_false _ (ap (λ q. overlaps w.shape q (position_of w i)) same ∙ valid.apart k i origin before l))

  -- so its cube is free
  pub AreFree-next : (sites : Sites) → IsFilled (first_of w i) sites → AreFree sites (covers sites.shape (position_of w i))
  AreFree-next sites h = (AreFree-filled (first_of w i) sites (position_of w i) h valid.box (All-take (λ p. is_within_walls w.shape p ≡ true) i w.positions valid.inside) inside).1 clear-before

  -- and where it is placed, it is one of them
  pub IsFilled-next : (old new : Sites) → IsFilled (first_of w i) old → Marks old new (covers old.shape (position_of w i)) true → IsFilled (first_of w (i + 1)) new
  IsFilled-next old new h m =
      subst (λ ps. IsFilled (record w { positions = ps }) new) (sym (take_more w.positions i origin l)) (IsFilled-placed (first_of w i) old new (position_of w i) h m)

  others_inside : AllInside w.shape (remove w.positions i)
  others_inside =
      let P : P3 → Type 0 = λ p. is_within_walls w.shape p ≡ true in
      All-append P (take i w.positions) (drop (suc i) w.positions) (All-take P i w.positions valid.inside) (All-drop P (suc i) w.positions valid.inside)

  clear-others : is_clear w.shape (remove w.positions i) (position_of w i) ≡ true
  clear-others = is_clear-others w.shape w.positions i origin valid.box valid.apart l

  -- a step enters free sites exactly where it comes to overlap no other monomer
  AreFree-enter : (dir : Dir) (sites : Sites) → IsFilled w sites → is_within_walls w.shape (target_of w i dir) ≡ true
      → AreFree sites (newly_covers sites.shape (position_of w i) dir) ↔ (is_clear w.shape (remove w.positions i) (target_of w i dir) ≡ true)
  AreFree-enter dir sites h walls =
      subst (λ (shape : Shape). IsBox shape → AllInside shape (remove w.positions i) → is_within_walls shape (position_of w i) ≡ true → is_within_walls shape (target_of w i dir) ≡ true
      → is_clear shape (remove w.positions i) (position_of w i) ≡ true → AreFree sites (newly_covers sites.shape (position_of w i) dir) ↔ (is_clear shape (remove w.positions i) (target_of w i dir) ≡ true)) h.shape
      (λ box ins here there clear. AreFree-step w.positions i (position_of w i) origin dir sites box ins here there l refl clear h.taken)
      valid.box others_inside inside walls clear-others

  -- the sites follow a step
  pub IsFilled-moved : (dir : Dir) (old new : Sites) → IsFilled w old → Shifts old new (position_of w i) dir → IsFilled (moved w i dir) new
  IsFilled-moved dir old new h s = record {
    shape = s.shape ∙ h.shape;
    taken =
        subst (λ (shape : Shape). IsBox shape → AllInside shape (remove w.positions i) → is_within_walls shape (position_of w i) ≡ true
        → is_clear shape (remove w.positions i) (position_of w i) ≡ true → Covers (moved w i dir).positions new) h.shape
        (λ box ins here clear. Covers-shift w.positions i (position_of w i) origin dir old new box ins here l refl clear h.taken s)
        valid.box others_inside inside clear-others;
  }

  -- what is said of the place where the monomer stands
  module _ (p : P3) (here : p ≡ position_of w i) where
    -- its cube is taken
    pub AreTaken-own : (sites : Sites) → IsFilled w sites → AreTaken sites (covers sites.shape p)
    AreTaken-own sites h = AreTaken-covered w.positions i p origin sites l here h.taken

    -- an answer that tells of the sites tells whether the walls and the others leave room for a step
    pub leaves_room : (dir : Dir) (sites : Sites) (answer : Bool) → IsFilled w sites
        → (IsTrue answer ↔ ((is_within_walls sites.shape (plus p (step_of dir)) ≡ true) × AreFree sites (newly_covers sites.shape p dir)))
        → answer ≡ (is_within_walls w.shape (target_of w i dir) && is_clear w.shape (remove w.positions i) (target_of w i dir))
    leaves_room dir sites answer h told =
        let walls = is_within_walls w.shape (target_of w i dir) in
        let clear = is_clear w.shape (remove w.positions i) (target_of w i dir) in
        let at : IsTrue answer ↔ ((is_within_walls sites.shape (target_of w i dir) ≡ true) × AreFree sites (newly_covers sites.shape (position_of w i) dir)) =
        subst (λ q. IsTrue answer ↔ ((is_within_walls sites.shape (plus q (step_of dir)) ≡ true) × AreFree sites (newly_covers sites.shape q dir))) here told in
        let room = subst (λ (shape : Shape). IsTrue answer ↔ ((is_within_walls shape (target_of w i dir) ≡ true) × AreFree sites (newly_covers sites.shape (position_of w i) dir))) h.shape at in
        same_tests answer (walls && clear)
        (λ t. let r = room.0 t in and_from walls clear r.0 ((AreFree-enter dir sites h r.0).0 r.1))
        (λ t. let r = and_parts walls clear t in room.1 (r.0, (AreFree-enter dir sites h r.0).1 r.1))
      where
        same_tests : (a b : Bool) → (a ≡ true → b ≡ true) → (b ≡ true → a ≡ true) → a ≡ b
        same_tests true b f g = sym (f refl)
        same_tests false true f g = g refl
        same_tests false false f g = refl

    -- and a legal step enters free sites
    pub AreFree-legal : (dir : Dir) (sites : Sites) → IsFilled w sites → is_legal w i dir ≡ true → AreFree sites (newly_covers sites.shape p dir)
    AreFree-legal dir sites h legal =
        let walls = is_within_walls w.shape (target_of w i dir) in
        let clear = is_clear w.shape (remove w.positions i) (target_of w i dir) in
        let kept = keeps_bonds w.shape w.set w.positions (neighbours_of w.bonds i) (target_of w i dir) in
        let room = and_parts (not (is_fixed w i) && walls) clear (and_parts (not (is_fixed w i) && walls && clear) kept legal).0 in
        subst (λ q. AreFree sites (newly_covers sites.shape q dir)) (sym here) ((AreFree-enter dir sites h (and_parts (not (is_fixed w i)) walls room.0).1).1 room.1)
