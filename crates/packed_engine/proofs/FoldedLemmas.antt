-- A place folded into the box stands for the place: it has the same walls, sites and differences.
use Rattle.std.proofs.Common.{◌≡◌, ℕ, ◌<◌, Bool, true, false, cond, Option, ◌↔◌, IsTrue, ℤ, pos, negsuc, neg_ℤ, ◌+ℤ◌, ◌-ℤ◌, ◌*ℤ◌, refl, sym, ap, ◌∙◌, arith}
use Rattle.std.proofs.lemmas.Int.{ints}
use Rattle.bfm_base.specs.declared.place.Dir.{Dir}
use Rattle.bfm_base.specs.declared.place.P3.{P3}
use Rattle.bfm_base.specs.declared.place.Shape.{Shape}
use Rattle.bfm_base.specs.Direction.{step_of}
use Rattle.bfm_geom.specs.Difference.{HasSides, IsNearest, is_periodic, minus, plus, side_of, wrapped, wrapped_along}
use Rattle.bfm_geom.specs.Walls.{is_within_walls, is_within_walls_along}
use Rattle.bfm_geom.proofs.IntegerLemmas.{+ℤ-*ℤ}
use Rattle.bfm_geom.proofs.DifferenceLemmas.{IsWrappedAlong-unique, P3-same, wrapped_along-is}
use Rattle.packed_lattice.specs.declared.site.Site.{Site}
use Rattle.packed_lattice.specs.Cube.{next_along, previous_along}
use Rattle.packed_lattice.specs.Sites.{AreFree, AreTaken, Shifts, Sites, covers, covers_along, folded, is_same_site, is_taken, newly_covers, site_of}
use Rattle.packed_lattice.specs.Owners.{OwnedPlaces, SetsOwner, owner_of}
use Rattle.packed_lattice.proofs.FoldLemmas.{folded-down, folded-unique, folded-up, folded_turns}
use Rattle.packed_lattice.proofs.PackingLemmas.{Site-same}
use Rattle.bfm_world.specs.Sweeping.{IsImage, IsImageAlong}
use Rattle.packed_engine.proofs.PlaceLemmas.{and_three, folded-walled, turns_less}

-- the place of a site
abbrev pub place_of_site : Site → P3
place_of_site s = record { x = pos s.x; y = pos s.y; z = pos s.z }

folded-image : (periodic : Bool) (side : ℕ) (c : ℤ) (n : ℕ) → 0 < side → is_within_walls_along periodic side c ≡ true → n ≡ folded side c → IsImageAlong periodic side c (pos n)
folded-image false side c n l inside e = ap pos e ∙ folded-walled side c inside
folded-image true side c n l inside e = let f = folded_turns side c l in (f.0, ap pos e ∙ f.1.0)

-- the site of a place between walls is an image of the place
pub IsImage-site : (shape : Shape) (p : P3) (s : Site) → HasSides shape → is_within_walls shape p ≡ true → s ≡ site_of shape p → IsImage shape p (place_of_site s)
IsImage-site shape p s sides inside e =
    let i = and_three _ _ _ inside in
    record {
      x = folded-image (is_periodic shape 0) (side_of shape 0) p.x s.x (omega (arith, sides.x)) i.0 (ap (λ (t : Site). t.x) e);
      y = folded-image (is_periodic shape 1) (side_of shape 1) p.y s.y (omega (arith, sides.y)) i.1 (ap (λ (t : Site). t.y) e);
      z = folded-image (is_periodic shape 2) (side_of shape 2) p.z s.z (omega (arith, sides.z)) i.2 (ap (λ (t : Site). t.z) e);
    }

-- ---- differences of images
wrapped_along-images : (periodic : Bool) (side : ℕ) (c d i j : ℤ) → 0 < side → IsImageAlong periodic side c i → IsImageAlong periodic side d j
    → wrapped_along periodic side (j -ℤ i) ≡ wrapped_along periodic side (d -ℤ c)
wrapped_along-images false side c d i j l h k = omega (arith, ints, h, k)
wrapped_along-images true side c d i j l h k =
    let n : IsNearest side (j -ℤ i) (wrapped_along true side (j -ℤ i)) = wrapped_along-is true side (j -ℤ i) l in
    let turns = n.turns.0 +ℤ (k.0 +ℤ neg_ℤ h.0) in
    let e : wrapped_along true side (j -ℤ i) ≡ (d -ℤ c) +ℤ turns *ℤ pos side =
    omega (arith, ints, n.turns.1, h.1, k.1, turns_less side k.0 h.0, +ℤ-*ℤ n.turns.0 (k.0 +ℤ neg_ℤ h.0) (pos side)) in
    IsWrappedAlong-unique true side (d -ℤ c) _ _ (record { turns = (turns, e); above = n.above; below = n.below }) (wrapped_along-is true side (d -ℤ c) l)

pub wrapped-images : (shape : Shape) (p q i j : P3) → HasSides shape → IsImage shape p i → IsImage shape q j → wrapped shape (minus j i) ≡ wrapped shape (minus q p)
wrapped-images shape p q i j sides h k =
    P3-same _ _
    (wrapped_along-images (is_periodic shape 0) (side_of shape 0) p.x q.x i.x j.x (omega (arith, sides.x)) h.x k.x)
    (wrapped_along-images (is_periodic shape 1) (side_of shape 1) p.y q.y i.y j.y (omega (arith, sides.y)) h.y k.y)
    (wrapped_along-images (is_periodic shape 2) (side_of shape 2) p.z q.z i.z j.z (omega (arith, sides.z)) h.z k.z)

-- ---- walls and sites
along-plus : (periodic : Bool) (side : ℕ) (c i s : ℤ) → IsImageAlong periodic side c i → IsImageAlong periodic side (c +ℤ s) (i +ℤ s)
along-plus false side c i s h = ap (λ n. n +ℤ s) h
along-plus true side c i s h = (h.0, omega (arith, ints, h.1))

pub IsImage-plus : (shape : Shape) (p i s : P3) → IsImage shape p i → IsImage shape (plus p s) (plus i s)
IsImage-plus shape p i s h = record {
  x = along-plus (is_periodic shape 0) (side_of shape 0) p.x i.x s.x h.x;
  y = along-plus (is_periodic shape 1) (side_of shape 1) p.y i.y s.y h.y;
  z = along-plus (is_periodic shape 2) (side_of shape 2) p.z i.z s.z h.z;
}

walls_along-image : (periodic : Bool) (side : ℕ) (c i : ℤ) → IsImageAlong periodic side c i → is_within_walls_along periodic side i ≡ is_within_walls_along periodic side c
walls_along-image false side c i h = ap (is_within_walls_along false side) h
walls_along-image true side c i h = refl

-- an image is within the walls as the place is
pub is_within_walls-image : (shape : Shape) (p i : P3) → IsImage shape p i → is_within_walls shape i ≡ is_within_walls shape p
is_within_walls-image shape p i h =
    rw (walls_along-image (is_periodic shape 0) (side_of shape 0) p.x i.x h.x, walls_along-image (is_periodic shape 1) (side_of shape 1) p.y i.y h.y, walls_along-image (is_periodic shape 2) (side_of shape 2) p.z i.z h.z)
    refl

along-folded : (periodic : Bool) (side : ℕ) (c i : ℤ) → 0 < side → IsImageAlong periodic side c i → folded side i ≡ folded side c
along-folded false side c i l h = ap (folded side) h
along-folded true side c i l h =
    let f = folded_turns side c l in
    folded-unique side i (f.0 +ℤ neg_ℤ h.0) (folded side c) f.1.1 (omega (arith, ints, f.1.0, h.1, turns_less side f.0 h.0))

covers_along-image : (periodic : Bool) (side : ℕ) (c i : ℤ) (x : ℕ) → 0 < side → IsImageAlong periodic side c i → covers_along side i x ≡ covers_along side c x
covers_along-image periodic side c i x l h =
    rw (along-folded periodic side c i l h, along-folded periodic side (c +ℤ pos 1) (i +ℤ pos 1) l (along-plus periodic side c i (pos 1) h)) refl

covers-image : (shape : Shape) (p i : P3) (s : Site) → HasSides shape → IsImage shape p i → covers shape i s ≡ covers shape p s
covers-image shape p i s sides h =
    rw (covers_along-image (is_periodic shape 0) (side_of shape 0) p.x i.x s.x (omega (arith, sides.x)) h.x, covers_along-image (is_periodic shape 1) (side_of shape 1) p.y i.y s.y (omega (arith, sides.y)) h.y, covers_along-image (is_periodic shape 2) (side_of shape 2) p.z i.z s.z (omega (arith, sides.z)) h.z)
    refl

newly_covers-image : (shape : Shape) (p i : P3) (dir : Dir) (s : Site) → HasSides shape → IsImage shape p i → newly_covers shape i dir s ≡ newly_covers shape p dir s
newly_covers-image shape p i dir s sides h =
    rw (covers-image shape (plus p (step_of dir)) (plus i (step_of dir)) s sides (IsImage-plus shape p i (step_of dir) h), covers-image shape p i s sides h) refl

-- what a look at the sites tells of an image, it tells of the place
pub face-image : (sites : Sites) (p i : P3) (dir : Dir) (answer : Bool) → HasSides sites.shape → IsImage sites.shape p i
    → (IsTrue answer ↔ ((is_within_walls sites.shape (plus i (step_of dir)) ≡ true) × AreFree sites (newly_covers sites.shape i dir)))
    → IsTrue answer ↔ ((is_within_walls sites.shape (plus p (step_of dir)) ≡ true) × AreFree sites (newly_covers sites.shape p dir))
face-image sites p i dir answer sides h told = (
  λ t. let r = told.0 t in (sym walls ∙ r.0, λ s m e. r.1 s m (newly_covers-image sites.shape p i dir s sides h ∙ e)),
  λ r. told.1 (walls ∙ r.0, λ s m e. r.1 s m (sym (newly_covers-image sites.shape p i dir s sides h) ∙ e)),
)
  where
    there : IsImage sites.shape (plus p (step_of dir)) (plus i (step_of dir))
    there = IsImage-plus sites.shape p i (step_of dir) h

    walls : is_within_walls sites.shape (plus i (step_of dir)) ≡ is_within_walls sites.shape (plus p (step_of dir))
    walls = is_within_walls-image sites.shape (plus p (step_of dir)) (plus i (step_of dir)) there

-- ---- a step and an owner, by an image
pub AreTaken-image : (sites : Sites) (p i : P3) → HasSides sites.shape → IsImage sites.shape p i → AreTaken sites (covers sites.shape p) → AreTaken sites (covers sites.shape i)
AreTaken-image sites p i sides h taken s m e = taken s m (sym (covers-image sites.shape p i s sides h) ∙ e)

pub AreFree-image : (sites : Sites) (p i : P3) (dir : Dir) → HasSides sites.shape → IsImage sites.shape p i → AreFree sites (newly_covers sites.shape p dir)
    → AreFree sites (newly_covers sites.shape i dir)
AreFree-image sites p i dir sides h free s m e = free s m (sym (newly_covers-image sites.shape p i dir s sides h) ∙ e)

pub Shifts-image : (old new : Sites) (p i : P3) (dir : Dir) → HasSides old.shape → IsImage old.shape p i → Shifts old new i dir → Shifts old new p dir
Shifts-image old new p i dir sides h shifts = record {
  shape = shifts.shape;
  sites = λ s m.
      shifts.sites s m
      ∙ ap (λ b. cond b true (cond (covers old.shape i s) false (is_taken old s))) (covers-image old.shape (plus p (step_of dir)) (plus i (step_of dir)) s sides (IsImage-plus old.shape p i (step_of dir) h))
      ∙ ap (λ b. cond (covers old.shape (plus p (step_of dir)) s) true (cond b false (is_taken old s))) (covers-image old.shape p i s sides h);
}

site_of-image : (shape : Shape) (p i : P3) → HasSides shape → IsImage shape p i → site_of shape i ≡ site_of shape p
site_of-image shape p i sides h =
    Site-same _ _
    (along-folded (is_periodic shape 0) (side_of shape 0) p.x i.x (omega (arith, sides.x)) h.x)
    (along-folded (is_periodic shape 1) (side_of shape 1) p.y i.y (omega (arith, sides.y)) h.y)
    (along-folded (is_periodic shape 2) (side_of shape 2) p.z i.z (omega (arith, sides.z)) h.z)

pub SetsOwner-image : (old new : OwnedPlaces) (p i : P3) (owner : Option ℕ) → HasSides old.shape → IsImage old.shape p i → SetsOwner old new i owner → SetsOwner old new p owner
SetsOwner-image old new p i owner sides h set = record {
  shape = set.shape;
  places = λ s m. set.places s m ∙ ap (λ (t : Site). cond (is_same_site t s) owner (owner_of old s)) (site_of-image old.shape p i sides h);
}

-- ---- sites of places one step away
pub folded-next : (side : ℕ) (c : ℤ) (x n : ℕ) → 0 < side → x ≡ folded side c → n ≡ next_along side x → n ≡ folded side (c +ℤ pos 1)
folded-next side c x n l e h = h ∙ ap (next_along side) e ∙ sym (folded-up side c l)

pub folded-previous : (side : ℕ) (c : ℤ) (x n : ℕ) → 0 < side → x ≡ folded side c → n ≡ previous_along side x → n ≡ folded side (c +ℤ negsuc 0)
folded-previous side c x n l e h =
    let down : c -ℤ pos 1 ≡ c +ℤ negsuc 0 = omega (arith, ints) in
    h ∙ ap (previous_along side) e ∙ sym (folded-down side c l) ∙ ap (folded side) down

folded-still : (side : ℕ) (c : ℤ) (x : ℕ) → x ≡ folded side c → x ≡ folded side (c +ℤ pos 0)
folded-still side c x e = let still : c ≡ c +ℤ pos 0 = omega (arith, ints) in e ∙ ap (folded side) still

module _ (shape : Shape) (s : Site) (p : P3) (here : s ≡ site_of shape p) (n : ℕ) (d : ℤ) where
  pub site_of-x : n ≡ folded (side_of shape 0) (p.x +ℤ d) → record { x = n; y = s.y; z = s.z } ≡ site_of shape (plus p (record { x = d; y = pos 0; z = pos 0 }))
  site_of-x h = Site-same _ _ h (folded-still (side_of shape 1) p.y s.y (ap (λ (t : Site). t.y) here)) (folded-still (side_of shape 2) p.z s.z (ap (λ (t : Site). t.z) here))

  pub site_of-y : n ≡ folded (side_of shape 1) (p.y +ℤ d) → record { x = s.x; y = n; z = s.z } ≡ site_of shape (plus p (record { x = pos 0; y = d; z = pos 0 }))
  site_of-y h = Site-same _ _ (folded-still (side_of shape 0) p.x s.x (ap (λ (t : Site). t.x) here)) h (folded-still (side_of shape 2) p.z s.z (ap (λ (t : Site). t.z) here))

  pub site_of-z : n ≡ folded (side_of shape 2) (p.z +ℤ d) → record { x = s.x; y = s.y; z = n } ≡ site_of shape (plus p (record { x = pos 0; y = pos 0; z = d }))
  site_of-z h = Site-same _ _ (folded-still (side_of shape 0) p.x s.x (ap (λ (t : Site). t.x) here)) (folded-still (side_of shape 1) p.y s.y (ap (λ (t : Site). t.y) here)) h
