-- Which monomer stands at an offset from another: the places of a box tell it, since places that differ by whole sides
-- have one site, and monomers do not overlap.
use Rattle.std.proofs.Common.{◌≡◌, ◌≢◌, ℕ, ◌+◌, ◌<◌, ◌≤◌, ⊎_elim, Bool, true, false, ◌&&◌, cond, length, Option, None, Some, refl, sym, ap, subst, ◌∙◌, arith, ℤ, pos, negsuc, neg_ℤ, ◌+ℤ◌, ◌-ℤ◌, ◌*ℤ◌, nat_abs, nat_le, IfSome}
use Rattle.std.specs.Int.{int_rem_euclid}
use Rattle.std.proofs.lemmas.Int.{ints}
use Rattle.std.proofs.lemmas.Bool.{and_from, cases_eq, leb-true}
use Rattle.std.proofs.Math.IntN.{*ℤ_comm}
use Rattle.bfm_base.specs.declared.place.P3.{P3}
use Rattle.bfm_base.specs.declared.place.Shape.{Shape}
use Rattle.bfm_base.specs.Place.{extent_of}
use Rattle.bfm_geom.specs.Difference.{IsBox, IsNearest, IsSide, is_periodic, minus, overlaps, plus, side_of, wrapped, wrapped_along}
use Rattle.bfm_geom.specs.Walls.{is_within_walls, is_within_walls_along}
use Rattle.bfm_geom.proofs.IntegerLemmas.{*ℤ-neg_ℤ, +ℤ-*ℤ}
use Rattle.bfm_geom.proofs.DifferenceLemmas.{IsWrappedAlong-unique, P3-same, wrapped_along-is}
use Rattle.packed_lattice.specs.declared.site.Site.{Site}
use Rattle.packed_lattice.specs.Sites.{IsSite, folded, is_same_site, site_of}
use Rattle.packed_lattice.specs.Owners.{IsUnowned, OwnedPlaces, SetsOwner, owner_at, owner_of}
use Rattle.packed_lattice.proofs.FoldLemmas.{folded-unique, folded_turns}
use Rattle.packed_lattice.proofs.PackingLemmas.{Site-same, is_same_site-cases}
use Rattle.bfm_world.specs.Configuration.{Configuration, IsValid, position_of}
use Rattle.bfm_world.specs.Sweeping.{IsImage, IsImageAlong}
use Rattle.cluster_stats.specs.Places.{AreOwners, home_site, vector_to}

-- some turns less others
turns_less : (side : ℕ) (j k : ℤ) → (j +ℤ neg_ℤ k) *ℤ pos side ≡ j *ℤ pos side -ℤ k *ℤ pos side
turns_less side j k = omega (arith, ints, +ℤ-*ℤ j (neg_ℤ k) (pos side), *ℤ_comm (neg_ℤ k) (pos side), *ℤ_comm k (pos side), *ℤ-neg_ℤ (pos side) k)

-- between walls nothing is folded
folded-walled : (side : ℕ) (c : ℤ) → is_within_walls_along false side c ≡ true → pos (folded side c) ≡ c
folded-walled side (pos c) h =
    let l : c + 2 ≤ side = leb-true (c + 2) side h in
    ap pos (folded-unique side (pos c) (pos 0) c (omega arith) (omega (arith, ints)))
folded-walled side (negsuc c) h = cc

-- Where the place at a short offset o from c folds to what d folds to, the wrapped difference from c to d is o.
wrapped-same_fold : (periodic : Bool) (side : ℕ) (c d o : ℤ) → IsSide side → nat_abs o ≤ 2 → is_within_walls_along periodic side (c +ℤ o) ≡ true
    → is_within_walls_along periodic side d ≡ true → folded side (c +ℤ o) ≡ folded side d → wrapped_along periodic side (d -ℤ c) ≡ o
wrapped-same_fold false side c d o h l p q e = omega (arith, ints, folded-walled side (c +ℤ o) p, folded-walled side d q, e)
wrapped-same_fold true side c d o h l p q e =
    let f = folded_turns side (c +ℤ o) (omega (arith, h)) in
    let g = folded_turns side d (omega (arith, h)) in
    let turn : o ≡ (d -ℤ c) +ℤ (g.0 +ℤ neg_ℤ f.0) *ℤ pos side = omega (arith, ints, f.1.0, g.1.0, e, turns_less side g.0 f.0) in
    let near : IsNearest side (d -ℤ c) o = record { turns = (g.0 +ℤ neg_ℤ f.0, turn); above = omega (arith, ints, h); below = omega (arith, ints, h) } in
    IsWrappedAlong-unique true side (d -ℤ c) _ o (wrapped_along-is true side (d -ℤ c) (omega (arith, h))) near

-- And where it is, the two fold to one coordinate, and the place is within the walls as d is.
same_fold-wrapped : (periodic : Bool) (side : ℕ) (c d o : ℤ) → IsSide side → is_within_walls_along periodic side d ≡ true → wrapped_along periodic side (d -ℤ c) ≡ o
    → (is_within_walls_along periodic side (c +ℤ o) ≡ true) × (folded side (c +ℤ o) ≡ folded side d)
same_fold-wrapped false side c d o h q e =
    let same : d ≡ c +ℤ o = omega (arith, ints, e) in
    (subst (λ n. is_within_walls_along false side n ≡ true) same q, ap (folded side) (sym same))
same_fold-wrapped true side c d o h q e =
    let g = folded_turns side d (omega (arith, h)) in
    let near : IsNearest side (d -ℤ c) o = subst (IsNearest side (d -ℤ c)) e (wrapped_along-is true side (d -ℤ c) (omega (arith, h))) in
    (refl, folded-unique side (c +ℤ o) (g.0 +ℤ neg_ℤ near.turns.0) (folded side d) g.1.1 (omega (arith, ints, g.1.0, near.turns.1, turns_less side g.0 near.turns.0)))

and_three : (x y z : Bool) → (x && y && z) ≡ true → (x ≡ true) × (y ≡ true) × (z ≡ true)
and_three true true true h = (refl, refl, refl)
and_three true true false h = cc
and_three true false z h = cc
and_three false y z h = cc

all_three : (x y z : Bool) → x ≡ true → y ≡ true → z ≡ true → (x && y && z) ≡ true
all_three x y z p q r = and_from (x && y) z (and_from x y p q) r

pub site_within : (shape : Shape) (p : P3) → IsBox shape → IsSite shape (site_of shape p)
site_within shape p box = record {
  x = (folded_turns (side_of shape 0) p.x (omega (arith, box.sides.x))).1.1;
  y = (folded_turns (side_of shape 1) p.y (omega (arith, box.sides.y))).1.1;
  z = (folded_turns (side_of shape 2) p.z (omega (arith, box.sides.z))).1.1;
}

-- the same in three dimensions
wrapped-same_site : (shape : Shape) (p q o : P3) → IsBox shape → extent_of o ≤ 2 → is_within_walls shape (plus p o) ≡ true → is_within_walls shape q ≡ true
    → site_of shape (plus p o) ≡ site_of shape q → wrapped shape (minus q p) ≡ o
wrapped-same_site shape p q o box l a b e =
    let i = and_three _ _ _ a in
    let j = and_three _ _ _ b in
    P3-same _ o
    (wrapped-same_fold (is_periodic shape 0) (side_of shape 0) p.x q.x o.x box.sides.x (omega (arith, l)) i.0 j.0 (ap (λ (s : Site). s.x) e))
    (wrapped-same_fold (is_periodic shape 1) (side_of shape 1) p.y q.y o.y box.sides.y (omega (arith, l)) i.1 j.1 (ap (λ (s : Site). s.y) e))
    (wrapped-same_fold (is_periodic shape 2) (side_of shape 2) p.z q.z o.z box.sides.z (omega (arith, l)) i.2 j.2 (ap (λ (s : Site). s.z) e))

same_site-wrapped : (shape : Shape) (p q o : P3) → IsBox shape → is_within_walls shape q ≡ true → wrapped shape (minus q p) ≡ o
    → (is_within_walls shape (plus p o) ≡ true) × (site_of shape (plus p o) ≡ site_of shape q)
same_site-wrapped shape p q o box b e =
    let j = and_three _ _ _ b in
    let x = same_fold-wrapped (is_periodic shape 0) (side_of shape 0) p.x q.x o.x box.sides.x j.0 (ap (λ (v : P3). v.x) e) in
    let y = same_fold-wrapped (is_periodic shape 1) (side_of shape 1) p.y q.y o.y box.sides.y j.1 (ap (λ (v : P3). v.y) e) in
    let z = same_fold-wrapped (is_periodic shape 2) (side_of shape 2) p.z q.z o.z box.sides.z j.2 (ap (λ (v : P3). v.z) e) in
    (all_three _ _ _ x.0 y.0 z.0, Site-same _ _ x.1 y.1 z.1)

-- a place and its image lead to one site
image_along : (periodic : Bool) (side : ℕ) (c home o : ℤ) → 0 < side → IsImageAlong periodic side c home
    → (is_within_walls_along periodic side (home +ℤ o) ≡ is_within_walls_along periodic side (c +ℤ o)) × (folded side (home +ℤ o) ≡ folded side (c +ℤ o))
image_along false side c home o h e = (ap (λ n. is_within_walls_along false side (n +ℤ o)) e, ap (λ n. folded side (n +ℤ o)) e)
image_along true side c home o h e =
    let f = folded_turns side (c +ℤ o) h in
    (refl, folded-unique side (home +ℤ o) (f.0 +ℤ neg_ℤ e.0) (folded side (c +ℤ o)) f.1.1 (omega (arith, ints, f.1.0, e.1, turns_less side f.0 e.0)))

-- a place whose coordinates are images of those of another is its image
pub IsImage-from : (shape same : Shape) (p image : P3) (a b c x y z : ℤ) → same ≡ shape → a ≡ p.x → b ≡ p.y → c ≡ p.z → image.x ≡ x → image.y ≡ y → image.z ≡ z
    → IsImageAlong (is_periodic same 0) (side_of same 0) a x → IsImageAlong (is_periodic same 1) (side_of same 1) b y → IsImageAlong (is_periodic same 2) (side_of same 2) c z → IsImage shape p image
IsImage-from shape same p image a b c x y z box d e f g h i j k l =
    subst (λ (s : Shape). IsImage s p image) box record {
      x = subst (λ n. IsImageAlong (is_periodic same 0) (side_of same 0) n image.x) d (subst (IsImageAlong (is_periodic same 0) (side_of same 0) a) (sym g) j);
      y = subst (λ n. IsImageAlong (is_periodic same 1) (side_of same 1) n image.y) e (subst (IsImageAlong (is_periodic same 1) (side_of same 1) b) (sym h) k);
      z = subst (λ n. IsImageAlong (is_periodic same 2) (side_of same 2) n image.z) f (subst (IsImageAlong (is_periodic same 2) (side_of same 2) c) (sym i) l);
    }

-- a remainder of equal numbers
pub remainder-same : (r d e s t : ℤ) → r ≡ int_rem_euclid d s → d ≡ e → s ≡ t → r ≡ int_rem_euclid e t
remainder-same r d e s t h a b = h ∙ (ap (λ n. int_rem_euclid n s) a ∙ ap (int_rem_euclid e) b)

-- so the same stands at an offset from either
pub owner_at-image : (places : OwnedPlaces) (shape : Shape) (p home o : P3) → places.shape ≡ shape → IsBox shape → IsImage shape p home → owner_at places (plus home o) ≡ owner_at places (plus p o)
owner_at-image places shape p home o same box image =
    let look : (q : P3) → owner_at places q ≡ cond (is_within_walls shape q) (owner_of places (site_of shape q)) None =
    λ q. ap (λ (s : Shape). cond (is_within_walls s q) (owner_of places (site_of s q)) None) same in
    let x = image_along (is_periodic shape 0) (side_of shape 0) p.x home.x o.x (omega (arith, box.sides.x)) image.x in
    let y = image_along (is_periodic shape 1) (side_of shape 1) p.y home.y o.y (omega (arith, box.sides.y)) image.y in
    let z = image_along (is_periodic shape 2) (side_of shape 2) p.z home.z o.z (omega (arith, box.sides.z)) image.z in
    let inside : is_within_walls shape (plus home o) ≡ is_within_walls shape (plus p o) =
    ap (λ b. b && is_within_walls_along (is_periodic shape 1) (side_of shape 1) (home.y +ℤ o.y) && is_within_walls_along (is_periodic shape 2) (side_of shape 2) (home.z +ℤ o.z)) x.0
    ∙ (ap (λ b. is_within_walls_along (is_periodic shape 0) (side_of shape 0) (p.x +ℤ o.x) && b && is_within_walls_along (is_periodic shape 2) (side_of shape 2) (home.z +ℤ o.z)) y.0
    ∙ ap (λ b. is_within_walls_along (is_periodic shape 0) (side_of shape 0) (p.x +ℤ o.x) && is_within_walls_along (is_periodic shape 1) (side_of shape 1) (p.y +ℤ o.y) && b) z.0) in
    let site : site_of shape (plus home o) ≡ site_of shape (plus p o) = Site-same _ _ x.1 y.1 z.1 in
    look (plus home o)
    ∙ (ap (λ b. cond b (owner_of places (site_of shape (plus home o))) None) inside
    ∙ (ap (λ (s : Site). cond (is_within_walls shape (plus p o)) (owner_of places s) None) site ∙ sym (look (plus p o))))

-- Monomers whose sites are one overlap.
overlaps-same_site : (shape : Shape) (p q : P3) → IsBox shape → is_within_walls shape p ≡ true → is_within_walls shape q ≡ true → site_of shape p ≡ site_of shape q → overlaps shape p q ≡ true
overlaps-same_site shape p q box a b e =
    let i = and_three _ _ _ a in
    let j = and_three _ _ _ b in
    all_three _ _ _ (along (is_periodic shape 0) (side_of shape 0) p.x q.x box.sides.x i.0 j.0 (ap (λ (s : Site). s.x) e)) (along (is_periodic shape 1) (side_of shape 1) p.y q.y box.sides.y i.1 j.1 (ap (λ (s : Site). s.y) e))
    (along (is_periodic shape 2) (side_of shape 2) p.z q.z box.sides.z i.2 j.2 (ap (λ (s : Site). s.z) e))
  where
    along : (periodic : Bool) (side : ℕ) (c d : ℤ) → IsSide side → is_within_walls_along periodic side c ≡ true → is_within_walls_along periodic side d ≡ true → folded side c ≡ folded side d
        → nat_le (nat_abs (wrapped_along periodic side (d -ℤ c))) 1 ≡ true
    along periodic side c d h m n f =
        let still : c +ℤ pos 0 ≡ c = omega (arith, ints) in
        let nothing : wrapped_along periodic side (d -ℤ c) ≡ pos 0 =
        wrapped-same_fold periodic side c d (pos 0) h (omega (arith, ints)) (subst (λ k. is_within_walls_along periodic side k ≡ true) (sym still) m) n (ap (folded side) still ∙ f) in
        ap (λ k. nat_le (nat_abs k) 1) nothing

module _ (w : Configuration) (valid : IsValid w) where
  inside : (j : ℕ) → j < length w.positions → is_within_walls w.shape (position_of w j) ≡ true
  inside j l = valid.inside j (record { x = pos 0; y = pos 0; z = pos 0 }) l

  -- so each monomer has a site of its own
  homes_differ : (j k : ℕ) → j < k → k < length w.positions → home_site w j ≢ home_site w k
  homes_differ j k l m e = absurd (
      let both = overlaps-same_site w.shape (position_of w j) (position_of w k) valid.box (inside j (omega arith)) (inside k m) e in
      let none = valid.apart j k (record { x = pos 0; y = pos 0; z = pos 0 }) l m in
      cc)

  -- where nobody has a place yet
  pub AreOwners-none : (places : OwnedPlaces) → places.shape ≡ w.shape → IsUnowned places → AreOwners w 0 places
  AreOwners-none places same none = record {
    shape = same;
    owned = λ j l. absurd (omega arith);
    others = λ s i. rw (none s (subst (λ (shape : Shape). IsSite shape s) (sym same) i)) tt;
  }

  -- one monomer more has its place
  pub AreOwners-more : (k : ℕ) (old new : OwnedPlaces) → k < length w.positions → AreOwners w k old → SetsOwner old new (position_of w k) (Some k) → AreOwners w (k + 1) new
  AreOwners-more k old new l a set = record {
    shape = set.shape ∙ a.shape;
    owned = λ j m.
        ⊎_elim
        (λ e. subst (λ q. owner_of new (home_site w q) ≡ Some q) (sym e) (own (home_site w k) (site_within w.shape (position_of w k) valid.box) refl))
        (λ n. other (home_site w j) (site_within w.shape (position_of w j) valid.box) (λ e. homes_differ j k (omega arith) l e) ∙ a.owned j (omega arith))
        (cases_eq j k);
    others = λ s i.
        ⊎_elim
        (λ same. rw (own s i same.1) (omega arith, sym same.1))
        (λ differ. rw (other s i differ.1) (further (owner_of old s) s (a.others s i)))
        (is_same_site-cases (home_site w k) s);
  }
    where
      further : (o : Option ℕ) (s : Site) → IfSome o (λ j. (j < k) × (home_site w j ≡ s)) → IfSome o (λ j. (j < k + 1) × (home_site w j ≡ s))
      further None s h = tt
      further (Some j) s h = (omega (arith, h.0), h.1)

      changed : (s : Site) → IsSite w.shape s → owner_of new s ≡ cond (is_same_site (home_site w k) s) (Some k) (owner_of old s)
      changed s i = subst (λ (shape : Shape). IsSite shape s → owner_of new s ≡ cond (is_same_site (site_of shape (position_of w k)) s) (Some k) (owner_of old s)) a.shape (set.places s) i

      own : (s : Site) → IsSite w.shape s → s ≡ home_site w k → owner_of new s ≡ Some k
      own s i e = changed s i ∙ ⊎_elim (λ same. ap (λ b. cond b (Some k) (owner_of old s)) same.0) (λ differ. absurd (differ.1 e)) (is_same_site-cases (home_site w k) s)

      other : (s : Site) → IsSite w.shape s → s ≢ home_site w k → owner_of new s ≡ owner_of old s
      other s i n = changed s i ∙ ⊎_elim (λ same. absurd (n same.1)) (λ differ. ap (λ b. cond b (Some k) (owner_of old s)) differ.0) (is_same_site-cases (home_site w k) s)

  -- what the places tell of an offset from a monomer
  module _ (places : OwnedPlaces) (owners : AreOwners w (length w.positions) places) (i : ℕ) (o : P3) (short : extent_of o ≤ 2) where
    abbrev pub at_offset : P3
    at_offset = plus (position_of w i) o

    look : owner_at places at_offset ≡ cond (is_within_walls w.shape at_offset) (owner_of places (site_of w.shape at_offset)) None
    look = ap (λ (shape : Shape). cond (is_within_walls shape at_offset) (owner_of places (site_of shape at_offset)) None) owners.shape

    -- who stands there has this difference
    pub owner_at-there : IfSome (owner_at places at_offset) (λ j. (j < length w.positions) × (vector_to w i j ≡ o))
    owner_at-there = rw look (there (is_within_walls w.shape at_offset) refl)
      where
        from : (found : Option ℕ) → is_within_walls w.shape at_offset ≡ true → IfSome found (λ j. (j < length w.positions) × (home_site w j ≡ site_of w.shape at_offset))
            → IfSome found (λ j. (j < length w.positions) × (vector_to w i j ≡ o))
        from None within h = tt
        from (Some j) within h = (h.0, wrapped-same_site w.shape (position_of w i) (position_of w j) o valid.box short within (inside j h.0) (sym h.1))

        there : (b : Bool) → is_within_walls w.shape at_offset ≡ b → IfSome (cond b (owner_of places (site_of w.shape at_offset)) None) (λ j. (j < length w.positions) × (vector_to w i j ≡ o))
        there true e = from (owner_of places (site_of w.shape at_offset)) e (owners.others (site_of w.shape at_offset) (site_within w.shape at_offset valid.box))
        there false e = tt

    -- and who has this difference stands there
    pub owner_at-all : (j : ℕ) → j < length w.positions → vector_to w i j ≡ o → owner_at places at_offset ≡ Some j
    owner_at-all j l e =
        let same = same_site-wrapped w.shape (position_of w i) (position_of w j) o valid.box (inside j l) e in
        look ∙ ap (λ b. cond b (owner_of places (site_of w.shape at_offset)) None) same.0 ∙ ap (owner_of places) same.1 ∙ owners.owned j l
