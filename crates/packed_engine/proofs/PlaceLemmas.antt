-- Who stands at an offset from a place: the sites of a box tell it, since places that differ by whole sides have one
-- site, and monomers do not overlap.
use Rattle.std.proofs.Common.{◌≡◌, ℕ, ◌+◌, ◌≤◌, Bool, true, false, ◌&&◌, refl, sym, ap, subst, arith, ℤ, pos, negsuc, neg_ℤ, ◌+ℤ◌, ◌-ℤ◌, ◌*ℤ◌, nat_abs}
use Rattle.std.proofs.lemmas.Int.{ints}
use Rattle.std.proofs.lemmas.Bool.{and_from, leb-true}
use Rattle.std.proofs.Math.IntN.{*ℤ_comm}
use Rattle.bfm_base.specs.declared.place.P3.{P3}
use Rattle.bfm_base.specs.declared.place.Shape.{Shape}
use Rattle.bfm_base.specs.Place.{extent_of}
use Rattle.bfm_geom.specs.Difference.{IsBox, IsNearest, IsSide, is_periodic, minus, plus, side_of, wrapped, wrapped_along}
use Rattle.bfm_geom.specs.Walls.{is_within_walls, is_within_walls_along}
use Rattle.bfm_geom.proofs.IntegerLemmas.{*ℤ-neg_ℤ, +ℤ-*ℤ}
use Rattle.bfm_geom.proofs.DifferenceLemmas.{IsWrappedAlong-unique, P3-same, wrapped_along-is}
use Rattle.packed_lattice.specs.declared.site.Site.{Site}
use Rattle.packed_lattice.specs.Sites.{IsSite, folded, site_of}
use Rattle.packed_lattice.proofs.FoldLemmas.{folded-unique, folded_turns}
use Rattle.packed_lattice.proofs.PackingLemmas.{Site-same}

-- some turns less others
pub turns_less : (side : ℕ) (j k : ℤ) → (j +ℤ neg_ℤ k) *ℤ pos side ≡ j *ℤ pos side -ℤ k *ℤ pos side
turns_less side j k = omega (arith, ints, +ℤ-*ℤ j (neg_ℤ k) (pos side), *ℤ_comm (neg_ℤ k) (pos side), *ℤ_comm k (pos side), *ℤ-neg_ℤ (pos side) k)

-- between walls nothing is folded
pub folded-walled : (side : ℕ) (c : ℤ) → is_within_walls_along false side c ≡ true → pos (folded side c) ≡ c
folded-walled side (pos c) h =
    let l : c + 2 ≤ side = leb-true (c + 2) side h in
    ap pos (folded-unique side (pos c) (pos 0) c (omega arith) (omega (arith, ints)))
folded-walled side (negsuc c) h = cc

-- Where the place at a short offset o from c folds to what d folds to, the wrapped difference from c to d is o.
wrapped-same_fold : (periodic : Bool) (side : ℕ) (c d o : ℤ) → IsSide side → nat_abs o ≤ 2 → is_within_walls_along periodic side (c +ℤ o) ≡ true
    → is_within_walls_along periodic side d ≡ true → folded side (c +ℤ o) ≡ folded side d → wrapped_along periodic side (d -ℤ c) ≡ o
wrapped-same_fold false side c d o h l p q e = omega (arith, ints, folded-walled side (c +ℤ o) p, folded-walled side d q, e)
wrapped-same_fold true side c d o h l p q e =
    let f = folded_turns side (c +ℤ o) (omega (arith, h)) in
    let g = folded_turns side d (omega (arith, h)) in
    let turn : o ≡ (d -ℤ c) +ℤ (g.0 +ℤ neg_ℤ f.0) *ℤ pos side = omega (arith, ints, f.1.0, g.1.0, e, turns_less side g.0 f.0) in
    let near : IsNearest side (d -ℤ c) o = record { turns = (g.0 +ℤ neg_ℤ f.0, turn); above = omega (arith, ints, h); below = omega (arith, ints, h) } in
    IsWrappedAlong-unique true side (d -ℤ c) _ o (wrapped_along-is true side (d -ℤ c) (omega (arith, h))) near

-- And where it is, the two fold to one coordinate, and the place is within the walls as d is.
same_fold-wrapped : (periodic : Bool) (side : ℕ) (c d o : ℤ) → IsSide side → is_within_walls_along periodic side d ≡ true → wrapped_along periodic side (d -ℤ c) ≡ o
    → (is_within_walls_along periodic side (c +ℤ o) ≡ true) × (folded side (c +ℤ o) ≡ folded side d)
same_fold-wrapped false side c d o h q e =
    let same : d ≡ c +ℤ o = omega (arith, ints, e) in
    (subst (λ n. is_within_walls_along false side n ≡ true) same q, ap (folded side) (sym same))
same_fold-wrapped true side c d o h q e =
    let g = folded_turns side d (omega (arith, h)) in
    let near : IsNearest side (d -ℤ c) o = subst (IsNearest side (d -ℤ c)) e (wrapped_along-is true side (d -ℤ c) (omega (arith, h))) in
    (refl, folded-unique side (c +ℤ o) (g.0 +ℤ neg_ℤ near.turns.0) (folded side d) g.1.1 (omega (arith, ints, g.1.0, near.turns.1, turns_less side g.0 near.turns.0)))

pub and_three : (x y z : Bool) → (x && y && z) ≡ true → (x ≡ true) × (y ≡ true) × (z ≡ true)
and_three true true true h = (refl, refl, refl)
and_three true true false h = cc
and_three true false z h = cc
and_three false y z h = cc

all_three : (x y z : Bool) → x ≡ true → y ≡ true → z ≡ true → (x && y && z) ≡ true
all_three x y z p q r = and_from (x && y) z (and_from x y p q) r

-- a place folds to a site of the box
pub site_within : (shape : Shape) (p : P3) → IsBox shape → IsSite shape (site_of shape p)
site_within shape p box = record {
  x = (folded_turns (side_of shape 0) p.x (omega (arith, box.sides.x))).1.1;
  y = (folded_turns (side_of shape 1) p.y (omega (arith, box.sides.y))).1.1;
  z = (folded_turns (side_of shape 2) p.z (omega (arith, box.sides.z))).1.1;
}

-- Where the place at a short offset o from p has the site of q, the wrapped difference from p to q is o.
pub wrapped-same_site : (shape : Shape) (p q o : P3) → IsBox shape → extent_of o ≤ 2 → is_within_walls shape (plus p o) ≡ true → is_within_walls shape q ≡ true
    → site_of shape (plus p o) ≡ site_of shape q → wrapped shape (minus q p) ≡ o
wrapped-same_site shape p q o box l a b e =
    let i = and_three _ _ _ a in
    let j = and_three _ _ _ b in
    P3-same _ o
    (wrapped-same_fold (is_periodic shape 0) (side_of shape 0) p.x q.x o.x box.sides.x (omega (arith, l)) i.0 j.0 (ap (λ (s : Site). s.x) e))
    (wrapped-same_fold (is_periodic shape 1) (side_of shape 1) p.y q.y o.y box.sides.y (omega (arith, l)) i.1 j.1 (ap (λ (s : Site). s.y) e))
    (wrapped-same_fold (is_periodic shape 2) (side_of shape 2) p.z q.z o.z box.sides.z (omega (arith, l)) i.2 j.2 (ap (λ (s : Site). s.z) e))

-- And where it is, the two have one site, and the place is within the walls as q is.
pub same_site-wrapped : (shape : Shape) (p q o : P3) → IsBox shape → is_within_walls shape q ≡ true → wrapped shape (minus q p) ≡ o
    → (is_within_walls shape (plus p o) ≡ true) × (site_of shape (plus p o) ≡ site_of shape q)
same_site-wrapped shape p q o box b e =
    let j = and_three _ _ _ b in
    let x = same_fold-wrapped (is_periodic shape 0) (side_of shape 0) p.x q.x o.x box.sides.x j.0 (ap (λ (v : P3). v.x) e) in
    let y = same_fold-wrapped (is_periodic shape 1) (side_of shape 1) p.y q.y o.y box.sides.y j.1 (ap (λ (v : P3). v.y) e) in
    let z = same_fold-wrapped (is_periodic shape 2) (side_of shape 2) p.z q.z o.z box.sides.z j.2 (ap (λ (v : P3). v.z) e) in
    (all_three _ _ _ x.0 y.0 z.0, Site-same _ _ x.1 y.1 z.1)
