-- Two monomers overlap exactly where their cubes share a site, so a lattice tells whether a monomer overlaps others.
use Rattle.std.proofs.Common.{◌≡◌, ℕ, zero, suc, ◌+◌, ◌<◌, ◌≤◌, Bool, true, false, not, ◌&&◌, ◌||◌, ◌⊎◌, ◌↔◌, inl, inr, cond, eqb, List, [], ◌∷◌, ◌++◌, length, get_or, take, drop, add-one, refl, sym, ◌∙◌, ap, subst, arith, ℤ, pos, negsuc, neg_ℤ, ◌+ℤ◌, ◌-ℤ◌, ◌*ℤ◌, nat_abs}
use Rattle.std.proofs.lemmas.Int.{ints}
use Rattle.std.specs.List.{All, AllByRecursion, AllPairs, list_all, list_any, remove}
use Rattle.std.proofs.Math.ListN.{set}
use Rattle.std.proofs.Math.Seq.{drop-cons}
use Rattle.std.proofs.lemmas.Bool.{both_ways, cases_Bool, cases_lt, or_cases, or_from, or_left, or_parts, or_right, eqb-true, eq-eqb, false_from_ne_true, leb-true, le-leb, not-true, not_from_false, and_parts, and_from}
use Rattle.std.proofs.lemmas.List.{drop-set, get_or_default, take-append-drop, take-set}
use Rattle.std.proofs.lemmas.List.Edits.{get_or-remove_above, get_or-remove_below, length-remove}
use Rattle.std.proofs.lemmas.List.Elements.{recursion_from_All}
use Rattle.std.proofs.lemmas.List.Folds.{list_any-append}
use Rattle.std.proofs.lemmas.List.Sums.{list_all-from_AllPass}
use Rattle.std.proofs.Math.IntN.{*ℤ_comm}
use Rattle.bfm_base.specs.declared.place.P3.{P3}
use Rattle.bfm_base.specs.declared.place.Dir.{Dir}
use Rattle.bfm_base.specs.declared.place.Shape.{Shape}
use Rattle.bfm_base.specs.Direction.{step_of}
use Rattle.bfm_geom.specs.Difference.{IsBox, IsNearest, IsSide, is_periodic, overlaps, plus, side_of, wrapped_along}
use Rattle.bfm_geom.specs.Walls.{is_within_walls, is_within_walls_along}
use Rattle.bfm_geom.proofs.IntegerLemmas.{*ℤ-neg_ℤ, *ℤ-+ℤ}
use Rattle.bfm_geom.proofs.DifferenceLemmas.{IsWrappedAlong-unique, overlaps-symmetric, wrapped_along-is}
use Rattle.packed_lattice.specs.declared.site.Site.{Site}
use Rattle.packed_lattice.specs.Sites.{AreFree, AreTaken, IsEmpty, IsSite, Marks, Shifts, Sites, covers, covers_along, folded, is_taken, newly_covers}
use Rattle.packed_lattice.specs.Cover.{Covers, is_covered}
use Rattle.packed_lattice.proofs.FoldLemmas.{folded-unique, folded_turns}

-- a multiple of the side, by parts
turns-+ℤ : (side : ℕ) (j k : ℤ) → (j +ℤ k) *ℤ pos side ≡ j *ℤ pos side +ℤ k *ℤ pos side
turns-+ℤ side j k = omega (arith, ints, *ℤ_comm (j +ℤ k) (pos side), *ℤ_comm j (pos side), *ℤ_comm k (pos side), *ℤ-+ℤ (pos side) j k)

turns-neg_ℤ : (side : ℕ) (k : ℤ) → neg_ℤ k *ℤ pos side ≡ neg_ℤ (k *ℤ pos side)
turns-neg_ℤ side k = *ℤ_comm (neg_ℤ k) (pos side) ∙ *ℤ-neg_ℤ (pos side) k ∙ ap neg_ℤ (*ℤ_comm (pos side) k)

-- coordinates that differ by whole sides fold to one, and coordinates that fold to one differ by whole sides
folded-turned : (side : ℕ) (b c k : ℤ) → 0 < side → b ≡ c +ℤ k *ℤ pos side → folded side b ≡ folded side c
folded-turned side b c k h e =
    let f = folded_turns side c h in
    folded-unique side b (f.0 +ℤ neg_ℤ k) (folded side c) f.1.1 (omega (arith, ints, f.1.0, e, turns-+ℤ side f.0 (neg_ℤ k), turns-neg_ℤ side k))

turned-folded : (side : ℕ) (b c : ℤ) → 0 < side → folded side b ≡ folded side c → (k : ℤ) × (b ≡ c +ℤ k *ℤ pos side)
turned-folded side b c h e =
    let f = folded_turns side b h in
    let g = folded_turns side c h in
    (g.0 +ℤ neg_ℤ f.0, omega (arith, ints, f.1.0, g.1.0, e, turns-+ℤ side g.0 (neg_ℤ f.0), turns-neg_ℤ side f.0))

-- the wrapped form of a difference differs from it by whole sides, by none along a walled axis
wrapped_along-turns : (periodic : Bool) (side : ℕ) (d : ℤ) → 0 < side → (k : ℤ) × (wrapped_along periodic side d ≡ d +ℤ k *ℤ pos side)
wrapped_along-turns true side d h = (wrapped_along-is true side d h).turns
wrapped_along-turns false side d h = (pos 0, omega (arith, ints))

-- both monomers cover a site along the axis
abbrev SharesAlong : ℕ → ℤ → ℤ → Type 0
SharesAlong side a b = (x : ℕ) × (x < side) × (covers_along side a x ≡ true) × (covers_along side b x ≡ true)

near_own : (side : ℕ) (c : ℤ) (x : ℕ) → x ≡ folded side c → covers_along side c x ≡ true
near_own side c x e = or_left (eqb x (folded side c)) (eqb x (folded side (c +ℤ pos 1))) (eq-eqb x (folded side c) e)

near_next : (side : ℕ) (c : ℤ) (x : ℕ) → x ≡ folded side (c +ℤ pos 1) → covers_along side c x ≡ true
near_next side c x e = or_right (eqb x (folded side c)) (eqb x (folded side (c +ℤ pos 1))) (eq-eqb x (folded side (c +ℤ pos 1)) e)

-- one of the numbers that are at most 1 in absolute value
small-cases : (w : ℤ) → nat_abs w ≤ 1 → (w ≡ pos 0) ⊎ ((w ≡ pos 1) ⊎ (w ≡ negsuc 0))
small-cases (pos zero) h = inl refl
small-cases (pos (suc zero)) h = inr (inl refl)
small-cases (pos (suc (suc n))) h = absurd (omega (arith, ints))
small-cases (negsuc zero) h = inr (inr refl)
small-cases (negsuc (suc n)) h = absurd (omega (arith, ints))

-- monomers whose wrapped difference is at most 1 cover a site both
shares_from_near : (periodic : Bool) (side : ℕ) (a b : ℤ) → 0 < side → nat_abs (wrapped_along periodic side (b -ℤ a)) ≤ 1 → SharesAlong side a b
shares_from_near periodic side a b h l =
    let w = wrapped_along-turns periodic side (b -ℤ a) h in
    let at : (c : ℤ) → folded side c < side = λ c. (folded_turns side c h).1.1 in
    let back = turns-neg_ℤ side w.0 in
    elim (small-cases (wrapped_along periodic side (b -ℤ a)) l) [
      | inl e ↦ (folded side a, at a, near_own side a _ refl, near_own side b _ (folded-turned side a b w.0 h (omega (arith, ints, w.1, e))))
      | inr r ↦ elim r [
        | inl e ↦ (folded side b, at b, near_next side a _ (folded-turned side b (a +ℤ pos 1) (neg_ℤ w.0) h (omega (arith, ints, w.1, e, back))), near_own side b _ refl)
        | inr e ↦ (folded side a, at a, near_own side a _ refl, near_next side b _ (folded-turned side a (b +ℤ pos 1) w.0 h (omega (arith, ints, w.1, e))))
      ]
    ]

-- a number at most 1 that differs from a difference by whole sides is its wrapped form along a periodic axis
small-wrapped : (side : ℕ) (d v k : ℤ) → IsSide side → nat_abs v ≤ 1 → v ≡ d +ℤ k *ℤ pos side → nat_abs (wrapped_along true side d) ≤ 1
small-wrapped side d v k h l e =
    let near : IsNearest side d v = record { turns = (k, e); above = omega (arith, ints, h); below = omega (arith, ints, h) } in
    let same : wrapped_along true side d ≡ v = IsWrappedAlong-unique true side d _ v (wrapped_along-is true side d (omega (arith, h))) near in
    subst (λ w. nat_abs w ≤ 1) (sym same) l

-- a site that a monomer covers is its own or the next
covers_along-cases : (side : ℕ) (c : ℤ) (x : ℕ) → covers_along side c x ≡ true → (x ≡ folded side c) ⊎ (x ≡ folded side (c +ℤ pos 1))
covers_along-cases side c x h = elim (or_cases (eqb x (folded side c)) (eqb x (folded side (c +ℤ pos 1))) h) [ inl l ↦ inl (eqb-true x (folded side c) l) | inr r ↦ inr (eqb-true x (folded side (c +ℤ pos 1)) r) ]

-- so along a periodic axis a shared site says that the wrapped difference is at most 1
near_around : (side : ℕ) (a b : ℤ) → IsSide side → SharesAlong side a b → nat_abs (wrapped_along true side (b -ℤ a)) ≤ 1
near_around side a b h s =
    let turned : (c d : ℤ) → s.0 ≡ folded side c → s.0 ≡ folded side d → (k : ℤ) × (d ≡ c +ℤ k *ℤ pos side) = λ c d p q. turned-folded side d c (omega (arith, h)) (sym q ∙ p) in
    elim (covers_along-cases side a s.0 s.2) [
      | inl p ↦ elim (covers_along-cases side b s.0 s.3) [
        | inl q ↦ let t = turned a b p q in small-wrapped side (b -ℤ a) (pos 0) (neg_ℤ t.0) h (omega (arith, ints)) (omega (arith, ints, t.1, turns-neg_ℤ side t.0))
        | inr q ↦ let t = turned a (b +ℤ pos 1) p q in small-wrapped side (b -ℤ a) (negsuc 0) (neg_ℤ t.0) h (omega (arith, ints)) (omega (arith, ints, t.1, turns-neg_ℤ side t.0))
      ]
      | inr p ↦ elim (covers_along-cases side b s.0 s.3) [
        | inl q ↦ let t = turned (a +ℤ pos 1) b p q in small-wrapped side (b -ℤ a) (pos 1) (neg_ℤ t.0) h (omega (arith, ints)) (omega (arith, ints, t.1, turns-neg_ℤ side t.0))
        | inr q ↦ let t = turned (a +ℤ pos 1) (b +ℤ pos 1) p q in small-wrapped side (b -ℤ a) (pos 0) (neg_ℤ t.0) h (omega (arith, ints)) (omega (arith, ints, t.1, turns-neg_ℤ side t.0))
      ]
    ]

-- between walls nothing is folded
folded-walled : (side : ℕ) (c : ℤ) → is_within_walls_along false side c ≡ true → (pos (folded side c) ≡ c) × (pos (folded side (c +ℤ pos 1)) ≡ c +ℤ pos 1)
folded-walled side (pos c) h =
    let l : c + 2 ≤ side = leb-true (c + 2) side h in (
      ap pos (folded-unique side (pos c) (pos 0) c (omega arith) (omega (arith, ints))),
      ap pos (folded-unique side (pos c +ℤ pos 1) (pos 0) (c + 1) (omega arith) (omega (arith, ints))),
    )
folded-walled side (negsuc c) h = cc

near_walled : (side : ℕ) (a b : ℤ) → is_within_walls_along false side a ≡ true → is_within_walls_along false side b ≡ true → SharesAlong side a b → nat_abs (b -ℤ a) ≤ 1
near_walled side a b p q s =
    let f = folded-walled side a p in
    let g = folded-walled side b q in
    elim (covers_along-cases side a s.0 s.2) [
      | inl m ↦ elim (covers_along-cases side b s.0 s.3) [ inl n ↦ omega (arith, ints, f, g) | inr n ↦ omega (arith, ints, f, g) ]
      | inr m ↦ elim (covers_along-cases side b s.0 s.3) [ inl n ↦ omega (arith, ints, f, g) | inr n ↦ omega (arith, ints, f, g) ]
    ]

near_from_shares : (periodic : Bool) (side : ℕ) (a b : ℤ) → IsSide side → is_within_walls_along periodic side a ≡ true → is_within_walls_along periodic side b ≡ true
    → SharesAlong side a b → nat_abs (wrapped_along periodic side (b -ℤ a)) ≤ 1
near_from_shares true side a b h p q s = near_around side a b h s
near_from_shares false side a b h p q s = near_walled side a b p q s

-- two monomers share a site of the box
abbrev pub ShareSite : Shape → P3 → P3 → Type 0
ShareSite shape a b = (s : Site) × IsSite shape s × (covers shape a s ≡ true) × (covers shape b s ≡ true)

and_three : (x y z : Bool) → (x && y && z) ≡ true → (x ≡ true) × (y ≡ true) × (z ≡ true)
and_three true true true h = (refl, refl, refl)
and_three true true false h = cc
and_three true false z h = cc
and_three false y z h = cc

all_three : (x y z : Bool) → x ≡ true → y ≡ true → z ≡ true → (x && y && z) ≡ true
all_three x y z p q r = and_from (x && y) z (and_from x y p q) r

-- they overlap exactly where they do
pub overlaps-share : (shape : Shape) (a b : P3) → IsBox shape → is_within_walls shape a ≡ true → is_within_walls shape b ≡ true → (overlaps shape a b ≡ true) ↔ ShareSite shape a b
overlaps-share shape a b box p q = (
  λ h.
      let n = and_three _ _ _ h in
      let x = shares_from_near (is_periodic shape 0) (side_of shape 0) a.x b.x (omega (arith, box.sides.x)) (leb-true _ 1 n.0) in
      let y = shares_from_near (is_periodic shape 1) (side_of shape 1) a.y b.y (omega (arith, box.sides.y)) (leb-true _ 1 n.1) in
      let z = shares_from_near (is_periodic shape 2) (side_of shape 2) a.z b.z (omega (arith, box.sides.z)) (leb-true _ 1 n.2) in
      (record { x = x.0; y = y.0; z = z.0 }, record { x = x.1; y = y.1; z = z.1 }, all_three _ _ _ x.2 y.2 z.2, all_three _ _ _ x.3 y.3 z.3),
  λ s.
      let i = and_three _ _ _ p in
      let j = and_three _ _ _ q in
      let c = and_three _ _ _ s.2 in
      let d = and_three _ _ _ s.3 in
      all_three _ _ _
      (le-leb _ 1 (near_from_shares (is_periodic shape 0) (side_of shape 0) a.x b.x box.sides.x i.0 j.0 (s.0.x, s.1.x, c.0, d.0)))
      (le-leb _ 1 (near_from_shares (is_periodic shape 1) (side_of shape 1) a.y b.y box.sides.y i.1 j.1 (s.0.y, s.1.y, c.1, d.1)))
      (le-leb _ 1 (near_from_shares (is_periodic shape 2) (side_of shape 2) a.z b.z box.sides.z i.2 j.2 (s.0.z, s.1.z, c.2, d.2))),
)

-- a monomer at p overlaps none of these
abbrev pub is_clear : Shape → List P3 → P3 → Bool
is_clear shape positions p = list_all (λ q. not (overlaps shape q p)) positions

-- each of them is within the walls
abbrev pub AllInside : Shape → List P3 → Type 0
AllInside shape positions = All (λ q. is_within_walls shape q ≡ true) positions

-- a site that p covers is covered by none that p does not overlap
uncovered : (shape : Shape) (positions : List P3) (p : P3) → IsBox shape → AllByRecursion (λ q. is_within_walls shape q ≡ true) positions → is_within_walls shape p ≡ true → is_clear shape positions p ≡ true
    → (s : Site) → IsSite shape s → covers shape p s ≡ true → is_covered shape positions s ≡ false
uncovered shape [] p box ins inside clear s i c = refl
uncovered shape (q ∷ qs) p box ins inside clear s i c =
    let h = and_parts (not (overlaps shape q p)) (is_clear shape qs p) clear in
    let own : covers shape q s ≡ false = false_from_ne_true (covers shape q s) (λ d. both_ways (overlaps shape q p) (not-true (overlaps shape q p) h.0) ((overlaps-share shape q p box ins.0 inside).1 (s, i, d, c))) in
    or_from (covers shape q s) (is_covered shape qs s) own (uncovered shape qs p box ins.1 inside h.1 s i c)

clear_from_uncovered : (shape : Shape) (positions : List P3) (p : P3) → IsBox shape → AllByRecursion (λ q. is_within_walls shape q ≡ true) positions → is_within_walls shape p ≡ true
    → ((s : Site) → IsSite shape s → covers shape p s ≡ true → is_covered shape positions s ≡ false) → is_clear shape positions p ≡ true
clear_from_uncovered shape [] p box ins inside h = refl
clear_from_uncovered shape (q ∷ qs) p box ins inside h =
    let apart : overlaps shape q p ≡ false = false_from_ne_true (overlaps shape q p) (λ o. let s = (overlaps-share shape q p box ins.0 inside).0 o in both_ways (covers shape q s.0) (or_parts (covers shape q s.0) (is_covered shape qs s.0) (h s.0 s.1 s.3)).0 s.2) in
    and_from (not (overlaps shape q p)) (is_clear shape qs p) (not_from_false (overlaps shape q p) apart)
    (clear_from_uncovered shape qs p box ins.1 inside (λ s i c. (or_parts (covers shape q s) (is_covered shape qs s) (h s i c)).1))

-- where the taken sites are those of monomers, a cube is free exactly where it overlaps none of them
pub AreFree-clear : (positions : List P3) (sites : Sites) (p : P3) → IsBox sites.shape → Covers positions sites → AllInside sites.shape positions → is_within_walls sites.shape p ≡ true
    → AreFree sites (covers sites.shape p) ↔ (is_clear sites.shape positions p ≡ true)
AreFree-clear positions sites p box h ins inside =
    let each = recursion_from_All (λ q. is_within_walls sites.shape q ≡ true) positions ins in (
      λ f. clear_from_uncovered sites.shape positions p box each inside (λ s i c. sym (h s i) ∙ f s i c),
      λ c s i d. h s i ∙ uncovered sites.shape positions p box each inside c s i d,
    )

-- the taken sites of an empty box are those of no monomer
pub Covers-empty : (sites : Sites) → IsEmpty sites → Covers [] sites
Covers-empty sites h = h

-- one more monomer
pub Covers-place : (positions : List P3) (old new : Sites) (p : P3) → Covers positions old → Marks old new (covers old.shape p) true → Covers (positions ++ p ∷ []) new
Covers-place positions old new p h m = λ s i.
    let j : IsSite old.shape s = subst (λ (shape : Shape). IsSite shape s) m.shape i in
    m.sites s j ∙ ap (cond (covers old.shape p s) true) (h s j) ∙ one_more (covers old.shape p s) (is_covered old.shape positions s)
    ∙ sym (list_any-append (λ q. covers old.shape q s) positions (p ∷ []))
    ∙ ap (λ (shape : Shape). is_covered shape (positions ++ p ∷ []) s) (sym m.shape)
  where
    one_more : (c t : Bool) → cond c true t ≡ (t || (c || false))
    one_more c t = grind arith

-- the covered sites of a list round one place of it
around : (shape : Shape) (positions : List P3) (i : ℕ) (p : P3) (s : Site) → is_covered shape (take i positions ++ p ∷ drop (suc i) positions) s ≡ (covers shape p s || is_covered shape (remove positions i) s)
around shape positions i p s =
    let test : P3 → Bool = λ q. covers shape q s in
    list_any-append test (take i positions) (p ∷ drop (suc i) positions)
    ∙ sorted (list_any test (take i positions)) (covers shape p s) (list_any test (drop (suc i) positions))
    ∙ ap (λ b. covers shape p s || b) (sym (list_any-append test (take i positions) (drop (suc i) positions)))
  where
    sorted : (t c d : Bool) → (t || (c || d)) ≡ (c || (t || d))
    sorted t c d = grind arith

-- the monomer at a place of the list, and the others
covered_at : (shape : Shape) (positions : List P3) (i : ℕ) (p d : P3) (s : Site) → i < length positions → p ≡ get_or positions i d
    → is_covered shape positions s ≡ (covers shape p s || is_covered shape (remove positions i) s)
covered_at shape positions i p d s l e =
    let test : P3 → Bool = λ q. covers shape q s in
    ap (list_any test) (sym (take-append-drop i positions) ∙ ap (λ t. take i positions ++ t) (drop-cons positions i d l ∙ ap (λ q. q ∷ drop (suc i) positions) (sym e)))
    ∙ around shape positions i p s

covered_set : (shape : Shape) (positions : List P3) (i : ℕ) (q d : P3) (s : Site) → i < length positions
    → is_covered shape (set positions i q) s ≡ (covers shape q s || is_covered shape (remove positions i) s)
covered_set shape positions i q d s l =
    let test : P3 → Bool = λ q. covers shape q s in
    ap (list_any test) (sym (take-append-drop i (set positions i q)) ∙ ap (λ t. take i (set positions i q) ++ t) (drop-set positions i q l ∙ ap (λ n. q ∷ drop n positions) (add-one i)) ∙ ap (λ t. t ++ q ∷ drop (suc i) positions) (take-set positions i q))
    ∙ around shape positions i q s

-- monomers that are pairwise apart: the one at a place of the list overlaps none of the others
pub is_clear-others : (shape : Shape) (positions : List P3) (i : ℕ) (d : P3) → IsBox shape → AllPairs (λ p q. overlaps shape p q ≡ false) positions → i < length positions
    → is_clear shape (remove positions i) (get_or positions i d) ≡ true
is_clear-others shape positions i d box apart l =
    list_all-from_AllPass (λ q. not (overlaps shape q (get_or positions i d))) (remove positions i) (λ k e m.
    subst (λ p. not (overlaps shape (get_or (remove positions i) k e) p) ≡ true) (get_or_default positions i e d l) (not_from_false (overlaps shape (get_or (remove positions i) k e) (get_or positions i e)) (other k e m)))
  where
    other : (k : ℕ) (e : P3) → k < length (remove positions i) → overlaps shape (get_or (remove positions i) k e) (get_or positions i e) ≡ false
    other k e m = elim (cases_lt k i) [
      | inl b ↦ ap (λ p. overlaps shape p (get_or positions i e)) (get_or-remove_below positions i e k b l) ∙ apart k i e b l
      | inr a ↦
          let n : k + 1 < length positions = omega (arith, length-remove positions i l) in
          ap (λ p. overlaps shape p (get_or positions i e)) (get_or-remove_above positions i e k a l) ∙ overlaps-symmetric shape (get_or positions (k + 1) e) (get_or positions i e) box.sides ∙ apart i (k + 1) e (omega arith) n
    ]

-- the cube of a monomer of the list is taken
pub AreTaken-covered : (positions : List P3) (i : ℕ) (p d : P3) (sites : Sites) → i < length positions → p ≡ get_or positions i d → Covers positions sites → AreTaken sites (covers sites.shape p)
AreTaken-covered positions i p d sites l e h = λ s k c.
    h s k ∙ covered_at sites.shape positions i p d s l e ∙ or_left (covers sites.shape p s) (is_covered sites.shape (remove positions i) s) c

-- a step of the monomer at a place of the list: the sites that it newly covers are free exactly where it comes to overlap none of the others
pub AreFree-step : (positions : List P3) (i : ℕ) (p d : P3) (dir : Dir) (sites : Sites) → IsBox sites.shape → AllInside sites.shape (remove positions i) → is_within_walls sites.shape p ≡ true
    → is_within_walls sites.shape (plus p (step_of dir)) ≡ true → i < length positions → p ≡ get_or positions i d → is_clear sites.shape (remove positions i) p ≡ true → Covers positions sites
    → AreFree sites (newly_covers sites.shape p dir) ↔ (is_clear sites.shape (remove positions i) (plus p (step_of dir)) ≡ true)
AreFree-step positions i p d dir sites box ins inside target l e clear h =
    let shape = sites.shape in
    let others = remove positions i in
    let q = plus p (step_of dir) in
    let each = recursion_from_All (λ q. is_within_walls shape q ≡ true) others ins in
    let taken : (s : Site) → IsSite shape s → is_taken sites s ≡ (covers shape p s || is_covered shape others s) = λ s k. h s k ∙ covered_at shape positions i p d s l e in (
      λ f. clear_from_uncovered shape others q box each target (λ s k c. elim (cases_Bool (covers shape p s)) [
        | inl own ↦ uncovered shape others p box each inside clear s k own
        | inr new ↦ (or_parts (covers shape p s) (is_covered shape others s) (sym (taken s k) ∙ f s k (and_from (covers shape q s) (not (covers shape p s)) c (not_from_false (covers shape p s) new)))).1
      ]),
      λ c s k n.
          let both = and_parts (covers shape q s) (not (covers shape p s)) n in
          taken s k ∙ or_from (covers shape p s) (is_covered shape others s) (not-true (covers shape p s) both.1) (uncovered shape others q box each target c s k both.0),
    )

-- one monomer less
pub Covers-lift : (positions : List P3) (i : ℕ) (p d : P3) (old new : Sites) → IsBox old.shape → AllInside old.shape (remove positions i) → is_within_walls old.shape p ≡ true
    → i < length positions → p ≡ get_or positions i d → is_clear old.shape (remove positions i) p ≡ true
    → Covers positions old → Marks old new (covers old.shape p) false → Covers (remove positions i) new
Covers-lift positions i p d old new box ins inside l e clear h m = λ s k.
    let j : IsSite old.shape s = subst (λ (shape : Shape). IsSite shape s) m.shape k in
    let alone = uncovered old.shape (remove positions i) p box (recursion_from_All (λ q. is_within_walls old.shape q ≡ true) (remove positions i) ins) inside clear s j in
    m.sites s j ∙ ap (cond (covers old.shape p s) false) (h s j ∙ covered_at old.shape positions i p d s l e) ∙ one_less (covers old.shape p s) (is_covered old.shape (remove positions i) s) alone
    ∙ ap (λ (shape : Shape). is_covered shape (remove positions i) s) (sym m.shape)
  where
    one_less : (c r : Bool) → (c ≡ true → r ≡ false) → cond c false (c || r) ≡ r
    one_less true r h = sym (h refl)
    one_less false r h = refl

-- one monomer a step further
pub Covers-shift : (positions : List P3) (i : ℕ) (p d : P3) (dir : Dir) (old new : Sites) → IsBox old.shape → AllInside old.shape (remove positions i) → is_within_walls old.shape p ≡ true
    → i < length positions → p ≡ get_or positions i d → is_clear old.shape (remove positions i) p ≡ true
    → Covers positions old → Shifts old new p dir → Covers (set positions i (plus p (step_of dir))) new
Covers-shift positions i p d dir old new box ins inside l e clear h m = λ s k.
    let j : IsSite old.shape s = subst (λ (shape : Shape). IsSite shape s) m.shape k in
    let alone = uncovered old.shape (remove positions i) p box (recursion_from_All (λ q. is_within_walls old.shape q ≡ true) (remove positions i) ins) inside clear s j in
    m.sites s j ∙ ap (λ t. cond (covers old.shape (plus p (step_of dir)) s) true (cond (covers old.shape p s) false t)) (h s j ∙ covered_at old.shape positions i p d s l e)
    ∙ one_moved (covers old.shape (plus p (step_of dir)) s) (covers old.shape p s) (is_covered old.shape (remove positions i) s) alone
    ∙ sym (covered_set old.shape positions i (plus p (step_of dir)) d s l)
    ∙ ap (λ (shape : Shape). is_covered shape (set positions i (plus p (step_of dir))) s) (sym m.shape)
  where
    one_moved : (n c r : Bool) → (c ≡ true → r ≡ false) → cond n true (cond c false (c || r)) ≡ (n || r)
    one_moved true c r h = refl
    one_moved false true r h = sym (h refl)
    one_moved false false r h = refl
