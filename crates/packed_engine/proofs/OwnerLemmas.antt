-- The owners of places: who stands at one, and how they follow a monomer more and a step.
use Rattle.std.proofs.Common.{◌≡◌, ◌≢◌, ℕ, zero, suc, ◌+◌, ◌<◌, ◌≤◌, inl, inr, Bool, true, false, ◌&&◌, cond, length, Option, None, Some, refl, sym, ap, subst, ◌∙◌, arith, IfSome, find, nat_abs, nat_le}
use Rattle.std.proofs.lemmas.Int.{ints}
use Rattle.std.specs.List.{range_with_len}
use Rattle.std.proofs.lemmas.Bool.{cases_eq, cases_lt}
use Rattle.std.proofs.lemmas.List.{get_or-set_other, get_or-set_same, length-set}
use Rattle.bfm_base.specs.declared.place.Dir.{Dir}
use Rattle.bfm_base.specs.declared.place.P3.{P3}
use Rattle.bfm_base.specs.declared.place.Shape.{Shape}
use Rattle.bfm_base.specs.Place.{extent_of}
use Rattle.bfm_geom.specs.Difference.{minus, overlaps, plus, wrapped}
use Rattle.bfm_geom.specs.Upright.{origin}
use Rattle.bfm_geom.specs.Walls.{is_within_walls}
use Rattle.bfm_geom.proofs.DifferenceLemmas.{P3-same}
use Rattle.bond_set.specs.BondSet.{same_vector}
use Rattle.bond_set.proofs.PairLemmas.{same_from_same_vector}
use Rattle.packed_lattice.specs.declared.site.Site.{Site}
use Rattle.packed_lattice.specs.Owners.{IsUnowned, OwnedPlaces, SetsOwner, owner_at, owner_of}
use Rattle.packed_lattice.specs.Sites.{IsSite, is_same_site, site_of}
use Rattle.packed_lattice.proofs.PackingLemmas.{is_same_site-cases}
use Rattle.bfm_world.specs.Configuration.{Configuration, IsValid, is_legal, moved, position_of, target_of}
use Rattle.bfm_world.specs.Occupants.{monomer_at, stands_at}
use Rattle.bfm_world.proofs.ValidLemmas.{IsValid-moved}
use Rattle.packed_engine.specs.Tracking.{AreOwned, home_of}
use Rattle.packed_engine.proofs.PlaceLemmas.{same_site-wrapped, site_within, wrapped-same_site}

-- no offset
plus-origin : (p : P3) → plus p origin ≡ p
plus-origin p = P3-same (plus p origin) p (omega (arith, ints)) (omega (arith, ints)) (omega (arith, ints))

-- what finds the one number that passes is the search for the first
find-range : (test : ℕ → Bool) (a n : ℕ) (found : Option ℕ) → IfSome found (λ j. (a ≤ j) × (j < a + n) × (test j ≡ true))
    → ((j : ℕ) → a ≤ j → j < a + n → test j ≡ true → found ≡ Some j) → found ≡ find test (range_with_len a n)
find-range test a zero None h all = refl
find-range test a zero (Some j) h all = absurd (omega (arith, h))
find-range test a (suc n) found h all = by (test a) refl (λ k. find-range test (a + 1) n found k (λ j l m t. all j (omega arith) (omega arith) t))
  where
    later : test a ≡ false → (o : Option ℕ) → IfSome o (λ j. (a ≤ j) × (j < a + suc n) × (test j ≡ true)) → IfSome o (λ j. (a + 1 ≤ j) × (j < a + 1 + n) × (test j ≡ true))
    later e None k = tt
    later e (Some j) k = elim (cases_eq j a) [
      | inl same ↦ absurd (let t : test a ≡ true = subst (λ i. test i ≡ true) same k.2 in cc)
      | inr other ↦ (omega (arith, k.0, other), omega (arith, k.1), k.2)
    ]

    by : (t : Bool) → test a ≡ t → (IfSome found (λ j. (a + 1 ≤ j) × (j < a + 1 + n) × (test j ≡ true)) → found ≡ find test (range_with_len (a + 1) n))
        → found ≡ cond t (Some a) (find test (range_with_len (a + 1) n))
    by true e after = all a (omega arith) (omega arith) e
    by false e after = after (later e found h)

-- the site that is set has the owner, and any other site has the one that it had
module _ (shape : Shape) (old new : OwnedPlaces) (p : P3) (owner : Option ℕ) (same : old.shape ≡ shape) (set : SetsOwner old new p owner) (s : Site) (i : IsSite shape s) where
  changed : owner_of new s ≡ cond (is_same_site (site_of shape p) s) owner (owner_of old s)
  changed = subst (λ (box : Shape). IsSite box s → owner_of new s ≡ cond (is_same_site (site_of box p) s) owner (owner_of old s)) same (set.places s) i

  own : s ≡ site_of shape p → owner_of new s ≡ owner
  own e = elim (is_same_site-cases (site_of shape p) s) [ inl here ↦ changed ∙ ap (λ b. cond b owner (owner_of old s)) here.0 | inr there ↦ absurd (there.1 e) ]

  other : s ≢ site_of shape p → owner_of new s ≡ owner_of old s
  other n = elim (is_same_site-cases (site_of shape p) s) [ inl here ↦ absurd (n here.1) | inr there ↦ changed ∙ ap (λ b. cond b owner (owner_of old s)) there.0 ]

module _ (w : Configuration) (valid : IsValid w) where
  inside : (j : ℕ) → j < length w.positions → is_within_walls w.shape (position_of w j) ≡ true
  inside j l = valid.inside j origin l

  home_within : (j : ℕ) → IsSite w.shape (home_of w j)
  home_within j = site_within w.shape (position_of w j) valid.box

  -- monomers of one site would overlap, so each has a site of its own
  homes_differ : (j k : ℕ) → j < k → k < length w.positions → home_of w j ≢ home_of w k
  homes_differ j k l m e = absurd (
      let still = plus-origin (position_of w j) in
      let none : wrapped w.shape (minus (position_of w k) (position_of w j)) ≡ origin =
      wrapped-same_site w.shape (position_of w j) (position_of w k) origin valid.box (omega arith) (subst (λ p. is_within_walls w.shape p ≡ true) (sym still) (inside j (omega arith))) (inside k m)
      (ap (site_of w.shape) still ∙ e) in
      let apart : overlaps w.shape (position_of w j) (position_of w k) ≡ false = valid.apart j k origin l m in
      let both : overlaps w.shape (position_of w j) (position_of w k) ≡ true =
      ap (λ (d : P3). nat_le (nat_abs d.x) 1 && nat_le (nat_abs d.y) 1 && nat_le (nat_abs d.z) 1) none in
      cc)

  home_of-same : (j k : ℕ) → j < length w.positions → k < length w.positions → home_of w j ≡ home_of w k → j ≡ k
  home_of-same j k l m e = elim (cases_eq j k) [ inl same ↦ same | inr n ↦ absurd (by n) ]
    where
      by : j ≢ k → ⊥
      by n = elim (cases_lt j k) [ inl below ↦ homes_differ j k below m e | inr above ↦ homes_differ k j (omega (arith, above, n)) l (sym e) ]

  -- where no place has an owner yet
  pub AreOwned-none : (places : OwnedPlaces) → places.shape ≡ w.shape → IsUnowned places → AreOwned w 0 places
  AreOwned-none places same none = record {
    shape = same;
    owned = λ j l. absurd (omega arith);
    others = λ s i. rw (none s (subst (λ (shape : Shape). IsSite shape s) (sym same) i)) tt;
  }

  -- one monomer more owns its place
  pub AreOwned-more : (k : ℕ) (old new : OwnedPlaces) → k < length w.positions → AreOwned w k old → SetsOwner old new (position_of w k) (Some k) → AreOwned w (k + 1) new
  AreOwned-more k old new l a set = record {
    shape = set.shape ∙ a.shape;
    owned = λ j m. elim (cases_eq j k) [
      | inl e ↦ subst (λ q. owner_of new (home_of w q) ≡ Some q) (sym e) (own w.shape old new (position_of w k) (Some k) a.shape set (home_of w k) (home_within k) refl)
      | inr n ↦ other w.shape old new (position_of w k) (Some k) a.shape set (home_of w j) (home_within j) (λ e. n (home_of-same j k (omega arith) l e)) ∙ a.owned j (omega (arith, n))
    ];
    others = λ s i. elim (is_same_site-cases (home_of w k) s) [
      | inl here ↦ rw (own w.shape old new (position_of w k) (Some k) a.shape set s i here.1) (omega arith, sym here.1)
      | inr there ↦ rw (other w.shape old new (position_of w k) (Some k) a.shape set s i there.1) (further (owner_of old s) s (a.others s i))
    ];
  }
    where
      further : (o : Option ℕ) (s : Site) → IfSome o (λ j. (j < k) × (home_of w j ≡ s)) → IfSome o (λ j. (j < k + 1) × (home_of w j ≡ s))
      further None s h = tt
      further (Some j) s h = (omega (arith, h.0), h.1)

  -- the places tell of an offset from a place
  module _ (places : OwnedPlaces) (owners : AreOwned w (length w.positions) places) (p o : P3) (short : extent_of o ≤ 2) where
    look : owner_at places (plus p o) ≡ cond (is_within_walls w.shape (plus p o)) (owner_of places (site_of w.shape (plus p o))) None
    look = ap (λ (shape : Shape). cond (is_within_walls shape (plus p o)) (owner_of places (site_of shape (plus p o))) None) owners.shape

    -- who stands there has this difference from it
    pub owner_at-there : IfSome (owner_at places (plus p o)) (λ j. (j < length w.positions) × (wrapped w.shape (minus (position_of w j) p) ≡ o))
    owner_at-there = rw look (there (is_within_walls w.shape (plus p o)) refl)
      where
        from : (found : Option ℕ) → is_within_walls w.shape (plus p o) ≡ true → IfSome found (λ j. (j < length w.positions) × (home_of w j ≡ site_of w.shape (plus p o)))
            → IfSome found (λ j. (j < length w.positions) × (wrapped w.shape (minus (position_of w j) p) ≡ o))
        from None within h = tt
        from (Some j) within h = (h.0, wrapped-same_site w.shape p (position_of w j) o valid.box short within (inside j h.0) (sym h.1))

        there : (b : Bool) → is_within_walls w.shape (plus p o) ≡ b
            → IfSome (cond b (owner_of places (site_of w.shape (plus p o))) None) (λ j. (j < length w.positions) × (wrapped w.shape (minus (position_of w j) p) ≡ o))
        there true e = from (owner_of places (site_of w.shape (plus p o))) e (owners.others (site_of w.shape (plus p o)) (site_within w.shape (plus p o) valid.box))
        there false e = tt

    -- and who has this difference stands there
    pub owner_at-all : (j : ℕ) → j < length w.positions → wrapped w.shape (minus (position_of w j) p) ≡ o → owner_at places (plus p o) ≡ Some j
    owner_at-all j l e =
        let same = same_site-wrapped w.shape p (position_of w j) o valid.box (inside j l) e in
        look ∙ ap (λ b. cond b (owner_of places (site_of w.shape (plus p o))) None) same.0 ∙ ap (owner_of places) same.1 ∙ owners.owned j l

  -- so the owner of a place is the monomer that stands there
  pub owner_at-monomer_at : (places : OwnedPlaces) (p : P3) → AreOwned w (length w.positions) places → owner_at places p ≡ monomer_at w p
  owner_at-monomer_at places p owners = find-range (stands_at w p) 0 (length w.positions) (owner_at places p)
      (told (owner_at places p) (subst (λ q. IfSome (owner_at places q) (λ j. (j < length w.positions) × (wrapped w.shape (minus (position_of w j) p) ≡ origin))) (plus-origin p) (owner_at-there places owners p origin (omega arith))))
      (λ j _ l t. ap (owner_at places) (sym (plus-origin p)) ∙ owner_at-all places owners p origin (omega arith) j (omega arith) (same_from_same_vector _ origin t))
    where
      told : (found : Option ℕ) → IfSome found (λ j. (j < length w.positions) × (wrapped w.shape (minus (position_of w j) p) ≡ origin))
          → IfSome found (λ j. (0 ≤ j) × (j < 0 + length w.positions) × (stands_at w p j ≡ true))
      told None h = tt
      told (Some j) h = (omega arith, omega (arith, h.0), ap (λ (d : P3). same_vector d origin) h.1)

-- after a legal step the monomer owns its new place, and nobody the old one
module _ (w : Configuration) (valid : IsValid w) (m : ℕ) (dir : Dir) (l : m < length w.positions) (legal : is_legal w m dir ≡ true)
    (old mid new : OwnedPlaces) (a : AreOwned w (length w.positions) old) (left : SetsOwner old mid (position_of w m) None) (entered : SetsOwner mid new (target_of w m dir) (Some m)) where
  count : length (moved w m dir).positions ≡ length w.positions
  count = length-set w.positions m (target_of w m dir)

  home_of-moved : home_of (moved w m dir) m ≡ site_of w.shape (target_of w m dir)
  home_of-moved = ap (site_of w.shape) (get_or-set_same w.positions m (target_of w m dir) origin l)

  home_of-still : (j : ℕ) → j ≢ m → home_of (moved w m dir) j ≡ home_of w j
  home_of-still j n = ap (site_of w.shape) (get_or-set_other w.positions m j (target_of w m dir) origin n)

  -- the new place is no other's, since the moved world is valid too
  apart : (j : ℕ) → j ≢ m → j < length w.positions → home_of w j ≢ site_of w.shape (target_of w m dir)
  apart j n here e = n (home_of-same (moved w m dir) (IsValid-moved w m dir valid l legal) j m (omega (arith, count)) (omega (arith, count)) (home_of-still j n ∙ e ∙ sym home_of-moved))

  entering : (s : Site) (i : IsSite w.shape s) → s ≡ site_of w.shape (target_of w m dir) → owner_of new s ≡ Some m
  entering = own w.shape mid new (target_of w m dir) (Some m) (left.shape ∙ a.shape) entered

  staying : (s : Site) (i : IsSite w.shape s) → s ≢ site_of w.shape (target_of w m dir) → s ≢ home_of w m → owner_of new s ≡ owner_of old s
  staying s i n k = other w.shape mid new (target_of w m dir) (Some m) (left.shape ∙ a.shape) entered s i n ∙ other w.shape old mid (position_of w m) None a.shape left s i k

  leaving : (s : Site) (i : IsSite w.shape s) → s ≢ site_of w.shape (target_of w m dir) → s ≡ home_of w m → owner_of new s ≡ None
  leaving s i n e = other w.shape mid new (target_of w m dir) (Some m) (left.shape ∙ a.shape) entered s i n ∙ own w.shape old mid (position_of w m) None a.shape left s i e

  stays : (o : Option ℕ) (s : Site) → s ≢ home_of w m → IfSome o (λ j. (j < length w.positions) × (home_of w j ≡ s))
      → IfSome o (λ j. (j < length (moved w m dir).positions) × (home_of (moved w m dir) j ≡ s))
  stays None s n h = tt
  stays (Some j) s n h = (omega (arith, h.0, count), home_of-still j (λ e. n (sym h.1 ∙ ap (home_of w) e)) ∙ h.1)

  pub AreOwned-moved : AreOwned (moved w m dir) (length (moved w m dir).positions) new
  AreOwned-moved = record {
    shape = entered.shape ∙ left.shape ∙ a.shape;
    owned = λ j k. elim (cases_eq j m) [
      | inl e ↦ subst (λ q. owner_of new (home_of (moved w m dir) q) ≡ Some q) (sym e)
          (ap (owner_of new) home_of-moved ∙ entering (site_of w.shape (target_of w m dir)) (site_within w.shape (target_of w m dir) valid.box) refl)
      | inr n ↦
          let here : j < length w.positions = omega (arith, k, count) in
          ap (owner_of new) (home_of-still j n) ∙ staying (home_of w j) (home_within w valid j) (apart j n here) (λ e. n (home_of-same w valid j m here l e)) ∙ a.owned j here
    ];
    others = λ s i. elim (is_same_site-cases (site_of w.shape (target_of w m dir)) s) [
      | inl here ↦ rw (entering s i here.1) (omega (arith, l, count), home_of-moved ∙ sym here.1)
      | inr there ↦ elim (is_same_site-cases (home_of w m) s) [
        | inl gone ↦ rw (leaving s i there.1 gone.1) tt
        | inr kept ↦ rw (staying s i there.1 kept.1) (stays (owner_of old s) s kept.1 (a.others s i))
      ]
    ];
  }
