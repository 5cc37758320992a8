-- The spots of a world: what they tell of bonds, and how they follow a step and a bond.
use Rattle.std.proofs.Common.{◌≡◌, ◌≢◌, ℕ, zero, suc, ◌+◌, ◌<◌, ◌≤◌, inl, inr, Bool, true, false, not, ◌&&◌, ◌||◌, List, [], ◌∷◌, length, remove, get_or, nat_eq, refl, sym, ap, subst, ◌∙◌, arith}
use Rattle.std.proofs.Math.ListN.{set}
use Rattle.std.specs.Prelude.{slice_get, slice_index}
use Rattle.std.specs.List.{Contains, list_any}
use Rattle.std.proofs.lemmas.Bool.{and_parts, cases_eq}
use Rattle.std.proofs.lemmas.List.{get_or_default, get_or-set_other, get_or-set_same, length-set}
use Rattle.std.proofs.lemmas.Option.{slice_get-get_or}
use Rattle.bfm_base.specs.declared.place.Dir.{Dir}
use Rattle.bfm_base.specs.declared.place.P3.{P3}
use Rattle.bfm_base.specs.declared.place.Shape.{Shape}
use Rattle.bfm_base.specs.Direction.{step_of}
use Rattle.bfm_base.specs.Place.{extent_of}
use Rattle.bfm_geom.specs.Difference.{minus, plus, wrapped}
use Rattle.bfm_geom.specs.Upright.{origin}
use Rattle.bfm_geom.specs.Walls.{is_within_walls}
use Rattle.bond_set.specs.FlatTables.{key_of}
use Rattle.packed_lattice.specs.Sites.{IsSite, site_of}
use Rattle.bfm_world.specs.Bonds.{are_bonded, neighbours_of, put, with_bond}
use Rattle.bfm_world.specs.Configuration.{Configuration, IsValid, bonded, is_clear, is_fixed, is_legal, keeps_bonds, may_reach, moved, position_of, target_of}
use Rattle.bfm_world.specs.Sweeping.{IsImage, bond_from}
use Rattle.bfm_world.proofs.BondLemmas.{eq-test}
use Rattle.packed_engine.specs.declared.spots.Spot.{Spot}
use Rattle.packed_engine.specs.Spots.{AreAllowed, ArePlaced, AreSpots, AreSpotsOf, HasSteps, Renews, allows, may_step, place_in, site_in, spot_at}
use Rattle.packed_engine.specs.Tracking.{home_of}
use Rattle.packed_engine.proofs.FoldedLemmas.{IsImage-plus, IsImage-site, is_within_walls-image, wrapped-images}
use Rattle.packed_engine.proofs.PlaceLemmas.{site_within}
use Rattle.packed_engine.proofs.StepLemmas.{may_bond-before, short-vector}

abbrev blank : Spot
blank = record { x = 0; y = 0; z = 0; steps = 0 }

-- ---- what spots tell
module _ (w : Configuration) (valid : IsValid w) (spots : List Spot) (placed : ArePlaced w spots) where
  -- a spot is in the box, and its place is an image of the monomer's
  pub IsSite-spot : (i : ℕ) → i < length w.positions → IsSite w.shape (site_in (spot_at spots i))
  IsSite-spot i l = subst (IsSite w.shape) (sym (placed.sites i l)) (site_within w.shape (position_of w i) valid.box)

  pub IsImage-spot : (i : ℕ) → i < length w.positions → IsImage w.shape (position_of w i) (place_in (spot_at spots i))
  IsImage-spot i l = IsImage-site w.shape (position_of w i) (site_in (spot_at spots i)) valid.box.sides (valid.inside i origin l) (placed.sites i l)

  -- spots differ as their monomers do
  pub bond_from-spots : (i j : ℕ) → i < length w.positions → j < length w.positions → wrapped w.shape (minus (place_in (spot_at spots j)) (place_in (spot_at spots i))) ≡ bond_from w i j
  bond_from-spots i j l m = wrapped-images w.shape (position_of w i) (position_of w j) _ _ valid.box.sides (IsImage-spot i l) (IsImage-spot j m)

-- the spot of a monomer, told by its site alone
module _ (w : Configuration) (valid : IsValid w) (m : ℕ) (l : m < length w.positions) (s : Spot) (here : site_in s ≡ home_of w m) where
  inside : is_within_walls w.shape (position_of w m) ≡ true
  inside = valid.inside m origin l

  pub IsSite-home : IsSite w.shape (site_in s)
  IsSite-home = subst (IsSite w.shape) (sym here) (site_within w.shape (position_of w m) valid.box)

  pub IsImage-home : IsImage w.shape (position_of w m) (place_in s)
  IsImage-home = IsImage-site w.shape (position_of w m) (site_in s) valid.box.sides inside here

  pub inside-home : is_within_walls w.shape (place_in s) ≡ true
  inside-home = is_within_walls-image w.shape (position_of w m) (place_in s) IsImage-home ∙ inside

  -- and the one of its target, where a step is legal
  module _ (dir : Dir) (legal : is_legal w m dir ≡ true) where
    pub inside-target : is_within_walls w.shape (target_of w m dir) ≡ true
    inside-target =
        let walls = is_within_walls w.shape (target_of w m dir) in
        let clear = is_clear w.shape (remove w.positions m) (target_of w m dir) in
        let kept = keeps_bonds w.shape w.set w.positions (neighbours_of w.bonds m) (target_of w m dir) in
        (and_parts (not (is_fixed w m)) walls (and_parts (not (is_fixed w m) && walls) clear (and_parts (not (is_fixed w m) && walls && clear) kept legal).0).0).1

    pub stays-home : is_within_walls w.shape (plus (place_in s) (step_of dir)) ≡ true
    stays-home = is_within_walls-image w.shape (target_of w m dir) _ (IsImage-plus w.shape (position_of w m) (place_in s) (step_of dir) IsImage-home) ∙ inside-target

    pub IsImage-target : (t : Spot) → site_in t ≡ site_of w.shape (target_of w m dir) → IsImage w.shape (target_of w m dir) (place_in t)
    IsImage-target t there = IsImage-site w.shape (target_of w m dir) (site_in t) valid.box.sides inside-target there

    pub walls-target : (t : Spot) → site_in t ≡ site_of w.shape (target_of w m dir) → is_within_walls w.shape (place_in t) ≡ true
    walls-target t there = is_within_walls-image w.shape (target_of w m dir) (place_in t) (IsImage-target t there) ∙ inside-target

-- the table tells which steps keep a bond
module _ (w : Configuration) (valid : IsValid w) (table : List ℕ) (allowed : AreAllowed w.set table) (i j : ℕ) (bond : are_bonded w.bonds i j ≡ true) where
  pub neighbour_within : j < length w.positions
  neighbour_within = (valid.bonds.others i j bond).0

  pub may_reach-allowed : (dir : Dir) → may_reach w.shape w.set (target_of w i dir) (slice_get w.positions j) ≡ allows (slice_index table (key_of (bond_from w i j))) dir
  may_reach-allowed dir =
      let back = (valid.bonds.others j i (valid.bonds.both i j bond)).0 in
      let short : extent_of (bond_from w i j) ≤ 3 = short-vector w.set (bond_from w i j) valid.set (valid.vectors i j back neighbour_within bond) in
      ap (may_reach w.shape w.set (target_of w i dir)) (slice_get-get_or w.positions j origin neighbour_within)
      ∙ may_bond-before w.shape w.set (position_of w i) (position_of w j) dir valid.box valid.set short
      ∙ sym (allowed (bond_from w i j) short dir)

-- ---- how spots are made anew
-- the spot of one monomer changes
pub Renews-put : (w : Configuration) (i : ℕ) (old new : List Spot) (s : Spot) → i < length w.positions → ArePlaced w old → site_in s ≡ site_in (spot_at old i) → HasSteps w i s
    → new ≡ set old i s → Renews w i old new
Renews-put w i old new s l placed same steps e =
    subst (Renews w i old) (sym e) record {
      placed = record {
        count = length-set old i s ∙ placed.count;
        sites = λ j m. elim (cases_eq j i) [
          | inl here ↦
              subst (λ k. site_in (spot_at (set old i s) k) ≡ home_of w k) (sym here) (ap site_in own ∙ same ∙ placed.sites i l)
          | inr there ↦ ap site_in (get_or-set_other old i j s blank there) ∙ placed.sites j m
        ];
      };
      steps = subst (HasSteps w i) (sym own) steps;
      others = λ j n. get_or-set_other old i j s blank n;
    }
  where
    own : spot_at (set old i s) i ≡ s
    own = get_or-set_same old i s blank (omega (arith, placed.count, l))

-- one more is right
pub AreSpotsOf-renewed : (w : Configuration) (i : ℕ) (these those : ℕ → Type 0) (old new : List Spot) → AreSpotsOf w these old → Renews w i old new
    → ((j : ℕ) → those j → j ≢ i → these j) → AreSpotsOf w those new
AreSpotsOf-renewed w i these those old new spots renews more = record {
  placed = renews.placed;
  steps = λ j l t. elim (cases_eq j i) [
    | inl here ↦ subst (λ k. HasSteps w k (spot_at new k)) (sym here) renews.steps
    | inr there ↦ subst (HasSteps w j) (sym (renews.others j there)) (spots.steps j l (more j t there))
  ];
}

-- one more has its place
pub record ArePlacedSoFar (w : Configuration) (n : ℕ) (spots : List Spot) : Type 0 where
  pub count : length spots ≡ length w.positions
  pub sites : (i : ℕ) → i < n → site_in (spot_at spots i) ≡ home_of w i

pub ArePlacedSoFar-more : (w : Configuration) (n : ℕ) (old new : List Spot) (s : Spot) → n < length w.positions → ArePlacedSoFar w n old → site_in s ≡ home_of w n → new ≡ set old n s
    → ArePlacedSoFar w (n + 1) new
ArePlacedSoFar-more w n old new s l placed here e =
    subst (ArePlacedSoFar w (n + 1)) (sym e) record {
      count = length-set old n s ∙ placed.count;
      sites = λ i m. elim (cases_eq i n) [
        | inl same ↦
            subst (λ k. site_in (spot_at (set old n s) k) ≡ home_of w k) (sym same) (ap site_in (get_or-set_same old n s blank (omega (arith, placed.count, l))) ∙ here)
        | inr other ↦ ap site_in (get_or-set_other old n i s blank other) ∙ placed.sites i (omega (arith, m, other))
      ];
    }

-- none is right yet
pub AreSpotsOf-placed : (w : Configuration) (these : ℕ → Type 0) (spots : List Spot) → ArePlaced w spots → ((i : ℕ) → ¬ (these i)) → AreSpotsOf w these spots
AreSpotsOf-placed w these spots placed none = record { placed = placed; steps = λ i l t. absurd (none i t) }

-- ---- a step
slice_get-set_other : (xs : List P3) (m j : ℕ) (p : P3) → j ≢ m → slice_get (set xs m p) j ≡ slice_get xs j
slice_get-set_other [] m j p n = refl
slice_get-set_other (x ∷ xs) zero zero p n = absurd (n refl)
slice_get-set_other (x ∷ xs) zero (suc j) p n = refl
slice_get-set_other (x ∷ xs) (suc m) zero p n = refl
slice_get-set_other (x ∷ xs) (suc m) (suc j) p n = slice_get-set_other xs m j p (λ e. n (ap suc e))

-- a monomer that is no neighbour may go anywhere
keeps_bonds-set : (shape : Shape) (vectors : List (P3 × ℕ)) (positions : List P3) (m : ℕ) (p : P3) (row : List ℕ) (target : P3) → list_any (λ k. nat_eq k m) row ≡ false
    → keeps_bonds shape vectors (set positions m p) row target ≡ keeps_bonds shape vectors positions row target
keeps_bonds-set shape vectors positions m p [] target none = refl
keeps_bonds-set shape vectors positions m p (k ∷ ks) target none = by (nat_eq k m) refl (λ h. keeps_bonds-set shape vectors positions m p ks target h) none
  where
    differ : nat_eq k m ≡ false → k ≢ m
    differ e same = let t : nat_eq k m ≡ true = rw same (eq-test m) in absurd (cc)

    by : (b : Bool) → nat_eq k m ≡ b
        → (list_any (λ k. nat_eq k m) ks ≡ false → keeps_bonds shape vectors (set positions m p) ks target ≡ keeps_bonds shape vectors positions ks target)
        → (b || list_any (λ k. nat_eq k m) ks) ≡ false
        → keeps_bonds shape vectors (set positions m p) (k ∷ ks) target ≡ keeps_bonds shape vectors positions (k ∷ ks) target
    by true e later h = absurd (cc)
    by false e later h = rw (slice_get-set_other positions m k p (differ e), later h) refl

unbonded : (w : Configuration) (i m : ℕ) → IsValid w → are_bonded w.bonds m i ≡ false → are_bonded w.bonds i m ≡ false
unbonded w i m valid h = by (are_bonded w.bonds i m) refl
  where
    by : (b : Bool) → are_bonded w.bonds i m ≡ b → b ≡ false
    by false e = refl
    by true e = let back = valid.bonds.both i m e in absurd (cc)

-- whoever is not bonded to a monomer may step as before its step
may_step-moved : (w : Configuration) (m : ℕ) (dir : Dir) (i : ℕ) (d : Dir) → IsValid w → i ≢ m → are_bonded w.bonds m i ≡ false → may_step (moved w m dir) i d ≡ may_step w i d
may_step-moved w m dir i d valid n apart =
    let still : target_of (moved w m dir) i d ≡ target_of w i d = ap (λ p. plus p (step_of d)) (get_or-set_other w.positions m i (target_of w m dir) origin n) in
    let kept = keeps_bonds-set w.shape w.set w.positions m (target_of w m dir) (neighbours_of w.bonds i) (target_of w i d) (unbonded w i m valid apart) in
    ap (λ b. not (is_fixed w i) && b) (ap (keeps_bonds w.shape w.set (set w.positions m (target_of w m dir)) (neighbours_of w.bonds i)) still ∙ kept)

-- so the step of a monomer leaves right all but it and its neighbours
pub AreSpotsOf-moved : (w : Configuration) (m : ℕ) (dir : Dir) (old new : List Spot) (s : Spot) → IsValid w → m < length w.positions → AreSpots w old
    → site_in s ≡ site_of w.shape (target_of w m dir) → new ≡ set old m s → AreSpotsOf (moved w m dir) (λ i. (i ≢ m) × (are_bonded w.bonds m i ≡ false)) new
AreSpotsOf-moved w m dir old new s valid l spots there e =
    subst (AreSpotsOf (moved w m dir) (λ i. (i ≢ m) × (are_bonded w.bonds m i ≡ false))) (sym e) record {
      placed = record {
        count = length-set old m s ∙ spots.placed.count ∙ sym count;
        sites = λ i h. elim (cases_eq i m) [
          | inl here ↦
              subst (λ k. site_in (spot_at (set old m s) k) ≡ home_of (moved w m dir) k) (sym here)
              (ap site_in (get_or-set_same old m s blank (omega (arith, spots.placed.count, l))) ∙ there
              ∙ sym (ap (site_of w.shape) (get_or-set_same w.positions m (target_of w m dir) origin l)))
          | inr other ↦
              ap site_in (get_or-set_other old m i s blank other) ∙ spots.placed.sites i (omega (arith, count, h))
              ∙ sym (ap (site_of w.shape) (get_or-set_other w.positions m i (target_of w m dir) origin other))
        ];
      };
      steps = λ i h t d.
          let before : i < length w.positions = omega (arith, count, h) in
          ap (λ (q : Spot). allows q.steps d) (get_or-set_other old m i s blank t.0) ∙ spots.steps i before before d ∙ sym (may_step-moved w m dir i d valid t.0 t.1);
    }
  where
    count : length (moved w m dir).positions ≡ length w.positions
    count = length-set w.positions m (target_of w m dir)

-- who is on no place of the list of neighbours is no neighbour
pub unlisted : (items : List ℕ) (j : ℕ) (bond : Bool) → (bond ≡ true → Contains items j) → ((k : ℕ) → k < length items → get_or items k 0 ≢ j) → bond ≡ false
unlisted items j false listed none = refl
unlisted items j true listed none = absurd (let there = listed refl in none there.0 there.1 (get_or_default items there.0 0 j there.1 ∙ there.2))

-- ---- a bond
-- a bond leaves right all but the two
pub AreSpotsOf-bonded : (w : Configuration) (i j : ℕ) (spots : List Spot) → AreSpots w spots → AreSpotsOf (bonded w i j) (λ k. (k ≢ i) × (k ≢ j)) spots
AreSpotsOf-bonded w i j spots kept = record {
  placed = record { count = kept.placed.count; sites = kept.placed.sites };
  steps = λ k l t d.
      kept.steps k l l d
      ∙ ap (λ row. not (is_fixed w k) && keeps_bonds w.shape w.set w.positions row (target_of w k d)) (sym (row_other k t.0 t.1));
}
  where
    row_other : (k : ℕ) → k ≢ i → k ≢ j → neighbours_of (with_bond w.bonds i j) k ≡ neighbours_of w.bonds k
    row_other k a b =
        get_or-set_other (set w.bonds i (put j (neighbours_of w.bonds i))) j k (put i (neighbours_of w.bonds j)) [] b
        ∙ get_or-set_other w.bonds i k (put j (neighbours_of w.bonds i)) [] a

-- fewer are right too
pub AreSpotsOf-fewer : (w : Configuration) (these those : ℕ → Type 0) (spots : List Spot) → AreSpotsOf w these spots → ((i : ℕ) → i < length w.positions → those i → these i)
    → AreSpotsOf w those spots
AreSpotsOf-fewer w these those spots kept fewer = record { placed = kept.placed; steps = λ i l t. kept.steps i l (fewer i l t) }
