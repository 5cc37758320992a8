-- What is placed apart stays apart.
use Rattle.std.proofs.Common.{◌≡◌, ℕ, zero, suc, ◌<◌, ◌≤◌, Bool, true, false, not, ◌&&◌, inl, inr, ◌≢◌, List, [], ◌∷◌, ◌++◌, length, get_or, remove, refl, ap, sym, ◌∙◌, subst, arith, AllPairs, length-append}
use Rattle.std.specs.Prelude.{slice_get}
use Rattle.std.proofs.Math.ListN.{set}
use Rattle.std.proofs.lemmas.List.{get_or-set_same, get_or-set_other, length-set, length-replicate, get_or_append_left}
use Rattle.std.proofs.Math.Seq.{get_or-append_seam}
use Rattle.std.proofs.lemmas.List.Elements.{All-set, All-push, All-replicate}
use Rattle.std.proofs.lemmas.Bool.Decides.{eqb_tells}
use Rattle.bfm_base.specs.declared.place.P3.{P3}
use Rattle.bfm_base.specs.declared.place.Shape.{Shape}
use Rattle.bfm_base.specs.declared.place.Dir.{Dir}
use Rattle.bfm_geom.specs.Difference.{overlaps}
use Rattle.bfm_geom.proofs.DifferenceLemmas.{overlaps-symmetric}
use Rattle.bfm_base.specs.Place.{extent_of}
use Rattle.bfm_base.specs.declared.limits.TheConstants.{MOST_MONOMERS, WORLD_REACH, GREATEST_LABEL, GREATEST_VALENCE}
use Rattle.bfm_geom.specs.Walls.{is_within_walls}
use Rattle.bfm_world.specs.Configuration.{Configuration, AreMarked, IsSound, IsValid, is_clear, is_fixed, is_legal, moved, bonded, target_of, may_bond, keeps_bonds, position_at, position_of, reach_of}
use Rattle.bfm_world.proofs.BondLemmas.{and_left, and_right}
use Rattle.bfm_world.proofs.ReachLemmas.{reach_of-set}
use Rattle.contact_table.specs.Contacts.{ContactTable, IsContactTable}
use Rattle.bfm_world.specs.Draft.{begun, may_join}
use Rattle.bfm_world.specs.Bonds.{AreBonds, neighbours_of, are_bonded, is_full, without_bond}
use Rattle.bfm_world.proofs.BondLemmas.{AreBonds-with_bond, AreBonds-none}
use Rattle.bfm_world.proofs.PartLemmas.{AreBonds-without_bond, was_still}
use Rattle.bfm_world.proofs.VectorLemmas.{HasVectors-placed, HasVectors-moved, HasVectors-joined, may_reach-at}
use Rattle.bond_set.specs.BondSet.{IsBondSet, IsSymmetric}
use Rattle.bfm_geom.specs.Difference.{IsBox}

not_true : (a : Bool) → not a ≡ true → a ≡ false
not_true true h = absurd (cc)
not_true false h = refl

-- what is clear of a list overlaps no element of it
pub clear_at : (shape : Shape) (others : List P3) (p : P3) → is_clear shape others p ≡ true
    → (i : ℕ) (d : P3) → i < length others → overlaps shape (get_or others i d) p ≡ false
clear_at shape [] p h i d l = absurd (omega arith)
clear_at shape (q ∷ qs) p h zero d l = not_true _ (and_left _ _ h)
clear_at shape (q ∷ qs) p h (suc i) d l = clear_at shape qs p (and_right _ _ h) i d (omega arith)

-- what is clear of all but one overlaps no other
pub clear_of_others : (shape : Shape) (qs : List P3) (i : ℕ) (p : P3) → is_clear shape (remove qs i) p ≡ true
    → (j : ℕ) (d : P3) → j ≢ i → j < length qs → overlaps shape (get_or qs j d) p ≡ false
clear_of_others shape [] i p h j d ne l = absurd (omega arith)
clear_of_others shape (q ∷ qs) zero p h zero d ne l = absurd (ne refl)
clear_of_others shape (q ∷ qs) zero p h (suc j) d ne l = clear_at shape qs p h j d (omega arith)
clear_of_others shape (q ∷ qs) (suc i) p h zero d ne l = not_true _ (and_left _ _ h)
clear_of_others shape (q ∷ qs) (suc i) p h (suc j) d ne l =
    clear_of_others shape qs i p (and_right _ _ h) j d (λ e. ne (ap suc e)) (omega arith)

-- a list with one element changed, at any two places
pair_set : {A : Type 0} (R : A → A → Type 0) (xs : List A) (k : ℕ) (v : A) → ((j : ℕ) (d : A) → j ≢ k → j < length xs → R (get_or xs j d) v × R v (get_or xs j d))
    → AllPairs R xs → k < length xs → AllPairs R (set xs k v)
pair_set R xs k v others apart l i j d less end =
    let inside : j < length xs = omega (arith, length-set xs k v) in
    elim (eqb_tells i k) [
      | inl e ↦ let ne : j ≢ k = omega (arith, e.1) in rw (e.1, get_or-set_same xs k v d l, get_or-set_other xs k j v d ne) (others j d ne inside).1
      | inr n ↦ elim (eqb_tells j k) [
        | inl e ↦ rw (e.1, get_or-set_same xs k v d l, get_or-set_other xs k i v d n.1) (others i d n.1 (omega arith)).0
        | inr m ↦ rw (get_or-set_other xs k i v d n.1, get_or-set_other xs k j v d m.1) (apart i j d less inside)
      ]
    ]

-- one more element
pair_push : {A : Type 0} (R : A → A → Type 0) (xs : List A) (v : A) → ((j : ℕ) (d : A) → j < length xs → R (get_or xs j d) v)
    → AllPairs R xs → AllPairs R (xs ++ v ∷ [])
pair_push R xs v others apart i j d less end =
    let before : i < length xs = omega (arith, length-append xs (v ∷ [])) in
    elim (eqb_tells j (length xs)) [
      | inl e ↦ rw (e.1, get_or-append_seam xs v [] d, get_or_append_left xs (v ∷ []) d i before) (others i d before)
      | inr n ↦ let inside : j < length xs = omega (arith, length-append xs (v ∷ []), n.1) in
          rw (get_or_append_left xs (v ∷ []) d i before, get_or_append_left xs (v ∷ []) d j inside) (apart i j d less inside)
    ]

-- a legal step leaves a valid world
pub IsValid-moved : (w : Configuration) (i : ℕ) (d : Dir) → IsValid w → i < length w.positions → is_legal w i d ≡ true → IsValid (moved w i d)
IsValid-moved w i d v l h =
    let movable = not (is_fixed w i) in
    let walls = is_within_walls w.shape (target_of w i d) in
    let free = is_clear w.shape (remove w.positions i) (target_of w i d) in
    let kept = keeps_bonds w.shape w.set w.positions (neighbours_of w.bonds i) (target_of w i d) in
    let both = and_left (movable && walls && free) kept h in
    let clear = clear_of_others w.shape w.positions i (target_of w i d) (and_right (movable && walls) free both) in
    record {
      box = v.box;
      set = v.set;
      symmetric = v.symmetric;
      table = v.table;
      some = omega (arith, length-set w.positions i (target_of w i d), v.some);
      few = omega (arith, length-set w.positions i (target_of w i d), v.few);
      room = omega arith;
      inside = All-set (λ p. is_within_walls w.shape p ≡ true) w.positions i (target_of w i d) (and_right movable walls (and_left (movable && walls) free both)) v.inside;
      apart = pair_set (λ p q. overlaps w.shape p q ≡ false) w.positions i (target_of w i d)
          (λ j e ne k. (clear j e ne k, overlaps-symmetric w.shape (target_of w i d) (get_or w.positions j e) v.box.sides ∙ clear j e ne k)) v.apart l;
      bonds = subst (λ n. AreBonds n w.bonds) (sym (length-set w.positions i (target_of w i d))) v.bonds;
      vectors = HasVectors-moved w.shape w.set v.box v.set v.symmetric (length w.positions) w.positions w.bonds i (target_of w i d) v.bonds v.vectors l (and_right (movable && walls && free) kept h);
      marks = subst (λ n. AreMarked n w.labels w.valences w.fixed) (sym (length-set w.positions i (target_of w i d))) v.marks;
    }

-- what `World::shift` keeps, where w are the fields and v is the world that a caller sees
pub shift_keeps : (w v : Configuration) (i : ℕ) (d : Dir) (t : P3) → w ≡ v → IsValid w → reach_of w.positions ≤ WORLD_REACH → i < length v.positions → is_legal v i d ≡ true
    → extent_of (target_of v i d) ≤ WORLD_REACH → t ≡ target_of v i d
    → IsValid (record w { positions = set w.positions i t }) × (reach_of (set w.positions i t) ≤ WORLD_REACH)
shift_keeps w v i d t e valid reach l legal near is =
    let target : t ≡ target_of w i d = is ∙ ap (λ u. target_of u i d) (sym e) in
    let inside : i < length w.positions = subst (λ u. i < length u.positions) (sym e) l in
    let near' : extent_of (target_of w i d) ≤ WORLD_REACH = subst (λ u. extent_of (target_of u i d) ≤ WORLD_REACH) (sym e) near in
    subst (λ u. IsValid (record w { positions = set w.positions i u }) × (reach_of (set w.positions i u) ≤ WORLD_REACH)) (sym target)
    (IsValid-moved w i d valid inside (subst (λ u. is_legal u i d ≡ true) (sym e) legal), omega (arith, reach_of-set w.positions i (target_of w i d)))

-- a monomer that is placed clear of the others and keeps its bonds leaves a sound world
pub IsSound-placed : (n : ℕ) (w : Configuration) (p : P3) → IsSound n w → length w.positions < n → is_within_walls w.shape p ≡ true → is_clear w.shape w.positions p ≡ true
    → keeps_bonds w.shape w.set w.positions (neighbours_of w.bonds (length w.positions)) p ≡ true → IsSound n (record w { positions = w.positions ++ p ∷ [] })
IsSound-placed n w p s l h k kept = record {
  box = s.box;
  set = s.set;
  symmetric = s.symmetric;
  table = s.table;
  some = s.some;
  few = s.few;
  room = omega (arith, length-append w.positions (p ∷ []));
  inside = All-push (λ q. is_within_walls w.shape q ≡ true) w.positions p s.inside h;
  apart = pair_push (λ q r. overlaps w.shape q r ≡ false) w.positions p (clear_at w.shape w.positions p k) s.apart;
  bonds = s.bonds;
  vectors = HasVectors-placed w.shape w.set s.box s.set s.symmetric n w.positions w.bonds p s.bonds s.vectors kept;
  marks = s.marks;
}

may_join-at : (w : Configuration) (p q : List P3) (i j : ℕ) → may_join w (slice_get p i) (slice_get q j) ≡ true → i < length p → j < length q → may_bond w.shape w.set (position_at p i) (position_at q j) ≡ true
may_join-at w [] q i j h l m = absurd (omega arith)
may_join-at w (x ∷ xs) q zero j h l m = may_reach-at w.shape w.set q x j h m
may_join-at w (x ∷ xs) q (suc i) j h l m = may_join-at w xs q i j h (omega arith) m

-- a sound world with one bond more
IsSound-bonded : (n : ℕ) (w : Configuration) (i j : ℕ) → IsSound n w → i ≢ j → i < n → j < n → are_bonded w.bonds i j ≡ false
    → (i < length w.positions → j < length w.positions → may_bond w.shape w.set (position_at w.positions i) (position_at w.positions j) ≡ true)
    → is_full w.bonds i ≡ false → is_full w.bonds j ≡ false → IsSound n (bonded w i j)
IsSound-bonded n w i j s ne l m new may room_i room_j = record {
  box = s.box;
  set = s.set;
  symmetric = s.symmetric;
  table = s.table;
  some = s.some;
  few = s.few;
  room = s.room;
  inside = s.inside;
  apart = s.apart;
  bonds = AreBonds-with_bond n w.bonds i j s.bonds ne l m new room_i room_j;
  vectors = HasVectors-joined w.shape w.set s.box s.set s.symmetric w.positions w.bonds i j s.vectors ne (omega (arith, s.bonds.rows)) (omega (arith, s.bonds.rows)) may;
  marks = s.marks;
}

-- the same where the two may be joined, whether they have positions or not
pub IsSound-joined : (n : ℕ) (w : Configuration) (i j : ℕ) → IsSound n w → i ≢ j → i < n → j < n → are_bonded w.bonds i j ≡ false → may_join w (slice_get w.positions i) (slice_get w.positions j) ≡ true
    → is_full w.bonds i ≡ false → is_full w.bonds j ≡ false → IsSound n (bonded w i j)
IsSound-joined n w i j s ne l m new may room_i room_j = IsSound-bonded n w i j s ne l m new (may_join-at w w.positions w.positions i j may) room_i room_j

-- a valid world with one bond more
pub IsValid-bonded : (w : Configuration) (i j : ℕ) → IsValid w → i < length w.positions → j < length w.positions → i ≢ j → are_bonded w.bonds i j ≡ false
    → may_bond w.shape w.set (position_of w i) (position_of w j) ≡ true → is_full w.bonds i ≡ false → is_full w.bonds j ≡ false → IsValid (bonded w i j)
IsValid-bonded w i j v l m ne new may room_i room_j = IsSound-bonded (length w.positions) w i j v ne l m new (λ _ _. may) room_i room_j

-- what `World::bond` keeps, where w are the fields and v is the world that a caller sees
pub bond_keeps : (w v : Configuration) (i j : ℕ) → w ≡ v → IsValid w → i < length v.positions → j < length v.positions → i ≢ j → are_bonded v.bonds i j ≡ false
    → may_bond v.shape v.set (position_of v i) (position_of v j) ≡ true → is_full v.bonds i ≡ false → is_full v.bonds j ≡ false → IsValid (bonded w i j)
bond_keeps w v i j e valid l m ne new may room_i room_j =
    subst (λ u. IsValid (bonded u i j)) (sym e) (IsValid-bonded v i j (subst (λ (u : Configuration). IsValid u) e valid) l m ne new may room_i room_j)

-- a world in which nothing is placed and nobody is bonded
pub IsSound-begun : (shape : Shape) (set : List (P3 × ℕ)) (table : ContactTable) (n : ℕ) → IsBox shape → IsBondSet set → IsSymmetric set → IsContactTable table → 1 ≤ n → n ≤ MOST_MONOMERS
    → IsSound n (begun shape set table n).world
IsSound-begun shape set table n box bond_set symmetric contacts some few = record {
  box = box;
  set = bond_set;
  symmetric = symmetric;
  table = contacts;
  some = some;
  few = few;
  room = omega arith;
  inside = λ k d l. absurd (omega arith);
  apart = λ i j d l m. absurd (omega arith);
  bonds = AreBonds-none n;
  vectors = λ i j l m h. absurd (omega arith);
  marks = record {
    labelled = length-replicate n 0;
    labels = All-replicate (λ label. label ≤ GREATEST_LABEL) n 0 (omega arith);
    valued = length-replicate n 0;
    valences = All-replicate (λ valence. valence ≤ GREATEST_VALENCE) n 0 (omega arith);
    marked = length-replicate n false;
  };
}

-- a sound world whose monomers lose their positions
pub IsSound-unplaced : (n : ℕ) (w : Configuration) → IsSound n w → IsSound n (record w { positions = [] })
IsSound-unplaced n w s = record {
  box = s.box;
  set = s.set;
  symmetric = s.symmetric;
  table = s.table;
  some = s.some;
  few = s.few;
  room = omega arith;
  inside = λ k d l. absurd (omega arith);
  apart = λ i j d l m. absurd (omega arith);
  bonds = s.bonds;
  vectors = λ i j l m h. absurd (omega arith);
  marks = s.marks;
}

-- a sound world with one bond less
pub IsSound-parted : (n : ℕ) (w : Configuration) (i j : ℕ) → IsSound n w → i ≢ j → i < n → j < n → are_bonded w.bonds i j ≡ true → IsSound n (record w { bonds = without_bond w.bonds i j })
IsSound-parted n w i j s ne l m there =
    let l' : i < length w.bonds = omega (arith, s.bonds.rows) in
    let m' : j < length w.bonds = omega (arith, s.bonds.rows) in
    record {
      box = s.box;
      set = s.set;
      symmetric = s.symmetric;
      table = s.table;
      some = s.some;
      few = s.few;
      room = s.room;
      inside = s.inside;
      apart = s.apart;
      bonds = AreBonds-without_bond n w.bonds i j s.bonds ne l m;
      vectors = λ a b k r h. s.vectors a b k r (was_still w.bonds i j ne l' m' s.bonds.ascending a b h);
      marks = s.marks;
    }

-- a sound world in which a monomer has another label, or another valence
pub IsSound-labelled : (n : ℕ) (w : Configuration) (i label : ℕ) → IsSound n w → label ≤ GREATEST_LABEL → IsSound n (record w { labels = set w.labels i label })
IsSound-labelled n w i label s l = record {
  box = s.box;
  set = s.set;
  symmetric = s.symmetric;
  table = s.table;
  some = s.some;
  few = s.few;
  room = s.room;
  inside = s.inside;
  apart = s.apart;
  bonds = s.bonds;
  vectors = s.vectors;
  marks = record {
    labelled = length-set w.labels i label ∙ s.marks.labelled;
    labels = All-set (λ t. t ≤ GREATEST_LABEL) w.labels i label l s.marks.labels;
    valued = s.marks.valued;
    valences = s.marks.valences;
    marked = s.marks.marked;
  };
}

pub IsSound-valued : (n : ℕ) (w : Configuration) (i valence : ℕ) → IsSound n w → valence ≤ GREATEST_VALENCE → IsSound n (record w { valences = set w.valences i valence })
IsSound-valued n w i valence s l = record {
  box = s.box;
  set = s.set;
  symmetric = s.symmetric;
  table = s.table;
  some = s.some;
  few = s.few;
  room = s.room;
  inside = s.inside;
  apart = s.apart;
  bonds = s.bonds;
  vectors = s.vectors;
  marks = record {
    labelled = s.marks.labelled;
    labels = s.marks.labels;
    valued = length-set w.valences i valence ∙ s.marks.valued;
    valences = All-set (λ v. v ≤ GREATEST_VALENCE) w.valences i valence l s.marks.valences;
    marked = s.marks.marked;
  };
}

-- a sound world in which one more monomer is fixed
pub IsSound-fixed : (n : ℕ) (w : Configuration) (i : ℕ) → IsSound n w → IsSound n (record w { fixed = set w.fixed i true })
IsSound-fixed n w i s = record {
  box = s.box;
  set = s.set;
  symmetric = s.symmetric;
  table = s.table;
  some = s.some;
  few = s.few;
  room = s.room;
  inside = s.inside;
  apart = s.apart;
  bonds = s.bonds;
  vectors = s.vectors;
  marks = record {
    labelled = s.marks.labelled;
    labels = s.marks.labels;
    valued = s.marks.valued;
    valences = s.marks.valences;
    marked = length-set w.fixed i true ∙ s.marks.marked;
  };
}
