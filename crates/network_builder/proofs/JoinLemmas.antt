-- Joining along one axis, monomer by monomer: who is bonded to whom, and how many bonds each has.
use Rattle.std.proofs.Common.{◌≡◌, ℕ, ◌+◌, ◌<◌, ◌≤◌, Bool, true, false, cond, not, ◌&&◌, ◌||◌, nat_lt, nat_eq, ◌⊎◌, inl, inr, List, length, refl, ap, sym, ◌∙◌, subst, arith, pos, ◌≢◌, Result, Ok, Err, is_ok}
use Rattle.std.specs.Prelude.{slice_get}
use Rattle.std.proofs.lemmas.Bool.{and_parts, lt-leb}
use Rattle.std.proofs.lemmas.Bool.Decides.{nat_tests, eqb_tells}
use Rattle.std.proofs.lemmas.List.{length-set}
use Rattle.std.proofs.lemmas.Option.{slice_get-get_or}
use Rattle.bfm_base.specs.declared.cause.Cause.{Cause}
use Rattle.bfm_base.specs.declared.cause.Cause.TheVariants.{BadMonomer, BadBond, TooManyBonds}
use Rattle.bfm_base.specs.declared.limits.TheConstants.{MOST_BONDS}
use Rattle.bfm_base.specs.declared.place.P3.{P3}
use Rattle.bond_set.specs.UsualSet.{usual_set}
use Rattle.bfm_world.specs.Bonds.{neighbours_of, are_bonded, is_full, with_bond, Joins}
use Rattle.bfm_world.specs.Configuration.{IsSound, may_bond, may_reach, position_at}
use Rattle.bfm_world.specs.Draft.{Draft, with_bonds, is_pair, may_join, join_answer}
use Rattle.bfm_world.proofs.BondLemmas.{test-eq, length-put, row_first, row_second, row_other, Joins-with_bond}
use Rattle.network_builder.specs.declared.nodes.Axis.{Axis}
use Rattle.network_builder.specs.Network.{IsNetwork, monomers_in, network_shape, place_of, network_positions, is_on, next_along, comes_after, are_joined_along}
use Rattle.network_builder.proofs.CellLemmas.{next_along-below, next_along-other, next_along-same}
use Rattle.network_builder.proofs.GeometryLemmas.{length-network_positions, position_at-network, may_bond-next}

-- What holds of a draft whose monomers are all placed: all but the bonds is known.
pub record IsPlaced (nodes strand : ℕ) (draft : Draft) : Type 0 where
  pub count : draft.count ≡ monomers_in nodes strand
  pub shape : draft.world.shape ≡ network_shape nodes strand
  pub set : draft.world.set ≡ usual_set
  pub places : draft.world.positions ≡ network_positions nodes strand
  pub room : (i : ℕ) → length (neighbours_of draft.world.bonds i) + 2 ≤ MOST_BONDS

-- The bonds that monomer i has got while those below m were joined: one to the monomer after it, where i is below m, and
-- one to a monomer that it comes after, where that one is below m.
pub record Grown (nodes strand : ℕ) (axis : Axis) (m i old new : ℕ) : Type 0 where
  pub onward : ℕ
  pub back : ℕ
  pub sum : new ≤ old + onward + back
  pub few : onward ≤ 1
  pub own : m ≤ i → onward ≡ 0
  pub from : (back ≡ 0) ⊎ ((back ≡ 1) × (p : ℕ) × (p < m) × (comes_after nodes strand axis p i ≡ true))

-- along this axis j comes after i, which is below m
abbrev pub joined_below : ℕ → ℕ → Axis → ℕ → ℕ → ℕ → Bool
joined_below nodes strand axis m i j = nat_lt i m && comes_after nodes strand axis i j

-- Monomers below m are joined to those that come after them along the axis.
pub record JoinedBelow (start now : Draft) (nodes strand : ℕ) (axis : Axis) (m : ℕ) : Type 0 where
  pub draft : now ≡ with_bonds start now.world.bonds
  pub rows : length now.world.bonds ≡ monomers_in nodes strand
  pub bonds : (i j : ℕ) → i < monomers_in nodes strand → j < monomers_in nodes strand
      → are_bonded now.world.bonds i j ≡ (are_bonded start.world.bonds i j || (joined_below nodes strand axis m i j || joined_below nodes strand axis m j i))
  pub few : (i : ℕ) → Grown nodes strand axis m i (length (neighbours_of start.world.bonds i)) (length (neighbours_of now.world.bonds i))

or_none : (a b c : Bool) → b ≡ false → c ≡ false → a ≡ (a || (b || c))
or_none true b c h k = refl
or_none false b c h k = rw (h, k) refl

pub JoinedBelow-none : (start : Draft) (nodes strand : ℕ) (axis : Axis) → length start.world.bonds ≡ monomers_in nodes strand → JoinedBelow start start nodes strand axis 0
JoinedBelow-none start nodes strand axis rows = record {
  draft = refl;
  rows = rows;
  bonds = λ i j li lj. or_none (are_bonded start.world.bonds i j) (joined_below nodes strand axis 0 i j) (joined_below nodes strand axis 0 j i) (none i j) (none j i);
  few = λ i. record { onward = 0; back = 0; sum = omega arith; few = omega arith; own = λ h. refl; from = inl refl };
}
  where
    none : (i j : ℕ) → joined_below nodes strand axis 0 i j ≡ false
    none i j = let t : nat_lt i 0 ≡ false = grind (arith, nat_tests) in ap (λ b. b && comes_after nodes strand axis i j) t

-- ---- one monomer more
module _ (nodes strand : ℕ) (axis : Axis) (m : ℕ) where
  -- nothing new for other pairs
  below_more : (i j : ℕ) → (i ≡ m → comes_after nodes strand axis i j ≡ false) → joined_below nodes strand axis (m + 1) i j ≡ joined_below nodes strand axis m i j
  below_more i j none = by_test (eqb_tells i m)
    where
      by_test : ((nat_eq i m ≡ true) × (i ≡ m)) ⊎ ((nat_eq i m ≡ false) × (i ≡ m → ⊥)) → joined_below nodes strand axis (m + 1) i j ≡ joined_below nodes strand axis m i j
      by_test (inl e) = rw (none e.1) (and_none (nat_lt i (m + 1)) (nat_lt i m))
        where
          and_none : (a b : Bool) → (a && false) ≡ (b && false)
          and_none true true = refl
          and_none true false = refl
          and_none false true = refl
          and_none false false = refl
      by_test (inr e) = let same : nat_lt i (m + 1) ≡ nat_lt i m = grind (arith, nat_tests, e.1) in ap (λ t. t && comes_after nodes strand axis i j) same

  -- the monomer itself is joined to the next one
  below_here : (j : ℕ) → comes_after nodes strand axis m j ≡ true → joined_below nodes strand axis (m + 1) m j ≡ true
  below_here j h = let l : nat_lt m (m + 1) ≡ true = grind (arith, nat_tests) in ap (λ t. t && comes_after nodes strand axis m j) l ∙ h

  from_kept : (i back : ℕ) → (back ≡ 0) ⊎ ((back ≡ 1) × (p : ℕ) × (p < m) × (comes_after nodes strand axis p i ≡ true)) → (back ≡ 0) ⊎ ((back ≡ 1) × (p : ℕ) × (p < m + 1) × (comes_after nodes strand axis p i ≡ true))
  from_kept i back (inl e) = inl e
  from_kept i back (inr (e, p, l, h)) = inr (e, p, omega arith, h)

  -- who had so many bonds, and no new one
  Grown-kept : (i old new : ℕ) → Grown nodes strand axis m i old new → Grown nodes strand axis (m + 1) i old new
  Grown-kept i old new g = record {
    onward = g.onward;
    back = g.back;
    sum = g.sum;
    few = g.few;
    own = λ h. g.own (omega arith);
    from = from_kept i g.back g.from;
  }

  grown_onward : (i old new later : ℕ) → i ≡ m → later ≡ new + 1 → Grown nodes strand axis m i old new → Grown nodes strand axis (m + 1) i old later
  grown_onward i old new later here more g = record {
    onward = 1;
    back = g.back;
    sum = omega (arith, g.sum, g.own (omega arith));
    few = omega arith;
    own = λ h. absurd (omega arith);
    from = from_kept i g.back g.from;
  }

  grown_back : (i old new later : ℕ) → comes_after nodes strand axis m i ≡ true → later ≡ new + 1 → (g : Grown nodes strand axis m i old new) → g.back ≡ 0 → Grown nodes strand axis (m + 1) i old later
  grown_back i old new later comes more g none = record {
    onward = g.onward;
    back = 1;
    sum = omega (arith, g.sum);
    few = g.few;
    own = λ h. g.own (omega arith);
    from = inr (refl, m, omega arith, comes);
  }

-- each monomer has got two bonds at most
pub Grown-most : (nodes strand : ℕ) (axis : Axis) (m i old new : ℕ) → Grown nodes strand axis m i old new → new ≤ old + 2
Grown-most nodes strand axis m i old new g = elim g.from [ inl e ↦ omega (arith, g.sum, g.few) | inr (e, p, below, after) ↦ omega (arith, g.sum, g.few) ]

is_this_pair : (i j a b : ℕ) → ((i ≡ a) × (j ≡ b)) ⊎ ¬ ((i ≡ a) × (j ≡ b))
is_this_pair i j a b = elim (eqb_tells i a) [
  | inl e ↦ elim (eqb_tells j b) [ inl f ↦ inl (e.1, f.1) | inr f ↦ inr (λ both. f.1 both.1) ]
  | inr e ↦ inr (λ both. e.1 both.0)
]

or_left : (a b c : Bool) → b ≡ true → (a || (b || c)) ≡ true
or_left true b c h = refl
or_left false true c h = refl
or_left false false c h = absurd (cc)

or_right : (a b c : Bool) → c ≡ true → (a || (b || c)) ≡ true
or_right true b c h = refl
or_right false true c h = refl
or_right false false c h = h

chosen : (pair bonded may full : Bool) → pair ≡ true → may ≡ true → full ≡ false
    → cond (not pair) (Err BadMonomer) (cond bonded (Ok false) (cond (not may) (Err BadBond) (cond full (Err TooManyBonds) (Ok true)))) ≡ cond bonded (Ok false) (Ok true)
chosen pair bonded may full a b c = rw (a, b, c) refl

neither : (a b : Bool) → a ≡ false → b ≡ false → (a || b) ≡ false
neither a b h k = rw (h, k) refl

abbrev origin : P3
origin = record { x = pos 0; y = pos 0; z = pos 0 }

module _ (start now : Draft) (nodes strand : ℕ) (axis : Axis) (m : ℕ) (net : IsNetwork nodes strand) (placed : IsPlaced nodes strand start) (s : JoinedBelow start now nodes strand axis m) (l : m < monomers_in nodes strand) where
  -- a monomer that is not on a strand along the axis is joined to none
  pub JoinedBelow-off : is_on strand axis m ≡ false → JoinedBelow start now nodes strand axis (m + 1)
  JoinedBelow-off off =
      let none : (i j : ℕ) → i ≡ m → comes_after nodes strand axis i j ≡ false = λ i j e. rw e (ap (λ t. t && nat_eq (next_along nodes strand axis m) j) off) in
      record {
        draft = s.draft;
        rows = s.rows;
        bonds = λ i j li lj. s.bonds i j li lj
            ∙ (ap (λ t. are_bonded start.world.bonds i j || (t || joined_below nodes strand axis m j i)) (sym (below_more nodes strand axis m i j (none i j)))
            ∙ ap (λ t. are_bonded start.world.bonds i j || (joined_below nodes strand axis (m + 1) i j || t)) (sym (below_more nodes strand axis m j i (none j i))));
        few = λ i. Grown-kept nodes strand axis m i _ _ (s.few i);
      }

  module _ (on : is_on strand axis m ≡ true) where
    abbrev next : ℕ
    next = next_along nodes strand axis m

    next_below : next < monomers_in nodes strand
    next_below = next_along-below nodes strand net axis m l on

    next_other : m ≡ next → ⊥
    next_other e = next_along-other nodes strand net axis m l on (sym e)

    comes : comes_after nodes strand axis m next ≡ true
    comes = let same : nat_eq next next ≡ true = grind (arith, nat_tests) in ap (λ t. t && nat_eq next next) on ∙ same

    only : (j : ℕ) → (j ≡ next → ⊥) → comes_after nodes strand axis m j ≡ false
    only j other = let differs : nat_eq next j ≡ false = grind (arith, nat_tests, other) in ap (λ t. t && nat_eq next j) on ∙ differs

    -- the next monomer comes after no other
    no_back : (old new : ℕ) (g : Grown nodes strand axis m next old new) → g.back ≡ 0
    no_back old new g = elim g.from [
      | inl e ↦ e
      | inr (e, p, below, after) ↦
          let parts = and_parts (is_on strand axis p) (nat_eq (next_along nodes strand axis p) next) after in
          let same : p ≡ m = next_along-same nodes strand net axis p m (omega arith) l parts.0 on (test-eq (next_along nodes strand axis p) next parts.1) in
          absurd (omega arith)
    ]

    -- ---- the answer to a join
    room_here : length (neighbours_of now.world.bonds m) < MOST_BONDS
    room_here =
        let g = s.few m in
        elim g.from [ inl e ↦ omega (arith, g.sum, g.own (omega arith), placed.room m) | inr (e, p, below, after) ↦ omega (arith, g.sum, g.own (omega arith), placed.room m) ]

    room_there : length (neighbours_of now.world.bonds next) < MOST_BONDS
    room_there = let g = s.few next in omega (arith, g.sum, g.few, no_back _ _ g, placed.room next)

    step : may_bond start.world.shape start.world.set (position_at start.world.positions m) (position_at start.world.positions next) ≡ true
    step =
        ap (λ shape. may_bond shape start.world.set (position_at start.world.positions m) (position_at start.world.positions next)) placed.shape
        ∙ (ap (λ set. may_bond (network_shape nodes strand) set (position_at start.world.positions m) (position_at start.world.positions next)) placed.set
        ∙ (ap (λ places. may_bond (network_shape nodes strand) usual_set (position_at places m) (position_at places next)) placed.places
        ∙ (ap (λ p. may_bond (network_shape nodes strand) usual_set p (position_at (network_positions nodes strand) next)) (position_at-network nodes strand m l)
        ∙ (ap (λ q. may_bond (network_shape nodes strand) usual_set (place_of nodes strand m) q) (position_at-network nodes strand next next_below)
        ∙ may_bond-next nodes strand net axis m l on))))

    pub join_answer-next : join_answer now m next ≡ cond (are_bonded now.world.bonds m next) (Ok false) (Ok true)
    join_answer-next =
        let whole : length start.world.positions ≡ monomers_in nodes strand = ap length placed.places ∙ length-network_positions nodes strand in
        let may : may_join now.world (slice_get now.world.positions m) (slice_get now.world.positions next) ≡ true =
        ap (λ (d : Draft). may_join d.world (slice_get d.world.positions m) (slice_get d.world.positions next)) s.draft
        ∙ (ap (λ o. may_join start.world o (slice_get start.world.positions next)) (slice_get-get_or start.world.positions m origin (omega arith))
        ∙ (ap (may_reach start.world.shape start.world.set (position_at start.world.positions m)) (slice_get-get_or start.world.positions next origin (omega (arith, next_below))) ∙ step)) in
        let pair : is_pair now.count m next ≡ true =
        ap (λ n. is_pair n m next) (ap (λ (d : Draft). d.count) s.draft ∙ placed.count) ∙ are_pair (monomers_in nodes strand) next l next_below next_other in
        let full_here : is_full now.world.bonds m ≡ false = lt-leb MOST_BONDS (length (neighbours_of now.world.bonds m)) room_here in
        let full_there : is_full now.world.bonds next ≡ false = lt-leb MOST_BONDS (length (neighbours_of now.world.bonds next)) room_there in
        chosen (is_pair now.count m next) (are_bonded now.world.bonds m next) (may_join now.world (slice_get now.world.positions m) (slice_get now.world.positions next)) (is_full now.world.bonds m || is_full now.world.bonds next) pair may
        (neither _ _ full_here full_there)
      where
        are_pair : (n k : ℕ) → m < n → k < n → (m ≡ k → ⊥) → is_pair n m k ≡ true
        are_pair n k h h' other = grind (arith, nat_tests, other)

    -- ---- after the join
    bonds_next : (later : List (List ℕ)) → Joins m next now.world.bonds later → (i j : ℕ) → i < monomers_in nodes strand → j < monomers_in nodes strand
        → are_bonded later i j ≡ (are_bonded start.world.bonds i j || (joined_below nodes strand axis (m + 1) i j || joined_below nodes strand axis (m + 1) j i))
    bonds_next later joins i j li lj = by_pair (is_this_pair i j m next) (is_this_pair i j next m)
      where
        by_pair : ((i ≡ m) × (j ≡ next)) ⊎ ¬ ((i ≡ m) × (j ≡ next)) → ((i ≡ next) × (j ≡ m)) ⊎ ¬ ((i ≡ next) × (j ≡ m))
            → are_bonded later i j ≡ (are_bonded start.world.bonds i j || (joined_below nodes strand axis (m + 1) i j || joined_below nodes strand axis (m + 1) j i))
        by_pair (inl (e, f)) turned = rw (e, f) (joins.there ∙ sym (or_left _ _ _ (below_here nodes strand axis m next comes)))
        by_pair (inr named) (inl (e, f)) = rw (e, f) (joins.back ∙ sym (or_right _ _ _ (below_here nodes strand axis m next comes)))
        by_pair (inr named) (inr turned) =
            joins.others i j named turned
            ∙ (s.bonds i j li lj
            ∙ (ap (λ t. are_bonded start.world.bonds i j || (t || joined_below nodes strand axis m j i)) (sym (below_more nodes strand axis m i j (λ e. rw e (only j (λ f. named (e, f))))))
            ∙ ap (λ t. are_bonded start.world.bonds i j || (joined_below nodes strand axis (m + 1) i j || t)) (sym (below_more nodes strand axis m j i (λ f. rw f (only i (λ e. turned (e, f))))))))

    -- the two are joined now
    pub JoinedBelow-joined : (later : Draft) → later ≡ with_bonds now (with_bond now.world.bonds m next) → JoinedBelow start later nodes strand axis (m + 1)
    JoinedBelow-joined later new = subst (λ d. JoinedBelow start d nodes strand axis (m + 1)) (sym new) record {
      draft = ap (λ (d : Draft). with_bonds d (with_bond now.world.bonds m next)) s.draft;
      rows = length-set _ next _ ∙ (length-set now.world.bonds m _ ∙ s.rows);
      bonds = bonds_next (with_bond now.world.bonds m next) (Joins-with_bond now.world.bonds m next next_other here there);
      few = λ i. by_place i (eqb_tells i m) (eqb_tells i next);
    }
      where
        here : m < length now.world.bonds
        here = omega (arith, s.rows)

        there : next < length now.world.bonds
        there = omega (arith, s.rows, next_below)

        by_place : (i : ℕ) → ((nat_eq i m ≡ true) × (i ≡ m)) ⊎ ((nat_eq i m ≡ false) × (i ≡ m → ⊥)) → ((nat_eq i next ≡ true) × (i ≡ next)) ⊎ ((nat_eq i next ≡ false) × (i ≡ next → ⊥))
            → Grown nodes strand axis (m + 1) i (length (neighbours_of start.world.bonds i)) (length (neighbours_of (with_bond now.world.bonds m next) i))
        by_place i (inl e) f = rw e.1 (grown_onward nodes strand axis m m _ _ _ refl (ap length (row_first now.world.bonds m next next_other here there) ∙ length-put next (neighbours_of now.world.bonds m)) (s.few m))
        by_place i (inr e) (inl f) =
            rw f.1 (grown_back nodes strand axis m next _ _ _ comes (ap length (row_second now.world.bonds m next next_other here there) ∙ length-put m (neighbours_of now.world.bonds next)) (s.few next) (no_back _ _ (s.few next)))
        by_place i (inr e) (inr f) =
            subst (λ row. Grown nodes strand axis (m + 1) i (length (neighbours_of start.world.bonds i)) (length row)) (sym (row_other now.world.bonds m next next_other here there i e.1 f.1)) (Grown-kept nodes strand axis m i _ _ (s.few i))

    -- they were joined before
    pub JoinedBelow-again : are_bonded now.world.bonds m next ≡ true → are_bonded now.world.bonds next m ≡ true → JoinedBelow start now nodes strand axis (m + 1)
    JoinedBelow-again there back = record {
      draft = s.draft;
      rows = s.rows;
      bonds = bonds_next now.world.bonds (record { there = there; back = back; others = λ i j named turned. refl });
      few = λ i. Grown-kept nodes strand axis m i _ _ (s.few i);
    }

    -- whatever the answer
    pub JoinedBelow-next : (later : Draft) (k : ℕ) (result : Result Bool Cause) → k ≡ next → result ≡ join_answer now m k → (result ≡ Ok true → later ≡ with_bonds now (with_bond now.world.bonds m k))
        → (result ≢ Ok true → later ≡ now) → IsSound later.count later.world → JoinedBelow start later nodes strand axis (m + 1)
    JoinedBelow-next later k result e answer exact same sound = by_test (are_bonded now.world.bonds m next) refl
      where
        said : result ≡ cond (are_bonded now.world.bonds m next) (Ok false) (Ok true)
        said = answer ∙ (ap (join_answer now m) e ∙ join_answer-next)

        by_test : (t : Bool) → are_bonded now.world.bonds m next ≡ t → JoinedBelow start later nodes strand axis (m + 1)
        by_test true bonded =
            let old : result ≡ Ok false = said ∙ ap (λ t. cond t (Ok false) (Ok true)) bonded in
            let kept : later ≡ now = same (not_new result old) in
            let there : are_bonded later.world.bonds m next ≡ true = ap (λ (d : Draft). are_bonded d.world.bonds m next) kept ∙ bonded in
            let back : are_bonded now.world.bonds next m ≡ true = ap (λ (d : Draft). are_bonded d.world.bonds next m) (sym kept) ∙ sound.bonds.both m next there in
            subst (λ d. JoinedBelow start d nodes strand axis (m + 1)) (sym kept) (JoinedBelow-again bonded back)
          where
            not_new : (r : Result Bool Cause) → r ≡ Ok false → r ≡ Ok true → ⊥
            not_new r h k = absurd (cc)
        by_test false free =
            let new : result ≡ Ok true = said ∙ ap (λ t. cond t (Ok false) (Ok true)) free in
            JoinedBelow-joined later (exact new ∙ ap (λ j. with_bonds now (with_bond now.world.bonds m j)) e)

    pub IsOk-next : (k : ℕ) (result : Result Bool Cause) → k ≡ next → result ≡ join_answer now m k → is_ok result ≡ true
    IsOk-next k result e answer = either (are_bonded now.world.bonds m next) result (answer ∙ (ap (join_answer now m) e ∙ join_answer-next))
      where
        either : (t : Bool) (r : Result Bool Cause) → r ≡ cond t (Ok false) (Ok true) → is_ok r ≡ true
        either true r h = ap is_ok h
        either false r h = ap is_ok h

-- all are joined
pub bonds-joined : (start now : Draft) (nodes strand : ℕ) (axis : Axis) (m : ℕ) → JoinedBelow start now nodes strand axis m → monomers_in nodes strand ≤ m → (i j : ℕ) → i < monomers_in nodes strand → j < monomers_in nodes strand
    → are_bonded now.world.bonds i j ≡ (are_bonded start.world.bonds i j || are_joined_along nodes strand axis i j)
bonds-joined start now nodes strand axis m s past i j li lj =
    let first : nat_lt i m ≡ true = grind (arith, nat_tests) in
    let second : nat_lt j m ≡ true = grind (arith, nat_tests) in
    s.bonds i j li lj
    ∙ (ap (λ t. are_bonded start.world.bonds i j || (t && comes_after nodes strand axis i j || joined_below nodes strand axis m j i)) first
    ∙ ap (λ t. are_bonded start.world.bonds i j || (comes_after nodes strand axis i j || t && comes_after nodes strand axis j i)) second)
