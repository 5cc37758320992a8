-- Sums of the weights of contacts: over the monomers, and over the offsets beside a place.
use Rattle.std.proofs.Common.{◌≡◌, ◌≢◌, ◌<◌, ◌≤◌, ◌⊎◌, inl, inr, ℕ, zero, suc, ◌+◌, ◌*◌, ◌/◌, ◌%◌, ◌∷◌, ◌++◌, [], Bool, true, false, cond, ⊎_elim, length, nat_eq, nat_lt, ℤ, pos, ◌+ℤ◌, ◌-ℤ◌, nat_abs, refl, sym, ap, subst, ◌∙◌, arith, add-one, Option, None, Some}
use Rattle.std.proofs.lemmas.Int.{ints}
use Rattle.std.proofs.lemmas.Grind.{common_steps}
use Rattle.std.proofs.lemmas.Bool.Decides.{nat_tests}
use Rattle.std.proofs.lemmas.Bool.{cases_Bool, cases_eq, cases_lt}
use Rattle.std.specs.Cmp.{IsEquivalence}
use Rattle.std.specs.List.{count_by, fold, range_with_len}
use Rattle.std.proofs.lemmas.List.{map-id}
use Rattle.std.proofs.lemmas.List.FromFn.{map-range_with_len_more, sum_by-map-range_with_len_more}
use Rattle.std.proofs.lemmas.List.Sums.{fold_push}
use Rattle.bfm_base.specs.declared.limits.TheConstants.{GREATEST_CLASS, GREATEST_THRESHOLD}
use Rattle.bfm_base.specs.declared.place.Dir.{Dir}
use Rattle.bfm_base.specs.declared.place.P3.{P3}
use Rattle.bfm_base.specs.Place.{extent_of}
use Rattle.bfm_geom.proofs.ContactLemmas.{no_contact_far}
use Rattle.bfm_geom.proofs.DifferenceLemmas.{P3-same}
use Rattle.bond_set.specs.BondSet.{same_vector}
use Rattle.bond_set.proofs.PairLemmas.{same_from_same_vector, same_vector-equiv}
use Rattle.contact_table.specs.Contacts.{IsContactTable, threshold_of, weight_of}
use Rattle.bfm_world.specs.Acceptance.{contact_weight, delta_of, is_accepted, weight_at}
use Rattle.bfm_world.specs.Configuration.{Configuration, class_at, class_of, label_of, position_of, target_of}
use Rattle.packed_engine.specs.Beside.{WeighsNothing, difference_to, is_contact_offset, offset_at, weight_beside, weight_with}

-- ---- sums
-- the sum of the first n terms
abbrev pub total : (ℕ → ℤ) → ℕ → ℤ
total f n = fold (λ sum j. sum +ℤ f j) (pos 0) (range_with_len 0 n)

-- one term more
total-more : (f : ℕ → ℤ) (n : ℕ) → total f (n + 1) ≡ total f n +ℤ f n
total-more f n =
    let add : ℤ → ℕ → ℤ = λ sum j. sum +ℤ f j in
    let more = map-range_with_len_more (λ (j : ℕ). j) 0 n n (omega arith) in
    let listed : range_with_len 0 (n + 1) ≡ range_with_len 0 n ++ n ∷ [] = simp map-id at more in
    ap (fold add (pos 0)) listed ∙ fold_push add (pos 0) (range_with_len 0 n) n

total-suc : (f : ℕ → ℤ) (n : ℕ) → total f (suc n) ≡ total f n +ℤ f n
total-suc f n = ap (total f) (sym (add-one n)) ∙ total-more f n

plus_nothing : (a : ℤ) → (a +ℤ pos 0 ≡ a) × (pos 0 +ℤ a ≡ a)
plus_nothing a = (omega (arith, ints), omega (arith, ints))

-- the same terms have the same sum
pub total-same : (f g : ℕ → ℤ) (n : ℕ) → ((j : ℕ) → j < n → f j ≡ g j) → total f n ≡ total g n
total-same f g zero h = refl
total-same f g (suc n) h =
    total-suc f n ∙ (ap (λ t. t +ℤ f n) (total-same f g n (λ j l. h j (omega arith))) ∙ (ap (λ t. total g n +ℤ t) (h n (omega arith)) ∙ sym (total-suc g n)))

-- terms that are all 0
total-none : (f : ℕ → ℤ) (n : ℕ) → ((j : ℕ) → j < n → f j ≡ pos 0) → total f n ≡ pos 0
total-none f zero h = refl
total-none f (suc n) h =
    total-suc f n ∙ (ap (λ t. t +ℤ f n) (total-none f n (λ j l. h j (omega arith))) ∙ ((plus_nothing (f n)).1 ∙ h n (omega arith)))

-- terms that are 0 but one
total-one : (f : ℕ → ℤ) (n k : ℕ) → k < n → ((j : ℕ) → j < n → j ≢ k → f j ≡ pos 0) → total f n ≡ f k
total-one f zero k l h = absurd (omega arith)
total-one f (suc n) k l h =
    ⊎_elim
    (λ e. total-suc f n ∙ (ap (λ t. t +ℤ f n) (total-none f n (λ j m. h j (omega arith) (omega arith))) ∙ ((plus_nothing (f n)).1 ∙ ap f (sym e))))
    (λ d. total-suc f n ∙ (ap (λ t. total f n +ℤ t) (h n (omega arith) (omega arith)) ∙ ((plus_nothing (total f n)).0 ∙ total-one f n k (omega arith) (λ j m. h j (omega arith)))))
    (cases_eq k n)

-- a sum of sums is taken part by part
total-plus : (f g : ℕ → ℤ) (n : ℕ) → total (λ j. f j +ℤ g j) n ≡ total f n +ℤ total g n
total-plus f g zero = refl
total-plus f g (suc n) =
    let regroup : (a b c d : ℤ) → (a +ℤ b) +ℤ (c +ℤ d) ≡ (a +ℤ c) +ℤ (b +ℤ d) = λ a b c d. omega (arith, ints) in
    total-suc (λ j. f j +ℤ g j) n
    ∙ (ap (λ t. t +ℤ (f n +ℤ g n)) (total-plus f g n)
    ∙ (regroup (total f n) (total g n) (f n) (g n) ∙ (ap (λ t. t +ℤ (total g n +ℤ g n)) (sym (total-suc f n)) ∙ ap (λ t. total f (suc n) +ℤ t) (sym (total-suc g n)))))

-- and in either order
total-exchange : (f : ℕ → ℕ → ℤ) (m n : ℕ) → total (λ k. total (f k) n) m ≡ total (λ j. total (λ k. f k j) m) n
total-exchange f zero n = sym (total-none (λ j. pos 0) n (λ j l. refl))
total-exchange f (suc m) n =
    total-suc (λ k. total (f k) n) m
    ∙ (ap (λ t. t +ℤ total (f m) n) (total-exchange f m n)
    ∙ (sym (total-plus (λ j. total (λ k. f k j) m) (f m) n) ∙ total-same (λ j. total (λ k. f k j) m +ℤ f m j) (λ j. total (λ k. f k j) (suc m)) n (λ j l. sym (total-suc (λ k. f k j) m))))

-- ---- offsets and their numbers
-- the number of an offset of at most two units along each axis
abbrev number_of : P3 → ℕ
number_of o = nat_abs (o.x +ℤ pos 2) * 25 + nat_abs (o.y +ℤ pos 2) * 5 + nat_abs (o.z +ℤ pos 2)

-- along one axis there are five
five_along : (c : ℤ) → nat_abs c ≤ 2 → (nat_abs (c +ℤ pos 2) < 5) × (pos (nat_abs (c +ℤ pos 2)) -ℤ pos 2 ≡ c)
five_along c h = (omega (arith, ints), omega (arith, ints))

-- and the number tells the three
digits_of : (a b c : ℕ) → a < 5 → b < 5 → c < 5 → ((a * 25 + b * 5 + c) / 25 ≡ a) × ((a * 25 + b * 5 + c) / 5 % 5 ≡ b) × ((a * 25 + b * 5 + c) % 5 ≡ c)
digits_of a b c x y z = (omega arith, omega arith, omega arith)

-- so the offsets and the numbers below 125 are one to one
number_of-lt : (o : P3) → extent_of o ≤ 2 → number_of o < 125
number_of-lt o h = omega (arith, (five_along o.x (omega (arith, h))).0, (five_along o.y (omega (arith, h))).0, (five_along o.z (omega (arith, h))).0)

offset_at-number_of : (o : P3) → extent_of o ≤ 2 → offset_at (number_of o) ≡ o
offset_at-number_of o h =
    let x = five_along o.x (omega (arith, h)) in
    let y = five_along o.y (omega (arith, h)) in
    let z = five_along o.z (omega (arith, h)) in
    let digits = digits_of (nat_abs (o.x +ℤ pos 2)) (nat_abs (o.y +ℤ pos 2)) (nat_abs (o.z +ℤ pos 2)) x.0 y.0 z.0 in
    let less : ℕ → ℤ = λ n. pos n -ℤ pos 2 in
    P3-same (offset_at (number_of o)) o (ap less digits.0 ∙ x.1) (ap less digits.1 ∙ y.1) (ap less digits.2 ∙ z.1)

number_of-offset_at : (k : ℕ) → k < 125 → number_of (offset_at k) ≡ k
number_of-offset_at k h = omega (arith, ints)

-- how many of the first n offsets are of contact
abbrev pub contacts_among : ℕ → ℕ
contacts_among n = count_by (λ k. is_contact_offset (offset_at k)) (range_with_len 0 n)

contacts_among-more : (n : ℕ) → contacts_among (n + 1) ≡ contacts_among n + cond (is_contact_offset (offset_at n)) 1 0
contacts_among-more n =
    let more = sum_by-map-range_with_len_more (λ k. cond (is_contact_offset (offset_at k)) 1 0) (λ (k : ℕ). k) 0 n n (omega arith) in
    simp map-id at more

-- at an offset of contact there is one more, at any other there is not
pub contacts_among-contact : (o : P3) (k : ℕ) → o ≡ offset_at k → is_contact_offset o ≡ true → contacts_among (k + 1) ≡ contacts_among k + 1
contacts_among-contact o k e h = contacts_among-more k ∙ ap (λ t. contacts_among k + cond t 1 0) (ap is_contact_offset (sym e) ∙ h)

pub contacts_among-apart : (o : P3) (k : ℕ) → o ≡ offset_at k → is_contact_offset o ≡ false → contacts_among (k + 1) ≡ contacts_among k
contacts_among-apart o k e h = contacts_among-more k ∙ (ap (λ t. contacts_among k + cond t 1 0) (ap is_contact_offset (sym e) ∙ h) ∙ omega arith)

-- six that lie along an axis, and 24 each of squares 5 and 6
pub contacts_among-all : (n : ℕ) → n ≡ 125 → contacts_among n ≡ 54
contacts_among-all n e = ap contacts_among e

-- ---- the weight of one contact
-- at an offset that is not of contact it is 0
contact_weight-apart : (w : Configuration) (i : ℕ) (p : P3) (j : ℕ) → is_contact_offset (difference_to w p j) ≡ false → contact_weight w i p j ≡ pos 0
contact_weight-apart w i p j h = by (nat_eq j i)
  where
    by : (b : Bool) → cond b (pos 0) (cond (is_contact_offset (difference_to w p j)) (weight_of w.table (class_at w i) (class_at w j)) (pos 0)) ≡ pos 0
    by true = refl
    by false = ap (λ t. cond t (weight_of w.table (class_at w i) (class_at w j)) (pos 0)) h

-- and at one of contact that of the two classes, but of the monomer with itself
contact_weight-near : (w : Configuration) (i : ℕ) (p : P3) (j : ℕ) → is_contact_offset (difference_to w p j) ≡ true
    → contact_weight w i p j ≡ cond (nat_eq j i) (pos 0) (weight_of w.table (class_at w i) (class_at w j))
contact_weight-near w i p j h = ap (λ t. cond (nat_eq j i) (pos 0) (cond t (weight_of w.table (class_at w i) (class_at w j)) (pos 0))) h

-- of a monomer without a class it is 0
class_of-limit : (label : ℕ) → class_of label ≤ GREATEST_CLASS
class_of-limit label = grind arith

contact_weight-unclassed : (w : Configuration) (i : ℕ) (p : P3) (j : ℕ) → IsContactTable w.table → class_at w i ≡ 0 → contact_weight w i p j ≡ pos 0
contact_weight-unclassed w i p j t none =
    let nothing : weight_of w.table (class_at w i) (class_at w j) ≡ pos 0 =
    ap (λ a. weight_of w.table a (class_at w j)) none ∙ t.unclassed (class_at w j) (class_of-limit (label_of w j)) in
    grind (arith, common_steps, nothing)

weight_at-unclassed : (w : Configuration) (i : ℕ) (p : P3) → IsContactTable w.table → class_at w i ≡ 0 → weight_at w i p ≡ pos 0
weight_at-unclassed w i p t none = total-none (contact_weight w i p) (length w.positions) (λ j l. contact_weight-unclassed w i p j t none)

pub delta_of-unclassed : (w : Configuration) (i : ℕ) (dir : Dir) → IsContactTable w.table → class_at w i ≡ 0 → delta_of w i dir ≡ pos 0
delta_of-unclassed w i dir t none =
    omega (arith, ints, weight_at-unclassed w i (target_of w i dir) t none, weight_at-unclassed w i (position_of w i) t none)

-- where no contact of any classes weighs anything
contact_weight-nothing : (w : Configuration) (i : ℕ) (p : P3) (j : ℕ) → WeighsNothing w.table → contact_weight w i p j ≡ pos 0
contact_weight-nothing w i p j none =
    let nothing : weight_of w.table (class_at w i) (class_at w j) ≡ pos 0 = none (class_at w i) (class_at w j) (class_of-limit (label_of w i)) (class_of-limit (label_of w j)) in
    grind (arith, common_steps, nothing)

weight_at-nothing : (w : Configuration) (i : ℕ) (p : P3) → WeighsNothing w.table → weight_at w i p ≡ pos 0
weight_at-nothing w i p none = total-none (contact_weight w i p) (length w.positions) (λ j l. contact_weight-nothing w i p j none)

delta_of-nothing : (w : Configuration) (i : ℕ) (dir : Dir) → WeighsNothing w.table → delta_of w i dir ≡ pos 0
delta_of-nothing w i dir none =
    omega (arith, ints, weight_at-nothing w i (target_of w i dir) none, weight_at-nothing w i (position_of w i) none)

-- and every word below the greatest threshold accepts a step
pub is_accepted-nothing : (w : Configuration) (i : ℕ) (dir : Dir) (word : ℕ) → WeighsNothing w.table → word < GREATEST_THRESHOLD → is_accepted w i dir word ≡ true
is_accepted-nothing w i dir word none l =
    subst (λ d. nat_lt word (threshold_of w.table d) ≡ true) (sym (delta_of-nothing w i dir none)) (grind (arith, nat_tests, l))

-- an offset is that of monomer j, or it is not
weight_with-own : (w : Configuration) (i : ℕ) (p o : P3) (j : ℕ) → difference_to w p j ≡ o → weight_with w i p o j ≡ contact_weight w i p j
weight_with-own w i p o j e =
    ap (λ t. cond t (contact_weight w i p j) (pos 0)) (subst (λ (v : P3). same_vector v o ≡ true) (sym e) (IsEquivalence.refl same_vector-equiv o))

weight_with-other : (w : Configuration) (i : ℕ) (p o : P3) (j : ℕ) → difference_to w p j ≢ o → weight_with w i p o j ≡ pos 0
weight_with-other w i p o j n =
    ⊎_elim
    (λ here. absurd (n (same_from_same_vector (difference_to w p j) o here)))
    (λ other. ap (λ t. cond t (contact_weight w i p j) (pos 0)) other)
    (cases_Bool (same_vector (difference_to w p j) o))

weight_with-nothing : (w : Configuration) (i : ℕ) (p o : P3) (j : ℕ) → contact_weight w i p j ≡ pos 0 → weight_with w i p o j ≡ pos 0
weight_with-nothing w i p o j h = by (same_vector (difference_to w p j) o)
  where
    by : (b : Bool) → cond b (contact_weight w i p j) (pos 0) ≡ pos 0
    by true = h
    by false = refl

-- ---- the contacts at one offset
-- at an offset that is not of contact they weigh nothing
weight_beside-apart : (w : Configuration) (i : ℕ) (p o : P3) → is_contact_offset o ≡ false → weight_beside w i p o ≡ pos 0
weight_beside-apart w i p o h = total-none (weight_with w i p o) (length w.positions) (λ j l. by j (cases_Bool (same_vector (difference_to w p j) o)))
  where
    by : (j : ℕ) → (same_vector (difference_to w p j) o ≡ true) ⊎ (same_vector (difference_to w p j) o ≡ false) → weight_with w i p o j ≡ pos 0
    by j (inl here) = weight_with-nothing w i p o j (contact_weight-apart w i p j (ap is_contact_offset (same_from_same_vector (difference_to w p j) o here) ∙ h))
    by j (inr other) = ap (λ t. cond t (contact_weight w i p j) (pos 0)) other

-- who stands at the offset tells what they weigh
module _ (w : Configuration) (i : ℕ) (p o : P3) (found : Option ℕ) (all : (j : ℕ) → j < length w.positions → difference_to w p j ≡ o → found ≡ Some j) where
  pub weight_beside-none : found ≡ None → weight_beside w i p o ≡ pos 0
  weight_beside-none e =
      total-none (weight_with w i p o) (length w.positions) (λ j l. weight_with-other w i p o j (λ d. absurd (let s = all j l d in cc)))

  pub weight_beside-some : (j : ℕ) → found ≡ Some j → j < length w.positions → difference_to w p j ≡ o → is_contact_offset o ≡ true
      → weight_beside w i p o ≡ cond (nat_eq j i) (pos 0) (weight_of w.table (class_at w i) (class_at w j))
  weight_beside-some j e l d h =
      total-one (weight_with w i p o) (length w.positions) j l (λ k m n. weight_with-other w i p o k (λ v. n (same_some k j (sym (all k m v) ∙ e))))
      ∙ (weight_with-own w i p o j d ∙ contact_weight-near w i p j (ap is_contact_offset d ∙ h))
    where
      same_some : (j k : ℕ) → ◌≡◌ {A = Option ℕ} (Some j) (Some k) → j ≡ k
      same_some j k t = cc

-- ---- the contacts at all offsets
-- monomer j is in contact at one offset, or at none
weight_with-all : (w : Configuration) (i : ℕ) (p : P3) (j : ℕ) → total (λ k. weight_with w i p (offset_at k) j) 125 ≡ contact_weight w i p j
weight_with-all w i p j = ⊎_elim far near (cases_lt 2 (extent_of (difference_to w p j)))
  where
    far : 2 < extent_of (difference_to w p j) → total (λ k. weight_with w i p (offset_at k) j) 125 ≡ contact_weight w i p j
    far l =
        let nothing = contact_weight-apart w i p j (no_contact_far (difference_to w p j) l) in
        total-none (λ k. weight_with w i p (offset_at k) j) 125 (λ k m. weight_with-nothing w i p (offset_at k) j nothing) ∙ sym nothing

    near : extent_of (difference_to w p j) ≤ 2 → total (λ k. weight_with w i p (offset_at k) j) 125 ≡ contact_weight w i p j
    near l =
        let d : P3 = difference_to w p j in
        total-one (λ k. weight_with w i p (offset_at k) j) 125 (number_of d) (number_of-lt d l)
        (λ k m n. weight_with-other w i p (offset_at k) j (λ e. n (sym (number_of-offset_at k m) ∙ sym (ap number_of e))))
        ∙ weight_with-own w i p (offset_at (number_of d)) j (sym (offset_at-number_of d l))

-- what the contacts at the first n offsets weigh
abbrev pub weight_around : Configuration → ℕ → P3 → ℕ → ℤ
weight_around w i p n = total (λ k. weight_beside w i p (offset_at k)) n

-- an offset more adds what the contacts there weigh, which is nothing where it is not of contact
pub weight_around-contact : (w : Configuration) (i : ℕ) (p o : P3) (k : ℕ) → o ≡ offset_at k → weight_around w i p (k + 1) ≡ weight_around w i p k +ℤ weight_beside w i p o
weight_around-contact w i p o k e = total-more (λ k. weight_beside w i p (offset_at k)) k ∙ ap (λ (v : P3). weight_around w i p k +ℤ weight_beside w i p v) (sym e)

pub weight_around-apart : (w : Configuration) (i : ℕ) (p o : P3) (k : ℕ) → o ≡ offset_at k → is_contact_offset o ≡ false → weight_around w i p (k + 1) ≡ weight_around w i p k
weight_around-apart w i p o k e h =
    weight_around-contact w i p o k e ∙ (ap (λ t. weight_around w i p k +ℤ t) (weight_beside-apart w i p o h) ∙ (plus_nothing (weight_around w i p k)).0)

-- the contacts at all offsets are all contacts
pub weight_around-all : (w : Configuration) (i : ℕ) (p : P3) (n : ℕ) → n ≡ 125 → weight_around w i p n ≡ weight_at w i p
weight_around-all w i p n e =
    ap (weight_around w i p) e
    ∙ (total-exchange (λ k. weight_with w i p (offset_at k)) 125 (length w.positions)
    ∙ total-same (λ j. total (λ k. weight_with w i p (offset_at k) j) 125) (contact_weight w i p) (length w.positions) (λ j l. weight_with-all w i p j))
