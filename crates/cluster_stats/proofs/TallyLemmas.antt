-- Contacts counted offset by offset and monomer by monomer.
use Rattle.std.proofs.Common.{◌≡◌, ◌≢◌, ℕ, ◌+◌, ◌*◌, ◌^◌, ◌<◌, ◌≤◌, ⊎_elim, Bool, true, false, ◌&&◌, cond, List, length, get_or, take, nat_eq, nat_lt, nat_le, Option, None, Some, ℤ, refl, sym, ap, subst, ◌∙◌, arith}
use Rattle.std.specs.List.{count_by, sum_by, range_with_len}
use Rattle.std.proofs.Math.Nat.{mul-le-mul}
use Rattle.std.proofs.lemmas.Bool.{and_from, and_parts, cases_Bool, cases_eq, or_cases, or_left, or_right}
use Rattle.std.proofs.lemmas.Bool.Decides.{nat_tests}
use Rattle.std.proofs.lemmas.List.{map-id, take_more}
use Rattle.std.proofs.lemmas.List.FromFn.{length-range_with_len, sum_by-map-range_with_len_more}
use Rattle.std.proofs.lemmas.List.Sums.{count_by-le-length, sum_by-le, sum_by_push}
use Rattle.bfm_base.specs.declared.limits.TheConstants.{GREATEST_CLASS}
use Rattle.bfm_base.specs.declared.place.P3.{P3}
use Rattle.bond_set.specs.BondSet.{same_vector}
use Rattle.bond_set.proofs.PairLemmas.{same_from_same_vector, same_vector-equiv}
use Rattle.std.specs.Cmp.{IsEquivalence}
use Rattle.contact_table.specs.Contacts.{is_same_pair}
use Rattle.bfm_world.specs.Configuration.{Configuration, class_at, class_of, label_of}
use Rattle.chain_stats.proofs.JoinLemmas.{same_tests}
use Rattle.chain_stats.proofs.MoleculeLemmas.{same_numbers, same_test}
use Rattle.cluster_stats.specs.declared.shell.TheConstants.{SHELL}
use Rattle.cluster_stats.specs.Contacts.{AreContactCounts, ContactTally, class_pair, later_count, touch, touch_with}
use Rattle.cluster_stats.specs.Places.{vector_of, vector_to}
use Rattle.cluster_stats.proofs.CountLemmas.{count_by-in_turn, count_by-range_none, count_by-range_one, count_by-same, sum_by-same}
use Rattle.cluster_stats.proofs.ShellLemmas.{times-is}

-- ---- classes
-- the number of two classes tells them, but not their order
pub class_pair-same : (a b c d : ℕ) → a ≤ 15 → b ≤ 15 → c ≤ 15 → d ≤ 15 → nat_eq (class_pair c d) (class_pair a b) ≡ is_same_pair a b c d
class_pair-same a b c d p q r s =
    same_tests (nat_eq (class_pair c d) (class_pair a b)) (is_same_pair a b c d)
    (λ h.
    let e : class_pair c d ≡ class_pair a b = same_numbers (class_pair c d) (class_pair a b) h in
    ⊎_elim
    (λ m. or_left (nat_eq c a && nat_eq d b) (nat_eq c b && nat_eq d a) (and_from _ _ (same_test c a m) (same_test d b (omega (arith, m, e)))))
    (λ m. or_right (nat_eq c a && nat_eq d b) (nat_eq c b && nat_eq d a) (and_from _ _ (same_test c b (omega (arith, m, e))) (same_test d a (omega (arith, m, e)))))
    (cases_eq c a))
    (λ h.
    ⊎_elim
    (λ l. let t = and_parts (nat_eq c a) (nat_eq d b) l in same_test (class_pair c d) (class_pair a b) (omega (arith, same_numbers c a t.0, same_numbers d b t.1)))
    (λ l. let t = and_parts (nat_eq c b) (nat_eq d a) l in same_test (class_pair c d) (class_pair a b) (omega (arith, same_numbers c b t.0, same_numbers d a t.1)))
    (or_cases (nat_eq c a && nat_eq d b) (nat_eq c b && nat_eq d a) h))

class_of-le : (label : ℕ) → class_of label ≤ 15
class_of-le label =
    elim (nat_le label 15) as (λ b. nat_le label 15 ≡ b → cond b label 0 ≤ 15) [
      | true ↦ λ e. grind (arith, nat_tests)
      | false ↦ λ e. omega arith
    ] refl

pub class_pair-lt : (a b : ℕ) → a ≤ 15 → b ≤ 15 → class_pair a b < 256
class_pair-lt a b p q = omega arith

-- ---- one offset from a monomer
module _ (w : Configuration) (i : ℕ) where
  -- how many monomers stand at an offset and pass a test, and at all of some offsets
  abbrev pub hit : (ℕ → Bool) → List ℤ → ℕ
  hit passes o = count_by (λ j. same_vector (vector_to w i j) (vector_of o) && passes j) (range_with_len 0 (length w.positions))

  abbrev pub hits : (ℕ → Bool) → List (List ℤ) → ℕ
  hits passes offsets = sum_by (hit passes) offsets

  -- at all offsets of the table these are all that are in contact
  all_hits : (passes : ℕ → Bool) → hits passes SHELL ≡ count_by (λ j. touch w i j && passes j) (range_with_len 0 (length w.positions))
  all_hits passes =
      count_by-in_turn (λ j o. same_vector (vector_to w i j) (vector_of o)) (touch w i) passes SHELL (λ j. times-is (vector_to w i j)) (range_with_len 0 (length w.positions))

  swapped : (a b c : Bool) → (a && (b && c)) ≡ (b && (a && c))
  swapped true b c = refl
  swapped false true c = refl
  swapped false false c = refl

  swapped_two : (a b : Bool) → (a && b) ≡ (b && a)
  swapped_two true true = refl
  swapped_two true false = refl
  swapped_two false true = refl
  swapped_two false false = refl

  pub hits-with : (passes : ℕ → Bool) → hits (λ j. nat_lt i j && passes j) SHELL ≡ later_count w i (λ j. touch w i j && passes j)
  hits-with passes = all_hits (λ j. nat_lt i j && passes j) ∙ count_by-same (λ j. touch w i j && (nat_lt i j && passes j)) (λ j. nat_lt i j && (touch w i j && passes j)) (λ j. swapped (touch w i j) (nat_lt i j) (passes j)) (range_with_len 0 (length w.positions))

  pub hits-all : hits (nat_lt i) SHELL ≡ later_count w i (touch w i)
  hits-all = all_hits (nat_lt i) ∙ count_by-same (λ j. touch w i j && nat_lt i j) (λ j. nat_lt i j && touch w i j) (λ j. swapped_two (touch w i j) (nat_lt i j)) (range_with_len 0 (length w.positions))

  -- one offset more
  pub hits-more : (passes : ℕ → Bool) (m : ℕ) (d : List ℤ) → m < length SHELL → hits passes (take (m + 1) SHELL) ≡ hits passes (take m SHELL) + hit passes (get_or SHELL m d)
  hits-more passes m d h = ap (hits passes) (take_more SHELL m d h) ∙ sum_by_push (hit passes) (take m SHELL) (get_or SHELL m d)

  -- what stands at an offset tells how many pass there
  module _ (o : List ℤ) (found : Option ℕ) (all : (j : ℕ) → j < length w.positions → vector_to w i j ≡ vector_of o → found ≡ Some j) where
    only_found : (k : ℕ) → k < length w.positions → found ≢ Some k → same_vector (vector_to w i k) (vector_of o) ≡ false
    only_found k l n =
        ⊎_elim (λ yes. absurd (n (all k l (same_from_same_vector (vector_to w i k) (vector_of o) yes)))) (λ no. no) (cases_Bool (same_vector (vector_to w i k) (vector_of o)))

    pub hit-none : (passes : ℕ → Bool) → found ≡ None → hit passes o ≡ 0
    hit-none passes e =
        count_by-range_none (λ j. same_vector (vector_to w i j) (vector_of o) && passes j) 0 (length w.positions)
        (λ k l m. ap (λ b. b && passes k) (only_found k (omega arith) (λ s. absurd (let t = sym e ∙ s in cc))))

    pub hit-some : (passes : ℕ → Bool) (j : ℕ) → found ≡ Some j → j < length w.positions → vector_to w i j ≡ vector_of o → hit passes o ≡ cond (passes j) 1 0
    hit-some passes j e l v =
        count_by-range_one (λ k. same_vector (vector_to w i k) (vector_of o) && passes k) j 0 (length w.positions) (omega arith) (omega arith)
        (λ k a b n. ap (λ t. t && passes k) (only_found k (omega arith) (λ s. let t = sym e ∙ s in absurd (n (sym (same_some j k t))))))
        ∙ ap (λ t. cond (t && passes j) 1 0) (subst (λ (u : P3). same_vector u (vector_of o) ≡ true) (sym v) (IsEquivalence.refl same_vector-equiv (vector_of o)))
      where
        same_some : (j k : ℕ) → ◌≡◌ {A = Option ℕ} (Some j) (Some k) → j ≡ k
        same_some j k t = cc

-- ---- over the offsets from a monomer
abbrev pub counted_at : ContactTally → ℕ → ℕ
counted_at tally q = get_or tally.counts q 0

-- the test of a pair of classes
abbrev pub is_later_with : Configuration → ℕ → ℕ → ℕ → Bool
is_later_with w i q j = nat_lt i j && nat_eq (class_pair (class_at w i) (class_at w j)) q

-- what was counted at the first offsets of the table
pub record AreCounted (w : Configuration) (i m : ℕ) (old new : ContactTally) : Type 0 where
  pub counts : (q : ℕ) → q < 256 → counted_at new q ≡ counted_at old q + hits w i (is_later_with w i q) (take m SHELL)
  pub total : new.total ≡ old.total + hits w i (nat_lt i) (take m SHELL)
  pub few : (q : ℕ) → q < 256 → counted_at new q ≤ counted_at old q + m
  pub few_in_all : new.total ≤ old.total + m

pub AreCounted-none : (w : Configuration) (i : ℕ) (old : ContactTally) → AreCounted w i 0 old old
AreCounted-none w i old = record {
  counts = λ q l. omega arith;
  total = omega arith;
  few = λ q l. omega arith;
  few_in_all = omega arith;
}

module _ (w : Configuration) (i m : ℕ) (d : List ℤ) (old new : ContactTally) (h : m < length SHELL) (c : AreCounted w i m old new) (found : Option ℕ)
    (all : (j : ℕ) → j < length w.positions → vector_to w i j ≡ vector_of (get_or SHELL m d) → found ≡ Some j) where
  -- nobody stands at the next offset
  pub AreCounted-free : found ≡ None → AreCounted w i (m + 1) old new
  AreCounted-free e = record {
    counts = λ q l. omega (arith, c.counts q l, hits-more w i (is_later_with w i q) m d h, hit-none w i (get_or SHELL m d) found all (is_later_with w i q) e);
    total = omega (arith, c.total, hits-more w i (nat_lt i) m d h, hit-none w i (get_or SHELL m d) found all (nat_lt i) e);
    few = λ q l. omega (arith, c.few q l);
    few_in_all = omega (arith, c.few_in_all);
  }

  module _ (j : ℕ) (e : found ≡ Some j) (l : j < length w.positions) (v : vector_to w i j ≡ vector_of (get_or SHELL m d)) where
    -- a monomer that is not after monomer i
    pub AreCounted-before : j ≤ i → AreCounted w i (m + 1) old new
    AreCounted-before b =
        let no : nat_lt i j ≡ false = grind (arith, nat_tests) in
        record {
          counts = λ q s.
              omega (
                arith,
                c.counts q s,
                hits-more w i (is_later_with w i q) m d h,
                hit-some w i (get_or SHELL m d) found all (is_later_with w i q) j e l v,
                ap (λ t. ◌+◌ (cond (t && nat_eq (class_pair (class_at w i) (class_at w j)) q) 1 0) 0) no,
              );
          total = omega (arith, c.total, hits-more w i (nat_lt i) m d h, hit-some w i (get_or SHELL m d) found all (nat_lt i) j e l v, ap (λ t. ◌+◌ (cond t 1 0) 0) no);
          few = λ q s. omega (arith, c.few q s);
          few_in_all = omega (arith, c.few_in_all);
        }

    -- one after it, which is counted
    pub AreCounted-after : (more : ContactTally) → i < j
        → ((q : ℕ) → q < 256 → counted_at more q ≡ counted_at new q + cond (nat_eq (class_pair (class_at w i) (class_at w j)) q) 1 0)
        → more.total ≡ new.total + 1 → AreCounted w i (m + 1) old more
    AreCounted-after more b counts total =
        let yes : nat_lt i j ≡ true = grind (arith, nat_tests) in
        record {
          counts = λ q s.
              omega (
                arith,
                c.counts q s,
                counts q s,
                hits-more w i (is_later_with w i q) m d h,
                hit-some w i (get_or SHELL m d) found all (is_later_with w i q) j e l v,
                ap (λ t. ◌+◌ (cond (t && nat_eq (class_pair (class_at w i) (class_at w j)) q) 1 0) 0) yes,
              );
          total = omega (arith, c.total, total, hits-more w i (nat_lt i) m d h, hit-some w i (get_or SHELL m d) found all (nat_lt i) j e l v, ap (λ t. ◌+◌ (cond t 1 0) 0) yes);
          few = λ q s. omega (arith, c.few q s, counts q s, one_at_most (nat_eq (class_pair (class_at w i) (class_at w j)) q));
          few_in_all = omega (arith, c.few_in_all, total);
        }
      where
        one_at_most : (t : Bool) → ◌≤◌ (cond t 1 0) 1
        one_at_most true = omega arith
        one_at_most false = omega arith

-- ---- over the monomers
-- how many pairs pass a test whose lower monomer is below a number
abbrev pub pairs_below : Configuration → (ℕ → ℕ → Bool) → ℕ → ℕ
pairs_below w passes i = sum_by (λ k. later_count w k (passes k)) (range_with_len 0 i)

pub pairs_below-more : (w : Configuration) (passes : ℕ → ℕ → Bool) (i : ℕ) → pairs_below w passes (i + 1) ≡ pairs_below w passes i + later_count w i (passes i)
pairs_below-more w passes i =
    let h = sum_by-map-range_with_len_more (λ k. later_count w k (passes k)) (λ (k : ℕ). k) 0 i i (omega arith) in
    simp map-id at h

later_count-le : (w : Configuration) (i : ℕ) (passes : ℕ → Bool) → later_count w i passes ≤ length w.positions
later_count-le w i passes = omega (arith, count_by-le-length (λ j. nat_lt i j && passes j) (range_with_len 0 (length w.positions)), length-range_with_len 0 (length w.positions))

-- they are far from filling a counter
pub pairs_below-few : (w : Configuration) (passes : ℕ → ℕ → Bool) (i : ℕ) → length w.positions ≤ 2 ^ 18 → i ≤ length w.positions → pairs_below w passes i < 2 ^ 49
pairs_below-few w passes i few l =
    let most = sum_by-le (λ k. later_count w k (passes k)) (length w.positions) (range_with_len 0 i) (λ k d m. later_count-le w (get_or (range_with_len 0 i) k d) (passes (get_or (range_with_len 0 i) k d))) in
    let first : length (range_with_len 0 i) ≤ 2 ^ 18 = omega (arith, length-range_with_len 0 i) in
    let within : length (range_with_len 0 i) * length w.positions ≤ 2 ^ 18 * 2 ^ 18 = mul-le-mul first few in
    omega (arith, most, within)

-- contacts by the number of their classes are contacts by classes
pub pairs_below-classes : (w : Configuration) (a b i : ℕ) → a ≤ GREATEST_CLASS → b ≤ GREATEST_CLASS
    → pairs_below w (touch_with w (class_pair a b)) i ≡ pairs_below w (λ k j. touch w k j && is_same_pair a b (class_at w k) (class_at w j)) i
pairs_below-classes w a b i p q =
    sum_by-same (λ k. later_count w k (touch_with w (class_pair a b) k)) (λ k. later_count w k (λ j. touch w k j && is_same_pair a b (class_at w k) (class_at w j)))
    (λ k. count_by-same (λ j. nat_lt k j && touch_with w (class_pair a b) k j) (λ j. nat_lt k j && (touch w k j && is_same_pair a b (class_at w k) (class_at w j)))
    (λ j. ap (λ t. nat_lt k j && (touch w k j && t)) (class_pair-same a b (class_at w k) (class_at w j) p q (class_of-le (label_of w k)) (class_of-le (label_of w j)))) (range_with_len 0 (length w.positions)))
    (range_with_len 0 i)

pub AreContactCounts-all : (w : Configuration) (tally : ContactTally) → ((q : ℕ) → q < 256 → counted_at tally q ≡ pairs_below w (touch_with w q) (length w.positions))
    → tally.total ≡ pairs_below w (touch w) (length w.positions) → AreContactCounts w tally
AreContactCounts-all w tally counts total = record {
  counts = λ a b p q. counts (class_pair a b) (class_pair-lt a b p q) ∙ pairs_below-classes w a b (length w.positions) p q;
  total = total;
}
