-- Tables of contacts by the weights of their pairs of classes.
use Rattle.std.proofs.Common.{◌≡◌, ◌<◌, ◌≤◌, ◌/◌, ◌%◌, ℕ, ℤ, pos, List, zero, suc, length, get_or, set, cond, sym, ◌∙◌, ap, subst, arith, rules}
use Rattle.std.proofs.lemmas.List.{ext_get_or, get_or-replicate, length-replicate, length-set, length_push}
use Rattle.std.proofs.lemmas.List.Elements.{All-push, All-replicate, All-set}
use Rattle.std.proofs.lemmas.Grind.{common_steps}
use Rattle.std.specs.Prelude.{unsigned_abs}
use Rattle.bfm_base.specs.declared.limits.TheConstants.{GREATEST_CLASS, GREATEST_WEIGHT, GREATEST_THRESHOLD}
use Rattle.contact_table.specs.declared.table.TheConstants.{MOST_THRESHOLDS}
use Rattle.contact_table.specs.Contacts.{ContactTable, IsClass, IsContactTable, is_same_pair, no_contacts, pair_number, weight_of, with_threshold, with_weight}

-- every contact of this table weighs nothing
pub weight_of-no_contacts : (a b : ℕ) → a ≤ GREATEST_CLASS → b ≤ GREATEST_CLASS → weight_of no_contacts a b ≡ pos 0
unfolding no_contacts
weight_of-no_contacts a b m n = get_or-replicate 256 (pair_number a b) (pos 0) (pos 0) (omega arith)

pub IsContactTable-no_contacts : IsContactTable no_contacts
unfolding no_contacts
IsContactTable-no_contacts = record {
  pairs = length-replicate 256 (pos 0);
  symmetric = λ a b m n. weight_of-no_contacts a b m n ∙ sym (weight_of-no_contacts b a n m);
  unclassed = λ b n. weight_of-no_contacts 0 b (omega arith) n;
  weights = All-replicate (λ w. unsigned_abs w ≤ GREATEST_WEIGHT) 256 (pos 0) (omega arith);
  few = omega arith;
  thresholds = search rules;
}

-- the weights of a table in which a pair was set
pub weight_of-with_weight : (a b : ℕ) (w : ℤ) (table : ContactTable) (c d : ℕ) → length table.weights ≡ 256
    → a ≤ GREATEST_CLASS → b ≤ GREATEST_CLASS → c ≤ GREATEST_CLASS → d ≤ GREATEST_CLASS
    → weight_of (with_weight a b w table) c d ≡ cond (is_same_pair a b c d) w (weight_of table c d)
weight_of-with_weight a b w table c d size k l m n = grind (arith, common_steps)

-- a table in which a pair was set is one
pub IsContactTable-with_weight : (a b : ℕ) (w : ℤ) (table : ContactTable) → IsClass a → IsClass b → unsigned_abs w ≤ GREATEST_WEIGHT → IsContactTable table
    → IsContactTable (with_weight a b w table)
IsContactTable-with_weight a b w table k l m t =
    let once = set table.weights (pair_number a b) w in
    let size : length (set once (pair_number b a) w) ≡ 256 = length-set once (pair_number b a) w ∙ length-set table.weights (pair_number a b) w ∙ t.pairs in
    let told : (c d : ℕ) → c ≤ GREATEST_CLASS → d ≤ GREATEST_CLASS → weight_of (with_weight a b w table) c d ≡ cond (is_same_pair a b c d) w (weight_of table c d)
    = λ c d m n. weight_of-with_weight a b w table c d t.pairs k.1 l.1 m n in record {
      pairs = size;
      symmetric = λ c d m n. told c d m n ∙ either a b c d w (weight_of table c d) (weight_of table d c) (t.symmetric c d m n) ∙ sym (told d c n m);
      unclassed = λ d n. told 0 d (omega arith) n ∙ apart a b d w (weight_of table 0 d) k.0 l.0 ∙ t.unclassed d n;
      weights = All-set (λ v. unsigned_abs v ≤ GREATEST_WEIGHT) once (pair_number b a) w m (All-set (λ v. unsigned_abs v ≤ GREATEST_WEIGHT) table.weights (pair_number a b) w m t.weights);
      few = t.few;
      thresholds = t.thresholds;
    }
  where
    either : (a b c d : ℕ) (w v u : ℤ) → v ≡ u → cond (is_same_pair a b c d) w v ≡ cond (is_same_pair a b d c) w u
    either a b c d w v u e = grind arith

    apart : (a b d : ℕ) (w v : ℤ) → 1 ≤ a → 1 ≤ b → cond (is_same_pair a b 0 d) w v ≡ v
    apart a b d w v k l = grind arith

-- a table with one threshold more is one
pub IsContactTable-with_threshold : (n : ℕ) (table : ContactTable) → n ≤ GREATEST_THRESHOLD → length table.thresholds < MOST_THRESHOLDS → IsContactTable table
    → IsContactTable (with_threshold n table)
IsContactTable-with_threshold n table k l t = record {
  pairs = t.pairs;
  symmetric = t.symmetric;
  unclassed = t.unclassed;
  weights = t.weights;
  few = omega (arith, length_push table.thresholds n);
  thresholds = All-push (λ t. t ≤ GREATEST_THRESHOLD) table.thresholds n t.thresholds k;
}

-- two tables that agree on all pairs of classes agree on those with class 0
agree : (s t : ContactTable) → IsContactTable s → IsContactTable t → ((a b : ℕ) → IsClass a → IsClass b → weight_of s a b ≡ weight_of t a b)
    → (a b : ℕ) → a ≤ GREATEST_CLASS → b ≤ GREATEST_CLASS → weight_of s a b ≡ weight_of t a b
agree s t p q h zero b k l = p.unclassed b l ∙ sym (q.unclassed b l)
agree s t p q h (suc a) zero k l =
    p.symmetric (suc a) 0 k l ∙ p.unclassed (suc a) k ∙ sym (q.unclassed (suc a) k) ∙ sym (q.symmetric (suc a) 0 k l)
agree s t p q h (suc a) (suc b) k l = h (suc a) (suc b) (omega arith, k) (omega arith, l)

-- and have the same weights
pub weights-same : (s t : ContactTable) → IsContactTable s → IsContactTable t → ((a b : ℕ) → IsClass a → IsClass b → weight_of s a b ≡ weight_of t a b)
    → s.weights ≡ t.weights
weights-same s t p q h =
    let each : (i : ℕ) → i < length s.weights → get_or s.weights i (pos 0) ≡ get_or t.weights i (pos 0) = λ i l.
    let row : i / 16 ≤ GREATEST_CLASS = omega (arith, p.pairs) in
    let column : i % 16 ≤ GREATEST_CLASS = omega arith in
    let place : pair_number (i / 16) (i % 16) ≡ i = omega arith in
    subst (λ (n : ℕ). get_or s.weights n (pos 0) ≡ get_or t.weights n (pos 0)) place (agree s t p q h (i / 16) (i % 16) row column) in
    ext_get_or (pos 0) s.weights t.weights (p.pairs ∙ sym q.pairs) each

-- two tables of the same weights and thresholds are one
pub ContactTable-same : (s t : ContactTable) → IsContactTable s → IsContactTable t
    → ((a b : ℕ) → IsClass a → IsClass b → weight_of s a b ≡ weight_of t a b) → s.thresholds ≡ t.thresholds → s ≡ t
ContactTable-same s t p q h e =
    let made : List ℤ → List ℕ → ContactTable = λ weights thresholds. record { weights = weights; thresholds = thresholds } in
    ap (λ w. made w s.thresholds) (weights-same s t p q h) ∙ ap (made t.weights) e
