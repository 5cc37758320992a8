-- Tables are told by their entries.
use Rattle.std.proofs.Common.{◌≡◌, ◌≤◌, ◌+◌, ◌-◌, ◌⊎◌, inl, inr, ℕ, zero, suc, ℤ, pos, Bool, true, false, ◌||◌, List, [], ◌∷◌, ◌++◌, length, get_or, cond, refl, sym, ◌∙◌, ap, subst, arith, length-set, set, append_assoc, append-nil}
use Rattle.std.proofs.lemmas.Bool.{cases_Bool, cases_lt}
use Rattle.std.proofs.lemmas.Bool.Decides.{Decides-int_eq}
use Rattle.std.proofs.lemmas.List.Folds.{list_any-append, list_any_at}
use Rattle.std.proofs.lemmas.List.FromFn.{get_or-range_with_len, length-range_with_len}
use Rattle.std.specs.List.{flat_map, list_any, range_with_len}
use Rattle.std.specs.Ordering.{int_eq}
use Rattle.std.specs.Prelude.{unsigned_abs}
use Rattle.bfm_base.specs.declared.limits.TheConstants.{GREATEST_CLASS, GREATEST_WEIGHT}
use Rattle.contact_table.specs.Contacts.{ContactTable, IsClass, IsContactTable, is_same_pair, no_contacts, pair_number, weight_of, with_threshold, with_weight}
use Rattle.contact_table.specs.Entries.{with_entries, with_thresholds, entry_of, entries_of_class, entries_of}
use Rattle.contact_table.proofs.ContactLemmas.{weights-same, IsContactTable-no_contacts, IsContactTable-with_weight, weight_of-no_contacts, weight_of-with_weight}

-- whether some entry is of this pair
abbrev pub mentions : List ((ℕ × ℕ) × ℤ) → ℕ → ℕ → Bool
mentions entries c d = list_any (λ e. is_same_pair e.0.0 e.0.1 c d) entries

-- each entry is of two classes and has the weight that they have in the table
abbrev pub AllTell : ContactTable → List ((ℕ × ℕ) × ℤ) → Type 0
AllTell table [] = Unit {0}
AllTell table (e ∷ es) = (IsClass e.0.0 × IsClass e.0.1 × (e.1 ≡ weight_of table e.0.0 e.0.1)) × AllTell table es

-- a pair and its other order
same_pair : (table : ContactTable) → IsContactTable table → (a b c d : ℕ) → a ≤ GREATEST_CLASS → b ≤ GREATEST_CLASS → is_same_pair a b c d ≡ true
    → weight_of table a b ≡ weight_of table c d
same_pair table t a b c d k l this = grind (arith, t.symmetric a b k l)

own_pair : (c d : ℕ) → is_same_pair c d c d ≡ true
own_pair c d = grind arith

turned_pair : (c d : ℕ) → is_same_pair d c c d ≡ true
turned_pair c d = grind arith

-- a pair has the weight that it has in the table which the entries tell, where some entry is of it or it had that weight before
pub weight_of-with_entries : (entries : List ((ℕ × ℕ) × ℤ)) (start table : ContactTable) → length start.weights ≡ 256 → IsContactTable table → AllTell table entries
    → (c d : ℕ) → c ≤ GREATEST_CLASS → d ≤ GREATEST_CLASS → (weight_of start c d ≡ weight_of table c d) ⊎ (mentions entries c d ≡ true)
    → weight_of (with_entries entries start) c d ≡ weight_of table c d
weight_of-with_entries [] start table size t h c d k l (inl same) = same
weight_of-with_entries [] start table size t h c d k l (inr none) = cc
weight_of-with_entries (e ∷ es) start table size t h c d k l either =
    let a = e.0.0 in
    let b = e.0.1 in
    let next = with_weight a b e.1 start in
    let next_size : length next.weights ≡ 256 = length-set (set start.weights (pair_number a b) e.1) (pair_number b a) e.1 ∙ length-set start.weights (pair_number a b) e.1 ∙ size in
    let told : weight_of next c d ≡ cond (is_same_pair a b c d) e.1 (weight_of start c d) = weight_of-with_weight a b e.1 start c d size h.0.0.1 h.0.1.1 k l in
    let rest = weight_of-with_entries es next table next_size t h.1 c d k l in
    elim (cases_Bool (is_same_pair a b c d)) [
      | inl this ↦ rest (inl (told ∙ ap (λ p. cond p e.1 (weight_of start c d)) this ∙ h.0.2 ∙ same_pair table t a b c d h.0.0.1 h.0.1.1 this))
      | inr other ↦
          let stays : weight_of next c d ≡ weight_of start c d = told ∙ ap (λ p. cond p e.1 (weight_of start c d)) other in
          elim either [
            | inl same ↦ rest (inl (stays ∙ same))
            | inr some ↦ rest (inr (sym (ap (λ p. p || mentions es c d) other) ∙ some))
          ]
    ]

-- what lists have that are put together of others
AllTell-append : (table : ContactTable) (es fs : List ((ℕ × ℕ) × ℤ)) → AllTell table es → AllTell table fs → AllTell table (es ++ fs)
AllTell-append table [] fs h i = i
AllTell-append table (e ∷ es) fs h i = (h.0, AllTell-append table es fs h.1 i)

list_any-flat_map : {X A : Type 0} (p : A → Bool) (f : X → List A) (xs : List X) → list_any p (flat_map f xs) ≡ list_any (λ x. list_any p (f x)) xs
list_any-flat_map p f [] = refl
list_any-flat_map p f (x ∷ xs) = list_any-append p (f x) (flat_map f xs) ∙ ap (λ q. list_any p (f x) || q) (list_any-flat_map p f xs)

-- the entries of a table tell it
entry_of-tells : (table : ContactTable) (a b : ℕ) → IsClass a → IsClass b → AllTell table (entry_of table a b)
entry_of-tells table a b k l = elim (cases_Bool (int_eq (weight_of table a b) (pos 0))) [
  | inl none ↦ subst (λ q. AllTell table (cond q [] (((a, b), weight_of table a b) ∷ []))) (sym none) tt
  | inr some ↦ subst (λ q. AllTell table (cond q [] (((a, b), weight_of table a b) ∷ []))) (sym some) ((k, l, refl), tt)
]

class-tells : (table : ContactTable) (a b n : ℕ) → IsClass a → 1 ≤ b → b + n ≤ 16 → AllTell table (flat_map (entry_of table a) (range_with_len b n))
class-tells table a b zero k l m = tt
class-tells table a b (suc n) k l m =
    AllTell-append table (entry_of table a b) (flat_map (entry_of table a) (range_with_len (b + 1) n))
    (entry_of-tells table a b k (l, omega arith)) (class-tells table a (b + 1) n k (omega arith) (omega arith))

classes-tell : (table : ContactTable) (a n : ℕ) → 1 ≤ a → a + n ≤ 16 → AllTell table (flat_map (entries_of_class table) (range_with_len a n))
classes-tell table a zero l m = tt
classes-tell table a (suc n) l m =
    AllTell-append table (entries_of_class table a) (flat_map (entries_of_class table) (range_with_len (a + 1) n))
    (class-tells table a a (16 - a) (l, omega arith) l (omega arith)) (classes-tell table (a + 1) n (omega arith) (omega arith))

pub entries_of-tell : (table : ContactTable) → AllTell table (entries_of table)
unfolding entries_of
entries_of-tell table = classes-tell table 1 15 (omega arith) (omega arith)

-- they mention each pair that does not weigh 0
ascending-mentioned : (table : ContactTable) (c d : ℕ) → IsClass c → c ≤ d → d ≤ GREATEST_CLASS → int_eq (weight_of table c d) (pos 0) ≡ false
    → (x y : ℕ) → is_same_pair c d x y ≡ true → mentions (entries_of table) x y ≡ true
unfolding entries_of
ascending-mentioned table c d k l m some x y this =
    let p : (ℕ × ℕ) × ℤ → Bool = λ e. is_same_pair e.0.0 e.0.1 x y in
    let of_class : ℕ → Bool = λ a. list_any p (entries_of_class table a) in
    let of_pair : ℕ → Bool = λ b. list_any p (entry_of table c b) in
    let entry : of_pair d ≡ true = ap (λ q. list_any p (cond q [] (((c, d), weight_of table c d) ∷ []))) some ∙ ap (λ q. q || false) this in
    let inner_at : get_or (range_with_len c (16 - c)) (d - c) 0 ≡ d = get_or-range_with_len c (16 - c) (d - c) 0 (omega arith) ∙ omega arith in
    let inner : of_class c ≡ true = list_any-flat_map p (entry_of table c) (range_with_len c (16 - c))
    ∙ list_any_at of_pair (range_with_len c (16 - c)) (d - c) 0 (omega (arith, length-range_with_len c (16 - c))) (ap of_pair inner_at ∙ entry) in
    let outer_at : get_or (range_with_len 1 15) (c - 1) 0 ≡ c = get_or-range_with_len 1 15 (c - 1) 0 (omega arith) ∙ omega arith in
    list_any-flat_map p (entries_of_class table) (range_with_len 1 15)
    ∙ list_any_at of_class (range_with_len 1 15) (c - 1) 0 (omega (arith, length-range_with_len 1 15)) (ap of_class outer_at ∙ inner)

mentioned : (table : ContactTable) (c d : ℕ) → IsContactTable table → IsClass c → IsClass d → int_eq (weight_of table c d) (pos 0) ≡ false
    → mentions (entries_of table) c d ≡ true
mentioned table c d t k l some = elim (cases_lt d c) [
  | inl above ↦
      let turned : int_eq (weight_of table d c) (pos 0) ≡ false = ap (λ w. int_eq w (pos 0)) (t.symmetric d c l.1 k.1) ∙ some in
      ascending-mentioned table d c l (omega arith) k.1 turned c d (turned_pair c d)
  | inr below ↦ ascending-mentioned table c d k below l.1 some c d (own_pair c d)
]

-- weights that a table has are within their limit, so entries that tell it make a table of a table, with its thresholds
IsContactTable-with_entries : (entries : List ((ℕ × ℕ) × ℤ)) (start table : ContactTable) → IsContactTable start → IsContactTable table → AllTell table entries
    → IsContactTable (with_entries entries start)
IsContactTable-with_entries [] start table s t h = s
IsContactTable-with_entries (e ∷ es) start table s t h =
    let small : unsigned_abs (weight_of table e.0.0 e.0.1) ≤ GREATEST_WEIGHT = t.weights (pair_number e.0.0 e.0.1) (pos 0) (omega (arith, t.pairs, h.0.0.1, h.0.1.1)) in
    let limit : unsigned_abs e.1 ≤ GREATEST_WEIGHT = subst (λ w. unsigned_abs w ≤ GREATEST_WEIGHT) (sym h.0.2) small in
    IsContactTable-with_entries es (with_weight e.0.0 e.0.1 e.1 start) table (IsContactTable-with_weight e.0.0 e.0.1 e.1 start h.0.0 h.0.1 limit s) t h.1

pub thresholds-with_entries : (entries : List ((ℕ × ℕ) × ℤ)) (start : ContactTable) → (with_entries entries start).thresholds ≡ start.thresholds
thresholds-with_entries [] start = refl
thresholds-with_entries (e ∷ es) start = thresholds-with_entries es (with_weight e.0.0 e.0.1 e.1 start)

-- a table by what it keeps
abbrev with_list : List ℤ → List ℕ → ContactTable
with_list weights thresholds = record { weights = weights; thresholds = thresholds }

-- the entries of a table give its weights back
pub weights-with_entries : (table : ContactTable) → IsContactTable table → (with_entries (entries_of table) no_contacts).weights ≡ table.weights
weights-with_entries table t =
    let empty = IsContactTable-no_contacts in
    let tell = entries_of-tell table in
    let each : (a b : ℕ) → IsClass a → IsClass b → weight_of (with_entries (entries_of table) no_contacts) a b ≡ weight_of table a b = λ a b k l.
    weight_of-with_entries (entries_of table) no_contacts table empty.pairs t tell a b k.1 l.1 (elim (cases_Bool (int_eq (weight_of table a b) (pos 0))) [
      | inl none ↦ inl (weight_of-no_contacts a b k.1 l.1 ∙ sym ((Decides-int_eq (weight_of table a b) (pos 0)).0 none))
      | inr some ↦ inr (mentioned table a b t k l some)
    ]) in
    weights-same (with_entries (entries_of table) no_contacts) table (IsContactTable-with_entries (entries_of table) no_contacts table empty t tell) t each

pub with_thresholds-all : (ts : List ℕ) (table : ContactTable) → with_thresholds ts table ≡ record { weights = table.weights; thresholds = table.thresholds ++ ts }
with_thresholds-all [] table = ap (with_list table.weights) (sym (append-nil table.thresholds))
with_thresholds-all (t ∷ ts) table =
    with_thresholds-all ts (with_threshold t table) ∙ ap (with_list table.weights) (append_assoc table.thresholds (t ∷ []) ts)

-- one entry more, and one threshold more
pub with_entries-push : (entries : List ((ℕ × ℕ) × ℤ)) (e : (ℕ × ℕ) × ℤ) (start : ContactTable) → with_entries (entries ++ e ∷ []) start ≡ with_weight e.0.0 e.0.1 e.1 (with_entries entries start)
with_entries-push [] e start = refl
with_entries-push (d ∷ entries) e start = with_entries-push entries e (with_weight d.0.0 d.0.1 d.1 start)

pub with_thresholds-push : (thresholds : List ℕ) (t : ℕ) (start : ContactTable) → with_thresholds (thresholds ++ t ∷ []) start ≡ with_threshold t (with_thresholds thresholds start)
with_thresholds-push [] t start = refl
with_thresholds-push (u ∷ thresholds) t start = with_thresholds-push thresholds t (with_threshold u start)

-- a table is what its entries and thresholds make of the one that has none
pub with_thresholds-with_entries : (table : ContactTable) → IsContactTable table → with_thresholds table.thresholds (with_entries (entries_of table) no_contacts) ≡ table
unfolding no_contacts
with_thresholds-with_entries table t =
    let told = with_entries (entries_of table) no_contacts in
    with_thresholds-all table.thresholds told
    ∙ ap (λ ts. with_list told.weights (ts ++ table.thresholds)) (thresholds-with_entries (entries_of table) no_contacts)
    ∙ ap (λ w. with_list w table.thresholds) (weights-with_entries table t)
