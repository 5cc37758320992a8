-- What entries say of monomers, one entry after the other and one monomer after the other.
use Rattle.std.proofs.Common.{◌≡◌, ℕ, zero, suc, ◌+◌, ◌<◌, ◌≤◌, Bool, true, false, cond, ◌||◌, List, [], ◌∷◌, ◌++◌, length, get_or, take, All, refl, ap, sym, ◌∙◌, arith, nat_le, add-zero}
use Rattle.std.proofs.lemmas.List.{take_more}
use Rattle.std.proofs.lemmas.Bool.Decides.{nat_tests}
use Rattle.bfm_commands.specs.Causes.{some_range_beyond}
use Rattle.bfm_commands.specs.History.{is_among, last_said, said_from}
use Rattle.bfm_commands.specs.Strokes.{value_at}
use Rattle.bfm_commands.specs.declared.forms.Range.{Range}

-- one entry more
last_said-append : (said : List (Range × ℕ)) (e : Range × ℕ) (i v : ℕ) → last_said (said ++ e ∷ []) i v ≡ cond (is_among e.0 i) e.1 (last_said said i v)
last_said-append [] e i v = refl
last_said-append (x ∷ said) e i v = last_said-append said e i (cond (is_among x.0 i) x.1 v)

abbrev pub nobody : Range × ℕ
nobody = (record { first = 0; last = 0 }, 0)

last_said-more : (said : List (Range × ℕ)) (k i : ℕ) → k < length said
    → last_said (take (k + 1) said) i 0 ≡ cond (is_among (get_or said k nobody).0 i) (get_or said k nobody).1 (last_said (take k said) i 0)
last_said-more said k i l = ap (λ xs. last_said xs i 0) (take_more said k nobody l) ∙ last_said-append (take k said) (get_or said k nobody) i 0

value_at-turn : (said : List (Range × ℕ)) (k : ℕ) → value_at said (k + 1) ≡ (get_or said k nobody).1
value_at-turn said k = let one : k + 1 ≡ suc k = omega arith in ap (value_at said) one

-- the strokes of one entry more
pub value_at-laid : (said : List (Range × ℕ)) (k i old new : ℕ) → k < length said → new ≡ cond (is_among (get_or said k nobody).0 i) (k + 1) old
    → value_at said old ≡ last_said (take k said) i 0 → value_at said new ≡ last_said (take (k + 1) said) i 0
value_at-laid said k i old new l is h =
    ap (value_at said) is ∙ (by_test (is_among (get_or said k nobody).0 i) ∙ sym (last_said-more said k i l))
  where
    by_test : (b : Bool) → value_at said (cond b (k + 1) old) ≡ cond b (get_or said k nobody).1 (last_said (take k said) i 0)
    by_test true = value_at-turn said k
    by_test false = h

-- each range is among the monomers
pub range-present : (said : List (Range × ℕ)) (count k : ℕ) (d : Range × ℕ) → some_range_beyond count said ≡ false → k < length said → (get_or said k d).0.last < count
range-present [] count k d h l = absurd (omega arith)
range-present (e ∷ said) count zero d h l = let at : nat_le count e.0.last ≡ false = or_left _ _ h in grind (arith, nat_tests)
  where
    or_left : (a b : Bool) → (a || b) ≡ false → a ≡ false
    or_left true b e = absurd (cc)
    or_left false b e = refl
range-present (e ∷ said) count (suc k) d h l = range-present said count k d (or_right _ _ h) (omega arith)
  where
    or_right : (a b : Bool) → (a || b) ≡ false → b ≡ false
    or_right true b e = absurd (cc)
    or_right false b e = e

-- one monomer more
pub said_from-more : (said : List (Range × ℕ)) (i n : ℕ) → said_from said i (n + 1) ≡ said_from said i n ++ last_said said (i + n) 0 ∷ []
said_from-more said i zero = ap (λ m. last_said said m 0 ∷ []) (sym (add-zero i))
said_from-more said i (suc n) =
    let one : suc n + 1 ≡ suc (n + 1) = omega arith in
    let place : i + 1 + n ≡ i + suc n = omega arith in
    ap (said_from said i) one
    ∙ (ap (λ xs. last_said said i 0 ∷ xs) (said_from-more said (i + 1) n) ∙ ap (λ m. last_said said i 0 ∷ (said_from said (i + 1) n ++ last_said said m 0 ∷ [])) place)

pub length-said_from : (said : List (Range × ℕ)) (i n : ℕ) → length (said_from said i n) ≡ n
length-said_from said i zero = refl
length-said_from said i (suc n) = ap suc (length-said_from said (i + 1) n)

-- what is said is at most so much
pub value_at-limit : (said : List (Range × ℕ)) (greatest turn : ℕ) → All (λ e. (e.0.first ≤ e.0.last) × (e.1 ≤ greatest)) said → turn ≤ length said → value_at said turn ≤ greatest
value_at-limit said greatest zero all l = omega arith
value_at-limit said greatest (suc turn) all l = (all turn nobody (omega arith)).1
