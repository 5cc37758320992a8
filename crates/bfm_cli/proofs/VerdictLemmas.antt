-- Two verdicts on one set differ in their weights alone.
use Rattle.std.proofs.Common.{◌≡◌, ℕ, ℤ, pos, List, [], ◌∷◌, length, Result, Ok, Err, IfOk, inl, inr, refl, sym, ap, ◌∙◌, arith}
use Rattle.std.proofs.lemmas.Int.{ints, by_lt_z}
use Rattle.bfm_base.specs.declared.cause.Refused.{Refused}
use Rattle.bfm_base.specs.declared.place.P3.{P3}
use Rattle.bfm_base.specs.declared.place.Dir.{Dir}
use Rattle.bfm_geom.proofs.DifferenceLemmas.{P3-same}
use Rattle.bond_set.specs.Crossing.{IsFirstCrossing, Precedes, rank_of}
use Rattle.crossing_check.specs.Verdict.{IsVerdict}
use Rattle.crossing_check.specs.declared.judgement.SetVerdict.{SetVerdict}
use Rattle.crossing_check.specs.declared.judgement.SetVerdict.TheVariants.{Free, Crossing}
use Rattle.crossing_check.proofs.PlaceLemmas.{place_of-same, direction_number-same}
use Rattle.bfm_commands.specs.declared.loaded.Loaded.{Loaded}
use Rattle.bfm_cli.specs.Outcome.{JudgesSet, first_crossing}

-- two ranks of one length, of which neither is before the other, are one
Precedes-neither : (xs ys : List ℤ) → length xs ≡ length ys → ¬ (Precedes xs ys) → ¬ (Precedes ys xs) → xs ≡ ys
Precedes-neither [] [] e p q = refl
Precedes-neither [] (y ∷ ys) e p q = absurd (omega arith)
Precedes-neither (x ∷ xs) [] e p q = absurd (omega arith)
Precedes-neither (x ∷ xs) (y ∷ ys) e p q =
    let same : x ≡ y = by_lt_z x y (λ l. absurd (p (inl l))) (λ not_less. by_lt_z y x (λ l. absurd (q (inl l))) (λ not_more. omega (arith, ints))) in
    let rest = Precedes-neither xs ys (omega arith) (λ l. p (inr (same, l))) (λ l. q (inr (sym same, l))) in
    ap (λ z. z ∷ xs) same ∙ ap (λ l. y ∷ l) rest

-- the six numbers of one rank
one_rank : (a b c d e f a' b' c' d' e' f' : ℤ) → (a ∷ b ∷ c ∷ d ∷ e ∷ f ∷ []) ≡ (a' ∷ b' ∷ c' ∷ d' ∷ e' ∷ f' ∷ [])
    → (a ≡ a') × (b ≡ b') × (c ≡ c') × (d ≡ d') × (e ≡ e') × (f ≡ f')
one_rank a b c d e f a' b' c' d' e' f' h = (cc, cc, cc, cc, cc, cc)

pos-same : (m n : ℕ) → pos m ≡ pos n → m ≡ n
pos-same m n e = cc

-- a set has one first crossing
IsFirstCrossing-one : (set : List (P3 × ℕ)) (b : P3) (dir : Dir) (c e b' : P3) (dir' : Dir) (c' e' : P3) → IsFirstCrossing set b dir c e → IsFirstCrossing set b' dir' c' e'
    → (b ≡ b') × (dir ≡ dir') × (c ≡ c') × (e ≡ e')
IsFirstCrossing-one set b dir c e b' dir' c' e' p q =
    let rank = Precedes-neither (rank_of set b dir c e) (rank_of set b' dir' c' e') refl (q.none_before b dir c e p.crossing) (p.none_before b' dir' c' e' q.crossing) in
    let same = one_rank _ _ _ _ _ _ _ _ _ _ _ _ rank in (
      place_of-same set b b' p.crossing.bond q.crossing.bond (pos-same _ _ same.0),
      direction_number-same dir dir' (pos-same _ _ same.1),
      P3-same c c' same.3 same.4 same.5,
      place_of-same set e e' p.crossing.other q.crossing.other (pos-same _ _ same.2),
    )

first_crossing-one : (set : List (P3 × ℕ)) (a b : SetVerdict) → IsVerdict set a → IsVerdict set b → first_crossing a ≡ first_crossing b
first_crossing-one set Free Free p q = refl
first_crossing-one set Free (Crossing b dir c e weights) p q = absurd (p b dir c e q.0.crossing)
first_crossing-one set (Crossing b dir c e weights) Free p q = absurd (q b dir c e p.0.crossing)
first_crossing-one set (Crossing b dir c e weights) (Crossing b' dir' c' e' weights') p q =
    let same = IsFirstCrossing-one set b dir c e b' dir' c' e' p.0 q.0 in
    rw same.0 (rw same.1 (rw same.2 (rw same.3 refl)))

-- nor has the set of an accepted file two
pub JudgesSet-one : (file : Result Loaded Refused) (a b : SetVerdict) → JudgesSet a file → JudgesSet b file → IfOk file (λ _. first_crossing a ≡ first_crossing b)
JudgesSet-one (Ok loaded) a b p q = first_crossing-one loaded.world.set a b p q
JudgesSet-one (Err refused) a b p q = tt
