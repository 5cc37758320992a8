-- The positions of a frame line whose monomers are judged all at once.
use Rattle.std.proofs.Common.{◌≡◌, ℕ, ◌<◌, ◌≤◌, Bool, true, false, not, inl, inr, List, length, take, drop, pos, refl, sym, subst, arith, length-take, All, ◌↔◌, IsTrue}
use Rattle.std.proofs.lemmas.Bool.{cases_Bool, cases_lt}
use Rattle.std.proofs.lemmas.List.{get_or-take, get_or_default}
use Rattle.bfm_base.specs.declared.place.P3.{P3}
use Rattle.bfm_base.specs.declared.place.Shape.{Shape}
use Rattle.bfm_geom.specs.Walls.{is_within_walls}
use Rattle.bfm_world.specs.Configuration.{Configuration}
use Rattle.bfm_world.proofs.OverlapLemmas.{AreApart, AreApart-clear, clear_before}
use Rattle.bfm_commands.specs.Causes.{some_fails, is_apart}
use Rattle.bfm_commands.proofs.FrameLemmas.{passes_at, some_fails-at, some_fails-none}

-- each passes where none fails
pub passes-each : (test : List P3 → P3 → Bool) (ps : List P3) (n : ℕ) → some_fails test (take n ps) (drop n ps) ≡ false → (k : ℕ) → n ≤ k → k < length ps → passes_at test ps k ≡ true
passes-each test ps n none k l m = elim (cases_Bool (passes_at test ps k)) [
  | inl e ↦ e
  | inr e ↦ let some = some_fails-at test ps n k l m e in absurd (cc)
]

-- all are within the walls where those in front are and none of the others fails
pub All-inside : (shape : Shape) (ps : List P3) (n : ℕ) → All (λ p. is_within_walls shape p ≡ true) (take n ps) → some_fails (λ before p. is_within_walls shape p) (take n ps) (drop n ps) ≡ false
    → All (λ p. is_within_walls shape p ≡ true) ps
All-inside shape ps n front none k d l = elim (cases_lt k n) [
  | inl b ↦ rw (sym (get_or-take n ps k d b)) (front k d (omega (arith, length-take n ps)))
  | inr a ↦ rw (sym (get_or_default ps k (record { x = pos 0; y = pos 0; z = pos 0 }) d l)) (passes-each (λ before p. is_within_walls shape p) ps n none k a l)
]

-- one overlaps one before it exactly where not all are apart
pub some_fails-apart : (w : Configuration) (shape : Shape) (ps : List P3) (n : ℕ) (apart : Bool) → shape ≡ w.shape → AreApart w.shape (take n ps) → (IsTrue apart ↔ AreApart shape ps)
    → some_fails (is_apart w) (take n ps) (drop n ps) ≡ not apart
some_fails-apart w shape ps n apart same front told = by_answer apart (subst (λ (s : Shape). IsTrue apart ↔ AreApart s ps) same told)
  where
    by_answer : (b : Bool) → (IsTrue b ↔ AreApart w.shape ps) → some_fails (is_apart w) (take n ps) (drop n ps) ≡ not b
    by_answer true t = some_fails-none (is_apart w) ps n (λ k l m. clear_before w.shape ps k m (t.0 refl))
    by_answer false t = elim (cases_Bool (some_fails (is_apart w) (take n ps) (drop n ps))) [
      | inl e ↦ e
      | inr e ↦ let yes = t.1 (AreApart-clear w.shape ps n front (passes-each (is_apart w) ps n e)) in absurd (cc)
    ]
