-- The words of a seed, one after another.
use Rattle.std.proofs.Common.{◌≡◌, ℕ, zero, suc, ◌+◌, ap, sym, ◌∙◌, add-one}
use Rattle.rand_pcg.specs.Lcg.{Lcg, next, advance}
use Rattle.rand_pcg.specs.Pcg.{multiplier_64, pcg32}
use Rattle.rand_pcg.proofs.LcgLemmas.{advance_zero, advance_more}
use Rattle.sweep_stream.specs.RandomWords.{generator_of, generator_after, word_at}

-- a step more at the end is a step more at the beginning
next-advance : (w m n : ℕ) (g : Lcg) → next w m (advance w m n g) ≡ advance w m n (next w m g)
next-advance w m zero g = ap (next w m) (advance_zero w m g) ∙ sym (advance_zero w m (next w m g))
next-advance w m (suc n) g =
    let more : (h : Lcg) → advance w m (suc n) h ≡ advance w m n (next w m h) = λ h. ap (λ k. advance w m k h) (sym (add-one n)) ∙ sym (advance_more w m n h) in
    ap (next w m) (more g) ∙ (next-advance w m n (next w m g) ∙ sym (more (next w m g)))

-- the generator after one more word
pub generator_after-more : (seed k : ℕ) → (pcg32 (generator_after seed k)).1 ≡ generator_after seed (k + 1)
unfolding generator_after
generator_after-more seed k = next-advance 64 multiplier_64 k (generator_of seed) ∙ advance_more 64 multiplier_64 k (generator_of seed)

-- what a call of `next` gives, and what it leaves
pub word_drawn : (old new : Lcg) (word seed k : ℕ) → (word, new) ≡ pcg32 old → old ≡ generator_after seed k → (word ≡ word_at seed k) × (new ≡ generator_after seed (k + 1))
unfolding word_at
word_drawn old new word seed k e f =
    let p : (word, new) ≡ pcg32 (generator_after seed k) = e ∙ ap pcg32 f in
    (ap (λ (q : ℕ × Lcg). q.0) p, ap (λ (q : ℕ × Lcg). q.1) p ∙ generator_after-more seed k)
