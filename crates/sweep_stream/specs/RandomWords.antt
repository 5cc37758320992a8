-- The random words of a seed (O'Neill's generator, on the stream with the number 54).
use Rattle.std.specs.Prelude.{ℕ}
use Rattle.rand_pcg.specs.Lcg.{Lcg, advance, started, increment_of}
use Rattle.rand_pcg.specs.Pcg.{multiplier_64, pcg32}

-- the generator of a seed
abbrev pub generator_of : ℕ → Lcg
generator_of seed = started 64 multiplier_64 seed (increment_of 64 54)

-- the generator after k words
unfoldable pub generator_after : ℕ → ℕ → Lcg
generator_after seed k = advance 64 multiplier_64 k (generator_of seed)

-- word k of a seed, counted from 0
unfoldable pub word_at : ℕ → ℕ → ℕ
word_at seed k = (pcg32 (generator_after seed k)).0
