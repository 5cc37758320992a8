-- Bytes on their way to a sink: a batch of them is gathered before the sink takes it.
use Rattle.std.specs.Prelude.{◌≡◌, ℕ, List, ◌++◌, Result, MatchResult}
use Rattle.bfm_base.specs.Account.{Account, TookAll, TookPrefix}

-- the sink took the first of these bytes, and no call failed; the rest of them is left
pub record TookFirst (old new : Account) (bytes rest : List ℕ) : Type 0 where
  pub first : List ℕ
  pub whole : first ++ rest ≡ bytes
  pub taken : TookAll old new first

-- The sink took the first of these bytes, and the rest is what the result says. Where a call failed it took a prefix of them.
abbrev pub Passes : {A E : Type 0} → Result A E → Account → Account → List ℕ → (A → List ℕ) → Type 0
Passes result old new bytes rest = MatchResult result (λ a. TookFirst old new bytes (rest a)) (λ _. TookPrefix old new bytes)
