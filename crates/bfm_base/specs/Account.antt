-- What is said of a sink: the account of what it took, how often it failed, and whether all of it was passed on.
use Rattle.std.specs.Prelude.{◌≡◌, ℕ, ◌≤◌, Bool, true, false, ◌&&◌, List, [], ◌∷◌, Option, length, take, Result, MatchResult}
use Rattle.std.specs.Io.KnownBytes.{Appends, Keeps}
use Rattle.bfm_base.specs.Faults.{Rose}

-- the bytes that a sink took, where it tells them, its count of faults, and whether all that it took is flushed
pub record Account : Type 0 where
  pub taken : Option (List ℕ)
  pub faults : ℕ
  pub flushed : Bool

abbrev pub account_by : Option (List ℕ) → ℕ → Bool → Account
account_by taken faults flushed = record { taken = taken; faults = faults; flushed = flushed }

abbrev pub is_empty : List ℕ → Bool
is_empty [] = true
is_empty (byte ∷ bytes) = false

-- the sink took these bytes, and flushed none of them
pub record Takes (old new : Account) (bytes : List ℕ) : Type 0 where
  pub taken : Appends old.taken new.taken bytes
  pub flushed : new.flushed ≡ (old.flushed && is_empty bytes)

-- it took a whole text, and no call failed
pub record TookAll (old new : Account) (text : List ℕ) : Type 0 where
  pub all : Takes old new text
  pub calm : new.faults ≡ old.faults

-- it took a prefix of a text, and then a call failed
pub record TookPrefix (old new : Account) (text : List ℕ) : Type 0 where
  pub prefix : (n : ℕ) × (n ≤ length text) × Takes old new (take n text)
  pub rose : Rose old.faults new.faults
  pub never_falls : old.faults ≤ new.faults

-- a call failed, and took and flushed nothing
pub record FailedCall (old new : Account) : Type 0 where
  pub kept : Keeps old.taken new.taken
  pub flushed : new.flushed ≡ old.flushed
  pub rose : Rose old.faults new.faults
  pub never_falls : old.faults ≤ new.faults

-- all that was taken is flushed
pub record Flushes (old new : Account) : Type 0 where
  pub kept : Keeps old.taken new.taken
  pub flushed : new.flushed ≡ true
  pub calm : new.faults ≡ old.faults

-- it took a whole text and flushed it, and no call failed
pub record Delivered (old new : Account) (text : List ℕ) : Type 0 where
  pub whole : Appends old.taken new.taken text
  pub flushed : new.flushed ≡ true
  pub calm : new.faults ≡ old.faults

-- A text is sent: the sink took all of it, or a prefix until a call failed. Nothing is flushed.
abbrev pub Sends : {A E : Type 0} → Result A E → Account → Account → List ℕ → Type 0
Sends result old new text = MatchResult result (λ _. TookAll old new text) (λ _. TookPrefix old new text)

-- A text is sent and flushed. Where the flush fails, the prefix is the whole of it.
abbrev pub Delivers : {A E : Type 0} → Result A E → Account → Account → List ℕ → Type 0
Delivers result old new text = MatchResult result (λ _. Delivered old new text) (λ _. TookPrefix old new text)
