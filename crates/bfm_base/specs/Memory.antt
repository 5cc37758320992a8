-- Sources and sinks over memory, which fail in the calls that they are told.
use Rattle.std.specs.Prelude.{ℕ, ◌<◌, ◌≤◌, Bool, List, length, Some}
use Rattle.bfm_base.specs.Account.{Account}

-- a source: the bytes that are left, how many a call gives at most, the numbers (from 1) of the
-- calls that fail, how many calls there were and how many failed
pub record Supply : Type 0 where
  pub left : List ℕ
  pub step : ℕ
  pub failing : List ℕ
  pub calls : ℕ
  pub faults : ℕ

-- a sink: the bytes that it took, how many it has room for in all, and whether all of them are flushed; the
-- rest as in a source
pub record Store : Type 0 where
  pub taken : List ℕ
  pub flushed : Bool
  pub room : ℕ
  pub step : ℕ
  pub failing : List ℕ
  pub calls : ℕ
  pub faults : ℕ

abbrev pub account_of : Store → Account
account_of store = record { taken = Some store.taken; faults = store.faults; flushed = store.flushed }

-- there are bytes to take, and no room for one of them
abbrev pub IsFullFor : Store → List ℕ → Type 0
IsFullFor store bytes = (0 < length bytes) × (store.room ≤ length store.taken)
