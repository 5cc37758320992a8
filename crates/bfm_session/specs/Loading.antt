-- What reading a file from a source up to a limit comes to.
use Rattle.std.specs.Prelude.{◌≡◌, ℕ, ◌+◌, ◌≤◌, nat_lt, ◌⊎◌, List, Option, None, Some, length, take, Result, Ok, Err, if◌then◌else◌}
use Rattle.std.specs.Io.KnownBytes.{Consumes, IsAtEnd}
use Rattle.bfm_base.specs.Faults.{Rose}
use Rattle.bfm_base.specs.declared.cause.Refused.{Refused}
use Rattle.bfm_commands.specs.Verdict.{first_wrong_of, verdict_of}
use Rattle.bfm_commands.specs.declared.loaded.Loaded.{Loaded}
use Rattle.bfm_session.specs.declared.loading.LoadFault.{LoadFault}
use Rattle.bfm_session.specs.declared.loading.LoadFault.TheVariants as faults

-- what a file comes to that is read up to a limit
pub data FileVerdict : Type 0 where
  accepted : Loaded → FileVerdict
  refused : Refused → FileVerdict
  too_long : FileVerdict

-- what it comes to by the verdict on all its bytes
abbrev pub whole_verdict : Result Loaded Refused → FileVerdict
whole_verdict (Ok loaded) = accepted loaded
whole_verdict (Err wrong) = refused wrong

-- A wrong line goes before the limit, and the limit before what is judged at the end.
abbrev pub limited_or : ℕ → List ℕ → Option Refused → FileVerdict
limited_or limit bytes (Some wrong) = refused wrong
limited_or limit bytes None = if nat_lt limit (length bytes) then too_long else whole_verdict (verdict_of bytes)

-- What the bytes of a file come to that is read up to a limit: the first wrong line that ends within the limit; else
-- they are too long, where they are more than the limit; else the verdict on them.
abbrev pub limited_verdict : ℕ → List ℕ → FileVerdict
limited_verdict limit bytes = limited_or limit bytes (first_wrong_of (take limit bytes))

-- nothing is decided by these bytes: they are within the limit, and none of their finished lines is wrong
pub record IsOpen (limit : ℕ) (bytes : List ℕ) : Type 0 where
  pub within : length bytes ≤ limit
  pub right : first_wrong_of bytes ≡ None

-- a source: the bytes that it has left, where it tells them, and its count of faults
pub record Supply : Type 0 where
  pub left : Option (List ℕ)
  pub faults : ℕ

abbrev pub supply : Option (List ℕ) → ℕ → Supply
supply left faults = record { left = left; faults = faults }

-- how many bytes are read at once
abbrev pub piece_length : ℕ
piece_length = 65536

-- These bytes were taken from a source. Nothing was decided before the last piece of them.
pub record Takes (limit : ℕ) (old new : Supply) (taken : List ℕ) : Type 0 where
  pub consumed : Consumes old.left new.left taken
  pub undecided : (n : ℕ) × (length taken ≤ n + piece_length) × IsOpen limit (take n taken)

-- a source was read to its end, and no call failed
pub record ReadWhole (old new : Supply) : Type 0 where
  pub end : IsAtEnd new.left
  pub calm : new.faults ≡ old.faults

-- an accepted file: what it gives, and its kept part
pub record IsLoaded (loaded : Loaded) (kept : List ℕ) (limit : ℕ) (old new : Supply) (taken : List ℕ) : Type 0 where
  pub takes : Takes limit old new taken
  pub read : ReadWhole old new
  pub verdict : limited_verdict limit taken ≡ accepted loaded
  pub part : kept ≡ take loaded.kept taken

-- the refusal shows in the bytes that were taken, or at the end of the file, where nothing is left
abbrev pub IsShown : Refused → ℕ → List ℕ → Option (List ℕ) → Type 0
IsShown wrong limit taken left = (first_wrong_of (take limit taken) ≡ Some wrong) ⊎ IsAtEnd left

-- why a file was not loaded of which these bytes were taken
abbrev pub Stops : LoadFault → ℕ → Supply → Supply → List ℕ → Type 0
Stops (faults.Refused wrong) limit old new taken =
    (limited_verdict limit taken ≡ refused wrong) × IsShown wrong limit taken new.left × (new.faults ≡ old.faults)
Stops faults.TooLong limit old new taken = (limited_verdict limit taken ≡ too_long) × (new.faults ≡ old.faults)
Stops faults.ReadFault limit old new taken = IsOpen limit taken × Rose old.faults new.faults
Stops faults.Memory limit old new taken = new.faults ≡ old.faults
