-- Counts of faults of an object of the outside world.
use Rattle.std.specs.Prelude.{ℕ, ◌+◌, ◌-◌, ◌^◌, ◌≤◌, min}

-- how often a thing happened, counted up to the last value of a u64
abbrev pub one_more : ℕ → ℕ
one_more n = min (n + 1) (2 ^ 64 - 1)

-- A count of faults rose in a call: it is greater after it, or stands at the last value of its type.
abbrev pub Rose : ℕ → ℕ → Type 0
Rose before now = one_more before ≤ now
