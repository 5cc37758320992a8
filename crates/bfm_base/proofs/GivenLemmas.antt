-- What a source over memory gives in one call.
use Rattle.std.proofs.Common.{◌≡◌, ℕ, ◌+◌, ◌-◌, ◌<◌, ◌++◌, List, [], length, take, drop, ap, sym, ◌∙◌, arith, min}
use Rattle.std.proofs.lemmas.List.{take_at, drop_all}
use Rattle.std.proofs.lemmas.Simd.{chunk-drop}

-- the front of the slice and what is left after the call are what was left before it
pub given_front : (bytes copied into : List ℕ) (at n : ℕ) → copied ≡ take n (drop at bytes) → length copied ≡ n
    → drop at bytes ≡ take n (copied ++ into) ++ drop (at + n) bytes
given_front bytes copied into at n e len =
    chunk-drop at n bytes ∙ ap (λ l. l ++ drop (at + n) bytes) (sym e ∙ sym (take_at copied into n len))

-- a call that gives nothing to a slice that is not empty finds nothing left
pub given_none : (bytes : List ℕ) (at n step room : ℕ) → n ≡ min step (min room (length bytes - at)) → 0 < step → 0 < room → n ≡ 0
    → drop (at + n) bytes ≡ []
given_none bytes at n step room e s r z = drop_all (at + n) bytes (omega arith)
