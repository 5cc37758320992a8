-- Two flat tables of bytes in which a set finds the identifier of a vector and the vector of an identifier.
use Rattle.std.specs.Prelude.{◌≡◌, ◌≤◌, ℕ, zero, suc, ◌+◌, ◌*◌, ℤ, pos, negsuc, List, length, Option, None, slice_index, slice_get, unwrap_or}
use Rattle.bfm_base.specs.declared.place.P3.{P3}
use Rattle.bond_set.specs.BondSet.{id_of, vector_of, vectors_of}

-- 0 to 6 for a component of -3 to 3, and 7 for one that reaches farther
abbrev pub digit_of : ℤ → ℕ
digit_of (negsuc (suc (suc zero))) = 0
digit_of (negsuc (suc zero)) = 1
digit_of (negsuc zero) = 2
digit_of (pos zero) = 3
digit_of (pos (suc zero)) = 4
digit_of (pos (suc (suc zero))) = 5
digit_of (pos (suc (suc (suc zero)))) = 6
digit_of _ = 7

-- where a vector's identifier stands
abbrev pub key_of : P3 → ℕ
key_of v = 64 * digit_of v.x + 8 * digit_of v.y + digit_of v.z

-- the vector after so many less one, and none for 0
abbrev pub vector_before : List P3 → ℕ → Option P3
vector_before vectors zero = None
vector_before vectors (suc k) = slice_get vectors k

-- What the tables hold of a set. By key, the identifier of the vector, and 0 where it is not in the set; by identifier, how many vectors there are up to that of the identifier, and 0 where none has it.
pub record AreTables (pairs : List (P3 × ℕ)) (near places : List ℕ) : Type 0 where
  pub ids : (v : P3) → slice_index near (key_of v) ≡ unwrap_or (id_of pairs v) 0
  pub vectors : (id : ℕ) → vector_before (vectors_of pairs) (slice_index places id) ≡ vector_of pairs id
  pub within : (id : ℕ) → slice_index places id ≤ length pairs
