-- The usual set of bond vectors (Deutsch and Binder 1991): every order and every choice of signs
-- of six kinds of components.
use Rattle.std.specs.Prelude.{ℕ, ◌+◌, min, max, ℤ, pos, negsuc, unsigned_abs, Bool, nat_eq, List, [], ◌∷◌, map}
use Rattle.std.specs.List.{Any, filter, flat_map}
use Rattle.std.specs.List.Sorted.{IsPermutation}
use Rattle.std.specs.Cmp.Lexicographic.{pointwise}
use Rattle.bfm_base.specs.declared.place.P3.{P3}

-- the absolute values of the components of each kind, in descending order
abbrev pub kinds : List (List ℕ)
kinds =
    (2 ∷ 0 ∷ 0 ∷ []) ∷ (2 ∷ 1 ∷ 0 ∷ []) ∷ (2 ∷ 1 ∷ 1 ∷ []) ∷ (2 ∷ 2 ∷ 1 ∷ []) ∷ (3 ∷ 0 ∷ 0 ∷ []) ∷ (3 ∷ 1 ∷ 0 ∷ []) ∷ []

-- the absolute values of the components
abbrev pub sizes_of : P3 → List ℕ
sizes_of v = unsigned_abs v.x ∷ unsigned_abs v.y ∷ unsigned_abs v.z ∷ []

-- some order and some signs of one of the six kinds
abbrev pub IsUsual : P3 → Type 0
IsUsual v = Any (λ kind. IsPermutation (sizes_of v) kind) kinds

-- the greatest of three numbers, then the middle one, then the least
abbrev pub descending : ℕ → ℕ → ℕ → List ℕ
descending a b c = max a (max b c) ∷ max (min a b) (min (max a b) c) ∷ min a (min b c) ∷ []

-- the absolute values of the components are those of the kind
abbrev pub is_of_kind : List ℕ → P3 → Bool
is_of_kind kind v = pointwise nat_eq (descending (unsigned_abs v.x) (unsigned_abs v.y) (unsigned_abs v.z)) kind

-- from 3 to -3
abbrev pub components : List ℤ
components = pos 3 ∷ pos 2 ∷ pos 1 ∷ pos 0 ∷ negsuc 0 ∷ negsuc 1 ∷ negsuc 2 ∷ []

-- the vectors of such components with these x and y, the greater z first
abbrev pub row : ℤ → ℤ → List P3
row x y = map (λ z. record { x = x; y = y; z = z }) components

-- those with this x, the greater y first
abbrev pub plane : ℤ → List P3
plane x = flat_map (row x) components

-- all of them, the greater x first
unfoldable pub near_vectors : List P3
near_vectors = flat_map plane components

-- the vectors of the kinds, kind by kind
unfoldable pub usual_vectors : List P3
usual_vectors = flat_map (λ kind. filter (is_of_kind kind) near_vectors) kinds

-- vectors with successive identifiers
abbrev pub numbered : ℕ → List P3 → List (P3 × ℕ)
numbered n [] = []
numbered n (v ∷ vs) = (v, n) ∷ numbered (n + 1) vs

-- the first identifier is 17
unfoldable pub usual_set : List (P3 × ℕ)
usual_set = numbered 17 usual_vectors
