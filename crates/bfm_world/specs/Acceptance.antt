-- Contacts of a monomer with the others, and when a local move is made (Metropolis and others 1953).
use Rattle.std.specs.Prelude.{ℕ, nat_eq, nat_lt, length, ℤ, pos, ◌+ℤ◌, ◌-ℤ◌, Bool, ◌&&◌, if◌then◌else◌}
use Rattle.std.specs.List.{fold, range_with_len}
use Rattle.bfm_base.specs.declared.place.P3.{P3}
use Rattle.bfm_base.specs.declared.place.Dir.{Dir}
use Rattle.bfm_geom.specs.Difference.{are_in_contact}
use Rattle.contact_table.specs.Contacts.{weight_of, threshold_of}
use Rattle.bfm_world.specs.Configuration.{Configuration, position_of, target_of, class_at, is_legal}

-- what the contact of monomer i with monomer j weighs where i stands at p: nothing where there is none, nor with itself
abbrev pub contact_weight : Configuration → ℕ → P3 → ℕ → ℤ
contact_weight w i p j =
    if nat_eq j i then pos 0
    else if are_in_contact w.shape p (position_of w j) then weight_of w.table (class_at w i) (class_at w j)
    else pos 0

-- the sum of the weights of the contacts that monomer i has with all others where it stands at p
abbrev pub weight_at : Configuration → ℕ → P3 → ℤ
weight_at w i p = fold (λ sum j. sum +ℤ contact_weight w i p j) (pos 0) (range_with_len 0 (length w.positions))

-- how much this sum changes by a step: after it, less before
abbrev pub delta_of : Configuration → ℕ → Dir → ℤ
delta_of w i d = weight_at w i (target_of w i d) -ℤ weight_at w i (position_of w i)

-- a random word of 32 bits accepts the step where it is below the threshold of the change
abbrev pub is_accepted : Configuration → ℕ → Dir → ℕ → Bool
is_accepted w i d word = nat_lt word (threshold_of w.table (delta_of w i d))

-- an attempt makes its move where the step is legal and the word accepts it
abbrev pub makes_move : Configuration → ℕ → Dir → ℕ → Bool
makes_move w i d word = is_legal w i d && is_accepted w i d word
