use Rattle.std.proofs.Common.{◌≢◌, ◌<◌, ◌≤◌, ℕ, length, get_or}
use Rattle.packed_engine.specs.Spots.{AreSpotsOf}
use Rattle.packed_engine.proofs.renewal.renew_beside.Given as goal

-- all but the neighbours that are still to come
abbrev pub invariant-loop-neighbour : goal.invariant-loop-neighbour
invariant-loop-neighbour l =
    AreSpotsOf l.world (λ i. (k : ℕ) → l.neighbour-index ≤ k → k < length l.neighbour-items → get_or l.neighbour-items k 0 ≢ i) l.spots
