use Rattle.std.proofs.Common.{◌≡◌, ◌*◌, ◌≤◌, length, take}
use Rattle.std.specs.List.{sum_by}
use Rattle.bfm_base.specs.declared.limits.TheConstants.{MOST_MONOMERS, WORLD_REACH}
use Rattle.bfm_session.specs.Trial.{top_sum}
use Rattle.bfm_session.proofs.trials.top_sum.Given as goal

-- the tops so far are added up, and are few
abbrev pub invariant-loop-k : goal.invariant-loop-k
invariant-loop-k l = record {
  sum : l.sum ≡ top_sum l.world (take l.k l.molecules);
  small : l.sum ≤ sum_by length (take l.k l.molecules) * (MOST_MONOMERS * (3 * (WORLD_REACH * WORLD_REACH)));
}
