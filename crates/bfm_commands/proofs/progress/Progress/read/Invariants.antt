use Rattle.std.proofs.Common.{◌≡◌, ◌+◌, ◌-◌, ◌≤◌, ◌++◌, ℕ, List, length, take}
use Rattle.bfm_commands.specs.Reading.{Follows, IsSteady}
use Rattle.bfm_commands.proofs.progress.Progress.read.Given as goal

abbrev pub invariant-loop : goal.invariant-loop
invariant-loop l =
    record {
      within : l.at ≤ length l.piece;
      fed : l.self.fed ≡ l.fn.self.fed;
      steady : IsSteady l.self (l.fn.self.fed + l.at);
      follows : (bytes : List ℕ) → Follows l.fn.self bytes → length bytes ≡ l.fn.self.fed → Follows l.self (bytes ++ take l.at l.piece);
    }

abbrev pub decreases-loop : goal.decreases-loop
decreases-loop l = length l.piece - l.at
