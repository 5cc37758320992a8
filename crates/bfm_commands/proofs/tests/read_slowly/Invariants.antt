use Rattle.std.proofs.Common.{◌≡◌}
use Rattle.bfm_commands.proofs.tests.read_slowly.Given as goal

abbrev pub invariant-loop-k : goal.invariant-loop-k
invariant-loop-k g l = l.reader.progress.fed ≡ l.k
