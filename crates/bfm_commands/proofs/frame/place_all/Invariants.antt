use Rattle.bfm_commands.proofs.FrameLemmas.{PlacedSoFar}
use Rattle.bfm_commands.proofs.frame.place_all.Given as goal

abbrev pub invariant-loop-k : goal.invariant-loop-k
invariant-loop-k l = PlacedSoFar l.initial.builder l.builder l.positions l.k
