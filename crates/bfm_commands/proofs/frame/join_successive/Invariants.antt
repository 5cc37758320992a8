use Rattle.bfm_commands.proofs.FrameLemmas.{JoinedSoFar}
use Rattle.bfm_commands.proofs.frame.join_successive.Given as goal

abbrev pub invariant-loop-k : goal.invariant-loop-k
invariant-loop-k l = JoinedSoFar l.initial.builder l.builder l.first l.count l.k
