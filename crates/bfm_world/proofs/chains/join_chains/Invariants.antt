use Rattle.bfm_world.proofs.ChainLemmas.{JoinedSoFar}
use Rattle.bfm_world.proofs.chains.join_chains.Given as goal

abbrev pub invariant-loop-next : goal.invariant-loop-next
invariant-loop-next l = JoinedSoFar l.initial.builder l.builder l.chain_length l.next
