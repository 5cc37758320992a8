use Rattle.network_builder.proofs.JoinLemmas.{JoinedBelow}
use Rattle.network_builder.proofs.strands.join_along.Given as goal

abbrev pub invariant-loop-monomer : goal.invariant-loop-monomer
invariant-loop-monomer l = JoinedBelow l.initial.builder l.builder l.nodes l.strand l.axis l.monomer
