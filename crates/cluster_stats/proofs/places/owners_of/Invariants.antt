use Rattle.cluster_stats.specs.Places.{AreOwners}
use Rattle.cluster_stats.proofs.places.owners_of.Given as goal

abbrev pub invariant-loop-i : goal.invariant-loop-i
invariant-loop-i l = AreOwners l.world l.i l.owners
