use Rattle.std.proofs.Common.{◌≡◌, [], length}
use Rattle.bfm_base.proofs.SendLemmas.{SentSoFar}
use Rattle.bfm_base.proofs.stream.send.Given as goal

abbrev pub invariant-loop-rest : goal.invariant-loop-rest
invariant-loop-rest g l = record {
  sent : SentSoFar (g.S.Sink.account l.initial.sink) (g.S.Sink.account l.sink) l.bytes l.rest;
  untouched : l.bytes ≡ [] → l.sink ≡ l.initial.sink;
}

abbrev pub decreases-loop-rest : goal.decreases-loop-rest
decreases-loop-rest g l = length l.rest
