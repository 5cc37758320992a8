use Rattle.std.proofs.Common.{◌≡◌, length, arith}
use Rattle.std.proofs.lemmas.Bool.Decides.{nat_tests}
use Rattle.std.proofs.lemmas.Result.{err_from_is_err_and}
use Rattle.bfm_base.proofs.SendLemmas.{SentSoFar-more, SentSoFar-failed, SentSoFar-some}
use Rattle.bfm_base.proofs.stream.send.Goals as goal

pub loop-rest-preserved : goal.loop-rest-preserved
loop-rest-preserved g c = record {
  sent = SentSoFar-more _ _ _ _ _ _ c.loop-rest.invariant.sent c.in_ok-taken.ensures.taken;
  untouched = λ none.
      let empty : length c.loop-rest.rest.now ≡ 0 = SentSoFar-some _ _ _ _ c.loop-rest.invariant.sent none in
      absurd (grind (arith, nat_tests));
}

pub returns-in_err-taken-clause-sent : goal.returns-in_err-taken-clause-sent
returns-in_err-taken-clause-sent g c =
    let p = err_from_is_err_and c.from_residual.result c.from_residual.ensures.1 in
    rw p.1 (SentSoFar-failed _ _ _ _ _ c.loop-rest.invariant.sent c.in_err-taken.ensures.failed)
