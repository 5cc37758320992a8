use Rattle.bfm_base.proofs.SendLemmas.{Delivers-flushed}
use Rattle.bfm_session.proofs.analysis.write_info.Goals as goal

pub returns : goal.returns
returns g c = Delivers-flushed c.flush.result _ _ _ _ c.in_ok-info_lines.ensures c.flush.ensures.flushed c.flush.ensures.failed
