use Rattle.std.proofs.Common.{arith}
use Rattle.bfm_base.proofs.SendLemmas.{Delivers-flushed}
use Rattle.bfm_cli.proofs.building.write_start.Goals as goal

pub returns-in_err-write_world-clause-read_back : goal.returns-in_err-write_world-clause-read_back
returns-in_err-write_world-clause-read_back g c near = c.write_world.ensures.read_back (omega (arith, near)) (omega arith)

pub returns-clause-delivered : goal.returns-clause-delivered
returns-clause-delivered g c = Delivers-flushed c.flush.result _ _ _ _ c.in_ok-write_world.ensures.sent c.flush.ensures.flushed c.flush.ensures.failed

pub returns-clause-read_back : goal.returns-clause-read_back
returns-clause-read_back g c near = c.write_world.ensures.read_back (omega (arith, near)) (omega arith)
