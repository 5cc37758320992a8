use Rattle.std.proofs.Common.{arith}
use Rattle.bfm_session.proofs.LoadLemmas.{Decides-stop, limited-longer}
use Rattle.bfm_session.proofs.loading.take_piece.Goals as goal

pub returns-in-Err-clause-decides : goal.returns-in-Err-clause-decides
returns-in-Err-clause-decides c =
    rw c.fault_of.ensures (Decides-stop c.in-Err.stop c.args.bytes.now.items c.args.piece.now c.args.limit c.min.result (omega arith) (omega (arith, c.min.ensures)) ((c.in-Err.ensures).answer c.args.bytes.now.items c.requires.stands))

pub returns-then-piece-room-clause-decides : goal.returns-then-piece-room-clause-decides
returns-then-piece-room-clause-decides c =
    limited-longer c.args.bytes.now.items c.args.piece.now c.args.limit c.min.result (omega arith) (omega (arith, c.min.ensures)) ((c.in-Ok.ensures).answer c.args.bytes.now.items c.requires.stands).follows.right (omega arith)
