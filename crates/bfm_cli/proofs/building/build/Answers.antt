use Rattle.bfm_cli.proofs.StartLemmas.{DoesBuilt-cut, DoesBuilt-whole}
use Rattle.bfm_cli.proofs.building.build.Goals as goal

pub returns-in-Ok-write_start : goal.returns-in-Ok-write_start
returns-in-Ok-write_start g c =
    DoesBuilt-whole c.args.start.now c.in-Ok.world _ _ _ (λ short. (let e = c.in-Ok.ensures.no_room short in cc)) c.in-Ok.ensures.world c.in-Ok.ensures.valid
    (c.in-Ok-write_start.ensures.read_back c.in-Ok.ensures.near) c.in-Ok-write_start.ensures.delivered

pub returns-in-Ok : goal.returns-in-Ok
returns-in-Ok g c =
    DoesBuilt-cut c.args.start.now c.in-Ok.world _ _ _ (λ short. (let e = c.in-Ok.ensures.no_room short in cc)) c.in-Ok.ensures.world c.in-Ok.ensures.valid
    (c.in-Err.ensures.read_back c.in-Ok.ensures.near) c.in-Err.ensures.delivered
