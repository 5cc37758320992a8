use Rattle.std.proofs.Common.{◌≡◌, ◌∙◌, ap}
use Rattle.bfm_cli.specs.Start.{trial_world, world_of}
use Rattle.bfm_cli.proofs.TrialLemmas.{DoesTried-cut, DoesTried-whole}
use Rattle.bfm_cli.proofs.trials.make_trial.Goals as goal

pub returns-in-Ok-trial : goal.returns-in-Ok-trial
returns-in-Ok-trial g c =
    let same : c.in-Ok.world ≡ trial_world = c.in-Ok.ensures.world ∙ ap world_of c.trial_start.ensures.start in
    DoesTried-whole c.args.number c.in-Ok.world _ _ _ same c.in-Ok.ensures.valid c.in-Ok-trial.ensures

pub returns-in-Err-WriteFault : goal.returns-in-Err-WriteFault
returns-in-Err-WriteFault g c =
    let same : c.in-Ok.world ≡ trial_world = c.in-Ok.ensures.world ∙ ap world_of c.trial_start.ensures.start in
    let part = rw c.in-Err-WriteFault.field-0-is at c.in-Err-WriteFault.ensures in
    DoesTried-cut c.args.number c.in-Ok.world _ _ _ same c.in-Ok.ensures.valid part
