use Rattle.std.proofs.Common.{refl}
use Rattle.bfm_cli.specs.Start.{trial_start}
use Rattle.bfm_cli.proofs.trials.trial_start.Goals as goal

pub returns-clause-start : goal.returns-clause-start
unfolding trial_start
returns-clause-start c = refl
