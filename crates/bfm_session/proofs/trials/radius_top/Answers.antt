use Rattle.bfm_session.proofs.TrialLemmas.{top_within}
use Rattle.bfm_session.proofs.trials.radius_top.Goals as goal

pub returns-clause-limit : goal.returns-clause-limit
returns-clause-limit c =
    top_within c.args.world.now c.args.members.now c.radius.result.top _ _ _ c.requires c.len.ensures.reach c.len.ensures.valid.few c.radius.ensures.whole
