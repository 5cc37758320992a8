use Rattle.std.proofs.Common.{◌∙◌, ap, length}
use Rattle.std.specs.Prelude.{slice_get}
use Rattle.bfm_world.specs.Bonds.{neighbours_of}
use Rattle.bfm_world.specs.Configuration.{may_reach, keeps_bonds}
use Rattle.bfm_world.proofs.BondLemmas.{has-Contains, Contains-has}
use Rattle.bfm_commands.proofs.FrameLemmas.{list_all-same, same_numbers}
use Rattle.bfm_commands.proofs.frame.is_bonded_well.Goals as goal

pub returns : goal.returns
returns c =
    let draft = c.args.builder.now in
    let before = c.args.before.now in
    let row = neighbours_of draft.world.bonds (length before) in
    let listed = c.neighbours-neighbours.ensures.listed in
    c.keeps_bonds.ensures
    ∙ (list_all-same (λ j. may_reach c.shape.result c.set.result.now c.args.p (slice_get before j)) c.neighbours-neighbours.result.now row
    (same_numbers (λ j h. (listed j).0 (has-Contains c.neighbours-neighbours.result.now j h)) (λ j h. Contains-has c.neighbours-neighbours.result.now j ((listed j).1 h)))
    ∙ (ap (λ s. keeps_bonds s c.set.result.now before row c.args.p) c.shape.ensures.shape ∙ ap (λ t. keeps_bonds draft.world.shape t before row c.args.p) c.set.ensures))
