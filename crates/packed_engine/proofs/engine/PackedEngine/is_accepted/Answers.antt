use Rattle.std.proofs.Common.{◌≡◌, arith, false, subst, sym}
use Rattle.bfm_world.specs.Acceptance.{is_accepted}
use Rattle.bfm_world.specs.Configuration.{Configuration}
use Rattle.packed_engine.proofs.WeightLemmas.{is_accepted-nothing}
use Rattle.packed_engine.proofs.engine.PackedEngine.is_accepted.Goals as goal

pub returns-then-not-self-clause-value : goal.returns-then-not-self-clause-value
returns-then-not-self-clause-value g c =
    let weightless : c.self.inside.weighs ≡ false = grind arith in
    sym (subst (λ (w : Configuration). is_accepted w c.args.monomer c.args.dir c.args.word ≡ _) c.self.view_is
    (is_accepted-nothing c.self.inside.world c.args.monomer c.args.dir c.args.word (c.self.invariant.weightless weightless) (omega (arith, c.ranges.word.fits))))
