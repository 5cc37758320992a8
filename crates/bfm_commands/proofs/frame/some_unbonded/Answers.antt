use Rattle.std.proofs.Common.{◌≡◌, ◌+◌, false, sym, arith, rules}
use Rattle.bfm_world.specs.Bonds.{are_bonded}
use Rattle.bfm_commands.proofs.SuccessiveLemmas.{some_unbonded-none, some_unbonded-at}
use Rattle.bfm_commands.proofs.frame.some_unbonded.Goals as goal

pub returns-then-not-bonded : goal.returns-then-not-bonded
returns-then-not-bonded c =
    let k = c.loop-k.k in
    let apart : are_bonded c.args.builder.now.world.bonds k (k + 1) ≡ false = search rules in
    sym (some_unbonded-at c.args.builder.now.world.bonds c.args.first c.args.count k (omega arith) (omega arith) apart)

pub returns : goal.returns
returns c = sym (some_unbonded-none c.args.builder.now.world.bonds c.args.first c.args.count (λ j a b. c.loop-k.invariant j a (omega arith)))
