use Rattle.std.proofs.Common.{◌≡◌, false, sym, arith, rules, pos}
use Rattle.bfm_world.proofs.ReachLemmas.{extent_at, reach_of-parts}
use Rattle.bfm_commands.specs.Causes.{is_bonded_well}
use Rattle.bfm_commands.proofs.FrameLemmas.{passes_at, some_fails-none, some_fails-at}
use Rattle.bfm_commands.proofs.frame.some_bonded_badly.Goals as goal

pub is_bonded_well-requires-clause-reach : goal.is_bonded_well-requires-clause-reach
is_bonded_well-requires-clause-reach c = omega (arith, (reach_of-parts c.args.positions.now c.loop-k.k).0, c.requires.reach)

pub is_bonded_well-requires-clause-place : goal.is_bonded_well-requires-clause-place
is_bonded_well-requires-clause-place c =
    omega (arith, c.requires.reach, extent_at c.args.positions.now c.loop-k.k (record { x = pos 0; y = pos 0; z = pos 0 }) (omega arith))

pub returns-then-not-is_bonded_well : goal.returns-then-not-is_bonded_well
returns-then-not-is_bonded_well c =
    let fails : passes_at (is_bonded_well c.args.builder.now.world) c.args.positions.now c.loop-k.k ≡ false = search rules in
    sym (some_fails-at (is_bonded_well c.args.builder.now.world) c.args.positions.now c.args.begun c.loop-k.k (omega arith) (omega arith) fails)

pub returns : goal.returns
returns c = sym (some_fails-none (is_bonded_well c.args.builder.now.world) c.args.positions.now c.args.begun (λ j a b. c.loop-k.invariant j a (omega arith)))
