use Rattle.std.proofs.Common.{◌≡◌, false, sym, arith, rules}
use Rattle.bfm_geom.specs.Walls.{is_within_walls}
use Rattle.bfm_commands.proofs.FrameLemmas.{passes_at, some_fails-none, some_fails-at}
use Rattle.bfm_commands.proofs.frame.some_outside.Goals as goal

pub returns-then-not-is_within_walls : goal.returns-then-not-is_within_walls
returns-then-not-is_within_walls c =
    let fails : passes_at (λ before p. is_within_walls c.args.builder.now.world.shape p) c.args.positions.now c.loop-k.k ≡ false = search rules in
    sym (some_fails-at (λ before p. is_within_walls c.args.builder.now.world.shape p) c.args.positions.now c.args.begun c.loop-k.k (omega arith) (omega arith) fails)

pub returns : goal.returns
returns c = sym (some_fails-none (λ before p. is_within_walls c.args.builder.now.world.shape p) c.args.positions.now c.args.begun (λ j a b. c.loop-k.invariant j a (omega arith)))
