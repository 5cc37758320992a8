use Rattle.std.proofs.Common.{◌≡◌, take, refl, arith, rules}
use Rattle.std.proofs.lemmas.List.{take_all}
use Rattle.std.proofs.lemmas.Grind.{common_steps}
use Rattle.chain_stats.proofs.VectorLemmas.{few_members, spread_more}
use Rattle.chain_stats.proofs.fraction.radius.Goals as goal

pub prove-unreachable-requires : goal.prove-unreachable-requires
prove-unreachable-requires c = omega (arith, few_members c.args.world.now c.args.members.now c.requires, c.len.ensures.count, c.if-prove.true)

pub loop-i-preserved : goal.loop-i-preserved
loop-i-preserved c = record {
  sum = grind (arith, common_steps);
  squares = grind (arith, common_steps);
  within = search rules;
  small = omega (arith, c.loop-i.invariant.small, c.square-squares.ensures.reach);
  spread = rw c.add.ensures (rw c.square-squares.ensures.value (spread_more c.loop-i.sum c.position-position.result c.loop-i.i-index c.loop-i.squares c.loop-i.invariant.spread));
}

pub returns-clause-value : goal.returns-clause-value
returns-clause-value c =
    let all : take c.loop-i.i-index c.args.members.now ≡ c.args.members.now = take_all c.loop-i.i-index c.args.members.now c.loop-i-test.false in
    rw c.square.ensures (rw c.loop-i.invariant.sum (rw c.loop-i.invariant.squares (rw all refl)))
