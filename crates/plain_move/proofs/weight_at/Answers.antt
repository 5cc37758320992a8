use Rattle.std.proofs.Common.{rules, sym}
use Rattle.plain_move.proofs.WeightLemmas.{weight_among-more, weight_at-unclassed}
use Rattle.plain_move.proofs.weight_at.Goals as goal

pub returns-then-class-eq0-clause-value : goal.returns-then-class-eq0-clause-value
returns-then-class-eq0-clause-value c =
    sym (weight_at-unclassed c.args.world.now c.args.monomer c.args.p (c.len-monomers.ensures.valid).table (search rules))

pub loop-other-preserved : goal.loop-other-preserved
loop-other-preserved c = record {
  sum = rw (weight_among-more c.args.world.now c.args.monomer c.args.p c.loop-other.other) (rw c.loop-other.invariant.sum (search rules));
  small = search rules;
}
