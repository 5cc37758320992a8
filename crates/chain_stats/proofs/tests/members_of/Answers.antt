use Rattle.std.proofs.Common.{rules, ◌≡◌, ◌<◌, length, get_or, false, nat_eq, []}
use Rattle.std.specs.List.{IsDistinct, list_any}
use Rattle.std.proofs.lemmas.Cmp.{nat_eq_equiv}
use Rattle.std.proofs.lemmas.List.Elements.{All-push, All-nil}
use Rattle.std.proofs.lemmas.Map.Keys.{IsDistinct-push}
use Rattle.chain_stats.proofs.tests.members_of.Goals as goal

none_alike : IsDistinct nat_eq []
unfolding IsDistinct
none_alike = tt

pub loop-i-init : goal.loop-i-init
loop-i-init g c = record {
  there = rw c.new-members.ensures.items (All-nil (λ i. i < length c.args.world.now.positions));
  each_once = rw c.new-members.ensures.items none_alike;
}

pub loop-i-preserved : goal.loop-i-preserved
loop-i-preserved g c =
    let xs = c.loop-i.members.items in
    let there = All-push (λ i. i < length c.args.world.now.positions) xs (get_or c.args.numbers.now c.loop-i.i-index 0) c.loop-i.invariant.there (search rules) in
    let apart : list_any (nat_eq (get_or c.args.numbers.now c.loop-i.i-index 0)) xs ≡ false = search rules in
    record {
      there = rw c.in_ok-push.ensures.items there;
      each_once = rw c.in_ok-push.ensures.items (IsDistinct-push nat_eq_equiv xs (get_or c.args.numbers.now c.loop-i.i-index 0) c.loop-i.invariant.each_once apart);
    }
