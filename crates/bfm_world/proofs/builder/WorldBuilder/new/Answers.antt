use Rattle.std.proofs.Common.{rules, arith, ◌≡◌, false, [], replicate}
use Rattle.packed_lattice.proofs.CoverLemmas.{Covers-empty}
use Rattle.bfm_world.proofs.ValidLemmas.{IsSound-begun}
use Rattle.bfm_world.proofs.builder.WorldBuilder.new.Goals as goal

pub invariant_of-result : goal.invariant_of-result
invariant_of-result c =
    let empty : c.in_ok-with_capacity.field-0.items ≡ [] = search rules in
    let labels : c.in_ok-vec.field-0.items ≡ replicate c.args.n 0 = search rules in
    let valences : c.in_ok-vec-2.field-0.items ≡ replicate c.args.n 0 = search rules in
    let fixed : c.in_ok-vec-3.field-0.items ≡ replicate c.args.n false = search rules in
    rw (empty, c.in_ok-new.ensures, labels, valences, fixed) (
      IsSound-begun c.args.shape c.args.set c.args.table c.args.n c.requires.shape c.requires.set c.requires.finished (search rules) c.requires.some c.requires.few,
      omega arith,
      search rules,
      record { shape = c.in_ok-new-2.ensures.shape; taken = Covers-empty c.in_ok-new-2.field-0 c.in_ok-new-2.ensures.free },
    )
