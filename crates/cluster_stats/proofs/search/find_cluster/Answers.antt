use Rattle.std.proofs.Common.{◌≡◌, ◌∷◌, ◌++◌, [], length, arith, subst, ap, ◌∙◌}
use Rattle.std.proofs.lemmas.List.{length_push}
use Rattle.chain_stats.specs.Search.{IsSpreading}
use Rattle.cluster_stats.specs.Clusters.{contact_lists}
use Rattle.chain_stats.proofs.SearchLemmas.{IsSpreading-begun, IsSpreading-taken}
use Rattle.cluster_stats.proofs.search.find_cluster.Goals as goal

pub loop-i-init : goal.loop-i-init
loop-i-init c =
    let begun = IsSpreading-begun (contact_lists c.args.world.now) (length c.args.world.now.positions) c.args.number c.requires.monomer c.args.roots.now c.requires.searched c.requires.first in
    let items : c.push.new.self.items ≡ c.args.number ∷ [] = c.in_ok-push.ensures.items ∙ ap (λ xs. xs ++ c.args.number ∷ []) c.requires.none in
    rw items begun

pub go_on-requires-clause-spreading : goal.go_on-requires-clause-spreading
go_on-requires-clause-spreading c =
    let items : c.loop-i.waiting.items ≡ c.pop.new.self.items ++ c.in-Some.i ∷ [] = c.in-Some.ensures.items in
    IsSpreading-taken (contact_lists c.args.world.now) (length c.args.world.now.positions) c.args.number c.requires.monomer c.loop-i.roots c.pop.new.self.items c.in-Some.i
    (subst (IsSpreading (contact_lists c.args.world.now) (length c.args.world.now.positions) c.args.number c.loop-i.roots) items c.loop-i.invariant)

pub loop-i-smaller : goal.loop-i-smaller
loop-i-smaller c =
    let items : c.loop-i.waiting.items ≡ c.pop.new.self.items ++ c.in-Some.i ∷ [] = c.in-Some.ensures.items in
    omega (arith, c.in_ok-go_on.ensures.work, ap length items, length_push c.pop.new.self.items c.in-Some.i)
