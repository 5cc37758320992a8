use Rattle.std.proofs.Common.{◌≢◌, length, arith}
use Rattle.chain_stats.specs.Search.{root_of}
use Rattle.cluster_stats.specs.Clusters.{contact_lists}
use Rattle.chain_stats.proofs.SearchLemmas.{AreSearched-skip}
use Rattle.cluster_stats.proofs.search.find_all.Goals as goal
use Rattle.cluster_stats.proofs.search.find_all.Goals.{then-roots-number+in_ok-find_cluster, else-roots-number}

pub loop-number-preserved : goal.loop-number-preserved
loop-number-preserved c =
    elim c.if-roots-number.branch [
      | then-roots-number+in_ok-find_cluster w ↦ record {
        searched = rw w.roots-is w.in_ok-find_cluster.ensures.searched;
        none = rw w.waiting-is w.in_ok-find_cluster.ensures.none;
      }
      | else-roots-number w ↦
          let other : root_of c.loop-number.roots c.loop-number.number ≢ length c.args.world.now.positions = λ e. absurd (omega (arith, e, w.if-roots-number.false, c.len-count.ensures.count)) in
          record {
            searched = rw w.roots-is (AreSearched-skip (contact_lists c.args.world.now) (length c.args.world.now.positions) c.loop-number.number (omega arith) c.loop-number.roots c.loop-number.invariant.searched other);
            none = rw w.waiting-is c.loop-number.invariant.none;
          }
    ]
