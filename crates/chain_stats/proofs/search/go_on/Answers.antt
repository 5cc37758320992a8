use Rattle.std.proofs.Common.{◌≡◌, ℕ, ◌<◌, List, length, get_or, true, arith, subst, ap}
use Rattle.std.specs.List.{Contains}
use Rattle.std.proofs.lemmas.List.{length_push}
use Rattle.std.proofs.lemmas.List.Elements.{Contains-get_or}
use Rattle.bfm_world.specs.Bonds.{neighbours_of, are_bonded}
use Rattle.chain_stats.specs.Search.{root_of}
use Rattle.chain_stats.proofs.SearchLemmas.{AreMutual-bonds, IsSpreading-reached, IsSpreading-done, missing-set, reached_by, reached_more, reached_still}
use Rattle.chain_stats.proofs.search.go_on.Goals as goal
use Rattle.chain_stats.proofs.search.go_on.Goals.{then-roots-j+in_ok-push, else-roots-j}

pub bounds-roots-j : goal.bounds-roots-j
bounds-roots-j c =
    let there = Contains-get_or c.neighbours-j-items.result.now c.loop-j.j-index 0 (omega arith) in
    let bond = (c.neighbours-j-items.ensures.listed (get_or c.neighbours-j-items.result.now c.loop-j.j-index 0)).0 there in
    omega (arith, (c.len-count.ensures.valid.bonds.others c.args.i (get_or c.neighbours-j-items.result.now c.loop-j.j-index 0) bond).0, c.loop-j.invariant.spreading.found.each)

pub loop-j-preserved : goal.loop-j-preserved
loop-j-preserved c =
    let j = get_or c.neighbours-j-items.result.now c.loop-j.j-index 0 in
    let there = Contains-get_or c.neighbours-j-items.result.now c.loop-j.j-index 0 (omega arith) in
    let bond : are_bonded c.args.world.now.bonds c.args.i (get_or c.neighbours-j-items.result.now c.loop-j.j-index 0) ≡ true = (c.neighbours-j-items.ensures.listed (get_or c.neighbours-j-items.result.now c.loop-j.j-index 0)).0 there in
    let within : get_or c.neighbours-j-items.result.now c.loop-j.j-index 0 < length c.args.world.now.positions = (c.len-count.ensures.valid.bonds.others c.args.i (get_or c.neighbours-j-items.result.now c.loop-j.j-index 0) bond).0 in
    let count = c.len-count.ensures.count in
    let room : get_or c.neighbours-j-items.result.now c.loop-j.j-index 0 < length c.loop-j.roots = omega (arith, within, c.loop-j.invariant.spreading.found.each) in
    elim c.if-roots-j.branch [
      | then-roots-j+in_ok-push w ↦
          let new : root_of c.loop-j.roots (get_or c.neighbours-j-items.result.now c.loop-j.j-index 0) ≡ length c.args.world.now.positions = omega (arith, count, w.if-roots-j.true) in
          let items = w.in_ok-push.ensures.items in
          let less = missing-set (length c.args.world.now.positions) c.loop-j.roots (get_or c.neighbours-j-items.result.now c.loop-j.j-index 0) c.args.number room c.requires.monomer new in
          record {
            spreading = rw w.roots-is (rw w.waiting-is (rw items (IsSpreading-reached c.args.world.now.bonds (length c.args.world.now.positions) c.args.number c.requires.monomer c.loop-j.roots c.loop-j.waiting.items c.args.i
                (get_or c.neighbours-j-items.result.now c.loop-j.j-index 0) c.loop-j.invariant.spreading within bond new)));
            reached = rw w.roots-is (reached_more (length c.args.world.now.positions) c.args.number c.loop-j.j-index c.loop-j.roots (neighbours_of c.args.world.now.bonds c.args.i) c.neighbours-j-items.result.now
                c.neighbours-j-items.ensures.row c.requires.monomer room c.loop-j.invariant.reached);
            work = rw w.roots-is (rw w.waiting-is (omega (arith, less, ap length items, length_push c.loop-j.waiting.items (get_or c.neighbours-j-items.result.now c.loop-j.j-index 0), c.loop-j.invariant.work)));
          }
      | else-roots-j w ↦
          let old : root_of c.loop-j.roots (get_or c.neighbours-j-items.result.now c.loop-j.j-index 0) < length c.args.world.now.positions =
          omega (arith, count, w.if-roots-j.false, c.loop-j.invariant.spreading.found.within (get_or c.neighbours-j-items.result.now c.loop-j.j-index 0) within) in
          record {
            spreading = rw w.roots-is (rw w.waiting-is c.loop-j.invariant.spreading);
            reached = rw w.roots-is (reached_still (length c.args.world.now.positions) c.loop-j.j-index c.loop-j.roots (neighbours_of c.args.world.now.bonds c.args.i) c.neighbours-j-items.result.now
                c.neighbours-j-items.ensures.row old c.loop-j.invariant.reached);
            work = rw w.roots-is (rw w.waiting-is c.loop-j.invariant.work);
          }
    ]

pub returns-clause-spreading : goal.returns-clause-spreading
returns-clause-spreading c =
    IsSpreading-done c.args.world.now.bonds (length c.args.world.now.positions) c.args.number c.requires.monomer c.loop-j.roots c.loop-j.waiting.items c.args.i
    (AreMutual-bonds (length c.args.world.now.positions) c.args.world.now.bonds c.len-count.ensures.valid.bonds) c.loop-j.invariant.spreading
    (λ j b.
    let h = (c.neighbours-j-items.ensures.listed j).1 b in
    reached_by (length c.args.world.now.positions) c.loop-j.roots (neighbours_of c.args.world.now.bonds c.args.i) j
    (subst (λ (xs : List ℕ). Contains xs j) c.neighbours-j-items.ensures.row h)
    (λ k l. c.loop-j.invariant.reached k (omega (arith, ap length c.neighbours-j-items.ensures.row))))
