use Rattle.std.proofs.Common.{◌≡◌, ℕ, ◌<◌, [], length, get_or, Option, None, Some, refl, sym, ap, subst, ◌∙◌, arith}
use Rattle.std.proofs.Math.ListN.{set}
use Rattle.std.proofs.lemmas.List.{get_or-set_same, length_push}
use Rattle.std.proofs.lemmas.List.Elements.{All-head}
use Rattle.bfm_base.specs.Place.{extent_of}
use Rattle.chain_stats.specs.Search.{root_of}
use Rattle.chain_stats.proofs.SearchLemmas.{IsSpreading-reached, IsSpreading-done, missing-set}
use Rattle.cluster_stats.specs.declared.shell.TheConstants.{SHELL}
use Rattle.cluster_stats.specs.Clusters.{contact_lists}
use Rattle.cluster_stats.specs.Places.{vector_of, vector_to}
use Rattle.cluster_stats.proofs.ShellLemmas.{short_at}
use Rattle.cluster_stats.proofs.TouchLemmas.{AreMutual-contacts, AreReached, AreReached-all, AreReached-free, AreReached-set, AreReached-still, listed-touch, touch-offset}
use Rattle.cluster_stats.proofs.search.go_on.Goals as goal
use Rattle.cluster_stats.proofs.search.go_on.Goals.{in-Some+then-roots-j+in_ok-push, in-Some+else-roots-j, in_default}

-- two answers of one call
same_some : (found : Option ℕ) (j k : ℕ) → found ≡ Some j → found ≡ Some k → k ≡ j
same_some found j k d e = let t : ◌≡◌ {A = Option ℕ} (Some j) (Some k) = sym d ∙ e in cc

never : (j : ℕ) → ◌≡◌ {A = Option ℕ} (Some j) None → ⊥
never j e = absurd (cc)

pub loop-offset-init : goal.loop-offset-init
loop-offset-init c = record {
  table = refl;
  spreading = c.requires.spreading;
  reached = λ k l. absurd (omega arith);
  work = refl;
}

pub home_of-home-requires : goal.home_of-home-requires
home_of-home-requires c =
    (All-head (λ (k : ℕ). (k < length c.args.world.now.positions) × (root_of c.args.roots.now k ≡ c.args.number)) c.args.i c.args.waiting.now.items c.requires.spreading.waits).0

pub monomer_at-requires-clause-monomer : goal.monomer_at-requires-clause-monomer
monomer_at-requires-clause-monomer c =
    (All-head (λ (k : ℕ). (k < length c.args.world.now.positions) × (root_of c.args.roots.now k ≡ c.args.number)) c.args.i c.args.waiting.now.items c.requires.spreading.waits).0

pub monomer_at-requires-clause-near : goal.monomer_at-requires-clause-near
monomer_at-requires-clause-near c = omega (arith, ap extent_of c.vector.ensures, short_at c.loop-offset.offset-index [] c.loop-offset-test.true)

pub bounds-roots-j : goal.bounds-roots-j
bounds-roots-j c = omega (arith, c.in-Some.ensures.there.0, c.loop-offset.invariant.spreading.found.each)

pub loop-offset-preserved : goal.loop-offset-preserved
loop-offset-preserved c =
    let count = c.len-count.ensures.count in
    let within : c.loop-offset.offset-index < length SHELL = c.loop-offset-test.true in
    let own = (All-head (λ (k : ℕ). (k < length c.args.world.now.positions) × (root_of c.args.roots.now k ≡ c.args.number)) c.args.i c.args.waiting.now.items c.requires.spreading.waits).0 in
    let all : (j : ℕ) → j < length c.args.world.now.positions → vector_to c.args.world.now c.args.i j ≡ vector_of (get_or SHELL c.loop-offset.offset-index []) → c.monomer_at.result ≡ Some j =
    λ j l v. c.monomer_at.ensures.all j l (v ∙ sym c.vector.ensures) in
    elim c.match-monomer_at.branch [
      | in-Some+then-roots-j+in_ok-push w ↦
          let there = w.in-Some.ensures.there.0 in
          let vector = w.in-Some.ensures.there.1 ∙ c.vector.ensures in
          let bond = listed-touch c.args.world.now c.args.i w.in-Some.j own there (touch-offset c.args.world.now c.args.i w.in-Some.j c.loop-offset.offset-index [] within vector) in
          let room : w.in-Some.j < length c.loop-offset.roots = omega (arith, there, c.loop-offset.invariant.spreading.found.each) in
          let new : root_of c.loop-offset.roots w.in-Some.j ≡ length c.args.world.now.positions = omega (arith, count, w.if-roots-j.true) in
          let items = w.in_ok-push.ensures.items in
          let less = missing-set (length c.args.world.now.positions) c.loop-offset.roots w.in-Some.j c.args.number room c.requires.monomer new in
          record {
            table = refl;
            spreading = rw w.roots-is (rw w.waiting-is (rw items (IsSpreading-reached (contact_lists c.args.world.now) (length c.args.world.now.positions) c.args.number c.requires.monomer c.loop-offset.roots c.loop-offset.waiting.items c.args.i
                w.in-Some.j c.loop-offset.invariant.spreading there bond new)));
            reached = rw w.roots-is (AreReached-still c.args.world.now c.args.i c.loop-offset.offset-index (set c.loop-offset.roots w.in-Some.j c.args.number) [] within
                (AreReached-set c.args.world.now c.args.i c.loop-offset.offset-index c.args.number w.in-Some.j c.loop-offset.roots c.requires.monomer room c.loop-offset.invariant.reached) w.in-Some.j
                (λ k l v. same_some c.monomer_at.result w.in-Some.j k w.in-Some.is (all k l v)) (omega (arith, get_or-set_same c.loop-offset.roots w.in-Some.j c.args.number 0 room, c.requires.monomer)));
            work = rw w.roots-is (rw w.waiting-is (omega (arith, less, ap length items, length_push c.loop-offset.waiting.items w.in-Some.j, c.loop-offset.invariant.work)));
          }
      | in-Some+else-roots-j w ↦
          let there = w.in-Some.ensures.there.0 in
          let old : root_of c.loop-offset.roots w.in-Some.j < length c.args.world.now.positions = omega (arith, count, w.if-roots-j.false, c.loop-offset.invariant.spreading.found.within w.in-Some.j there) in
          record {
            table = refl;
            spreading = rw w.roots-is (rw w.waiting-is c.loop-offset.invariant.spreading);
            reached = rw w.roots-is (AreReached-still c.args.world.now c.args.i c.loop-offset.offset-index c.loop-offset.roots [] within c.loop-offset.invariant.reached w.in-Some.j
                (λ k l v. same_some c.monomer_at.result w.in-Some.j k w.in-Some.is (all k l v)) old);
            work = rw w.roots-is (rw w.waiting-is c.loop-offset.invariant.work);
          }
      | in_default w ↦ record {
        table = refl;
        spreading = rw w.roots-is (rw w.waiting-is c.loop-offset.invariant.spreading);
        reached = rw w.roots-is (AreReached-free c.args.world.now c.args.i c.loop-offset.offset-index c.loop-offset.roots [] within c.loop-offset.invariant.reached (λ j l v. never j (sym (all j l v) ∙ w.in_default.is)));
        work = rw w.roots-is (rw w.waiting-is c.loop-offset.invariant.work);
      }
    ]

pub returns-clause-spreading : goal.returns-clause-spreading
returns-clause-spreading c =
    let end : c.loop-offset.offset-index ≡ length SHELL = omega (arith, c.loop-offset-test.false, c.loop-offset.auto.offset-index-end) in
    IsSpreading-done (contact_lists c.args.world.now) (length c.args.world.now.positions) c.args.number c.requires.monomer c.loop-offset.roots c.loop-offset.waiting.items c.args.i
    (AreMutual-contacts c.args.world.now c.len-count.ensures.valid.box.sides) c.loop-offset.invariant.spreading
    (AreReached-all c.args.world.now c.args.i c.loop-offset.roots (subst (AreReached c.args.world.now c.loop-offset.roots c.args.i) end c.loop-offset.invariant.reached))
