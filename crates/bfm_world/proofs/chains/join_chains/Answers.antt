use Rattle.std.proofs.Common.{◌≡◌, ◌+◌, ◌-◌, ◌/◌, ◌<◌, ◌∙◌, sym, subst, ap, arith, true, false, Ok, is_ok}
use Rattle.bfm_world.specs.Configuration.{may_bond, position_of}
use Rattle.bfm_world.specs.Draft.{join_answer}
use Rattle.bfm_world.specs.Chains.{goes_on}
use Rattle.bfm_world.proofs.ChainLemmas.{chain_same, chain_ends, JoinedSoFar-none, join_answer-next, JoinedSoFar-joined, JoinedSoFar-apart, JoinedSoFar-all}
use Rattle.bfm_world.proofs.chains.join_chains.Goals.{then-next-chain_length, else-next-chain_length}
use Rattle.bfm_world.proofs.chains.join_chains.Goals as goal

pub unwrap-requires : goal.unwrap-requires
unwrap-requires c =
    let start = c.args.builder.now in
    let m = c.loop-next.next in
    let e : m - 1 + 1 ≡ m = omega arith in
    let size = c.args.chain_length in
    let same : goes_on size (m - 1) ≡ true = chain_same size (m - 1) (c.if-next-chain_length.true ∙ ap (λ n. n / size) (sym e)) in
    let step = subst (λ k. may_bond start.world.shape start.world.set (position_of start.world (m - 1)) (position_of start.world k) ≡ true) e (c.requires.steps (m - 1) (omega arith) same) in
    ap is_ok (c.join.ensures.answer ∙ join_answer-next start c.loop-next.builder c.args.chain_length (m - 1) m c.loop-next.invariant e (omega arith) c.requires.placed step)

pub loop-next-preserved : goal.loop-next-preserved
loop-next-preserved c =
    let start = c.args.builder.now in
    let m = c.loop-next.next in
    let size = c.args.chain_length in
    let e : m - 1 + 1 ≡ m = omega arith in
    let inside : m < start.count = omega arith in
    elim c.if-next-chain_length.branch [
      | then-next-chain_length w ↦
          let same : goes_on size (m - 1) ≡ true = chain_same size (m - 1) (w.if-next-chain_length.true ∙ ap (λ n. n / size) (sym e)) in
          let step = subst (λ k. may_bond start.world.shape start.world.set (position_of start.world (m - 1)) (position_of start.world k) ≡ true) e (c.requires.steps (m - 1) (omega arith) same) in
          let answer : join_answer c.loop-next.builder (m - 1) m ≡ Ok true = join_answer-next start c.loop-next.builder size (m - 1) m c.loop-next.invariant e inside c.requires.placed step in
          let same : goes_on size (m - 1) ≡ true = chain_same size (m - 1) (w.if-next-chain_length.true ∙ ap (λ n. n / size) (sym e)) in
          JoinedSoFar-joined start c.loop-next.builder size (m - 1) m c.loop-next.invariant e inside c.if-next-chain_length.builder same (w.builder-is ∙ w.join.ensures.exact (w.join.ensures.answer ∙ answer))
      | else-next-chain_length w ↦
          let other : goes_on size (m - 1) ≡ false = chain_ends size (m - 1) (λ q. w.if-next-chain_length.false (q ∙ ap (λ n. n / size) e)) in
          rw w.builder-is (JoinedSoFar-apart start c.loop-next.builder size (m - 1) m c.loop-next.invariant e inside other)
    ]

pub loop-next-init : goal.loop-next-init
loop-next-init c = JoinedSoFar-none c.args.builder.now c.args.chain_length c.requires.none

pub returns : goal.returns
returns c =
    let sound = c.count-next-end.ensures.sound in
    JoinedSoFar-all c.args.builder.now c.loop-next.builder c.args.chain_length c.loop-next.next c.loop-next.invariant (omega arith) sound.some (omega arith) c.requires.whole
