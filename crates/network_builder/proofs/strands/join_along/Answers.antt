use Rattle.std.proofs.Common.{◌≡◌, ◌+◌, ◌∙◌, sym, subst, arith, true, false}
use Rattle.network_builder.specs.Network.{is_on}
use Rattle.network_builder.proofs.JoinLemmas.{IsPlaced, JoinedBelow, JoinedBelow-none, JoinedBelow-off, JoinedBelow-next, IsOk-next, bonds-joined}
use Rattle.network_builder.proofs.strands.join_along.Goals.{then-is_on, else-is_on}
use Rattle.network_builder.proofs.strands.join_along.Goals as goal

pub loop-monomer-init : goal.loop-monomer-init
loop-monomer-init c = JoinedBelow-none c.args.builder.now c.args.nodes c.args.strand c.args.axis (c.count-monomer-end.ensures.sound.bonds.rows ∙ c.requires.count)

pub unwrap-requires : goal.unwrap-requires
unwrap-requires c =
    let placed : IsPlaced c.args.nodes c.args.strand c.args.builder.now = record { count = c.requires.count; shape = c.requires.shape; set = c.requires.set; places = c.requires.placed; room = c.requires.room } in
    let on : is_on c.args.strand c.args.axis c.loop-monomer.monomer ≡ true = sym c.is_on.ensures ∙ c.if-is_on.true in
    IsOk-next c.args.builder.now c.loop-monomer.builder c.args.nodes c.args.strand c.args.axis c.loop-monomer.monomer c.requires.network placed c.loop-monomer.invariant (omega arith) on c.next_along-next.result c.join.result
    c.next_along-next.ensures.next c.join.ensures.answer

pub loop-monomer-preserved : goal.loop-monomer-preserved
loop-monomer-preserved c =
    let start = c.args.builder.now in
    let now = c.loop-monomer.builder in
    let m = c.loop-monomer.monomer in
    let placed : IsPlaced c.args.nodes c.args.strand start = record { count = c.requires.count; shape = c.requires.shape; set = c.requires.set; places = c.requires.placed; room = c.requires.room } in
    elim c.if-is_on.branch [
      | then-is_on w ↦
          let on : is_on c.args.strand c.args.axis m ≡ true = sym c.is_on.ensures ∙ w.if-is_on.true in
          subst (λ d. JoinedBelow start d c.args.nodes c.args.strand c.args.axis (m + 1)) (sym w.builder-is)
          (JoinedBelow-next start now c.args.nodes c.args.strand c.args.axis m c.requires.network placed c.loop-monomer.invariant (omega arith) on w.join.new.self w.next_along-next.result w.join.result
          w.next_along-next.ensures.next w.join.ensures.answer w.join.ensures.exact w.join.ensures.same w.join.ensures.sound)
      | else-is_on w ↦
          let off : is_on c.args.strand c.args.axis m ≡ false = sym c.is_on.ensures ∙ w.if-is_on.false in
          subst (λ d. JoinedBelow start d c.args.nodes c.args.strand c.args.axis (m + 1)) (sym w.builder-is)
          (JoinedBelow-off start now c.args.nodes c.args.strand c.args.axis m c.requires.network placed c.loop-monomer.invariant (omega arith) off)
    ]

pub returns-clause-bonds : goal.returns-clause-bonds
returns-clause-bonds c = bonds-joined c.args.builder.now c.loop-monomer.builder c.args.nodes c.args.strand c.args.axis c.loop-monomer.monomer c.loop-monomer.invariant (omega arith)
