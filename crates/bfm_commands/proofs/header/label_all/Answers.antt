use Rattle.std.proofs.Common.{◌≡◌, ◌∙◌, length, get_or, ap, sym, refl, arith}
use Rattle.std.proofs.Math.ListN.{set}
use Rattle.std.proofs.lemmas.List.{length-set}
use Rattle.std.proofs.lemmas.Grind.{same_number_lists}
use Rattle.bfm_world.specs.Draft.{Draft}
use Rattle.bfm_commands.specs.Reading.{with_labels}
use Rattle.bfm_commands.proofs.MarkLemmas.{AgreesBelow-set}
use Rattle.bfm_commands.proofs.header.label_all.Goals as goal

pub loop-i-preserved : goal.loop-i-preserved
loop-i-preserved c =
    let draft : Draft = c.loop-i.builder in
    let i = c.loop-i.i in
    let v = get_or c.args.labels.now i 0 in
    let more = set draft.world.labels i v in
    let now : c.label.new.self.world.labels ≡ more = ap (λ (d : Draft). d.world.labels) c.label.ensures.labelled in (
      c.label.ensures.labelled ∙ (ap (λ d. with_labels d more) c.loop-i.invariant.0 ∙ ap (with_labels c.args.builder.now) (sym now)),
      ap length now ∙ (length-set draft.world.labels i v ∙ c.loop-i.invariant.1),
      λ k l. ap (λ xs. get_or xs k 0) now
          ∙ AgreesBelow-set i draft.world.labels c.args.labels.now v (omega (arith, c.loop-i.invariant.1, c.requires.each, c.loop-i-test.true)) refl c.loop-i.invariant.2 k l,
    )

pub returns : goal.returns
returns c =
    let draft : Draft = c.loop-i.builder in
    c.loop-i.invariant.0
    ∙ ap (with_labels c.args.builder.now)
    (same_number_lists draft.world.labels c.args.labels.now (c.loop-i.invariant.1 ∙ sym c.requires.each) (λ k l. c.loop-i.invariant.2 k (omega (arith, c.loop-i-test.false, c.loop-i.invariant.1, c.requires.each))))
