use Rattle.std.proofs.Common.{◌≡◌, ◌∙◌, length, get_or, ap, sym, refl, arith}
use Rattle.std.proofs.Math.ListN.{set}
use Rattle.std.proofs.lemmas.List.{length-set}
use Rattle.std.proofs.lemmas.Grind.{same_number_lists}
use Rattle.bfm_world.specs.Draft.{Draft}
use Rattle.bfm_commands.specs.Reading.{with_valences}
use Rattle.bfm_commands.proofs.MarkLemmas.{AgreesBelow-set}
use Rattle.bfm_commands.proofs.header.value_all.Goals as goal

pub loop-i-preserved : goal.loop-i-preserved
loop-i-preserved c =
    let draft : Draft = c.loop-i.builder in
    let i = c.loop-i.i in
    let v = get_or c.args.valences.now i 0 in
    let more = set draft.world.valences i v in
    let now : c.valence.new.self.world.valences ≡ more = ap (λ (d : Draft). d.world.valences) c.valence.ensures.valued in (
      c.valence.ensures.valued ∙ (ap (λ d. with_valences d more) c.loop-i.invariant.0 ∙ ap (with_valences c.args.builder.now) (sym now)),
      ap length now ∙ (length-set draft.world.valences i v ∙ c.loop-i.invariant.1),
      λ k l. ap (λ xs. get_or xs k 0) now
          ∙ AgreesBelow-set i draft.world.valences c.args.valences.now v (omega (arith, c.loop-i.invariant.1, c.requires.each, c.loop-i-test.true)) refl c.loop-i.invariant.2 k l,
    )

pub returns : goal.returns
returns c =
    let draft : Draft = c.loop-i.builder in
    c.loop-i.invariant.0
    ∙ ap (with_valences c.args.builder.now)
    (same_number_lists draft.world.valences c.args.valences.now (c.loop-i.invariant.1 ∙ sym c.requires.each) (λ k l. c.loop-i.invariant.2 k (omega (arith, c.loop-i-test.false, c.loop-i.invariant.1, c.requires.each))))
