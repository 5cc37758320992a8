use Rattle.std.proofs.Common.{◌≡◌, ◌∙◌, ap, sym, true, false, is_err, arith, rules, pos, ◌++◌, ◌∷◌, []}
use Rattle.bfm_world.specs.Configuration.{position_at}
use Rattle.bfm_world.specs.Draft.{Draft, with_positions, place_refusal}
use Rattle.bfm_world.proofs.ReachLemmas.{extent_at}
use Rattle.bfm_commands.proofs.FrameLemmas.{answer_ok, answer_err, PlacedSoFar-more, PlacedSoFar-refused, PlacedSoFar-all}
use Rattle.bfm_commands.proofs.frame.place_all.Goals as goal

pub place-requires-clause-reach : goal.place-requires-clause-reach
place-requires-clause-reach c =
    omega (arith, c.requires.reach, extent_at c.args.positions.now c.loop-k.k (record { x = pos 0; y = pos 0; z = pos 0 }) (omega arith))

pub returns-then-is_err-clause-refused : goal.returns-then-is_err-clause-refused
returns-then-is_err-clause-refused c =
    let start = c.args.builder.now in
    let failed : is_err c.place.result ≡ true = search rules in
    let same : c.place.new.self ≡ c.loop-k.builder = search rules in
    λ _. (
      sym (ap (λ (d : Draft). with_positions d start.world.positions) (same ∙ c.loop-k.invariant.draft)),
      PlacedSoFar-refused start c.loop-k.builder c.args.positions.now c.loop-k.k c.loop-k.invariant (omega arith) (omega arith)
          (answer_err (place_refusal c.loop-k.builder.world (position_at c.args.positions.now c.loop-k.k)) c.place.result c.place.ensures.answer failed) c.requires.begun,
    )

pub loop-k-preserved : goal.loop-k-preserved
loop-k-preserved c =
    let went : is_err c.place.result ≡ false = search rules in
    let later : c.place.new.self ≡ with_positions c.loop-k.builder (c.loop-k.builder.world.positions ++ position_at c.args.positions.now c.loop-k.k ∷ []) = search rules in
    PlacedSoFar-more c.args.builder.now c.loop-k.builder c.place.new.self c.args.positions.now c.loop-k.k c.loop-k.invariant (omega arith)
    (answer_ok (place_refusal c.loop-k.builder.world (position_at c.args.positions.now c.loop-k.k)) c.place.result c.place.ensures.answer went) later c.place.ensures.sound

pub returns-clause-placed : goal.returns-clause-placed
returns-clause-placed c =
    λ _. PlacedSoFar-all c.args.builder.now c.loop-k.builder c.args.positions.now c.loop-k.k c.loop-k.invariant (omega arith) c.requires.begun
