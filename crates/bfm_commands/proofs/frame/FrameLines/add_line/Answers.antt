use Rattle.std.proofs.Common.{◌≡◌, ◌∙◌, ap, sym, true, false, List, ℕ, ◌++◌, length, is_some, Ok, arith, rules, length-append}
use Rattle.std.specs.List.{list_all}
use Rattle.bfm_base.specs.declared.place.P3.{P3}
use Rattle.bfm_base.specs.declared.limits.TheConstants.{WORLD_REACH}
use Rattle.bond_set.specs.BondSet.{vector_of}
use Rattle.bfm_world.specs.Draft.{Draft}
use Rattle.bfm_commands.specs.Forms.{frame_line}
use Rattle.bfm_commands.specs.History.{string_positions}
use Rattle.bfm_commands.proofs.LineLemmas.{frame_cause-unknown}
use Rattle.bfm_commands.proofs.WalkLemmas.{length-walk, reach_of-behind}
use Rattle.bfm_commands.proofs.frame.FrameLines.add_line.Goals as goal

pub returns-then-not-are_known-clause-refused : goal.returns-then-not-are_known-clause-refused
returns-then-not-are_known-clause-refused c first =
    let builder : Draft = c.args.self.now.builder in
    let ids = c.in_ok-first.identifiers.now in
    let is : frame_line c.args.text.now ≡ Ok (c.in_ok-first.first, ids) = search rules in
    let unknown : list_all (λ id. is_some (vector_of builder.world.set id)) ids ≡ false = ap (λ s. list_all (λ id. is_some (vector_of s id)) ids) (sym c.set-set.ensures) ∙ (sym c.are_known.ensures ∙ c.if-not-are_known.true) in
    frame_cause-unknown first builder c.args.text.now (c.in_ok-first.first, ids) is unknown

pub returns-clause-added : goal.returns-clause-added
returns-clause-added c =
    let builder : Draft = c.args.self.now.builder in
    let ids = c.in_ok-first.identifiers.now in
    let list = c.add_positions.new.positions.items in
    let line : P3 × List ℕ = (c.in_ok-first.first, ids) in
    let is : frame_line c.args.text.now ≡ Ok line = search rules in
    let known : list_all (λ id. is_some (vector_of builder.world.set id)) ids ≡ true = ap (λ s. list_all (λ id. is_some (vector_of s id)) ids) (sym c.set-set.ensures) ∙ (sym c.are_known.ensures ∙ c.if-not-are_known.false) in
    let items : list ≡ c.args.self.now.positions.items ++ string_positions builder.world.set line = c.in_ok-add_positions.ensures ∙ ap (λ s. c.args.self.now.positions.items ++ string_positions s line) c.set-set.ensures in
    record {
      sound = c.count.ensures.sound;
      line = line;
      form = is;
      known = known;
      room = omega (arith, ap length items, length-append c.args.self.now.positions.items (string_positions builder.world.set line), length-walk builder.world.set line.0 line.1);
      positions = items ∙ ap (λ ps. ps ++ string_positions builder.world.set line) c.requires.list;
      reach = reach_of-behind builder.world.set c.args.self.now.positions.items list line WORLD_REACH c.count.ensures.sound.set items c.requires.reach
          (omega (arith, c.in_ok-first.ensures.reach, c.count.ensures.sound.few));
    }
