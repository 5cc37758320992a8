use Rattle.std.proofs.Common.{◌≡◌, false, ◌∙◌, ap, sym, subst, List, length, drop, arith}
use Rattle.std.proofs.lemmas.Result.{MatchResult-weaker, on_ok_weaker}
use Rattle.bfm_base.specs.declared.place.P3.{P3}
use Rattle.bfm_world.specs.Draft.{Draft}
use Rattle.bfm_commands.specs.Reading.{IsFault, IsLineBegun}
use Rattle.bfm_commands.specs.Causes.{frame_cause}
use Rattle.bfm_commands.specs.Placing.{later_cause, with_later_line}
use Rattle.bfm_commands.specs.History.{string_positions}
use Rattle.bfm_commands.proofs.LineLemmas.{drop-begun, line_positions-begun, frame_cause-later}
use Rattle.bfm_commands.proofs.frame.FrameLines.take_later.Goals as goal

pub returns-clause-refused : goal.returns-clause-refused
returns-clause-refused c =
    let draft : Draft = c.args.self.now.builder in
    let ps : List P3 = c.deref.result.now in
    let begun : IsLineBegun draft c.args.text.now ps = subst (IsLineBegun draft c.args.text.now) (sym c.deref.ensures.value) c.in_ok-add_line.ensures.added in
    let number : c.len-begun.result ≡ length draft.world.positions = omega (arith, c.len-begun.ensures, ap length c.requires.list) in
    let line : drop c.len-begun.result ps ≡ string_positions draft.world.set begun.line = ap (λ n. drop n ps) number ∙ drop-begun draft c.args.text.now ps begun in
    let cause : frame_cause false draft c.args.text.now ≡ later_cause c.add_line.new.self.builder (drop c.len-begun.result ps) =
    frame_cause-later draft c.args.text.now ps begun ∙ (ap (later_cause draft) (sym line) ∙ ap (λ d. later_cause d (drop c.len-begun.result ps)) (sym c.add_line.ensures.same)) in
    MatchResult-weaker c.place_later_line.result c.place_later_line.ensures.err (λ _ h. h) (λ fault refused. subst (IsFault fault) (sym cause) refused)

pub returns-clause-taken : goal.returns-clause-taken
returns-clause-taken c =
    let draft : Draft = c.args.self.now.builder in
    let ps : List P3 = c.deref.result.now in
    let begun : IsLineBegun draft c.args.text.now ps = subst (IsLineBegun draft c.args.text.now) (sym c.deref.ensures.value) c.in_ok-add_line.ensures.added in
    let number : c.len-begun.result ≡ length draft.world.positions = omega (arith, c.len-begun.ensures, ap length c.requires.list) in
    let line : drop c.len-begun.result ps ≡ string_positions draft.world.set begun.line = ap (λ n. drop n ps) number ∙ drop-begun draft c.args.text.now ps begun in
    let cause : frame_cause false draft c.args.text.now ≡ later_cause c.add_line.new.self.builder (drop c.len-begun.result ps) =
    frame_cause-later draft c.args.text.now ps begun ∙ (ap (later_cause draft) (sym line) ∙ ap (λ d. later_cause d (drop c.len-begun.result ps)) (sym c.add_line.ensures.same)) in
    on_ok_weaker c.place_later_line.result (λ ok. (
      cause ∙ ok.1,
      ok.0 ∙ (ap (λ d. with_later_line d (drop c.len-begun.result ps)) c.add_line.ensures.same ∙ ap (with_later_line draft) (line ∙ sym (line_positions-begun draft c.args.text.now ps begun))),
    ))
    c.place_later_line.ensures.ok
