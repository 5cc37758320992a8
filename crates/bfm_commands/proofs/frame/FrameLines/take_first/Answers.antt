use Rattle.std.proofs.Common.{◌≡◌, ◌+◌, ◌<◌, ◌≤◌, ◌∙◌, true, ap, sym, subst, List, ℕ, length, drop, arith}
use Rattle.std.proofs.lemmas.Result.{MatchResult-weaker, on_ok_weaker}
use Rattle.bfm_base.specs.declared.place.P3.{P3}
use Rattle.bfm_world.specs.Configuration.{may_bond, position_at}
use Rattle.bfm_world.specs.Draft.{Draft}
use Rattle.bfm_commands.specs.Reading.{IsFault, IsLineBegun}
use Rattle.bfm_commands.specs.Causes.{frame_cause}
use Rattle.bfm_commands.specs.Placing.{positions_cause, with_line}
use Rattle.bfm_commands.specs.History.{string_positions}
use Rattle.bfm_commands.proofs.LineLemmas.{drop-begun, line_positions-begun, steps-begun, frame_cause-first}
use Rattle.bfm_commands.proofs.frame.FrameLines.take_first.Goals as goal

pub place_line-requires-clause-steps : goal.place_line-requires-clause-steps
place_line-requires-clause-steps c =
    let draft : Draft = c.args.self.now.builder in
    let ps : List P3 = c.deref.result.now in
    let begun : IsLineBegun draft c.args.text.now ps = subst (IsLineBegun draft c.args.text.now) (sym c.deref.ensures.value) c.in_ok-add_line.ensures.added in
    let number : c.len-begun.result ≡ length draft.world.positions = omega (arith, c.len-begun.ensures, ap length c.requires.list) in
    subst (λ (d : Draft). (k : ℕ) → c.len-begun.result ≤ k → k + 1 < length ps → may_bond d.world.shape d.world.set (position_at ps k) (position_at ps (k + 1)) ≡ true) (sym c.add_line.ensures.same)
    (λ k l m. steps-begun draft c.args.text.now ps begun k (omega arith) m)

pub returns-clause-refused : goal.returns-clause-refused
returns-clause-refused c =
    let draft : Draft = c.args.self.now.builder in
    let ps : List P3 = c.deref.result.now in
    let begun : IsLineBegun draft c.args.text.now ps = subst (IsLineBegun draft c.args.text.now) (sym c.deref.ensures.value) c.in_ok-add_line.ensures.added in
    let number : c.len-begun.result ≡ length draft.world.positions = omega (arith, c.len-begun.ensures, ap length c.requires.list) in
    let line : drop c.len-begun.result ps ≡ string_positions draft.world.set begun.line = ap (λ n. drop n ps) number ∙ drop-begun draft c.args.text.now ps begun in
    let cause : frame_cause true draft c.args.text.now ≡ positions_cause c.add_line.new.self.builder (drop c.len-begun.result ps) =
    frame_cause-first draft c.args.text.now ps begun ∙ (ap (positions_cause draft) (sym line) ∙ ap (λ d. positions_cause d (drop c.len-begun.result ps)) (sym c.add_line.ensures.same)) in
    MatchResult-weaker c.place_line.result c.place_line.ensures.err (λ _ h. h) (λ fault refused. subst (IsFault fault) (sym cause) refused)

pub returns-clause-taken : goal.returns-clause-taken
returns-clause-taken c =
    let draft : Draft = c.args.self.now.builder in
    let ps : List P3 = c.deref.result.now in
    let begun : IsLineBegun draft c.args.text.now ps = subst (IsLineBegun draft c.args.text.now) (sym c.deref.ensures.value) c.in_ok-add_line.ensures.added in
    let number : c.len-begun.result ≡ length draft.world.positions = omega (arith, c.len-begun.ensures, ap length c.requires.list) in
    let line : drop c.len-begun.result ps ≡ string_positions draft.world.set begun.line = ap (λ n. drop n ps) number ∙ drop-begun draft c.args.text.now ps begun in
    let cause : frame_cause true draft c.args.text.now ≡ positions_cause c.add_line.new.self.builder (drop c.len-begun.result ps) =
    frame_cause-first draft c.args.text.now ps begun ∙ (ap (positions_cause draft) (sym line) ∙ ap (λ d. positions_cause d (drop c.len-begun.result ps)) (sym c.add_line.ensures.same)) in
    on_ok_weaker c.place_line.result (λ ok. (
      cause ∙ ok.1,
      ok.0 ∙ (ap (λ d. with_line d (drop c.len-begun.result ps)) c.add_line.ensures.same ∙ ap (with_line draft) (line ∙ sym (line_positions-begun draft c.args.text.now ps begun))),
    ))
    c.place_line.ensures.ok
