use Rattle.std.proofs.Common.{◌≡◌, true, false, is_none, ap, sym, ◌∙◌, rules}
use Rattle.std.proofs.lemmas.Result.{err_from_is_err_and}
use Rattle.bfm_world.specs.Draft.{with_positions}
use Rattle.bfm_commands.specs.Causes.{frame_cause}
use Rattle.bfm_commands.specs.Reading.{standing}
use Rattle.bfm_commands.proofs.StepLemmas.{IsFault-same}
use Rattle.bfm_commands.proofs.frames.Frames.take_line.Goals as goal

pub returns-in_err-take_first-clause-refused : goal.returns-in_err-take_first-clause-refused
returns-in_err-take_first-clause-refused c =
    let p = err_from_is_err_and c.from_residual.result c.from_residual.ensures.1 in
    let lines = c.args.self.now.lines in
    let same : lines.builder ≡ standing lines = ap (with_positions lines.builder) (c.requires.sound.part (sym c.is_whole.ensures.whole ∙ c.if-is_whole.false)) in
    let first : is_none c.args.self.now.whole ≡ true = search rules in
    rw (p.1, p.2) (IsFault-same c.in_err-take_first.field-0.0 _ _ c.in_err-take_first.ensures.refused
    (ap (λ first. frame_cause first (standing lines) c.args.text.now) first ∙ ap (λ d. frame_cause true d c.args.text.now) (sym same)))

pub returns-in_err-take_later-clause-refused : goal.returns-in_err-take_later-clause-refused
returns-in_err-take_later-clause-refused c =
    let p = err_from_is_err_and c.from_residual-in_err-take_later.result c.from_residual-in_err-take_later.ensures.1 in
    let lines = c.args.self.now.lines in
    let same : lines.builder ≡ standing lines = ap (with_positions lines.builder) (c.requires.sound.part (sym c.is_whole.ensures.whole ∙ c.if-is_whole.false)) in
    let first : is_none c.args.self.now.whole ≡ false = search rules in
    rw (p.1, p.2) (IsFault-same c.in_err-take_later.field-0.0 _ _ c.in_err-take_later.ensures.refused
    (ap (λ first. frame_cause first (standing lines) c.args.text.now) first ∙ ap (λ d. frame_cause false d c.args.text.now) (sym same)))
