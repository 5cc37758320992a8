use Rattle.std.proofs.Common.{◌++◌, List, ℕ, slice_range, refl, sym, ◌∙◌, subst, arith}
use Rattle.std.proofs.lemmas.Result.{err_from_is_err_and}
use Rattle.bfm_base.specs.declared.cause.Cause.TheVariants.{OutOfLimit}
use Rattle.bfm_lexer.specs.Lines.{without_return}
use Rattle.bfm_lexer.specs.Cutter as cutters
use Rattle.bfm_commands.specs.Verdict.{history_of, first_wrong_of, IsStop}
use Rattle.bfm_commands.specs.declared.fault.LineFault.TheVariants.{Refused}
use Rattle.bfm_commands.proofs.StepLemmas.{IsFault-same}
use Rattle.bfm_commands.proofs.ProgressLemmas.{bytes_in-line, history_of-line, IsStop-line, Follows-line, cause_of-short, cause_of-long}
use Rattle.bfm_commands.proofs.progress.Progress.read_line.Goals as goal

pub returns-in_err-take_line-in-Line-clause-answer : goal.returns-in_err-take_line-in-Line-clause-answer
returns-in_err-take_line-in-Line-clause-answer c =
    let p = err_from_is_err_and c.from_residual.result c.from_residual.ensures.1 in
    rw (p.1, p.2) (λ before f start rest.
    let a = c.in-Line.ensures.answers before f.cut in
    let line = a.1.0.line in
    let stops = (c.in_err-take_line-in-Line).ensures.refused (history_of before) (without_return line) f.sums a.1.2 in
    subst (λ s. IsStop s (first_wrong_of ((before ++ slice_range c.args.piece.now c.args.at.now c.feed.new.at) ++ rest))) (sym stops.stops)
    (IsStop-line c.args.self.now before (before ++ slice_range c.args.piece.now c.args.at.now c.feed.new.at) line f a.1.0.lines rest stops.fault (IsFault-same stops.fault _ _ stops.why (cause_of-short (history_of before) line (without_return line) a.1.1 refl))))

pub returns-in-Long-clause-answer : goal.returns-in-Long-clause-answer
returns-in-Long-clause-answer c before f start rest =
    let a = c.in-Long.ensures.answers before f.cut in
    subst (λ s. IsStop s (first_wrong_of ((before ++ slice_range c.args.piece.now c.args.at.now c.feed.new.at) ++ rest))) (sym c.stop_at.ensures)
    (IsStop-line c.args.self.now before (before ++ slice_range c.args.piece.now c.args.at.now c.feed.new.at) a.1.0.line f a.1.0.lines rest (Refused OutOfLimit) (cause_of-long (history_of before) a.1.0.line a.1.1))

pub returns-in_ok-take_line-in-Line-clause-answer : goal.returns-in_ok-take_line-in-Line-clause-answer
returns-in_ok-take_line-in-Line-clause-answer c before f start =
    let a = c.in-Line.ensures.answers before f.cut in
    let line = a.1.0.line in
    let after : List ℕ = before ++ slice_range c.args.piece.now c.args.at.now c.feed.new.at in
    let e = (c.in_ok-take_line-in-Line).ensures in
    let size = bytes_in-line before after line c.args.piece.now c.args.at.now c.feed.new.at c.args.self.now.fed (history_of-line c.args.self.now before after line f a.1.0.lines) a.1.0.no_more refl start
    (omega (arith, c.in-Line.ensures.takes.moves)) c.in-Line.ensures.takes.within in
    let taken = e.taken (history_of before) line (without_return line) f.sums a.1.2 refl size in
    Follows-line c.args.self.now before after line f a.1.0.lines c.take_line.new.self (cause_of-short (history_of before) line (without_return line) a.1.1 refl ∙ taken.0)
    (subst (λ cutter. cutters.StandsFor cutter after) (sym e.same.0) a.0) e.count taken.1
