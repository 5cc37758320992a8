use Rattle.std.proofs.Common.{◌+◌, length, take, slice_range, refl, ap}
use Rattle.bfm_lexer.proofs.CutterLemmas.{finished_lines-nowhere, finished_lines-found, StandsFor-rest, StandsFor-line, taken-line, TakesLine-found, Takes-line}
use Rattle.bfm_lexer.proofs.lines.LineCutter.feed.Goals as goal

pub returns-in-None-clause-takes : goal.returns-in-None-clause-takes
returns-in-None-clause-takes c =
    record { all = refl; no_line = finished_lines-nowhere (slice_range c.args.piece.now c.args.at.now (length c.args.piece.now)) c.in-None.ensures }

pub returns-in-None-clause-answers : goal.returns-in-None-clause-answers
returns-in-None-clause-answers c before stands =
    let rest = slice_range c.args.piece.now c.args.at.now (length c.args.piece.now) in
    StandsFor-rest c.args.self.now c.add.new.self before rest (finished_lines-nowhere rest c.in-None.ensures) stands (ap (λ s. s.pending) c.add.ensures)

pub returns-in-Some-clause-takes : goal.returns-in-Some-clause-takes
returns-in-Some-clause-takes c =
    let piece = c.args.piece.now in
    let at = c.args.at.now in
    let end = c.in-Some.end in
    let front = take end (slice_range piece at (length piece)) in
    let found = c.in-Some.ensures in
    rw c.finish.ensures.cut
    (Takes-line c.add-in-Some.new.self.pending piece at (at + (end + 1))
    (TakesLine-found piece at end front c.requires found.0.high (taken-line piece at end found.0.high found.1) (finished_lines-found _ end found.0)))

pub returns-in-Some-clause-answers : goal.returns-in-Some-clause-answers
returns-in-Some-clause-answers c before stands =
    let piece = c.args.piece.now in
    let at = c.args.at.now in
    let end = c.in-Some.end in
    let front = take end (slice_range piece at (length piece)) in
    let found = c.in-Some.ensures in
    rw (c.finish.ensures.cut, c.finish.ensures.after, taken-line piece at end found.0.high found.1)
    (StandsFor-line c.args.self.now c.add-in-Some.new.self before front (finished_lines-found _ end found.0) stands (ap (λ s. s.pending) c.add-in-Some.ensures))
