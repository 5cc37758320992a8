use Rattle.std.proofs.Common.{◌≡◌, ◌+◌, ◌++◌, List, ℕ, length, take, drop, ap, ◌∙◌, subst, arith, length-append, length-take}
use Rattle.std.proofs.lemmas.Result.{err_from_is_err_and}
use Rattle.bfm_lexer.proofs.CutterLemmas.{append-slice_range}
use Rattle.bfm_commands.specs.Reading.{Follows, IsSteady}
use Rattle.bfm_commands.specs.Verdict.{first_wrong_of, IsStop}
use Rattle.bfm_commands.proofs.ProgressLemmas.{take-all, rest-behind}
use Rattle.bfm_commands.proofs.progress.Progress.read.Goals as goal

pub returns-in_err-read_line-clause-answer : goal.returns-in_err-read_line-clause-answer
returns-in_err-read_line-clause-answer c bytes f e =
    let p = err_from_is_err_and c.from_residual.result c.from_residual.ensures.1 in
    let piece = c.args.piece.now in
    let before : List ℕ = bytes ++ take c.loop.at piece in
    let start : length before ≡ c.loop.self.fed + c.loop.at = omega (arith, length-append bytes (take c.loop.at piece), length-take {A = ℕ}, e, c.loop.invariant.fed, c.loop.invariant.within) in
    let stops = (c.in_err-read_line).ensures.answer before (c.loop.invariant.follows bytes f e) start (drop c.read_line.new.at piece) in
    let all = ap (λ l. l ++ drop c.read_line.new.at piece) (append-slice_range bytes piece c.loop.at c.read_line.new.at c.read_line.ensures.inside.0) ∙ rest-behind bytes piece c.read_line.new.at in
    rw (p.1, p.2) (subst (λ l. IsStop c.in_err-read_line.field-0.0 (first_wrong_of l)) all stops)

pub loop-preserved : goal.loop-preserved
loop-preserved c =
    let piece = c.args.piece.now in
    record {
      within = c.read_line.ensures.inside.1;
      fed = (c.in_ok-read_line).ensures.fed ∙ c.loop.invariant.fed;
      steady = subst (λ (n : ℕ). IsSteady c.read_line.new.self (n + c.read_line.new.at)) ((c.in_ok-read_line).ensures.fed ∙ c.loop.invariant.fed) (c.in_ok-read_line).ensures.steady;
      follows = λ bytes f e.
          let start : length (bytes ++ take c.loop.at piece) ≡ c.loop.self.fed + c.loop.at = omega (arith, length-append bytes (take c.loop.at piece), length-take {A = ℕ}, e, c.loop.invariant.fed, c.loop.invariant.within) in
          subst (Follows c.read_line.new.self) (append-slice_range bytes piece c.loop.at c.read_line.new.at c.read_line.ensures.inside.0)
          ((c.in_ok-read_line).ensures.answer (bytes ++ take c.loop.at piece) (c.loop.invariant.follows bytes f e) start);
    }

pub returns-clause-answer : goal.returns-clause-answer
returns-clause-answer c bytes f e =
    let piece = c.args.piece.now in
    let start : length (bytes ++ take c.loop.at piece) ≡ c.loop.self.fed + c.loop.at = omega (arith, length-append bytes (take c.loop.at piece), length-take {A = ℕ}, e, c.loop.invariant.fed, c.loop.invariant.within) in
    let end : c.read_line.new.at ≡ length piece = (c.in_ok-read_line).ensures.moves.1 c.if-branch.false in
    let follows = subst (Follows c.read_line.new.self) (append-slice_range bytes piece c.loop.at c.read_line.new.at c.read_line.ensures.inside.0 ∙ (ap (λ n. bytes ++ take n piece) end ∙ ap (λ l. bytes ++ l) (take-all piece)))
    ((c.in_ok-read_line).ensures.answer (bytes ++ take c.loop.at piece) (c.loop.invariant.follows bytes f e) start) in
    record { cut = follows.cut; lines = follows.lines; sums = follows.sums; right = follows.right }
