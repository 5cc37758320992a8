use Rattle.std.proofs.Common.{◌≤◌, Err, IfOk, length, arith, sym, subst, ap, ◌∙◌}
use Rattle.std.specs.Option.{ok_or}
use Rattle.bfm_commands.specs.Reading.{Standing, StandsFor, Ends}
use Rattle.bfm_commands.specs.Verdict.{verdict_of}
use Rattle.bfm_commands.specs.declared.loaded.Loaded.{Loaded}
use Rattle.bfm_commands.proofs.EndLemmas.{Ends-header, Ends-frames, kept-fewer, IfOk-ok_or}
use Rattle.bfm_commands.proofs.reader.Reader.end.Goals as goal

pub stop_at-missing-requires : goal.stop_at-missing-requires
stop_at-missing-requires c = let i = c.self.invariant.0 c.in_default.is in omega (arith, i.0.lines, i.1)

pub returns-in_default-frames-clause-answer : goal.returns-in_default-frames-clause-answer
returns-in_default-frames-clause-answer c bytes st =
    let s = subst (λ (r : Standing). StandsFor r bytes) (sym c.self.view_is) st in
    subst (λ x. Ends (Err x) (verdict_of bytes)) (sym c.stop_at-missing.ensures) (Ends-header c.self.inside.progress bytes s.follows s.fed c.in_default-frames.is)

pub returns-clause-answer : goal.returns-clause-answer
returns-clause-answer c bytes st =
    let s = subst (λ (r : Standing). StandsFor r bytes) (sym c.self.view_is) st in
    subst (λ r. Ends r (verdict_of bytes)) (sym (c.ok_or.ensures.value ∙ ap (ok_or c.end.result) c.stop_at-missing.ensures))
    (Ends-frames c.self.inside.progress bytes s.follows s.fed c.in-Some-frames.frames c.in-Some-frames.is c.end.result c.end.ensures.loaded)

pub returns-clause-kept : goal.returns-clause-kept
returns-clause-kept c bytes st =
    let s = subst (λ (r : Standing). StandsFor r bytes) (sym c.self.view_is) st in
    subst (λ r. IfOk r (λ (loaded : Loaded). loaded.kept ≤ length bytes)) (sym c.ok_or.ensures.value)
    (IfOk-ok_or c.end.result c.stop_at-missing.result (λ (loaded : Loaded). loaded.kept ≤ length bytes)
    (kept-fewer c.self.inside.progress bytes s.follows s.fed c.in-Some-frames.frames c.in-Some-frames.is c.end.result c.end.ensures.loaded))
