use Rattle.std.proofs.Common.{refl, ◌∙◌}
use Rattle.std.proofs.lemmas.Result.{MatchResult-weaker, on_ok_weaker}
use Rattle.bfm_commands.proofs.StepLemmas.{IsFault-same}
use Rattle.bfm_commands.proofs.EntryLemmas.{header_entry_cause, Sums-header_entry, is_ready, frames_entry_cause, Sums-frames_entry}
use Rattle.bfm_commands.proofs.summary.Summary.take_entry.Goals as goal

pub returns-in-Command-Some-clause-taken : goal.returns-in-Command-Some-clause-taken
returns-in-Command-Some-clause-taken c =
    let s = c.args.self.now in
    let known = c.in-Command-Some.known in
    let text = c.args.text.now in
    on_ok_weaker c.take_entry.result (λ taken before line sums m count.
    let t = taken (is_ready s before sums known text c.in-Command-Some.is-0 c.in-Command-Some.frames c.in-Command-Some.is-1) in (
      frames_entry_cause s before sums known text c.in-Command-Some.is-0 c.in-Command-Some.frames c.in-Command-Some.is-1 ∙ t.0,
      Sums-frames_entry s before sums known text c.in-Command-Some.is-0 c.in-Command-Some.frames c.in-Command-Some.is-1 _ c.take_entry.new.self line c.args.bytes m count refl refl refl t.0 t.1,
    )) c.take_entry.ensures.taken

pub returns-in-Command-Some-clause-refused : goal.returns-in-Command-Some-clause-refused
returns-in-Command-Some-clause-refused c =
    let s = c.args.self.now in
    let known = c.in-Command-Some.known in
    let text = c.args.text.now in
    MatchResult-weaker c.take_entry.result c.take_entry.ensures.refused (λ _ h. h)
    (λ fault refused before sums.
    IsFault-same fault _ _ (refused (is_ready s before sums known text c.in-Command-Some.is-0 c.in-Command-Some.frames c.in-Command-Some.is-1))
    (frames_entry_cause s before sums known text c.in-Command-Some.is-0 c.in-Command-Some.frames c.in-Command-Some.is-1))

pub returns-in-Command-None-clause-taken : goal.returns-in-Command-None-clause-taken
returns-in-Command-None-clause-taken c =
    on_ok_weaker c.take_entry-in-Command-None.result (λ taken before line sums m count. (
      header_entry_cause c.args.self.now before sums c.in-Command-None.known c.args.text.now c.in-Command-None.is-0 c.in-Command-None.is-1 ∙ taken.0,
      Sums-header_entry c.args.self.now before sums c.in-Command-None.known c.args.text.now c.in-Command-None.is-0 c.in-Command-None.is-1 _ line m refl refl refl taken.1,
    )) c.take_entry-in-Command-None.ensures.taken

pub returns-in-Command-None-clause-refused : goal.returns-in-Command-None-clause-refused
returns-in-Command-None-clause-refused c =
    MatchResult-weaker c.take_entry-in-Command-None.result c.take_entry-in-Command-None.ensures.refused (λ _ h. h)
    (λ fault refused before sums.
    IsFault-same fault _ _ refused (header_entry_cause c.args.self.now before sums c.in-Command-None.known c.args.text.now c.in-Command-None.is-0 c.in-Command-None.is-1))
