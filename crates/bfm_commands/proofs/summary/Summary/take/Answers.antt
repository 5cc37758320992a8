use Rattle.std.proofs.Common.{◌≡◌, None, Some, refl, ap, sym, ◌∙◌, inl, inr}
use Rattle.std.proofs.lemmas.Result.{MatchResult-weaker, on_ok_weaker}
use Rattle.bfm_lexer.specs.declared.kinds.LineKind.TheVariants as kinds
use Rattle.bfm_commands.specs.Meaning.{nothing, text_meaning}
use Rattle.bfm_commands.specs.Causes.{meaning_cause}
use Rattle.bfm_commands.proofs.StepLemmas.{IsFault-same}
use Rattle.bfm_commands.proofs.EntryLemmas.{text_meaning-command, text_meaning-entry, text_meaning-nothing, CountsAtMost-more, Sums-nothing}
use Rattle.bfm_commands.proofs.summary.Summary.take.Goals as goal

pub returns-in-Some-known-clause-taken : goal.returns-in-Some-known-clause-taken
returns-in-Some-known-clause-taken c =
    let is = text_meaning-command c.args.text.now (Some c.in-Some-known.known) c.in-Some.field-0.rest.now (sym c.in-Some.ensures ∙ ap (λ k. Some (k, c.in-Some.field-0.rest.now)) c.in-Some-known.is) in
    on_ok_weaker c.take_command.result (λ taken before line sums e count.
    let t = taken before line sums (e ∙ is) in (ap (meaning_cause before) is ∙ t.0, t.1)) c.take_command.ensures.taken

pub returns-in-Some-known-clause-more : goal.returns-in-Some-known-clause-more
returns-in-Some-known-clause-more c = on_ok_weaker c.take_command.result (λ more n counts. CountsAtMost-more n c.take_command.new.self (more n counts)) c.take_command.ensures.more

pub returns-in-Some-known-clause-refused : goal.returns-in-Some-known-clause-refused
returns-in-Some-known-clause-refused c =
    let is = text_meaning-command c.args.text.now (Some c.in-Some-known.known) c.in-Some.field-0.rest.now (sym c.in-Some.ensures ∙ ap (λ k. Some (k, c.in-Some.field-0.rest.now)) c.in-Some-known.is) in
    MatchResult-weaker c.take_command.result c.take_command.ensures.refused (λ _ h. h) (λ fault refused before sums. IsFault-same fault _ _ (refused before sums) (ap (meaning_cause before) is))

pub returns-in-None-known-clause-taken : goal.returns-in-None-known-clause-taken
returns-in-None-known-clause-taken c =
    let rest = c.in-Some.field-0.rest.now in
    let is = text_meaning-command c.args.text.now None rest (sym c.in-Some.ensures ∙ ap (λ k. Some (k, rest)) c.in-None-known.is) in
    on_ok_weaker c.skip.result (λ taken before line sums e count.
    let t = taken before line rest sums (e ∙ is) in (ap (meaning_cause before) is ∙ t.0, t.1)) c.skip.ensures.taken

pub returns-in-None-known-clause-refused : goal.returns-in-None-known-clause-refused
returns-in-None-known-clause-refused c =
    let rest = c.in-Some.field-0.rest.now in
    let is = text_meaning-command c.args.text.now None rest (sym c.in-Some.ensures ∙ ap (λ k. Some (k, rest)) c.in-None-known.is) in
    MatchResult-weaker c.skip.result c.skip.ensures.refused (λ _ h. h) (λ fault refused before sums. IsFault-same fault _ _ (refused before rest sums) (ap (meaning_cause before) is))

pub returns-in-Entry-clause-taken : goal.returns-in-Entry-clause-taken
returns-in-Entry-clause-taken c =
    let is = text_meaning-entry c.args.text.now (sym c.in-None.ensures) (sym c.kind.ensures ∙ c.in-Entry.is) in
    on_ok_weaker c.take_entry.result (λ taken before line sums e count.
    let t = taken before line sums (e ∙ is) count in (ap (meaning_cause before) is ∙ t.0, t.1)) c.take_entry.ensures.taken

pub returns-in-Entry-clause-refused : goal.returns-in-Entry-clause-refused
returns-in-Entry-clause-refused c =
    let is = text_meaning-entry c.args.text.now (sym c.in-None.ensures) (sym c.kind.ensures ∙ c.in-Entry.is) in
    MatchResult-weaker c.take_entry.result c.take_entry.ensures.refused (λ _ h. h) (λ fault refused before sums. IsFault-same fault _ _ (refused before sums) (ap (meaning_cause before) is))

pub returns-in-Blank : goal.returns-in-Blank
returns-in-Blank c =
    let none = sym c.in-None.ensures in
    let is : text_meaning c.args.text.now ≡ nothing = elim c.in-Blank.is [
      | inl k ↦ text_meaning-nothing c.args.text.now kinds.Blank none (sym c.kind.ensures ∙ k) refl
      | inr other ↦ elim other [
        | inl k ↦ text_meaning-nothing c.args.text.now kinds.Comment none (sym c.kind.ensures ∙ k) refl
        | inr k ↦ text_meaning-nothing c.args.text.now kinds.Command none (sym c.kind.ensures ∙ k) refl
      ]
    ] in
    record {
      taken = λ before line sums e count. (ap (meaning_cause before) is, Sums-nothing c.args.self.now before line sums (e ∙ is));
      fit = c.requires.fit;
      more = λ n counts. CountsAtMost-more n c.args.self.now counts;
      refused = tt;
    }
