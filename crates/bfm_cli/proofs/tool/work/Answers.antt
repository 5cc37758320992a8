use Rattle.std.proofs.Common.{[], ◌∙◌, ◌≡◌, Err, Ok, refl, sym, ap, subst, map, string_bytes}
use Rattle.crossing_check.specs.declared.judgement.SetVerdict.TheVariants.{Free}
use Rattle.bfm_session.specs.Loading.{supply}
use Rattle.bfm_cli.specs.Job.{job_of}
use Rattle.bfm_cli.specs.Outcome.{job_outcome}
use Rattle.bfm_cli.specs.Promise.{DoesOver, Uses, scene}
use Rattle.bfm_cli.specs.declared.job.Job.TheVariants.{Build, Trial}
use Rattle.bfm_cli.specs.declared.ending.Ending.TheVariants.{BadWords}
use Rattle.bfm_cli.proofs.InputLemmas.{Holds-some}
use Rattle.bfm_cli.proofs.OutcomeLemmas.{DoesOver-alone, words-unread}
use Rattle.bfm_cli.proofs.tool.work.Goals as goal

pub returns-in-Ok-Build : goal.returns-in-Ok-Build
returns-in-Ok-Build g c =
    let input = supply (g.I.Source.left c.args.input.now) (g.I.Source.faults c.args.input.now) in
    let same = c.args.input.now ≡ c.args.input.now in
    let before = g.O.Sink.account c.args.output.now in
    let after = g.O.Sink.account c.build.new.output in
    let unwritten = c.build.new.output ≡ c.args.output.now in
    let some = Holds-some (g.I.Source.left c.args.input.now) in
    let job : job_of (map string_bytes c.args.words.now) ≡ Ok (Build c.in-Ok-Build.start) = sym c.job_of.ensures.job ∙ (c.in-Ok-Build.is ∙ ap Ok c.in-Ok-Build.field-0-is) in
    subst (λ job. DoesOver c.build.result job (scene input input same before after unwritten)) (sym job)
    (DoesOver-alone c.build.result (Ok (Build c.in-Ok-Build.start)) some.0 Free input same before after unwritten tt some.1 refl c.build.ensures)

pub returns-in-Ok-Trial : goal.returns-in-Ok-Trial
returns-in-Ok-Trial g c =
    let input = supply (g.I.Source.left c.args.input.now) (g.I.Source.faults c.args.input.now) in
    let same = c.args.input.now ≡ c.args.input.now in
    let before = g.O.Sink.account c.args.output.now in
    let after = g.O.Sink.account c.make_trial.new.output in
    let unwritten = c.make_trial.new.output ≡ c.args.output.now in
    let some = Holds-some (g.I.Source.left c.args.input.now) in
    let job : job_of (map string_bytes c.args.words.now) ≡ Ok (Trial c.in-Ok-Trial.number) = sym c.job_of.ensures.job ∙ (c.in-Ok-Trial.is ∙ ap Ok c.in-Ok-Trial.field-0-is) in
    subst (λ job. DoesOver c.make_trial.result job (scene input input same before after unwritten)) (sym job)
    (DoesOver-alone c.make_trial.result (Ok (Trial c.in-Ok-Trial.number)) some.0 Free input same before after unwritten tt some.1 refl c.make_trial.ensures)

pub returns-in-Err : goal.returns-in-Err
returns-in-Err g c =
    let some = Holds-some (g.I.Source.left c.args.input.now) in
    let wrong : job_of (map string_bytes c.args.words.now) ≡ Err c.in-Err.word = sym c.job_of.ensures.job ∙ c.in-Err.is in
    let input = supply (g.I.Source.left c.args.input.now) (g.I.Source.faults c.args.input.now) in
    record {
      bytes = some.0;
      left = some.1;
      taken = [];
      verdict = Free;
      judged = λ none. absurd none;
      agrees = ap (λ job. (job_outcome job some.0 Free).ending) (sym wrong);
      uses = subst (λ job. Uses job (Ok (BadWords c.in-Err.word)) [] input input (c.args.input.now ≡ c.args.input.now)) (sym wrong) (refl, words-unread (Ok (BadWords c.in-Err.word)) c.in-Err.word refl);
      writes = refl;
      worlds = λ none. absurd none;
    }
