use Rattle.std.proofs.Common.{◌≡◌, refl, sym, ap, ◌∙◌, subst}
use Rattle.crossing_check.specs.declared.judgement.SetVerdict.TheVariants.{Free}
use Rattle.bfm_session.specs.Loading.{IsShown, supply}
use Rattle.bfm_session.proofs.LimitLemmas.{limited-accepted}
use Rattle.bfm_cli.specs.Outcome.{Outcome, file_outcome, limit_of}
use Rattle.bfm_cli.specs.declared.job.Job.TheVariants.{File}
use Rattle.bfm_cli.specs.Promise.{Agrees, Writes}
use Rattle.bfm_cli.proofs.InputLemmas.{IsLoaded-limit, Stops-limit, Holds-some, Holds-whole, Holds-shown, Holds-long}
use Rattle.bfm_cli.proofs.OutcomeLemmas.{JudgesInput-loaded, HasValidWorlds-loaded, job_outcome-loaded, job_outcome-words, Reads-accepted}
use Rattle.bfm_cli.specs.declared.ending.Ending.TheVariants.{BadFile, TooLong}
use Rattle.bfm_cli.proofs.tool.do_file.Goals as goal

pub returns-in-Ok : goal.returns-in-Ok
returns-in-Ok g c =
    let job = c.args.job.now in
    let loaded = c.in-Ok.loaded in
    let before = supply (g.I.Source.left c.args.input.now) (g.I.Source.faults c.args.input.now) in
    let after = supply (g.I.Source.left c.load.new.input) (g.I.Source.faults c.load.new.input) in
    let all = IsLoaded-limit loaded c.in-Ok.kept.items c.limit_of-limit.result (limit_of job) before after c.limit_of-limit.ensures.value c.in-Ok.ensures.loaded in
    let taken = all.0 in
    let read = all.1 in
    let did = c.do_accepted.ensures in
    let same = job_outcome-loaded job taken _ _ did.verdict read.verdict (c.deref.ensures.value ∙ read.part) in
    let whole = limited-accepted (limit_of job) taken loaded read.verdict in
    let write = λ (outcome : Outcome). Writes c.do_accepted.result outcome.output (g.O.Sink.account c.args.output.now) (g.O.Sink.account c.do_accepted.new.output) (c.do_accepted.new.output ≡ c.args.output.now) in
    record {
      bytes = taken;
      left = Holds-whole _ _ taken read.takes.consumed read.read.end;
      taken = taken;
      verdict = did.verdict;
      judged = λ begun. JudgesInput-loaded job taken loaded did.verdict whole (did.judged begun);
      agrees = subst (Agrees c.do_accepted.result) (sym same) did.agrees;
      uses = (read.takes, Reads-accepted c.do_accepted.result _ taken _ _ did.of_file read.read);
      writes = subst write (sym same) did.writes;
      worlds = λ _. HasValidWorlds-loaded job taken loaded c.in-Ok.ensures.valid whole;
    }

pub returns-in-Err-Refused : goal.returns-in-Err-Refused
returns-in-Err-Refused g c =
    let job = c.args.job.now in
    let before = supply (g.I.Source.left c.args.input.now) (g.I.Source.faults c.args.input.now) in
    let after = supply (g.I.Source.left c.load.new.input) (g.I.Source.faults c.load.new.input) in
    let stopped = rw c.in-Err-Refused.field-0-is at (Stops-limit c.in-Err-Refused.field-0 c.limit_of-limit.result (limit_of c.args.job.now) before after c.limit_of-limit.ensures.value c.in-Err-Refused.ensures.stopped) in
    let why = stopped.2 in
    let all = Holds-shown _ _ (limit_of job) stopped.0 _ stopped.1.consumed why.0 why.1 in
    record {
      bytes = all.0;
      left = all.1;
      taken = stopped.0;
      verdict = Free;
      judged = λ none. absurd none;
      agrees = ap BadFile c.in-Err-Refused.refused-is ∙ sym (ap (λ file. (file_outcome job all.0 Free file).ending) all.2);
      uses = (stopped.1, (why.2, subst (λ wrong. IsShown wrong (limit_of job) stopped.0 (g.I.Source.left c.load.new.input)) (sym c.in-Err-Refused.refused-is) why.1));
      writes = refl;
      worlds = λ none. absurd none;
    }

pub returns-in-Err-TooLong : goal.returns-in-Err-TooLong
returns-in-Err-TooLong g c =
    let job = c.args.job.now in
    let before = supply (g.I.Source.left c.args.input.now) (g.I.Source.faults c.args.input.now) in
    let after = supply (g.I.Source.left c.load.new.input) (g.I.Source.faults c.load.new.input) in
    let stopped = rw c.in-Err-TooLong.field-0-is at (Stops-limit c.in-Err-TooLong.field-0 c.limit_of-limit.result (limit_of c.args.job.now) before after c.limit_of-limit.ensures.value c.in-Err-TooLong.ensures.stopped) in
    let all = Holds-long _ _ (limit_of job) stopped.0 stopped.1.consumed stopped.2.0 in
    record {
      bytes = all.0;
      left = all.1;
      taken = stopped.0;
      verdict = Free;
      judged = λ none. absurd none;
      agrees = ap TooLong c.limit_of-limit.ensures.value ∙ sym (ap (λ file. (file_outcome job all.0 Free file).ending) all.2);
      uses = (stopped.1, (stopped.2.1, stopped.2.0));
      writes = refl;
      worlds = λ none. absurd none;
    }

pub returns-in-Err-ReadFault : goal.returns-in-Err-ReadFault
returns-in-Err-ReadFault g c =
    let some = Holds-some (g.I.Source.left c.args.input.now) in
    let before = supply (g.I.Source.left c.args.input.now) (g.I.Source.faults c.args.input.now) in
    let after = supply (g.I.Source.left c.load.new.input) (g.I.Source.faults c.load.new.input) in
    let stopped = rw c.in-Err-ReadFault.field-0-is at (Stops-limit c.in-Err-ReadFault.field-0 c.limit_of-limit.result (limit_of c.args.job.now) before after c.limit_of-limit.ensures.value c.in-Err-ReadFault.ensures.stopped) in
    record {
      bytes = some.0;
      left = some.1;
      taken = stopped.0;
      verdict = Free;
      judged = λ none. absurd none;
      agrees = job_outcome-words (File c.args.job.now) some.0 Free;
      uses = (stopped.1, (stopped.2.1, stopped.2.0));
      writes = refl;
      worlds = λ none. absurd none;
    }

pub returns-in-Err-Memory : goal.returns-in-Err-Memory
returns-in-Err-Memory g c =
    let some = Holds-some (g.I.Source.left c.args.input.now) in
    let before = supply (g.I.Source.left c.args.input.now) (g.I.Source.faults c.args.input.now) in
    let after = supply (g.I.Source.left c.load.new.input) (g.I.Source.faults c.load.new.input) in
    let stopped = rw c.in-Err-Memory.field-0-is at (Stops-limit c.in-Err-Memory.field-0 c.limit_of-limit.result (limit_of c.args.job.now) before after c.limit_of-limit.ensures.value c.in-Err-Memory.ensures.stopped) in
    record {
      bytes = some.0;
      left = some.1;
      taken = stopped.0;
      verdict = Free;
      judged = λ none. absurd none;
      agrees = job_outcome-words (File c.args.job.now) some.0 Free;
      uses = (stopped.1, stopped.2);
      writes = refl;
      worlds = λ none. absurd none;
    }
