use Rattle.crossing_check.specs.declared.judgement.SetVerdict.TheVariants.{Free}
use Rattle.bfm_cli.specs.declared.job.FileJob.TheVariants.{Run}
use Rattle.bfm_cli.proofs.OutcomeLemmas.{accepted_outcome-words}
use Rattle.bfm_cli.proofs.tool.run_accepted.Goals as goal

pub returns-in-Err-Memory : goal.returns-in-Err-Memory
returns-in-Err-Memory g c =
    let ran = rw c.in-Err-Memory.field-0-is at (c.in-Err-Memory.ensures.does.1) in
    record {
      verdict = Free;
      judged = λ none. absurd none;
      agrees = accepted_outcome-words (Run c.args.order.now) c.args.loaded c.args.kept.now Free;
      of_file = tt;
      writes = ran.1;
    }
