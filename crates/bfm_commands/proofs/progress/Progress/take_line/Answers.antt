use Rattle.std.proofs.Common.{ap, sym, ◌∙◌, arith}
use Rattle.bfm_commands.specs.Meaning.{text_meaning}
use Rattle.bfm_commands.specs.Causes.{meaning_cause}
use Rattle.bfm_commands.proofs.ProgressLemmas.{some_same}
use Rattle.bfm_commands.proofs.progress.Progress.take_line.Goals as goal

pub returns-in-Ok-clause-taken : goal.returns-in-Ok-clause-taken
returns-in-Ok-clause-taken c before line text sums given e count =
    let same = some_same c.args.self.now.cutter.line c.line.result.now text c.line.ensures given in
    let taken = c.in-Ok.ensures.taken before line sums (ap text_meaning (e ∙ sym same)) count in
    (ap (λ t. meaning_cause before (text_meaning t)) (sym same) ∙ taken.0, taken.1)

pub returns-in-Ok-clause-steady : goal.returns-in-Ok-clause-steady
returns-in-Ok-clause-steady c = record {
  fit = c.in-Ok.ensures.fit;
  counts = c.in-Ok.ensures.more c.args.self.now.lines c.requires.steady.counts;
  lines = omega (arith, c.requires.room);
}
