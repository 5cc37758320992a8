use Rattle.std.proofs.Common.{◌∙◌}
use Rattle.sweep_stream.proofs.WordLemmas.{word_drawn}
use Rattle.sweep_stream.proofs.SweepWords.next.Goals as goal

pub returns-clause-word : goal.returns-clause-word
returns-clause-word c seed k e = (word_drawn c.self.inside.generator c.next_word.new.self c.next_word.result seed k c.next_word.ensures (c.self.view_is ∙ e)).0

pub returns-clause-next : goal.returns-clause-next
returns-clause-next c seed k e = (word_drawn c.self.inside.generator c.next_word.new.self c.next_word.result seed k c.next_word.ensures (c.self.view_is ∙ e)).1
