use Rattle.std.proofs.Common.{length}
use Rattle.bfm_lexer.proofs.NumberLemmas.{SameDigits}
use Rattle.bfm_lexer.proofs.numbers.natural_at.Given as goal

abbrev pub invariant-loop-digit : goal.invariant-loop-digit
invariant-loop-digit l = SameDigits l.value l.rest 0 l.text

abbrev pub decreases-loop-digit : goal.decreases-loop-digit
decreases-loop-digit l = length l.rest
