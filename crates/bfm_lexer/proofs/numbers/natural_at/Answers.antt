use Rattle.std.proofs.Common.{◌≡◌, ◌+◌, ◌*◌, ◌^◌, min, true, false, get_or, arith}
use Rattle.std.specs.Char.{digit_value}
use Rattle.bfm_lexer.specs.Cursor.{begins_with_digit}
use Rattle.bfm_lexer.proofs.NumberLemmas.{SameDigits-step, digit_value-first, handed_natural-end, handed_natural-none}
use Rattle.bfm_lexer.proofs.numbers.natural_at.Goals as goal
use Rattle.bfm_lexer.proofs.numbers.natural_at.Goals.{then-value, else-value}

pub returns-then-not-begins_with_digit-clause-read : goal.returns-then-not-begins_with_digit-clause-read
returns-then-not-begins_with_digit-clause-read c =
    let other : begins_with_digit c.args.text.now ≡ false = cc in
    handed_natural-none c.args.text.now other

pub loop-digit-preserved : goal.loop-digit-preserved
loop-digit-preserved c =
    let rest = c.loop-digit.rest.now in
    let digit : begins_with_digit rest ≡ true = cc in
    let first = digit_value-first rest digit in
    let same : min c.if-value.value (2 ^ 62 + 1) ≡ min (c.loop-digit.value * 10 + digit_value (get_or rest 0 0)) (2 ^ 62 + 1) =
    elim c.if-value.branch [ then-value w ↦ omega (arith, first) | else-value w ↦ omega (arith, first) ] in
    SameDigits-step c.loop-digit.value _ 0 rest c.args.text.now digit same c.loop-digit.invariant

pub returns-clause-read : goal.returns-clause-read
returns-clause-read c =
    let digit : begins_with_digit c.args.text.now ≡ true = cc in
    let other : begins_with_digit c.loop-digit.rest.now ≡ false = cc in
    rw c.min.ensures (handed_natural-end c.loop-digit.value c.loop-digit.rest.now c.args.text.now digit other c.loop-digit.invariant)
