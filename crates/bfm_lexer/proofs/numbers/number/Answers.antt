use Rattle.std.proofs.Common.{◌≡◌, ◌<◌, ◌≤◌, ◌^◌, length, unsigned_abs, to_z, of_z, w64, arith, rules}
use Rattle.std.proofs.lemmas.Grind.{common_steps}
use Rattle.bfm_lexer.proofs.NumberLemmas.{number_of-within, number_of-beyond, number_of-other, number_of-none}
use Rattle.bfm_lexer.proofs.numbers.number.Goals as goal

pub returns-in_default-clause-err : goal.returns-in_default-clause-err
returns-in_default-clause-err c = number_of-none c.args.digits.now c.in_default.ensures

pub returns-then-not-is_empty-clause-err : goal.returns-then-not-is_empty-clause-err
returns-then-not-is_empty-clause-err c =
    let more : 1 ≤ length c.in-Some.rest.now = grind (arith, common_steps) in
    number_of-other c.args.digits.now c.in-Some.rest.now c.in-Some.number c.in-Some.ensures more

pub returns-then-unsigned_abs-gt-GREATEST_NUMBER-clause-err : goal.returns-then-unsigned_abs-gt-GREATEST_NUMBER-clause-err
returns-then-unsigned_abs-gt-GREATEST_NUMBER-clause-err c =
    let n = c.in-Some.number in
    let value : to_z w64 (of_z w64 n) ≡ n = search rules in
    let size = rw value at c.unsigned_abs.ensures.value in
    let end : length c.in-Some.rest.now < 1 = grind (arith, common_steps) in
    number_of-beyond c.args.digits.now c.in-Some.rest.now n c.in-Some.ensures end (omega (arith, size))

pub returns-clause-ok : goal.returns-clause-ok
returns-clause-ok c =
    let n = c.in-Some.number in
    let value : to_z w64 (of_z w64 n) ≡ n = search rules in
    let size = rw value at c.unsigned_abs.ensures.value in
    let near : unsigned_abs n ≤ 2 ^ 62 = omega (arith, size) in
    let end : length c.in-Some.rest.now < 1 = grind (arith, common_steps) in
    rw value (number_of-within c.args.digits.now c.in-Some.rest.now n c.in-Some.ensures end near, near)
