use Rattle.std.proofs.Common.{◌≡◌, [], length, subst, arith}
use Rattle.std.proofs.lemmas.Bool.Decides.{nat_tests}
use Rattle.std.proofs.lemmas.Result.{err_from_is_err_and}
use Rattle.bfm_base.proofs.SendLemmas.{Sends-later, TookPrefix-append}
use Rattle.bfm_writer.specs.Text.{group_text}
use Rattle.bfm_session.proofs.ReadBackSettings.{HasThree}
use Rattle.bfm_session.proofs.ReadBackWhole.{verdict_of-written}
use Rattle.bfm_session.proofs.written.write_world.Goals as goal

pub returns-in_err-header-clause-sent : goal.returns-in_err-header-clause-sent
returns-in_err-header-clause-sent g c =
    let p = err_from_is_err_and c.from_residual.result c.from_residual.ensures.1 in
    rw p.1 (TookPrefix-append _ _ _ (group_text c.args.world.now c.args.mcs []) c.in_err-header.ensures)

pub returns-in_err-header-clause-read_back : goal.returns-in_err-header-clause-read_back
returns-in_err-header-clause-read_back g c near early =
    let sides : length c.shape.result.sides ≡ 3 = grind (arith, nat_tests, c.if-prove.false) in
    let marks : length c.shape.result.periodic ≡ 3 = grind (arith, nat_tests, c.if-prove-2.false) in
    let has = subst HasThree c.shape.ensures.shape (record { three_sides = sides; three_marks = marks }) in
    verdict_of-written c.args.world.now c.len.ensures.valid has near c.args.mcs early

pub returns-clause-sent : goal.returns-clause-sent
returns-clause-sent g c = Sends-later c.group.result _ _ _ _ _ c.in_ok-header.ensures c.group.ensures

pub returns-clause-read_back : goal.returns-clause-read_back
returns-clause-read_back g c near early =
    let sides : length c.shape.result.sides ≡ 3 = grind (arith, nat_tests, c.if-prove.false) in
    let marks : length c.shape.result.periodic ≡ 3 = grind (arith, nat_tests, c.if-prove-2.false) in
    let has = subst HasThree c.shape.ensures.shape (record { three_sides = sides; three_marks = marks }) in
    verdict_of-written c.args.world.now c.len.ensures.valid has near c.args.mcs early
