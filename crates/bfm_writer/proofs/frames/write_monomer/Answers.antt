use Rattle.std.proofs.Common.{◌++◌, codes, ap, sym}
use Rattle.std.proofs.lemmas.Result.{err_from_is_err_and}
use Rattle.bfm_writer.specs.declared.frames.Part.TheVariants.{Start, Ids}
use Rattle.bfm_writer.specs.Part.{id_text, left_behind}
use Rattle.bfm_writer.specs.Text.{position_text}
use Rattle.bfm_writer.proofs.BatchLemmas.{TookFirst-none, TookFirst-next, TookPrefix-next}
use Rattle.bfm_writer.proofs.RowLemmas.{left_behind-continued, left_behind-ended}
use Rattle.bfm_writer.proofs.frames.write_monomer.Goals as goal

pub returns-in-Some : goal.returns-in-Some
returns-in-Some g c =
    let left = left_behind-continued c.args.part c.args.world.now c.args.k c.in-Some.id c.requires.later c.requires.monomer (sym c.in-Some.ensures) in
    TookFirst-next _ _ _ _ _ _ _ _ _ (TookFirst-none _ _) (ap (λ l. c.args.batch.now ++ l) left) c.in_ok-write_id.ensures

pub returns-in_err-write_id : goal.returns-in_err-write_id
returns-in_err-write_id g c =
    let p = err_from_is_err_and c.from_residual.result c.from_residual.ensures.1 in
    let left = left_behind-continued c.args.part c.args.world.now c.args.k c.in-Some.id c.requires.later c.requires.monomer (sym c.in-Some.ensures) in
    rw p.1 (TookPrefix-next _ _ _ _ _ c.args.batch.now (id_text c.args.part c.in-Some.id) (left_behind Ids c.args.world.now c.args.k) (TookFirst-none _ _)
    (ap (λ l. c.args.batch.now ++ l) left) c.in_err-write_id.ensures)

pub returns-in_err-push : goal.returns-in_err-push
returns-in_err-push g c =
    let p = err_from_is_err_and c.from_residual-in_err-push.result c.from_residual-in_err-push.ensures.1 in
    let left = left_behind-ended c.args.part c.args.world.now c.args.k c.requires.later c.requires.monomer (sym c.in_default.ensures) in
    rw p.1 (TookPrefix-next _ _ _ _ _ _ (codes "\n") _ (TookFirst-none _ _) (ap (λ l. c.args.batch.now ++ l) left) c.in_err-push.ensures)

pub returns-in_err-write_position : goal.returns-in_err-write_position
returns-in_err-write_position g c =
    let p = err_from_is_err_and c.from_residual-in_err-write_position.result c.from_residual-in_err-write_position.ensures.1 in
    let w = c.args.world.now in
    let left = left_behind-ended c.args.part w c.args.k c.requires.later c.requires.monomer (sym c.in_default.ensures) in
    let ended = TookFirst-next _ _ _ _ _ _ (codes "\n") _ _ (TookFirst-none _ _) (ap (λ l. c.args.batch.now ++ l) left) c.in_ok-push.ensures in
    rw p.1 (TookPrefix-next _ _ _ _ _ _ (position_text c.position.result) (left_behind Start w c.args.k) ended
    (ap (λ q. c.push.new.self ++ (position_text q ++ left_behind Start w c.args.k)) (sym c.position.ensures.position)) c.in_err-write_position.ensures)

pub returns : goal.returns
returns g c =
    let w = c.args.world.now in
    let left = left_behind-ended c.args.part w c.args.k c.requires.later c.requires.monomer (sym c.in_default.ensures) in
    let ended = TookFirst-next _ _ _ _ _ _ (codes "\n") _ _ (TookFirst-none _ _) (ap (λ l. c.args.batch.now ++ l) left) c.in_ok-push.ensures in
    TookFirst-next _ _ _ _ _ _ (position_text c.position.result) (left_behind Start w c.args.k) _ ended
    (ap (λ q. c.push.new.self ++ (position_text q ++ left_behind Start w c.args.k)) (sym c.position.ensures.position)) c.in_ok-write_position.ensures
