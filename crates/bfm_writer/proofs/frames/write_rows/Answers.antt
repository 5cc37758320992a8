use Rattle.std.proofs.Common.{◌≡◌, ◌+◌, ◌-◌, ◌<◌, ◌++◌, length, ap, sym, ◌∙◌, arith}
use Rattle.std.proofs.lemmas.Result.{err_from_is_err_and}
use Rattle.bfm_writer.specs.declared.frames.Part.TheVariants.{Start}
use Rattle.bfm_writer.specs.Part.{left_behind}
use Rattle.bfm_writer.specs.Text.{position_text}
use Rattle.bfm_writer.proofs.BatchLemmas.{TookFirst-none, TookFirst-then, TookPrefix-then, Passes-then, TookFirst-next, TookPrefix-next}
use Rattle.bfm_writer.proofs.RowLemmas.{rows_of-first, left_behind-last}
use Rattle.bfm_writer.proofs.frames.write_rows.Goals as goal

pub loop-k-init : goal.loop-k-init
loop-k-init g c =
    let w = c.args.world.now in
    let some : 0 < length w.positions = omega (arith, c.len-count.ensures.valid.some) in
    TookFirst-next _ _ _ _ _ _ (position_text c.position.result) (left_behind Start w 0) _ (TookFirst-none _ _)
    (ap (λ l. c.args.batch.now ++ l) (rows_of-first w some ∙ ap (λ q. position_text q ++ left_behind Start w 0) (sym c.position.ensures.position)))
    c.in_ok-write_position.ensures

pub returns-in_err-write_position : goal.returns-in_err-write_position
returns-in_err-write_position g c =
    let p = err_from_is_err_and c.from_residual.result c.from_residual.ensures.1 in
    let w = c.args.world.now in
    let some : 0 < length w.positions = omega (arith, c.len-count.ensures.valid.some) in
    rw p.1 (TookPrefix-next _ _ _ _ _ c.args.batch.now (position_text c.position.result) (left_behind Start w 0) (TookFirst-none _ _)
    (ap (λ l. c.args.batch.now ++ l) (rows_of-first w some ∙ ap (λ q. position_text q ++ left_behind Start w 0) (sym c.position.ensures.position)))
    c.in_err-write_position.ensures)

pub loop-k-preserved : goal.loop-k-preserved
loop-k-preserved g c =
    let same : c.loop-k.k + 1 - 1 ≡ c.loop-k.k = omega arith in
    rw same (TookFirst-then _ _ _ _ _ _ c.loop-k.invariant c.in_ok-part.ensures)

pub returns-in_err-part : goal.returns-in_err-part
returns-in_err-part g c =
    let p = err_from_is_err_and c.from_residual-in_err-part.result c.from_residual-in_err-part.ensures.1 in
    rw p.1 (TookPrefix-then _ _ _ _ _ c.loop-k.invariant c.in_err-part.ensures)

pub returns : goal.returns
returns g c =
    let w = c.args.world.now in
    let end : c.loop-k.k - 1 + 1 ≡ length w.positions = omega (arith, c.len-count.ensures.valid.some, c.len-count.ensures.count) in
    let left = left_behind-last c.loop-k.part w (c.loop-k.k - 1) end in
    Passes-then _ _ _ _ _ _ _ (rw left at c.loop-k.invariant) c.put.ensures
