use Rattle.std.proofs.Common.{◌+◌, ◌*◌, ◌/◌, ◌<◌, ◌≤◌, arith}
use Rattle.std.specs.Prelude.{slice_index_or}
use Rattle.bfm_commands.proofs.StrokeLemmas.{over-blocks, over-ones}
use Rattle.bfm_commands.proofs.strokes.lay.Goals as goal

pub returns-then-from-to-clause-over : goal.returns-then-from-to-clause-over
returns-then-from-to-clause-over c i =
    let q = i / 512 in
    let low : q * 512 ≤ i = omega arith in
    let high : i < q * 512 + 512 = omega arith in
    let end : c.args.first ≤ c.div_ceil-from.result * 512 = omega (arith, c.div_ceil-from.ensures) in
    let start : (c.args.last + 1) / 512 * 512 ≤ c.args.last + 1 = omega arith in
    rw (c.fill-then-from-to-2.ensures.filled i, c.fill.ensures.filled i, c.fill-then-from-to.ensures.filled q)
    (over-blocks c.args.first c.args.last c.div_ceil-from.result ((c.args.last + 1) / 512) i q c.args.stroke (slice_index_or c.args.ones.now i 0) (slice_index_or c.args.blocks.now q 0) (c.requires.next i) low high end c.if-from-to.true start)

pub returns-else-from-to-clause-over : goal.returns-else-from-to-clause-over
returns-else-from-to-clause-over c i =
    rw (c.fill-else-from-to.ensures.filled i)
    (over-ones c.args.first c.args.last i c.args.stroke (slice_index_or c.args.ones.now i 0) (slice_index_or c.args.blocks.now (i / 512) 0) (c.requires.next i))
