use Rattle.std.proofs.Common.{take, length-take, arith, subst, ◌∙◌}
use Rattle.std.proofs.KnownBytes.{Consumes-trans, Consumes-kept}
use Rattle.std.proofs.lemmas.Result.{err_from_is_err_and}
use Rattle.bfm_base.specs.Faults.{Rose}
use Rattle.bfm_session.specs.Loading.{IsOpen}
use Rattle.bfm_session.proofs.LoadLemmas.{Takes-piece, Takes-none, Stops-decided}
use Rattle.bfm_session.proofs.loading.read_all.Goals as goal

pub loop-reader-preserved : goal.loop-reader-preserved
loop-reader-preserved g c =
    let inv = c.loop-reader.invariant in
    let piece = take c.in-Ok-read.given c.read.new.into in
    let taken = c.in_ok-take_piece-in-Ok-read.ensures in (
      rw taken.more (Consumes-trans _ _ _ c.loop-reader.bytes.items piece inv.0 c.in-Ok-read.ensures.bytes.0),
      c.in-Ok-read.ensures.calm ∙ inv.1,
      taken.within,
      taken.stands,
    )

pub returns-in_err-take_piece-in-Ok-read-clause-stopped : goal.returns-in_err-take_piece-in-Ok-read-clause-stopped
returns-in_err-take_piece-in-Ok-read-clause-stopped g c =
    let p = err_from_is_err_and c.from_residual.result c.from_residual.ensures.1 in
    let inv = c.loop-reader.invariant in
    let bytes = c.loop-reader.bytes.items in
    let undecided : IsOpen c.args.limit bytes = record { within = omega (arith, inv.2); right = inv.3.follows.right } in
    let piece = take c.in-Ok-read.given c.read.new.into in
    rw (p.1, p.2) (
      _,
      Takes-piece c.args.limit _ _ bytes piece (Consumes-trans _ _ _ bytes piece inv.0 c.in-Ok-read.ensures.bytes.0) undecided (omega (arith, c.in-Ok-read.ensures.bound, length-take c.in-Ok-read.given c.read.new.into)),
      Stops-decided c.in_err-take_piece-in-Ok-read.field-0.0 c.args.limit _ _ _ c.in_err-take_piece-in-Ok-read.ensures.decides (c.in-Ok-read.ensures.calm ∙ inv.1),
    )

pub returns-in-Err-clause-stopped : goal.returns-in-Err-clause-stopped
returns-in-Err-clause-stopped g c =
    let inv = c.loop-reader.invariant in
    let bytes = c.loop-reader.bytes.items in
    let undecided : IsOpen c.args.limit bytes = record { within = omega (arith, inv.2); right = inv.3.follows.right } in (
      bytes,
      Takes-none c.args.limit _ _ bytes (Consumes-kept _ _ _ bytes inv.0 c.in-Err.ensures.bytes) undecided,
      (undecided, subst (λ n. Rose n (g.I.Source.faults c.read.new.self)) inv.1 c.in-Err.ensures.rose),
    )
