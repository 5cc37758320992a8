use Rattle.std.proofs.Common.{◌≡◌, true, false, None, refl, sym, ap, ◌∙◌}
use Rattle.bfm_commands.specs.declared.header.Header.{Header}
use Rattle.std.proofs.lemmas.Result.{err_from_is_err_and}
use Rattle.bond_set.specs.BondSet.{first_unpaired}
use Rattle.bfm_world.specs.Draft.{Draft, with_bonds}
use Rattle.bfm_commands.specs.History.{with_pairs}
use Rattle.bfm_commands.specs.Causes.{is_overfull}
use Rattle.bfm_commands.proofs.PairLemmas.{replicate-room}
use Rattle.bfm_commands.proofs.BeginLemmas.{begin_fault-joined, begun_draft-made, OnOk-when}
use Rattle.bfm_commands.proofs.header.Header.begin.Goals as goal

pub join_all-requires-clause-room : goal.join_all-requires-clause-room
join_all-requires-clause-room c = ap (λ (d : Draft). is_overfull d.world.bonds) c.in_ok-builder.ensures ∙ replicate-room c.count-count.result

pub mark_all-requires-clause-none : goal.mark_all-requires-clause-none
mark_all-requires-clause-none c =
    let joined : c.join_all.new.builder ≡ with_bonds c.in_ok-builder.builder (with_pairs c.in_ok-builder.builder.world.bonds c.list.result.now) = c.in_ok-join_all.ensures.joined in
    rw (joined, c.in_ok-builder.ensures) refl

pub returns-in_err-join_all-clause-refused : goal.returns-in_err-join_all-clause-refused
returns-in_err-join_all-clause-refused c =
    let p = err_from_is_err_and c.from_residual-in_err-join_all.result c.from_residual-in_err-join_all.ensures.1 in
    let paired : first_unpaired c.args.self.now.set ≡ None =
    ap first_unpaired (sym c.replace-set.ensures.value) ∙ OnOk-when c.finish.result c.finish.ensures.none (sym c.is_err.ensures.value ∙ c.if-is_err.false) in
    rw (p.1, p.2, (c.in_err-join_all).ensures.cause)
    (begin_fault-joined c.args.self.now true c.count-count.result c.in_ok-builder.builder.world.bonds c.list.result.now
    (sym c.is_box_too_large.ensures ∙ c.if-is_box_too_large.false) paired (sym c.some_missing.ensures ∙ c.if-some_missing.false) (sym c.some_beyond.ensures ∙ c.if-some_beyond.false) c.count-count.ensures.value
    (ap (λ (d : Draft). d.world.bonds) c.in_ok-builder.ensures) c.list.ensures.list (c.in_err-join_all).ensures.overfull)

pub returns-clause-begun : goal.returns-clause-begun
returns-clause-begun c =
    let header : Header = c.args.self.now in
    let paired : first_unpaired header.set ≡ None =
    ap first_unpaired (sym c.replace-set.ensures.value) ∙ OnOk-when c.finish.result c.finish.ensures.none (sym c.is_err.ensures.value ∙ c.if-is_err.false) in (
      begin_fault-joined header false c.count-count.result c.in_ok-builder.builder.world.bonds c.list.result.now
          (sym c.is_box_too_large.ensures ∙ c.if-is_box_too_large.false) paired (sym c.some_missing.ensures ∙ c.if-some_missing.false) (sym c.some_beyond.ensures ∙ c.if-some_beyond.false) c.count-count.ensures.value
          (ap (λ (d : Draft). d.world.bonds) c.in_ok-builder.ensures) c.list.ensures.list c.in_ok-join_all.ensures.full,
      begun_draft-made header c.in_ok-builder.builder c.join_all.new.builder c.mark_all.new.builder c.shape-shape.result c.replace-set.result c.replace-table.result c.count-count.result c.list.result.now c.in_ok-builder.ensures
          c.in_ok-join_all.ensures.joined c.in_ok-mark_all.ensures c.shape-shape.ensures.value c.replace-set.ensures.value c.replace-table.ensures.value c.count-count.ensures.value c.list.ensures.list,
    )
