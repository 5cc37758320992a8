use Rattle.std.proofs.Common.{refl, subst}
use Rattle.std.proofs.lemmas.Result.{err_from_is_err_and}
use Rattle.bfm_base.specs.Account.{TookAll, TookPrefix}
use Rattle.bfm_base.proofs.SendLemmas.{Delivered-flushed}
use Rattle.bfm_session.specs.Tables.{contacts_text}
use Rattle.bfm_session.proofs.TableLemmas.{Answers-flush, Answers-memory, Answers-write, contacts-same}
use Rattle.bfm_session.proofs.analysis.write_contacts.Goals as goal

pub returns-in_err-counts : goal.returns-in_err-counts
returns-in_err-counts g c =
    let p = err_from_is_err_and c.from_residual.result c.from_residual.ensures.1 in
    Answers-memory _ p.0 _ _ (contacts_text c.args.world.now) _ p.1 p.2 refl

pub returns-in_err-contact_lines : goal.returns-in_err-contact_lines
returns-in_err-contact_lines g c =
    let p = err_from_is_err_and c.from_residual-in_err-contact_lines.result c.from_residual-in_err-contact_lines.ensures.1 in
    let w = c.args.world.now in
    let old = g.O.Sink.account c.args.output.now in
    let new = g.O.Sink.account c.contact_lines.new.sink in
    let part = subst (TookPrefix old new) (contacts-same w _ c.in_ok-counts.ensures) c.in_err-contact_lines.ensures in
    Answers-write _ p.0 old new (contacts_text w) _ p.1 p.2 part

pub returns-in_err-flush : goal.returns-in_err-flush
returns-in_err-flush g c =
    let p = err_from_is_err_and c.from_residual-in_err-flush.result c.from_residual-in_err-flush.ensures.1 in
    let w = c.args.world.now in
    let old = g.O.Sink.account c.args.output.now in
    let mid = g.O.Sink.account c.contact_lines.new.sink in
    let taken = subst (TookAll old mid) (contacts-same w _ c.in_ok-counts.ensures) c.in_ok-contact_lines.ensures in
    Answers-flush _ p.0 old mid _ (contacts_text w) _ p.1 p.2 taken c.in_err-flush.ensures.failed

pub returns : goal.returns
returns g c =
    let w = c.args.world.now in
    let old = g.O.Sink.account c.args.output.now in
    let mid = g.O.Sink.account c.contact_lines.new.sink in
    let taken = subst (TookAll old mid) (contacts-same w _ c.in_ok-counts.ensures) c.in_ok-contact_lines.ensures in
    Delivered-flushed old mid _ (contacts_text w) taken c.in_ok-flush.ensures.flushed
