use Rattle.std.proofs.Common.{◌≡◌, rules, sym, ◌∙◌}
use Rattle.bfm_geom.specs.Difference.{are_in_contact}
use Rattle.bfm_geom.proofs.ContactLemmas.{contact-apart, contact-symmetric}
use Rattle.bfm_geom.proofs.difference.contact.Goals as goal

pub returns-clause-symmetric : goal.returns-clause-symmetric
returns-clause-symmetric c =
    let value : c.is_contact.result ≡ are_in_contact c.args.shape.now c.args.a c.args.b = search rules in
    value ∙ contact-symmetric c.args.shape.now c.args.a c.args.b c.requires.shape

pub returns-clause-apart : goal.returns-clause-apart
returns-clause-apart c touches =
    let value : c.is_contact.result ≡ are_in_contact c.args.shape.now c.args.a c.args.b = search rules in
    contact-apart c.args.shape.now c.args.a c.args.b (sym value ∙ touches)
