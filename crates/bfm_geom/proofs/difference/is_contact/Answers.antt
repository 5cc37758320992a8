use Rattle.std.proofs.Common.{◌<◌, rules, sym}
use Rattle.bfm_base.specs.Place.{extent_of}
use Rattle.bfm_geom.proofs.ContactLemmas.{no_contact_far}
use Rattle.bfm_geom.proofs.difference.is_contact.Goals as goal

pub returns-then-extent-gt2 : goal.returns-then-extent-gt2
returns-then-extent-gt2 c =
    let far : 2 < extent_of c.args.d = search rules in
    sym (no_contact_far c.args.d far)
