use Rattle.crossing_check.specs.declared.judgement.SetVerdict.TheVariants.{Free}
use Rattle.bfm_session.proofs.analysis.analyse.Goals as goal

pub returns-in-Contacts : goal.returns-in-Contacts
returns-in-Contacts g c = rw c.in-Contacts.is (Free, tt, c.write_contacts.ensures)
