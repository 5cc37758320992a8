use Rattle.std.proofs.Common.{ℕ, List, ap, pos, replicate}
use Rattle.contact_table.specs.Contacts.{ContactTable, no_contacts}
use Rattle.contact_table.proofs.ContactLemmas.{IsContactTable-no_contacts}
use Rattle.contact_table.proofs.table.Table.new.Goals as goal

-- the table of no thresholds, by what the list of thresholds is
abbrev unweighted : List ℕ → ContactTable
unweighted thresholds = record { weights = replicate 256 (pos 0); thresholds = thresholds }

pub invariant_of-result : goal.invariant_of-result
unfolding no_contacts
invariant_of-result c = rw c.new.ensures IsContactTable-no_contacts

pub returns : goal.returns
unfolding no_contacts
returns c = ap unweighted c.new.ensures
