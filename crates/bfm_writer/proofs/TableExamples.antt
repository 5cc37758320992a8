-- The lists of the weights of contacts and of the thresholds of small tables, worked out by hand.
use Rattle.std.proofs.Common.{◌≡◌, [], pos, negsuc, codes, refl}
use Rattle.std.specs.Fmt.{digits}
use Rattle.contact_table.specs.Contacts.{ContactTable, no_contacts, with_threshold, with_weight}
use Rattle.contact_table.specs.Entries.{entries_of}
use Rattle.bfm_writer.specs.Header.{acceptance_text, contacts_text, table_text}

-- 1,000 for two monomers of the last class, 1 for two of the first, and -3 for one of each of the first two; then a
-- threshold below 2^32, and 2^32
table : ContactTable
table =
    with_threshold 4294967296 (with_threshold 3122475825
    (with_weight 2 1 (negsuc 2) (with_weight 1 1 (pos 1) (with_weight 15 15 (pos 1000) no_contacts))))

-- the pairs are listed in ascending order, with the lesser class first
contacts_listed : contacts_text table ≡ codes "!bfm_contacts\n1 1:1\n1 2:-3\n15 15:1000\n"
unfolding table no_contacts entries_of digits
contacts_listed = refl

-- the thresholds are listed in their order
thresholds_listed : acceptance_text table ≡ codes "!bfm_acceptance\n3122475825\n4294967296\n"
unfolding table no_contacts digits
thresholds_listed = refl

-- where there is nothing to list, there are no commands
nothing_listed : table_text no_contacts ≡ []
unfolding no_contacts entries_of
nothing_listed = refl

-- a weight of 0 is not listed, and neither is one that 0 was set in place of
zero_unlisted : table_text (with_weight 3 4 (pos 0) (with_weight 4 3 (pos 7) no_contacts)) ≡ []
unfolding no_contacts entries_of
zero_unlisted = refl
