-- The tables of a world: a line for each of its molecules, for two classes in contact, or for each size of its clusters.
-- Monomers are told from 1 on.
use Rattle.std.specs.Prelude.{ℕ, ◌+◌, ◌-◌, nat_eq, List, [], ◌∷◌, ◌++◌, length, codes, decimal, if◌then◌else◌}
use Rattle.std.specs.List.{concat, flat_map, range_with_len}
use Rattle.bfm_base.specs.declared.limits.TheConstants.{GREATEST_CLASS}
use Rattle.bfm_base.specs.declared.place.P3.{P3}
use Rattle.bfm_world.specs.Configuration.{Configuration}
use Rattle.chain_stats.specs.Fractions.{drift_of, end_square_of, mean_square_of, radius_of}
use Rattle.chain_stats.specs.Molecules.{first_of, molecules_of}
use Rattle.cluster_stats.specs.Clusters.{cluster_rows}
use Rattle.cluster_stats.specs.Contacts.{contact_count, contact_total}
use Rattle.bfm_session.specs.NumberLines.{number_line}

-- A molecule: its least monomer and how many monomers it has; its squared radius of gyration, as a fraction that is not
-- reduced; and the squared distance of its ends.
abbrev pub radius_line : Configuration → List ℕ → List ℕ
radius_line w members =
    let radius = radius_of w members in
    concat (
    codes "molecule "
    ∷ decimal (first_of members + 1)
    ∷ codes " "
    ∷ decimal (length members)
    ∷ codes " "
    ∷ decimal radius.top
    ∷ codes "/"
    ∷ decimal radius.bottom
    ∷ codes " "
    ∷ decimal (end_square_of w members)
    ∷ codes "\n"
    ∷ []
    )

abbrev pub radii_text : Configuration → List ℕ
radii_text w = flat_map (radius_line w) (molecules_of w)

-- the mean of the squared displacements of all monomers since they stood at the first positions
abbrev pub mean_line : List P3 → Configuration → List ℕ
mean_line first w =
    let mean = mean_square_of first w in
    concat (codes "monomers " ∷ decimal mean.top ∷ codes "/" ∷ decimal mean.bottom ∷ codes "\n" ∷ [])

-- a molecule as above, with the squared displacement of its centre of mass
abbrev pub drift_line : List P3 → Configuration → List ℕ → List ℕ
drift_line first w members =
    let drift = drift_of first w members in
    concat (
    codes "molecule "
    ∷ decimal (first_of members + 1)
    ∷ codes " "
    ∷ decimal (length members)
    ∷ codes " "
    ∷ decimal drift.top
    ∷ codes "/"
    ∷ decimal drift.bottom
    ∷ codes "\n"
    ∷ []
    )

abbrev pub moves_text : List P3 → Configuration → List ℕ
moves_text first w = mean_line first w ++ flat_map (drift_line first w) (molecules_of w)

-- two classes, with how many contacts there are between them, where there are any
abbrev pub class_line : ℕ → ℕ → ℕ → List ℕ
class_line a b contacts = if nat_eq contacts 0 then [] else number_line (decimal a) (b ∷ contacts ∷ [])

-- the classes from one on
abbrev pub classes_from : ℕ → List ℕ
classes_from a = range_with_len a (GREATEST_CLASS + 1 - a)

-- each two classes, by the lesser and then the greater, and then the number of all contacts
abbrev pub count_lines : (ℕ → ℕ → ℕ) → ℕ → List ℕ
count_lines count total =
    flat_map (λ a. flat_map (λ b. class_line a b (count a b)) (classes_from a)) (classes_from 0)
    ++ number_line (codes "total") (total ∷ [])

abbrev pub contacts_text : Configuration → List ℕ
contacts_text w = count_lines (contact_count w) (contact_total w)

-- a size of clusters, with how many clusters have it
abbrev pub size_line : ℕ × ℕ → List ℕ
size_line row = number_line (decimal row.0) (row.1 ∷ [])

abbrev pub clusters_text : Configuration → List ℕ
clusters_text w = flat_map size_line (cluster_rows w)
