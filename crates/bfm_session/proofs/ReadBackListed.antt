-- One entry of each list of a header, as it is read behind those before it.
use Rattle.std.proofs.Common.{◌≡◌, ◌≢◌, ℕ, ◌+◌, ◌<◌, ◌≤◌, true, pos, List, [], ◌∷◌, ◌++◌, map, decimal, None, refl, sym, ap, ◌∙◌, subst, arith}
use Rattle.std.specs.List.{AllByRecursion}
use Rattle.std.specs.Result.{result_ok}
use Rattle.std.proofs.lemmas.Bool.Decides.{nat_tests}
use Rattle.std.proofs.lemmas.List.{map-append}
use Rattle.bfm_base.specs.Place.{extent_of}
use Rattle.bfm_base.specs.declared.place.P3.{P3}
use Rattle.bfm_base.specs.declared.limits.TheConstants.{GREATEST_LABEL, GREATEST_VALENCE}
use Rattle.bond_set.specs.BondSet.{is_bond_vector, is_identifier, IsBondSet, refusal_of}
use Rattle.bond_set.proofs.PairLemmas.{extent_of-bond_vector}
use Rattle.contact_table.specs.Contacts.{no_contacts}
use Rattle.bfm_commands.specs.History.{set_of, with_vector, with_listed, with_said, with_range}
use Rattle.bfm_commands.specs.Causes.{entered}
use Rattle.bfm_commands.specs.declared.commands.Known.TheVariants.{SetOfBondVectors, Bonds, Attributes, Valence, Fixed}
use Rattle.bfm_commands.specs.declared.owner.Owner.{Owner}
use Rattle.bfm_commands.specs.declared.owner.Owner.TheVariants.{Command}
use Rattle.bfm_commands.specs.declared.settings.Given.{Given}
use Rattle.bfm_commands.specs.declared.forms.Range.{Range}
use Rattle.bfm_session.proofs.ReadBackRows.{vector_row, pair_row, mark_row, number_row}
use Rattle.bfm_session.proofs.ReadBackEntries.{IsShort, IsShort-extent, single, vector_entry-back, pair_entry-back, range_entry-back, monomers_entry-back}
use Rattle.bfm_session.proofs.ReadBackPlain.{IsRow-vector, IsRow-pair, IsRow-mark, IsRow-number, begins-vector, begins-number}
use Rattle.bfm_session.proofs.ReadBackVectors.{All-image, refusal_of-next}
use Rattle.bfm_session.proofs.ReadBackMeanings.{begins_number-decimal}
use Rattle.bfm_session.proofs.ReadBackWalk.{Said, Reads}
use Rattle.bfm_session.proofs.ReadBackLists.{Reads-entry, one_of}

-- What a header says as far as it has come, by the last command, the commands, and a list.

abbrev pub set_said : Owner → List Given → List (P3 × ℕ) → Said
set_said owner given set = record { owner = owner; given = given; set = set; pairs = []; labels = []; valences = []; fixed = []; table = no_contacts }

abbrev pub pairs_said : List (P3 × ℕ) → Owner → List Given → List (ℕ × ℕ) → Said
pairs_said set owner given pairs = record { owner = owner; given = given; set = set; pairs = pairs; labels = []; valences = []; fixed = []; table = no_contacts }

-- what is said of single monomers
abbrev pub each_single : List (ℕ × ℕ) → List (Range × ℕ)
each_single marks = map (λ m. (single m.0, m.1)) marks

abbrev pub labels_said : List (P3 × ℕ) → List (ℕ × ℕ) → Owner → List Given → List (ℕ × ℕ) → Said
labels_said set pairs owner given labels = record { owner = owner; given = given; set = set; pairs = pairs; labels = each_single labels; valences = []; fixed = []; table = no_contacts }

abbrev pub valences_said : List (P3 × ℕ) → List (ℕ × ℕ) → List (ℕ × ℕ) → Owner → List Given → List (ℕ × ℕ) → Said
valences_said set pairs labels owner given valences =
    record { owner = owner; given = given; set = set; pairs = pairs; labels = each_single labels; valences = each_single valences; fixed = []; table = no_contacts }

abbrev pub fixed_said : List (P3 × ℕ) → List (ℕ × ℕ) → List (ℕ × ℕ) → List (ℕ × ℕ) → Owner → List Given → List ℕ → Said
fixed_said set pairs labels valences owner given fixed =
    record { owner = owner; given = given; set = set; pairs = pairs; labels = each_single labels; valences = each_single valences; fixed = map single fixed; table = no_contacts }

-- One entry of each list.

-- a vector of a bond set and its identifier are short
pub vector_short : (whole done rest : List (P3 × ℕ)) (e : P3 × ℕ) → IsBondSet whole → done ++ e ∷ rest ≡ whole → (extent_of e.0 ≤ 3) × (e.1 ≤ 255)
vector_short whole done rest e ok is =
    let set : IsBondSet (done ++ e ∷ rest) = subst IsBondSet (sym is) ok in
    let vector : is_bond_vector e.0 ≡ true = All-image (λ v. is_bond_vector v ≡ true) (λ (p : P3 × ℕ). p.0) done e rest set.vectors in
    let identifier : is_identifier (pos e.1) ≡ true = All-image (λ id. is_identifier (pos id) ≡ true) (λ (p : P3 × ℕ). p.1) done e rest set.ids in
    (extent_of-bond_vector e.0 vector, grind (arith, nat_tests, identifier))

pub vector_read : (whole : List (P3 × ℕ)) → IsBondSet whole → (given : List Given) (done : List (P3 × ℕ)) (e : P3 × ℕ) (rest : List (P3 × ℕ)) → done ++ e ∷ rest ≡ whole
    → Reads (vector_row e ∷ []) (set_said (Command SetOfBondVectors) given done) (set_said (Command SetOfBondVectors) given (done ++ e ∷ []))
vector_read whole ok given done e rest is =
    let small = vector_short whole done rest e ok is in
    let short : IsShort e.0 = IsShort-extent e.0 3 small.0 (omega arith) in
    let form = vector_entry-back e.0 e.1 (omega (arith, small.0)) (omega (arith, small.1)) in
    Reads-entry SetOfBondVectors (vector_row e) (set_said (Command SetOfBondVectors) given done) (set_said (Command SetOfBondVectors) given (done ++ e ∷ [])) refl
    (IsRow-vector e.0 e.1 short (omega (arith, small.1))) (begins-vector e.0 e.1 short)
    (λ before s.
    ap (entered (λ p. refusal_of (set_of before) p.0 p.1)) form ∙ ap (λ set. refusal_of set e.0 (pos e.1)) s.set
    ∙ refusal_of-next done rest e (subst IsBondSet (sym is) ok))
    (ap (λ r. set_said (Command SetOfBondVectors) given (with_vector done (result_ok r))) form)

-- two different monomers that there may be
abbrev pub IsPair : ℕ × ℕ → Type 0
IsPair pair = (pair.0 < 262144) × (pair.1 < 262144) × (pair.0 ≢ pair.1)

pub pair_read : (set : List (P3 × ℕ)) (whole : List (ℕ × ℕ)) → AllByRecursion IsPair whole → (given : List Given) (done : List (ℕ × ℕ)) (pair : ℕ × ℕ) (rest : List (ℕ × ℕ))
    → done ++ pair ∷ rest ≡ whole → Reads (pair_row pair ∷ []) (pairs_said set (Command Bonds) given done) (pairs_said set (Command Bonds) given (done ++ pair ∷ []))
pair_read set whole all given done pair rest is =
    let good = one_of IsPair done pair rest (subst (AllByRecursion IsPair) (sym is) all) in
    let form = pair_entry-back pair.0 pair.1 good.0 good.1 good.2 in
    Reads-entry Bonds (pair_row pair) (pairs_said set (Command Bonds) given done) (pairs_said set (Command Bonds) given (done ++ pair ∷ [])) refl
    (IsRow-pair pair.0 pair.1 (omega (arith, good.0)) (omega (arith, good.1))) (begins-number pair.0 (32 ∷ decimal (pair.1 + 1)) (omega (arith, good.0)))
    (λ before s. ap (entered (λ p. None)) form)
    (ap (λ r. pairs_said set (Command Bonds) given (with_listed done (result_ok r))) form)

-- a monomer that there may be, and a mark within its limit
abbrev pub IsMark : ℕ → ℕ × ℕ → Type 0
IsMark greatest said = (said.0 < 262144) × (said.1 ≤ greatest)

each_single-push : (done : List (ℕ × ℕ)) (m : ℕ × ℕ) → each_single done ++ (single m.0, m.1) ∷ [] ≡ each_single (done ++ m ∷ [])
each_single-push done m = sym (map-append (λ m. (single m.0, m.1)) done (m ∷ []))

pub label_read : (set : List (P3 × ℕ)) (pairs whole : List (ℕ × ℕ)) → AllByRecursion (IsMark GREATEST_LABEL) whole → (given : List Given) (done : List (ℕ × ℕ)) (m : ℕ × ℕ) (rest : List (ℕ × ℕ))
    → done ++ m ∷ rest ≡ whole → Reads (mark_row m ∷ []) (labels_said set pairs (Command Attributes) given done) (labels_said set pairs (Command Attributes) given (done ++ m ∷ []))
label_read set pairs whole all given done m rest is =
    let good = one_of (IsMark GREATEST_LABEL) done m rest (subst (AllByRecursion (IsMark GREATEST_LABEL)) (sym is) all) in
    let form = range_entry-back m.0 m.1 GREATEST_LABEL good.0 good.1 (omega arith) in
    Reads-entry Attributes (mark_row m) (labels_said set pairs (Command Attributes) given done) (labels_said set pairs (Command Attributes) given (done ++ m ∷ [])) refl
    (IsRow-mark m.0 m.1 (omega (arith, good.0)) (omega (arith, good.1))) (begins-number m.0 (58 ∷ decimal m.1) (omega (arith, good.0)))
    (λ before s. ap (entered (λ e. None)) form)
    (ap (λ r. record (labels_said set pairs (Command Attributes) given done) { labels = with_said (each_single done) (result_ok r) }) form
    ∙ ap (λ l. record (labels_said set pairs (Command Attributes) given done) { labels = l }) (each_single-push done m))

pub valence_read : (set : List (P3 × ℕ)) (pairs labels whole : List (ℕ × ℕ)) → AllByRecursion (IsMark GREATEST_VALENCE) whole → (given : List Given) (done : List (ℕ × ℕ)) (m : ℕ × ℕ) (rest : List (ℕ × ℕ))
    → done ++ m ∷ rest ≡ whole → Reads (mark_row m ∷ []) (valences_said set pairs labels (Command Valence) given done) (valences_said set pairs labels (Command Valence) given (done ++ m ∷ []))
valence_read set pairs labels whole all given done m rest is =
    let good = one_of (IsMark GREATEST_VALENCE) done m rest (subst (AllByRecursion (IsMark GREATEST_VALENCE)) (sym is) all) in
    let form = range_entry-back m.0 m.1 GREATEST_VALENCE good.0 good.1 (omega arith) in
    Reads-entry Valence (mark_row m) (valences_said set pairs labels (Command Valence) given done) (valences_said set pairs labels (Command Valence) given (done ++ m ∷ [])) refl
    (IsRow-mark m.0 m.1 (omega (arith, good.0)) (omega (arith, good.1))) (begins-number m.0 (58 ∷ decimal m.1) (omega (arith, good.0)))
    (λ before s. ap (entered (λ e. None)) form)
    (ap (λ r. record (valences_said set pairs labels (Command Valence) given done) { valences = with_said (each_single done) (result_ok r) }) form
    ∙ ap (λ l. record (valences_said set pairs labels (Command Valence) given done) { valences = l }) (each_single-push done m))

pub fixed_read : (set : List (P3 × ℕ)) (pairs labels valences : List (ℕ × ℕ)) (whole : List ℕ) → AllByRecursion (λ i. i < 262144) whole → (given : List Given) (done : List ℕ) (i : ℕ) (rest : List ℕ)
    → done ++ i ∷ rest ≡ whole → Reads (number_row i ∷ []) (fixed_said set pairs labels valences (Command Fixed) given done) (fixed_said set pairs labels valences (Command Fixed) given (done ++ i ∷ []))
fixed_read set pairs labels valences whole all given done i rest is =
    let few = one_of (λ i. i < 262144) done i rest (subst (AllByRecursion (λ i. i < 262144)) (sym is) all) in
    let form = monomers_entry-back i few in
    Reads-entry Fixed (number_row i) (fixed_said set pairs labels valences (Command Fixed) given done) (fixed_said set pairs labels valences (Command Fixed) given (done ++ i ∷ [])) refl
    (IsRow-number i (omega (arith, few))) (begins_number-decimal (i + 1) (omega (arith, few)))
    (λ before s. ap (entered (λ e. None)) form)
    (ap (λ r. record (fixed_said set pairs labels valences (Command Fixed) given done) { fixed = with_range (map single done) (result_ok r) }) form
    ∙ ap (λ l. record (fixed_said set pairs labels valences (Command Fixed) given done) { fixed = l }) (sym (map-append single done (i ∷ []))))
