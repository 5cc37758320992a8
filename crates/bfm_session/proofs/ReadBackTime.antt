-- The first frame begins behind the header of a valid world.
use Rattle.std.proofs.Common.{◌≡◌, ℕ, ◌+◌, ◌^◌, ◌<◌, ◌≤◌, true, false, cond, not, nat_le, pos, replicate, List, [], ◌∷◌, length, decimal, None, Some, unwrap_or, refl, ap, ◌∙◌, arith}
use Rattle.std.proofs.lemmas.Bool.Decides.{nat_tests}
use Rattle.bfm_base.specs.declared.place.P3.{P3}
use Rattle.bond_set.specs.BondSet.{first_unpaired}
use Rattle.bond_set.proofs.PairLemmas.{first_unpaired-symmetric}
use Rattle.bfm_world.specs.Bonds.{are_bonded}
use Rattle.bfm_world.specs.Configuration.{Configuration, IsValid}
use Rattle.bfm_commands.specs.Forms.{value_number}
use Rattle.bfm_commands.specs.Meaning.{command, meaning_of, role_of}
use Rattle.bfm_commands.specs.History.{History, has_begun, owner_of, given_of, natural_in, count_in, shape_in, set_of, pairs_of, labels_of, valences_of, fixed_of, table_of, said_of_each, fixed_of_each, listed_bonds, mcs_of, is_first_frame, draft_of, frames_of, is_skipped, skipped_of}
use Rattle.bfm_commands.specs.Causes.{is_box_too_large, some_missing, names_beyond, is_overfull, known_cause, cause_of}
use Rattle.bfm_commands.specs.declared.commands.Known.TheVariants.{Mcs}
use Rattle.bfm_commands.specs.declared.owner.Owner.TheVariants.{Command}
use Rattle.bfm_commands.proofs.SumLemmas.{no_entry}
use Rattle.bfm_commands.proofs.HistoryLemmas.{has_begun-line, is_first_frame-next, owner_of-line, mcs_of-line, draft_of-first, frames_of-other, frames_of-none, bonds_in, draft_from}
use Rattle.bfm_session.proofs.ReadBackRows.{time_row, listed_pairs}
use Rattle.bfm_session.proofs.ReadBackEntries.{value_number-back}
use Rattle.bfm_session.proofs.ReadBackMeanings.{IsRow-assigned, meaning-assigned}
use Rattle.bfm_session.proofs.ReadBackWalk.{Says}
use Rattle.bfm_session.proofs.ReadBackLists.{cause_of-row}
use Rattle.bfm_session.proofs.ReadBackHeader.{header_said}
use Rattle.bfm_session.proofs.ReadBackWorld.{IsListedPair, each_pair}
use Rattle.bfm_session.proofs.ReadBackLines.{each-weaker}
use Rattle.bfm_session.proofs.ReadBackSettings.{HasThree, count_all, none_missing, box_small, shape_all, none_beyond}
use Rattle.bfm_session.proofs.ReadBackContacts.{table_back}
use Rattle.bfm_session.proofs.ReadBackMarks.{labels_back, valences_back, fixed_back}
use Rattle.bfm_session.proofs.ReadBackBonds.{IsPartOf, IsPartOf-none, IsPartOf-with_pairs, room_for_all}
use Rattle.bfm_session.proofs.ReadBackPlacing.{partly}
use Rattle.std.specs.List.{AllByRecursion}

-- The bonds that the header lists are part of those of the world.

pub each_listed : (w : Configuration) → AllByRecursion (λ pair. are_bonded w.bonds pair.0 pair.1 ≡ true) (listed_pairs w)
each_listed w = each-weaker (IsListedPair w) (λ pair. are_bonded w.bonds pair.0 pair.1 ≡ true) (listed_pairs w) (each_pair w) (λ pair is. is.bonded)

pub listed_part : (w : Configuration) → IsValid w → IsPartOf (length w.positions) (listed_bonds (length w.positions) (listed_pairs w)) w.bonds
listed_part w ok =
    let n = length w.positions in
    IsPartOf-with_pairs n w.bonds ok.bonds (replicate n []) (listed_pairs w) (IsPartOf-none n w.bonds) (each_listed w)

-- The line of the time.

-- that nothing is wrong where a header ends
record EndsWell (before : History) : Type 0 where
  none : has_begun before ≡ false
  box : is_box_too_large (given_of before) ≡ false
  paired : first_unpaired (set_of before) ≡ None
  given : some_missing (given_of before) ≡ false
  there : names_beyond (count_in (given_of before)) before ≡ false
  room : is_overfull (listed_bonds (count_in (given_of before)) (pairs_of before)) ≡ false

mcs_cause : (before : History) (mcs : ℕ) (rest : List ℕ) → EndsWell before → value_number rest ≡ Some (pos mcs) → nat_le 0 mcs ≡ true → nat_le mcs (2 ^ 40) ≡ true
    → known_cause before Mcs (role_of Mcs) rest ≡ None
mcs_cause before mcs rest well number low high = rw (number, low, high, well.none, well.box, well.paired, well.given, well.there, well.room) refl

module _ (w : Configuration) (ok : IsValid w) (has : HasThree w.shape) (before : History) (s : Says before (header_said w)) where
  count : count_in (given_of before) ≡ length w.positions
  count = ap count_in s.given ∙ count_all w

  bonds : listed_bonds (count_in (given_of before)) (pairs_of before) ≡ listed_bonds (length w.positions) (listed_pairs w)
  bonds = λ i. listed_bonds (count i) (s.pairs i)

  ends_well : EndsWell before
  ends_well = record {
    none = s.begun;
    box = ap is_box_too_large s.given ∙ box_small w ok.box;
    paired = ap first_unpaired s.set ∙ first_unpaired-symmetric w.set ok.symmetric;
    given = ap some_missing s.given ∙ none_missing w;
    there = ap (λ n. names_beyond n before) count ∙ none_beyond w before ok s;
    room = ap is_overfull bonds ∙ room_for_all (length w.positions) w.bonds ok.bonds (listed_bonds (length w.positions) (listed_pairs w)) (listed_part w ok);
  }

  pub time_cause : (mcs : ℕ) → mcs ≤ 2 ^ 40 → cause_of before (time_row mcs) ≡ None
  time_cause mcs early =
      let small : mcs < 10 ^ 64 = omega arith in
      let low : nat_le 0 mcs ≡ true = grind (arith, nat_tests) in
      let high : nat_le mcs (2 ^ 40) ≡ true = grind (arith, nat_tests) in
      cause_of-row before (time_row mcs) (command (Some Mcs) (61 ∷ decimal mcs)) (IsRow-assigned Mcs mcs small) (meaning-assigned Mcs mcs small)
      ∙ mcs_cause before mcs (61 ∷ decimal mcs) ends_well (value_number-back mcs small) low high

-- In the first frame of a world, these positions have come, and these bonds.
pub record InFrame (w : Configuration) (mcs : ℕ) (come : List P3) (joined : List (List ℕ)) (lines : History) : Type 0 where
  pub begun : has_begun lines ≡ true
  pub first : is_first_frame lines ≡ true
  pub owner : owner_of lines ≡ Command Mcs
  pub draft : draft_of lines ≡ partly w come joined
  pub time : mcs_of lines ≡ mcs
  pub skipped : skipped_of lines ≡ 0

module _ (w : Configuration) (ok : IsValid w) (has : HasThree w.shape) (before : History) (s : Says before (header_said w)) (mcs : ℕ) (early : mcs ≤ 2 ^ 40) where
  small : mcs < 10 ^ 64
  small = omega arith

  is : meaning_of (time_row mcs) ≡ command (Some Mcs) (61 ∷ decimal mcs)
  is = meaning-assigned Mcs mcs small

  begun_draft : draft_of (time_row mcs ∷ before) ≡ partly w [] (listed_bonds (length w.positions) (listed_pairs w))
  begun_draft =
      let n = count w ok has before s in
      let shape = ap shape_in s.given ∙ shape_all w has in
      let labels : said_of_each (labels_of before) (count_in (given_of before)) ≡ w.labels = (λ i. said_of_each (s.labels i) (n i)) ∙ labels_back w ok in
      let valences : said_of_each (valences_of before) (count_in (given_of before)) ≡ w.valences = (λ i. said_of_each (s.valences i) (n i)) ∙ valences_back w ok in
      let fixed : fixed_of_each (fixed_of before) (count_in (given_of before)) ≡ w.fixed = (λ i. fixed_of_each (s.fixed i) (n i)) ∙ fixed_back w ok in
      let table : table_of before ≡ w.table = s.table ∙ table_back w.table ok.table in
      let listed = bonds w ok has before s in
      let same : draft_from before [] (bonds_in before) ≡ partly w [] (listed_bonds (length w.positions) (listed_pairs w)) =
      λ i. record {
        world = record { shape = shape i; set = s.set i; table = table i; positions = []; bonds = listed i; labels = labels i; valences = valences i; fixed = fixed i };
        count = n i;
      } in
      draft_of-first (time_row mcs) (61 ∷ decimal mcs) before is s.begun ∙ same

  pub InFrame-begun : InFrame w mcs [] (listed_bonds (length w.positions) (listed_pairs w)) (time_row mcs ∷ before)
  InFrame-begun = record {
    begun = has_begun-line (time_row mcs) before (command (Some Mcs) (61 ∷ decimal mcs)) is;
    first = is_first_frame-next (time_row mcs) before (command (Some Mcs) (61 ∷ decimal mcs)) is refl ∙ ap not s.begun;
    owner = owner_of-line (time_row mcs) before (command (Some Mcs) (61 ∷ decimal mcs)) is;
    draft = begun_draft;
    time = mcs_of-line (time_row mcs) before (command (Some Mcs) (61 ∷ decimal mcs)) is ∙ ap (λ o. unwrap_or (natural_in o) 0) (value_number-back mcs small);
    skipped = ap (λ x. cond (is_skipped x) (skipped_of before + 1) (skipped_of before)) is ∙ s.skipped;
  }

  pub frames_of-begun : frames_of (time_row mcs ∷ before) ≡ 0
  frames_of-begun =
      frames_of-other (time_row mcs) before (command (Some Mcs) (61 ∷ decimal mcs)) is (no_entry (owner_of before) (Some Mcs) (61 ∷ decimal mcs) Mcs) ∙ frames_of-none before s.begun
