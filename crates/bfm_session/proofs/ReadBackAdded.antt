-- Bonds that are added behind whole frames, as they are read.
use Rattle.std.proofs.Common.{◌≡◌, ◌≢◌, ℕ, ◌+◌, ◌<◌, ◌≤◌, true, false, cond, not, ◌&&◌, ◌||◌, nat_eq, nat_lt, List, [], ◌∷◌, ◌++◌, length, map, Option, None, Some, Ok, refl, ap, ◌∙◌, arith}
use Rattle.std.specs.Result.{result_ok}
use Rattle.std.specs.List.{AllByRecursion}
use Rattle.std.proofs.lemmas.Bool.Decides.{nat_tests}
use Rattle.bfm_base.specs.declared.cause.Cause.{Cause}
use Rattle.bfm_base.specs.declared.cause.Cause.TheVariants.{BadMonomer, TooManyBonds}
use Rattle.bfm_world.specs.Bonds.{are_bonded, is_full, with_bond}
use Rattle.bfm_world.specs.Configuration.{Configuration, bonded}
use Rattle.bfm_world.specs.Draft.{Draft, with_bonds}
use Rattle.bfm_commands.specs.Forms.{pair_entry}
use Rattle.bfm_commands.specs.Meaning.{command, entry, meaning_of, role_of}
use Rattle.bfm_commands.specs.History.{History, has_begun, header_of, owner_after, owner_of, entry_of, given_of, given_in, count_in, positions_of, with_added, draft_of, is_skipped, skipped_of}
use Rattle.bfm_commands.specs.Causes.{least, is_beyond, entered, added_cause, entry_cause, known_cause, cause_of}
use Rattle.bfm_commands.specs.Reading.{is_complete}
use Rattle.bfm_commands.specs.Verdict.{newest_first, refused_at, first_wrong}
use Rattle.bfm_commands.specs.declared.commands.Known.TheVariants.{Mcs, AddBonds}
use Rattle.bfm_commands.specs.declared.owner.Owner.TheVariants.{Command}
use Rattle.bfm_commands.proofs.SumLemmas.{no_entry}
use Rattle.bfm_commands.proofs.HistoryLemmas.{has_begun-more, owner_of-line, mcs_of-line, draft_of-same, draft_of-added, frames_of-other, first_positions-other}
use Rattle.bfm_session.proofs.ReadBackLines.{IsRow}
use Rattle.bfm_session.proofs.ReadBackRows.{pair_row, added_rows}
use Rattle.bfm_session.proofs.ReadBackEntries.{pair_entry-back}
use Rattle.bfm_session.proofs.ReadBackMeanings.{command_row, IsRow-command, meaning-command, meaning-number}
use Rattle.bfm_session.proofs.ReadBackPlain.{IsRow-pair, begins-number}
use Rattle.bfm_session.proofs.ReadBackLists.{cause_of-row}
use Rattle.bfm_session.proofs.ReadBackPlacing.{partly}
use Rattle.bfm_session.proofs.ReadBackLater.{Told, Holds}

-- bonds with those of pairs, added one after another
abbrev pub joined : List (List ℕ) → List (ℕ × ℕ) → List (List ℕ)
joined bonds [] = bonds
joined bonds (pair ∷ pairs) = joined (with_bond bonds pair.0 pair.1) pairs

-- The bond of a pair can be added: both monomers are there, they are not bonded, and neither has too many bonds. The lesser
-- number is the first.
pub record IsLinkable (count : ℕ) (bonds : List (List ℕ)) (pair : ℕ × ℕ) : Type 0 where
  pub first : pair.0 < count
  pub second : pair.1 < count
  pub ordered : pair.0 < pair.1
  pub unbonded : are_bonded bonds pair.0 pair.1 ≡ false
  pub first_room : is_full bonds pair.0 ≡ false
  pub second_room : is_full bonds pair.1 ≡ false

-- the bond of each pair can be added behind those before it
abbrev pub AreLinkable : ℕ → List (List ℕ) → List (ℕ × ℕ) → Type 0
AreLinkable count bonds [] = Unit {0}
AreLinkable count bonds (pair ∷ pairs) = IsLinkable count bonds pair × AreLinkable count (with_bond bonds pair.0 pair.1) pairs

pub joined-append : (bonds : List (List ℕ)) (xs ys : List (ℕ × ℕ)) → joined bonds (xs ++ ys) ≡ joined (joined bonds xs) ys
joined-append bonds [] ys = refl
joined-append bonds (x ∷ xs) ys = joined-append (with_bond bonds x.0 x.1) xs ys

pub AreLinkable-append : (count : ℕ) (bonds : List (List ℕ)) (xs ys : List (ℕ × ℕ)) → AreLinkable count bonds xs → AreLinkable count (joined bonds xs) ys → AreLinkable count bonds (xs ++ ys)
AreLinkable-append count bonds [] ys a b = b
AreLinkable-append count bonds (x ∷ xs) ys a b = (a.0, AreLinkable-append count (with_bond bonds x.0 x.1) xs ys a.1 b)

-- the world with these bonds
abbrev pub linked : Configuration → List (ℕ × ℕ) → Configuration
linked w pairs = record w { bonds = joined w.bonds pairs }

-- What is written of such pairs.

pub each_ordered : (count : ℕ) (bonds : List (List ℕ)) (pairs : List (ℕ × ℕ)) → AreLinkable count bonds pairs → AllByRecursion (λ (pair : ℕ × ℕ). pair.0 < pair.1) pairs
each_ordered count bonds [] each = tt
each_ordered count bonds (pair ∷ pairs) each = (each.0.ordered, each_ordered count (with_bond bonds pair.0 pair.1) pairs each.1)

each_pair_row : (count : ℕ) (bonds : List (List ℕ)) (pairs : List (ℕ × ℕ)) → count ≤ 262144 → AreLinkable count bonds pairs → AllByRecursion IsRow (map pair_row pairs)
each_pair_row count bonds [] few each = tt
each_pair_row count bonds (pair ∷ pairs) few each =
    let first = each.0.first in
    let second = each.0.second in
    (IsRow-pair pair.0 pair.1 (omega (arith, first, few)) (omega (arith, second, few)), each_pair_row count (with_bond bonds pair.0 pair.1) pairs few each.1)

pub each_added_row : (count : ℕ) (bonds : List (List ℕ)) (pairs : List (ℕ × ℕ)) → count ≤ 262144 → AreLinkable count bonds pairs → AllByRecursion IsRow (added_rows pairs)
each_added_row count bonds [] few each = tt
each_added_row count bonds (pair ∷ pairs) few each = (IsRow-command AddBonds, each_pair_row count bonds (pair ∷ pairs) few each)

-- The line of the command.

-- whole frames hold a world, and entries add bonds to it
pub record HoldsAdding (w : Configuration) (mcs : ℕ) (told : Told) (lines : History) : Type 0 where
  pub holds : Holds w mcs told lines
  pub owner : owner_of lines ≡ Command AddBonds

change_cause : (before : History) → has_begun before ≡ true → nat_eq (length (positions_of before)) (count_in (given_of (header_of before))) ≡ true → known_cause before AddBonds (role_of AddBonds) [] ≡ None
change_cause before begun whole = rw (begun, whole) refl

module _ (w : Configuration) (mcs : ℕ) (told : Told) (before : History) (h : Holds w mcs told before) where
  adding_cause : cause_of before (command_row AddBonds) ≡ None
  adding_cause =
      let whole : is_complete (draft_of before) ≡ true = ap is_complete h.draft ∙ itself (length w.positions) in
      cause_of-row before (command_row AddBonds) (command (Some AddBonds) []) (IsRow-command AddBonds) (meaning-command AddBonds)
      ∙ change_cause before h.begun whole
    where
      itself : (n : ℕ) → nat_eq n n ≡ true
      itself n = grind (arith, nat_tests)

  HoldsAdding-begun : HoldsAdding w mcs told (command_row AddBonds ∷ before)
  HoldsAdding-begun =
      let row = command_row AddBonds in
      let m = command (Some AddBonds) [] in
      let is = meaning-command AddBonds in
      let none = no_entry (owner_of before) (Some AddBonds) [] in
      record {
        holds = record {
          begun = has_begun-more row before h.begun;
          draft = draft_of-same row before m is (λ known. none known) h.begun refl ∙ h.draft;
          time = mcs_of-line row before m is ∙ h.time;
          first_ones = first_positions-other row before m is (none Mcs) ∙ h.first_ones;
          frame_count = frames_of-other row before m is (none Mcs) ∙ h.frame_count;
          some = h.some;
          skips = ap (λ x. cond (is_skipped x) (skipped_of before + 1) (skipped_of before)) is ∙ h.skips;
        };
        owner = owner_of-line row before m is;
      }

-- One pair.

-- why the bond of a pair may not be added, if it may not
abbrev judge : ℕ → List (List ℕ) → ℕ × ℕ → Option Cause
judge count bonds pair =
    least (
    (BadMonomer, is_beyond count pair)
    ∷ (TooManyBonds, not (are_bonded bonds pair.0 pair.1) && (is_full bonds pair.0 || is_full bonds pair.1))
    ∷ []
    )

judged : (count : ℕ) (bonds : List (List ℕ)) (pair : ℕ × ℕ) → IsLinkable count bonds pair → judge count bonds pair ≡ None
judged count bonds pair is =
    let first : nat_lt pair.0 count ≡ true = grind (arith, nat_tests, is.first) in
    let second : nat_lt pair.1 count ≡ true = grind (arith, nat_tests, is.second) in
    rw (first, second, is.unbonded, is.first_room, is.second_room) refl

differ : (i j : ℕ) → i < j → i ≢ j
differ i j l e = absurd (omega (arith, l, e))

module _ (w : Configuration) (mcs : ℕ) (told : Told) (lines : History) (f : HoldsAdding w mcs told lines) (few : length w.positions ≤ 262144) (pair : ℕ × ℕ) (is : IsLinkable (length w.positions) w.bonds pair) where
  r : IsRow (pair_row pair)
  r = IsRow-pair pair.0 pair.1 (omega (arith, is.first, few)) (omega (arith, is.second, few))

  row_is : meaning_of (pair_row pair) ≡ entry (pair_row pair)
  row_is = meaning-number (pair_row pair) r (begins-number pair.0 _ (omega (arith, is.first, few)))

  form : pair_entry (pair_row pair) ≡ Ok pair
  form = pair_entry-back pair.0 pair.1 (omega (arith, is.first, few)) (omega (arith, is.second, few)) (differ pair.0 pair.1 is.ordered)

  pair_row_cause : cause_of lines (pair_row pair) ≡ None
  pair_row_cause =
      cause_of-row lines (pair_row pair) (entry (pair_row pair)) r row_is
      ∙ (ap (λ o. entry_cause lines o (pair_row pair)) f.owner
      ∙ (ap (λ d. added_cause d (pair_row pair)) f.holds.draft
      ∙ (ap (entered (judge (length w.positions) w.bonds)) form ∙ judged (length w.positions) w.bonds pair is)))

  added_draft : draft_of (pair_row pair ∷ lines) ≡ partly (bonded w pair.0 pair.1) w.positions (with_bond w.bonds pair.0 pair.1)
  added_draft =
      draft_of-added (pair_row pair) lines (pair_row pair) row_is f.holds.begun f.owner
      ∙ (ap (λ (d : Draft). with_bonds d (with_added d.world.bonds (given_in pair_entry (Some (pair_row pair))))) f.holds.draft
      ∙ (ap (λ o. with_bonds (partly w w.positions w.bonds) (with_added w.bonds (result_ok o))) form
      ∙ ap (λ b. with_bonds (partly w w.positions w.bonds) (cond b w.bonds (with_bond w.bonds pair.0 pair.1))) is.unbonded))

  HoldsAdding-pair : HoldsAdding (bonded w pair.0 pair.1) mcs told (pair_row pair ∷ lines)
  HoldsAdding-pair =
      let row = pair_row pair in
      let m = entry (pair_row pair) in
      let none = ap (λ o. entry_of Mcs o (entry (pair_row pair))) f.owner in
      record {
        holds = record {
          begun = has_begun-more row lines f.holds.begun;
          draft = added_draft;
          time = mcs_of-line row lines m row_is ∙ f.holds.time;
          first_ones = first_positions-other row lines m row_is none ∙ f.holds.first_ones;
          frame_count = frames_of-other row lines m row_is none ∙ f.holds.frame_count;
          some = f.holds.some;
          skips = ap (λ x. cond (is_skipped x) (skipped_of lines + 1) (skipped_of lines)) row_is ∙ f.holds.skips;
        };
        owner = owner_of-line row lines m row_is ∙ ap (λ o. owner_after o (entry (pair_row pair))) f.owner;
      }

-- All pairs.

-- no row is wrong, and behind them the frames hold this world
pub record AddsAll (w : Configuration) (mcs : ℕ) (told : Told) (before : History) (rows : List (List ℕ)) : Type 0 where
  pub right : first_wrong before rows ≡ None
  pub holds : Holds w mcs told (newest_first before rows)

adds_each : (mcs : ℕ) (told : Told) (pairs : List (ℕ × ℕ)) (w : Configuration) (lines : History) → HoldsAdding w mcs told lines → length w.positions ≤ 262144
    → AreLinkable (length w.positions) w.bonds pairs → AddsAll (linked w pairs) mcs told lines (map pair_row pairs)
adds_each mcs told [] w lines f few each = record { right = refl; holds = f.holds }
adds_each mcs told (pair ∷ pairs) w lines f few each =
    let later = adds_each mcs told pairs (bonded w pair.0 pair.1) (pair_row pair ∷ lines) (HoldsAdding-pair w mcs told lines f few pair each.0) few each.1 in
    record {
      right = ap (λ c. refused_at (length lines) c (first_wrong (pair_row pair ∷ lines) (map pair_row pairs))) (pair_row_cause w mcs told lines f few pair each.0) ∙ later.right;
      holds = later.holds;
    }

-- the rows of bonds that are added, where there are any
pub added_read : (w : Configuration) (mcs : ℕ) (told : Told) (lines : History) → Holds w mcs told lines → length w.positions ≤ 262144
    → (pairs : List (ℕ × ℕ)) → AreLinkable (length w.positions) w.bonds pairs → AddsAll (linked w pairs) mcs told lines (added_rows pairs)
added_read w mcs told lines h few [] each = record { right = refl; holds = h }
added_read w mcs told lines h few (pair ∷ pairs) each =
    let all = adds_each mcs told (pair ∷ pairs) w (command_row AddBonds ∷ lines) (HoldsAdding-begun w mcs told lines h) few each in
    record {
      right = ap (λ c. refused_at (length lines) c (first_wrong (command_row AddBonds ∷ lines) (map pair_row (pair ∷ pairs)))) (adding_cause w mcs told lines h) ∙ all.right;
      holds = all.holds;
    }
