-- What one more line leaves of what the lines before it give, and what it adds.
use Rattle.std.proofs.Common.{◌≡◌, ◌≢◌, ℕ, ◌+◌, ◌-◌, Bool, true, false, not, cond, ◌&&◌, ◌||◌, List, [], ◌∷◌, ◌++◌, length, None, Some, is_some, refl, ap, sym, ◌∙◌, arith, append-nil}
use Rattle.std.specs.Prelude.{◌==◌}
use Rattle.bfm_base.specs.declared.place.P3.{P3}
use Rattle.bfm_world.specs.Draft.{Draft, with_positions, with_bonds}
use Rattle.bfm_commands.specs.Forms.{pair_entry, frame_line}
use Rattle.bfm_commands.specs.Meaning.{Meaning, nothing, command, entry, meaning_of}
use Rattle.bfm_commands.specs.History.{History, begins, has_begun, header_of, owner_after, owner_of, entry_of, given_in, given_by, given_of, shape_in, count_in, set_of, pairs_of, labels_of, valences_of, fixed_of, table_of, said_of_each, fixed_of_each, with_pairs, listed_bonds, line_positions, positions_by, positions_of, time_after, mcs_of, is_first_frame, chain, shown_by, pair_in, with_added, with_removed, bonds_after, bonds_of, draft_of, is_whole, completes, last_whole, frames_of, first_positions}
use Rattle.bfm_commands.specs.Placing.{with_line}
use Rattle.bfm_commands.specs.Reading.{is_complete, taken_line, follows_header, owns_changes}
use Rattle.bfm_commands.specs.declared.commands.Known.{Known}
use Rattle.bfm_commands.specs.declared.commands.Known.TheVariants.{Mcs, AddBonds, RemoveBonds}
use Rattle.bfm_commands.specs.declared.owner.Owner.{Owner}
use Rattle.bfm_commands.specs.declared.owner.Owner.TheVariants.{Nobody, Unknown, Command}

or_false : (a b : Bool) → (a || b) ≡ false → (a ≡ false) × (b ≡ false)
or_false true b e = absurd (cc)
or_false false b e = (refl, e)

or_true : (a b : Bool) → b ≡ true → (a || b) ≡ true
or_true true b e = refl
or_true false b e = e

and_none : (a b : Bool) → (a && (false && b)) ≡ false
and_none true b = refl
and_none false b = refl

and_false : (a : Bool) → (a && false) ≡ false
and_false true = refl
and_false false = refl

-- ---- before the first frame
begins-none : (line : List ℕ) (lines : History) → has_begun (line ∷ lines) ≡ false → (begins (meaning_of line) ≡ false) × (has_begun lines ≡ false)
begins-none line lines e = or_false (begins (meaning_of line)) (has_begun lines) e

pub has_begun-line : (line : List ℕ) (lines : History) (m : Meaning) → meaning_of line ≡ m → has_begun (line ∷ lines) ≡ (begins m || has_begun lines)
has_begun-line line lines m e = ap (λ x. begins x || has_begun lines) e

pub header_of-none : (lines : History) → has_begun lines ≡ false → header_of lines ≡ lines
header_of-none [] e = refl
header_of-none (line ∷ lines) e = ap (λ b. cond b (header_of lines) (line ∷ lines)) e

pub is_first_frame-none : (lines : History) → has_begun lines ≡ false → is_first_frame lines ≡ false
is_first_frame-none [] e = refl
is_first_frame-none (line ∷ lines) e =
    let parts = begins-none line lines e in
    ap (λ b. cond b (not (has_begun lines)) (is_first_frame lines)) parts.0 ∙ is_first_frame-none lines parts.1

-- the line that begins the first frame leaves the bonds that are listed
pub bonds_of-first : (listed : List (List ℕ)) (line : List ℕ) (lines : History) → has_begun lines ≡ false → bonds_of listed (line ∷ lines) ≡ listed
bonds_of-first listed line lines none = ap (λ b. cond b (bonds_after lines (meaning_of line) (bonds_of listed lines)) listed) none

completes-none : (line : List ℕ) (lines : History) → has_begun (line ∷ lines) ≡ false → completes line lines ≡ false
completes-none line lines e =
    ap (λ b. is_some (entry_of Mcs (owner_of lines) (meaning_of line)) && (b && (length (positions_of (line ∷ lines)) == count_in (given_of (header_of (line ∷ lines)))))) e
    ∙ and_none (is_some (entry_of Mcs (owner_of lines) (meaning_of line))) (length (positions_of (line ∷ lines)) == count_in (given_of (header_of (line ∷ lines))))

pub frames_of-none : (lines : History) → has_begun lines ≡ false → frames_of lines ≡ 0
frames_of-none [] e = refl
frames_of-none (line ∷ lines) e =
    ap (λ b. cond b (frames_of lines + 1) (frames_of lines)) (completes-none line lines e) ∙ frames_of-none lines (begins-none line lines e).1

-- no entry is a frame line
pub owner_of-none : (lines : History) → has_begun lines ≡ false → owner_of lines ≢ Command Mcs
owner_of-none [] e same = absurd (cc)
owner_of-none (line ∷ lines) e same = by_meaning (owner_of lines) (owner_of-none lines (begins-none line lines e).1) (meaning_of line) (begins-none line lines e).0 same
  where
    by_meaning : (owner : Owner) → owner ≢ Command Mcs → (m : Meaning) → begins m ≡ false → owner_after owner m ≡ Command Mcs → ⊥
    by_meaning owner other nothing b s = other s
    by_meaning owner other (entry text) b s = other s
    by_meaning owner other (command None rest) b s = absurd (cc)
    by_meaning owner other (command (Some known) rest) b s =
        let is : known ≡ Mcs = cc in
        let begun : begins (command (Some known) rest) ≡ true = ap (λ k. begins (command (Some k) rest)) is in
        absurd (cc)

-- ---- once a frame has begun
pub header_of-begun : (line : List ℕ) (lines : History) → has_begun lines ≡ true → header_of (line ∷ lines) ≡ header_of lines
header_of-begun line lines e = ap (λ b. cond b (header_of lines) (line ∷ lines)) (or_true (begins (meaning_of line)) (has_begun lines) e)

pub has_begun-more : (line : List ℕ) (lines : History) → has_begun lines ≡ true → has_begun (line ∷ lines) ≡ true
has_begun-more line lines e = or_true (begins (meaning_of line)) (has_begun lines) e

-- the bonds that a header lists
abbrev pub bonds_in : History → List (List ℕ)
bonds_in header = listed_bonds (count_in (given_of header)) (pairs_of header)

-- a draft by its header, its positions and its bonds
abbrev pub draft_from : History → List P3 → List (List ℕ) → Draft
draft_from header positions bonds = record {
  world = record {
    shape = shape_in (given_of header);
    set = set_of header;
    table = table_of header;
    positions = positions;
    bonds = bonds;
    labels = said_of_each (labels_of header) (count_in (given_of header));
    valences = said_of_each (valences_of header) (count_in (given_of header));
    fixed = fixed_of_each (fixed_of header) (count_in (given_of header));
  };
  count = count_in (given_of header);
}

-- the line that begins the first frame
pub draft_of-first : (line rest : List ℕ) (lines : History) → meaning_of line ≡ command (Some Mcs) rest → has_begun lines ≡ false → draft_of (line ∷ lines) ≡ draft_from lines [] (bonds_in lines)
draft_of-first line rest lines e none =
    let begun : has_begun (line ∷ lines) ≡ true = has_begun-line line lines (command (Some Mcs) rest) e in
    let first : header_of (line ∷ lines) ≡ lines = ap (λ b. cond b (header_of lines) (line ∷ lines)) begun ∙ header_of-none lines none in
    ap (λ h. draft_from h (positions_of (line ∷ lines)) (bonds_of (bonds_in h) (line ∷ lines))) first
    ∙ (ap (λ x. draft_from lines (cond (begins x) [] (positions_of lines ++ positions_by lines (meaning_of line))) (bonds_of (bonds_in lines) (line ∷ lines))) e
    ∙ ap (draft_from lines []) (bonds_of-first (bonds_in lines) line lines none))

abbrev present_bonds : History → List (List ℕ)
present_bonds lines = bonds_of (bonds_in (header_of lines)) lines

module _ (line : List ℕ) (lines : History) (m : Meaning) (e : meaning_of line ≡ m) where
  draft_of-line : has_begun lines ≡ true
      → draft_of (line ∷ lines) ≡ draft_from (header_of lines) (cond (begins m) [] (positions_of lines ++ positions_by lines m)) (bonds_after lines m (present_bonds lines))
  draft_of-line begun =
      ap (λ h. draft_from h (positions_of (line ∷ lines)) (bonds_of (bonds_in h) (line ∷ lines))) (header_of-begun line lines begun)
      ∙ (ap (λ b. draft_from (header_of lines) (positions_of (line ∷ lines)) (cond b (bonds_after lines (meaning_of line) (present_bonds lines)) (bonds_in (header_of lines)))) begun
      ∙ ap (λ x. draft_from (header_of lines) (cond (begins x) [] (positions_of lines ++ positions_by lines x)) (bonds_after lines x (present_bonds lines))) e)

  -- a line that is no frame line gives no position and completes nothing
  module _ (no_line : entry_of Mcs (owner_of lines) m ≡ None) where
    positions_by-none : positions_by lines m ≡ []
    positions_by-none = ap (λ t. line_positions (set_of (header_of lines)) (given_in frame_line t)) no_line

    shown_by-none : shown_by lines m ≡ []
    shown_by-none = ap (λ ps. cond (is_first_frame lines) (chain (length (positions_of lines)) (length ps - 1)) []) positions_by-none ∙ by_first (is_first_frame lines)
      where
        by_first : (b : Bool) → cond b (chain (length (positions_of lines)) (0 - 1)) [] ≡ []
        by_first true = refl
        by_first false = refl

    -- only the bonds may change
    draft_of-bonds : has_begun lines ≡ true → begins m ≡ false
        → draft_of (line ∷ lines) ≡ with_bonds (draft_of lines) (with_removed (with_added (present_bonds lines) (pair_in AddBonds lines m)) (pair_in RemoveBonds lines m))
    draft_of-bonds begun b =
        draft_of-line begun
        ∙ (ap (λ x. draft_from (header_of lines) (cond x [] (positions_of lines ++ positions_by lines m)) (bonds_after lines m (present_bonds lines))) b
        ∙ (ap (λ ps. draft_from (header_of lines) (positions_of lines ++ ps) (bonds_after lines m (present_bonds lines))) positions_by-none
        ∙ (ap (λ ps. draft_from (header_of lines) ps (bonds_after lines m (present_bonds lines))) (append-nil (positions_of lines))
        ∙ ap (λ shown. draft_from (header_of lines) (positions_of lines) (with_removed (with_added (with_pairs (present_bonds lines) shown) (pair_in AddBonds lines m)) (pair_in RemoveBonds lines m))) shown_by-none)))

    pub completes-other : completes line lines ≡ false
    completes-other = ap (λ x. is_some (entry_of Mcs (owner_of lines) x) && is_whole (line ∷ lines)) e ∙ ap (λ t. is_some t && is_whole (line ∷ lines)) no_line

    pub last_whole-other : last_whole (line ∷ lines) ≡ last_whole lines
    last_whole-other = ap (λ b. cond b (line ∷ lines) (last_whole lines)) completes-other

    pub frames_of-other : frames_of (line ∷ lines) ≡ frames_of lines
    frames_of-other = ap (λ b. cond b (frames_of lines + 1) (frames_of lines)) completes-other

    pub first_positions-other : first_positions (line ∷ lines) ≡ first_positions lines
    first_positions-other =
        ap (λ b. cond ((frames_of lines == 0) && b) (positions_of (line ∷ lines)) (first_positions lines)) completes-other
        ∙ ap (λ b. cond b (positions_of (line ∷ lines)) (first_positions lines)) (and_false (frames_of lines == 0))

  -- a line that is no entry of any command leaves the bonds
  module _ (none : (known : Known) → entry_of known (owner_of lines) m ≡ None) where
    bonds_after-none : bonds_after lines m (present_bonds lines) ≡ present_bonds lines
    bonds_after-none =
        ap (λ shown. with_removed (with_added (with_pairs (present_bonds lines) shown) (pair_in AddBonds lines m)) (pair_in RemoveBonds lines m)) (shown_by-none (none Mcs))
        ∙ (ap (λ t. with_removed (with_added (present_bonds lines) (given_in pair_entry t)) (pair_in RemoveBonds lines m)) (none AddBonds)
        ∙ ap (λ t. with_removed (present_bonds lines) (given_in pair_entry t)) (none RemoveBonds))

    pub draft_of-same : has_begun lines ≡ true → begins m ≡ false → draft_of (line ∷ lines) ≡ draft_of lines
    draft_of-same begun b =
        draft_of-line begun
        ∙ (ap (λ x. draft_from (header_of lines) (cond x [] (positions_of lines ++ positions_by lines m)) (bonds_after lines m (present_bonds lines))) b
        ∙ (ap (λ ps. draft_from (header_of lines) (positions_of lines ++ ps) (bonds_after lines m (present_bonds lines))) (positions_by-none (none Mcs))
        ∙ (ap (λ ps. draft_from (header_of lines) ps (bonds_after lines m (present_bonds lines))) (append-nil (positions_of lines)) ∙ ap (draft_from (header_of lines) (positions_of lines)) bonds_after-none)))

    pub draft_of-next : has_begun lines ≡ true → begins m ≡ true → draft_of (line ∷ lines) ≡ with_positions (draft_of lines) []
    draft_of-next begun b =
        draft_of-line begun
        ∙ (ap (λ x. draft_from (header_of lines) (cond x [] (positions_of lines ++ positions_by lines m)) (bonds_after lines m (present_bonds lines))) b
        ∙ ap (draft_from (header_of lines) []) bonds_after-none)

  pub is_first_frame-same : begins m ≡ false → is_first_frame (line ∷ lines) ≡ is_first_frame lines
  is_first_frame-same b = ap (λ x. cond (begins x) (not (has_begun lines)) (is_first_frame lines)) e ∙ ap (λ x. cond x (not (has_begun lines)) (is_first_frame lines)) b

  pub is_first_frame-next : begins m ≡ true → is_first_frame (line ∷ lines) ≡ not (has_begun lines)
  is_first_frame-next b = ap (λ x. cond (begins x) (not (has_begun lines)) (is_first_frame lines)) e ∙ ap (λ x. cond x (not (has_begun lines)) (is_first_frame lines)) b

  pub owner_of-line : owner_of (line ∷ lines) ≡ owner_after (owner_of lines) m
  owner_of-line = ap (owner_after (owner_of lines)) e

  pub mcs_of-line : mcs_of (line ∷ lines) ≡ time_after (mcs_of lines) m
  mcs_of-line = ap (time_after (mcs_of lines)) e

-- ---- a frame line
with_line-any : (draft : Draft) (ps : List P3) → with_line draft ps
    ≡ with_bonds (with_positions draft (draft.world.positions ++ ps)) (with_pairs draft.world.bonds (chain (length draft.world.positions) (length ps - 1)))
with_line-any draft [] = ap (with_positions draft) (sym (append-nil draft.world.positions))
with_line-any draft (p ∷ ps) =
    let number : length ps ≡ length (p ∷ ps) - 1 = omega arith in
    ap (λ n. with_bonds (with_positions draft (draft.world.positions ++ p ∷ ps)) (with_pairs draft.world.bonds (chain (length draft.world.positions) n))) number

module _ (line : List ℕ) (lines : History) (text : List ℕ) (e : meaning_of line ≡ entry text) (begun : has_begun lines ≡ true) (owned : owner_of lines ≡ Command Mcs) where
  abbrev line_ps : List P3
  line_ps = line_positions (set_of (header_of lines)) (given_in frame_line (Some text))

  positions_by-line : positions_by lines (entry text) ≡ line_ps
  positions_by-line = ap (λ o. line_positions (set_of (header_of lines)) (given_in frame_line (entry_of Mcs o (entry text)))) owned

  -- the bonds with those of a line that gives these positions
  abbrev bonds_with : List P3 → Bool → Owner → List (List ℕ)
  bonds_with ps b owner =
      with_removed (with_added (with_pairs (present_bonds lines) (cond b (chain (length (positions_of lines)) (length ps - 1)) [])) (given_in pair_entry (entry_of AddBonds owner (entry text))))
      (given_in pair_entry (entry_of RemoveBonds owner (entry text)))

  pub draft_of-taken : (first : Bool) → is_first_frame lines ≡ first → draft_of (line ∷ lines) ≡ taken_line first (draft_of lines) text
  draft_of-taken first f =
      draft_of-line line lines (entry text) e begun
      ∙ (ap (λ ps. draft_from (header_of lines) (positions_of lines ++ ps) (bonds_with ps (is_first_frame lines) (owner_of lines))) positions_by-line
      ∙ (ap (λ o. draft_from (header_of lines) (positions_of lines ++ line_ps) (bonds_with line_ps (is_first_frame lines) o)) owned
      ∙ (ap (λ b. draft_from (header_of lines) (positions_of lines ++ line_ps) (bonds_with line_ps b (Command Mcs))) f
      ∙ by_first first)))
    where
      by_first : (b : Bool) → draft_from (header_of lines) (positions_of lines ++ line_ps) (with_pairs (present_bonds lines) (cond b (chain (length (positions_of lines)) (length line_ps - 1)) []))
          ≡ taken_line b (draft_of lines) text
      by_first true = sym (with_line-any (draft_of lines) line_ps)
      by_first false = refl

  pub completes-line : completes line lines ≡ is_complete (draft_of (line ∷ lines))
  completes-line =
      ap (λ x. is_some (entry_of Mcs (owner_of lines) x) && is_whole (line ∷ lines)) e
      ∙ (ap (λ o. is_some (entry_of Mcs o (entry text)) && is_whole (line ∷ lines)) owned
      ∙ ap (λ b. b && is_complete (draft_of (line ∷ lines))) (has_begun-more line lines begun))

-- ---- an entry that changes a bond
module _ (line : List ℕ) (lines : History) (text : List ℕ) (e : meaning_of line ≡ entry text) (begun : has_begun lines ≡ true) where
  pub draft_of-added : owner_of lines ≡ Command AddBonds → draft_of (line ∷ lines) ≡ with_bonds (draft_of lines) (with_added (draft_of lines).world.bonds (given_in pair_entry (Some text)))
  draft_of-added owned =
      draft_of-bonds line lines (entry text) e (ap (λ o. entry_of Mcs o (entry text)) owned) begun refl
      ∙ ap (λ o. with_bonds (draft_of lines) (with_removed (with_added (present_bonds lines) (given_in pair_entry (entry_of AddBonds o (entry text)))) (given_in pair_entry (entry_of RemoveBonds o (entry text))))) owned

  pub draft_of-removed : owner_of lines ≡ Command RemoveBonds → draft_of (line ∷ lines) ≡ with_bonds (draft_of lines) (with_removed (draft_of lines).world.bonds (given_in pair_entry (Some text)))
  draft_of-removed owned =
      draft_of-bonds line lines (entry text) e (ap (λ o. entry_of Mcs o (entry text)) owned) begun refl
      ∙ ap (λ o. with_bonds (draft_of lines) (with_removed (with_added (present_bonds lines) (given_in pair_entry (entry_of AddBonds o (entry text)))) (given_in pair_entry (entry_of RemoveBonds o (entry text))))) owned

-- ---- lines that add nothing
pub data IsIdle (owner : Owner) (m : Meaning) : Type 0 where
  blank : m ≡ nothing → IsIdle owner m
  skipped : (rest : List ℕ) → m ≡ command None rest → IsIdle owner m
  unowned : (text : List ℕ) → owner ≡ Unknown → m ≡ entry text → IsIdle owner m

abbrev adds_nothing : Owner → Meaning → Type 0
adds_nothing owner m = (begins m ≡ false) × (given_by m ≡ []) × ((known : Known) → entry_of known owner m ≡ None) × ((mcs : ℕ) → time_after mcs m ≡ mcs)

no_entry : (owner : Owner) (known : Known) → entry_of known owner nothing ≡ None
no_entry Nobody known = refl
no_entry Unknown known = refl
no_entry (Command k) known = refl

no_entry_command : (owner : Owner) (known : Known) (rest : List ℕ) → entry_of known owner (command None rest) ≡ None
no_entry_command Nobody known rest = refl
no_entry_command Unknown known rest = refl
no_entry_command (Command k) known rest = refl

pub IsIdle-adds : (owner : Owner) (m : Meaning) → IsIdle owner m → (begins m ≡ false) × (given_by m ≡ []) × ((known : Known) → entry_of known owner m ≡ None) × ((mcs : ℕ) → time_after mcs m ≡ mcs)
IsIdle-adds owner m (blank e) = rw e (refl, refl, no_entry owner, λ mcs. refl)
IsIdle-adds owner m (skipped rest e) = rw e (refl, refl, λ known. no_entry_command owner known rest, λ mcs. refl)
IsIdle-adds owner m (unowned text o e) = rw e (refl, refl, λ known. ap (λ x. entry_of known x (entry text)) o, λ mcs. refl)

pub IsIdle-owner : (owner : Owner) (m : Meaning) → IsIdle owner m → follows_header owner ≡ true → follows_header (owner_after owner m) ≡ true
IsIdle-owner owner m (blank e) h = ap (λ x. follows_header (owner_after owner x)) e ∙ h
IsIdle-owner owner m (skipped rest e) h = ap (λ x. follows_header (owner_after owner x)) e
IsIdle-owner owner m (unowned text o e) h = ap (λ x. follows_header (owner_after owner x)) e ∙ h

pub IsIdle-between : (owner : Owner) (m : Meaning) → IsIdle owner m → owns_changes (owner_after owner m) ≡ true → owns_changes owner ≡ true
IsIdle-between owner m (blank e) h = sym (ap (λ x. owns_changes (owner_after owner x)) e) ∙ h
IsIdle-between owner m (skipped rest e) h = absurd (let f = sym (ap (λ x. owns_changes (owner_after owner x)) e) ∙ h in cc)
IsIdle-between owner m (unowned text o e) h = sym (ap (λ x. owns_changes (owner_after owner x)) e) ∙ h
