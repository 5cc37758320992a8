-- The rows of the frame of a valid world, read one after another.
use Rattle.std.proofs.Common.{◌≡◌, ℕ, ◌+◌, ◌<◌, ◌^◌, true, false, cond, ◌&&◌, nat_eq, List, [], ◌∷◌, ◌++◌, length, map, None, Ok, refl, sym, ap, ◌∙◌, subst, append_assoc, append-nil, length-append, arith}
use Rattle.std.specs.Result.{result_ok}
use Rattle.std.specs.List.{AllByRecursion, flat_map}
use Rattle.std.proofs.lemmas.Bool.Decides.{nat_tests}
use Rattle.bfm_base.specs.declared.place.P3.{P3}
use Rattle.bfm_world.specs.Bonds.{are_bonded}
use Rattle.bfm_world.specs.Configuration.{Configuration, IsValid}
use Rattle.bfm_world.specs.Draft.{Draft}
use Rattle.bfm_writer.specs.Rows.{Row, row_positions}
use Rattle.bfm_commands.specs.Forms.{frame_line}
use Rattle.bfm_commands.specs.Meaning.{entry, meaning_of}
use Rattle.bfm_commands.specs.History.{History, owner_after, with_pairs, line_positions, string_positions, positions_of, chain, draft_of, completes, last_whole, frames_of, first_positions, is_skipped, skipped_of}
use Rattle.bfm_commands.specs.Placing.{with_line}
use Rattle.bfm_commands.specs.Causes.{entered, string_cause, frame_cause, entry_cause, cause_of}
use Rattle.bfm_commands.specs.Reading.{is_complete, taken_line}
use Rattle.bfm_commands.specs.Verdict.{newest_first, refused_at, first_wrong}
use Rattle.bfm_commands.proofs.HistoryLemmas.{has_begun-more, is_first_frame-same, owner_of-line, mcs_of-line, draft_of-taken, completes-line}
use Rattle.bfm_commands.proofs.PairLemmas.{with_pairs-append}
use Rattle.bfm_commands.proofs.WalkLemmas.{length-walk}
use Rattle.bfm_session.proofs.ReadBackLines.{IsRow}
use Rattle.bfm_session.proofs.ReadBackRows.{frame_row}
use Rattle.bfm_session.proofs.ReadBackEntries.{IsShort-extent, frame_line-back}
use Rattle.bfm_session.proofs.ReadBackMeanings.{meaning-number}
use Rattle.bfm_session.proofs.ReadBackPlain.{begins-frame}
use Rattle.bfm_session.proofs.ReadBackLists.{cause_of-row}
use Rattle.bfm_session.proofs.ReadBackBonds.{IsPartOf, IsPartOf-with_pairs}
use Rattle.bfm_session.proofs.ReadBackRowsOf.{IsGoodRow, string_positions-row, shown_from}
use Rattle.bfm_session.proofs.ReadBackPlacing.{partly, string_cause-none}
use Rattle.bfm_session.proofs.ReadBackTime.{InFrame}

-- as many positions as identifiers, and one
pub length-row : (set : List (P3 × ℕ)) (row : Row) → length (row_positions set row) ≡ length row.ids + 1
length-row set row = ap length (sym (string_positions-row set row)) ∙ omega (arith, length-walk set row.start row.ids)

-- What one row of a frame adds.
module _ (w : Configuration) (ok : IsValid w) (mcs : ℕ) (come : List P3) (joined : List (List ℕ)) (lines : History) (f : InFrame w mcs come joined lines)
    (row : Row) (good : IsGoodRow w.set (2 ^ 44) row) (r : IsRow (frame_row row)) (more : List P3) (place : come ++ (row_positions w.set row ++ more) ≡ w.positions) where
  text : List ℕ
  text = frame_row row

  abbrev now_come : List P3
  now_come = come ++ row_positions w.set row

  abbrev now_joined : List (List ℕ)
  now_joined = with_pairs joined (chain (length come) (length row.ids))

  is : meaning_of (frame_row row) ≡ entry (frame_row row)
  is = meaning-number (frame_row row) r (begins-frame row (IsShort-extent row.start (2 ^ 44) good.near (omega arith)))

  form : frame_line (frame_row row) ≡ Ok (row.start, row.ids)
  form = frame_line-back row good.near

  place_here : come ++ (string_positions w.set (row.start, row.ids) ++ more) ≡ w.positions
  place_here = ap (λ ps. come ++ (ps ++ more)) (string_positions-row w.set row) ∙ place

  pub row_cause : IsPartOf (length w.positions) (with_pairs joined (chain (length come) (length row.ids))) w.bonds → cause_of lines (frame_row row) ≡ None
  row_cause part =
      cause_of-row lines (frame_row row) (entry (frame_row row)) r is
      ∙ (ap (λ o. entry_cause lines o (frame_row row)) f.owner
      ∙ (ap (λ b. frame_cause b (draft_of lines) (frame_row row)) f.first
      ∙ (ap (λ d. frame_cause true d (frame_row row)) f.draft
      ∙ (ap (entered (string_cause true (partly w come joined))) form
      ∙ string_cause-none w ok come more joined (row.start, row.ids) good.known place_here part))))

  row_draft : draft_of (frame_row row ∷ lines) ≡ partly w now_come now_joined
  row_draft =
      draft_of-taken (frame_row row) lines (frame_row row) is f.begun f.owner true f.first
      ∙ (ap (λ d. taken_line true d (frame_row row)) f.draft
      ∙ (ap (λ o. with_line (partly w come joined) (line_positions w.set (result_ok o))) form
      ∙ (ap (λ n. partly w (come ++ string_positions w.set (row.start, row.ids)) (with_pairs joined (chain (length come) n))) (length-walk w.set row.start row.ids)
      ∙ ap (λ ps. partly w (come ++ ps) now_joined) (string_positions-row w.set row))))

  pub InFrame-row : InFrame w mcs (come ++ row_positions w.set row) (with_pairs joined (chain (length come) (length row.ids))) (frame_row row ∷ lines)
  InFrame-row = record {
    begun = has_begun-more (frame_row row) lines f.begun;
    first = is_first_frame-same (frame_row row) lines (entry (frame_row row)) is refl ∙ f.first;
    owner = owner_of-line (frame_row row) lines (entry (frame_row row)) is ∙ ap (λ o. owner_after o (entry (frame_row row))) f.owner;
    draft = row_draft;
    time = mcs_of-line (frame_row row) lines (entry (frame_row row)) is ∙ f.time;
    skipped = ap (λ x. cond (is_skipped x) (skipped_of lines + 1) (skipped_of lines)) is ∙ f.skipped;
  }

  completes_row : completes (frame_row row) lines ≡ nat_eq (length now_come) (length w.positions)
  completes_row = completes-line (frame_row row) lines (frame_row row) is f.begun f.owner ∙ ap is_complete row_draft

  -- the frame is not whole
  pub frames_of-part : frames_of lines ≡ 0 → length (come ++ row_positions w.set row) < length w.positions → frames_of (frame_row row ∷ lines) ≡ 0
  frames_of-part none l =
      let part : nat_eq (length now_come) (length w.positions) ≡ false = grind (arith, nat_tests) in
      ap (λ b. cond b (frames_of lines + 1) (frames_of lines)) (completes_row ∙ part) ∙ none

  -- the frame is whole
  pub completes-whole : come ++ row_positions w.set row ≡ w.positions → completes (frame_row row) lines ≡ true
  completes-whole all = completes_row ∙ (ap (λ ps. nat_eq (length ps) (length w.positions)) all ∙ same (length w.positions))
    where
      same : (n : ℕ) → nat_eq n n ≡ true
      same n = grind (arith, nat_tests)

-- the first whole frame ends with the newest line
pub record IsRead (w : Configuration) (mcs : ℕ) (joined : List (List ℕ)) (lines : History) : Type 0 where
  pub frame : InFrame w mcs w.positions joined lines
  pub frames : frames_of lines ≡ 1
  pub last : last_whole lines ≡ lines
  pub first_ones : first_positions lines ≡ w.positions

IsRead-whole : (w : Configuration) (mcs : ℕ) (joined : List (List ℕ)) (lines : History) (line : List ℕ) → InFrame w mcs w.positions joined (line ∷ lines) → completes line lines ≡ true → frames_of lines ≡ 0
    → IsRead w mcs joined (line ∷ lines)
IsRead-whole w mcs joined lines line f whole none = record {
  frame = f;
  frames = ap (λ b. cond b (frames_of lines + 1) (frames_of lines)) whole ∙ ap (λ n. n + 1) none;
  last = ap (λ b. cond b (line ∷ lines) (last_whole lines)) whole;
  first_ones =
      ap (λ n. cond (nat_eq n 0 && completes line lines) (positions_of (line ∷ lines)) (first_positions lines)) none
      ∙ (ap (λ b. cond b (positions_of (line ∷ lines)) (first_positions lines)) whole ∙ ap (λ (d : Draft). d.world.positions) f.draft);
}

-- All rows.

pub each_left : {X : Type 0} (P : X → Type 0) (xs ys : List X) → AllByRecursion P (xs ++ ys) → AllByRecursion P xs
each_left P [] ys all = tt
each_left P (x ∷ xs) ys all = (all.0, each_left P xs ys all.1)

pub each_right : {X : Type 0} (P : X → Type 0) (xs ys : List X) → AllByRecursion P (xs ++ ys) → AllByRecursion P ys
each_right P [] ys all = all
each_right P (x ∷ xs) ys all = each_right P xs ys all.1

-- no row is wrong, and the frame is whole behind them
pub record FrameReads (w : Configuration) (mcs : ℕ) (joined : List (List ℕ)) (before : History) (rows : List (List ℕ)) : Type 0 where
  pub right : first_wrong before rows ≡ None
  pub read : IsRead w mcs joined (newest_first before rows)

module _ (w : Configuration) (ok : IsValid w) (mcs : ℕ) where
  abbrev IsBonded : ℕ × ℕ → Type 0
  IsBonded pair = are_bonded w.bonds pair.0 pair.1 ≡ true

  pub frame_reads : (come : List P3) (joined : List (List ℕ)) (lines : History) (row : Row) (rows : List Row) → InFrame w mcs come joined lines → frames_of lines ≡ 0
      → AllByRecursion (IsGoodRow w.set (2 ^ 44)) (row ∷ rows) → AllByRecursion (λ row. IsRow (frame_row row)) (row ∷ rows)
      → come ++ flat_map (row_positions w.set) (row ∷ rows) ≡ w.positions → IsPartOf (length w.positions) joined w.bonds
      → AllByRecursion (λ pair. are_bonded w.bonds pair.0 pair.1 ≡ true) (shown_from (length come) (row ∷ rows))
      → FrameReads w mcs (with_pairs joined (shown_from (length come) (row ∷ rows))) lines (map frame_row (row ∷ rows))
  frame_reads come joined lines row [] f none good rs place part shown =
      let chained = chain (length come) (length row.ids) in
      let all : come ++ row_positions w.set row ≡ w.positions = ap (λ l. come ++ l) (sym (append-nil (row_positions w.set row))) ∙ place in
      let now = IsPartOf-with_pairs (length w.positions) w.bonds ok.bonds joined chained part (each_left IsBonded chained [] shown) in
      let next : InFrame w mcs w.positions (with_pairs joined chained) (frame_row row ∷ lines) =
      subst (λ ps. InFrame w mcs ps (with_pairs joined chained) (frame_row row ∷ lines)) all (InFrame-row w ok mcs come joined lines f row good.0 rs.0 [] place) in
      let read = IsRead-whole w mcs (with_pairs joined chained) lines (frame_row row) next (completes-whole w ok mcs come joined lines f row good.0 rs.0 [] place all) none in
      record {
        right = ap (λ c. refused_at (length lines) c None) (row_cause w ok mcs come joined lines f row good.0 rs.0 [] place now);
        read = subst (λ pairs. IsRead w mcs (with_pairs joined pairs) (frame_row row ∷ lines)) (sym (append-nil chained)) read;
      }
  frame_reads come joined lines row (next_row ∷ rows) f none good rs place part shown =
      let chained = chain (length come) (length row.ids) in
      let rest = flat_map (row_positions w.set) (next_row ∷ rows) in
      let later = shown_from (length come + length row.ids + 1) (next_row ∷ rows) in
      let now_joined = with_pairs joined chained in
      let now_come = come ++ row_positions w.set row in
      let now = IsPartOf-with_pairs (length w.positions) w.bonds ok.bonds joined chained part (each_left IsBonded chained later shown) in
      let next = InFrame-row w ok mcs come joined lines f row good.0 rs.0 rest place in
      let next_place : now_come ++ rest ≡ w.positions = append_assoc come (row_positions w.set row) rest ∙ place in
      let size : length come + length row.ids + 1 ≡ length now_come = omega (arith, length-append come (row_positions w.set row), length-row w.set row) in
      let short : length now_come < length w.positions =
      omega (arith, ap length next_place, length-append now_come rest, length-append (row_positions w.set next_row) (flat_map (row_positions w.set) rows), length-row w.set next_row) in
      let next_none = frames_of-part w ok mcs come joined lines f row good.0 rs.0 rest place none short in
      let next_shown : AllByRecursion IsBonded (shown_from (length now_come) (next_row ∷ rows)) =
      subst (λ k. AllByRecursion IsBonded (shown_from k (next_row ∷ rows))) size (each_right IsBonded chained later shown) in
      let step = frame_reads now_come now_joined (frame_row row ∷ lines) next_row rows next next_none good.1 rs.1 next_place now next_shown in
      let pairs : with_pairs joined (shown_from (length come) (row ∷ next_row ∷ rows)) ≡ with_pairs now_joined (shown_from (length now_come) (next_row ∷ rows)) =
      with_pairs-append joined chained later ∙ ap (λ k. with_pairs now_joined (shown_from k (next_row ∷ rows))) size in
      record {
        right = ap (λ c. refused_at (length lines) c (first_wrong (frame_row row ∷ lines) (map frame_row (next_row ∷ rows)))) (row_cause w ok mcs come joined lines f row good.0 rs.0 rest place now) ∙ step.right;
        read = subst (λ bonds. IsRead w mcs bonds (newest_first (frame_row row ∷ lines) (map frame_row (next_row ∷ rows)))) (sym pairs) step.read;
      }
