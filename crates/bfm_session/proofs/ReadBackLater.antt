-- A later frame of a valid world, read behind whole frames.
use Rattle.std.proofs.Common.{◌≡◌, ◌≢◌, ℕ, ◌+◌, ◌<◌, ◌≤◌, ◌^◌, Bool, true, false, cond, not, ◌&&◌, nat_eq, nat_lt, nat_le, pos, List, [], ◌∷◌, ◌++◌, length, map, decimal, None, Some, Ok, unwrap_or, refl, sym, ap, ◌∙◌, subst, append_assoc, append-nil, length-append, arith}
use Rattle.std.specs.Result.{result_ok}
use Rattle.std.specs.List.{AllByRecursion, flat_map}
use Rattle.std.proofs.lemmas.Bool.Decides.{nat_tests}
use Rattle.bfm_base.specs.declared.place.P3.{P3}
use Rattle.bfm_world.specs.Bonds.{are_bonded}
use Rattle.bfm_world.specs.Configuration.{Configuration, IsValid}
use Rattle.bfm_world.specs.Draft.{with_positions}
use Rattle.bfm_writer.specs.Rows.{Row, row_positions}
use Rattle.bfm_commands.specs.Forms.{value_number, frame_line}
use Rattle.bfm_commands.specs.Meaning.{nothing, command, entry, meaning_of, role_of}
use Rattle.bfm_commands.specs.Placing.{with_later_line}
use Rattle.bfm_commands.specs.History.{History, has_begun, header_of, owner_after, owner_of, given_of, natural_in, count_in, line_positions, string_positions, positions_of, chain, mcs_of, is_first_frame, draft_of, completes, last_whole, frames_of, first_positions, is_skipped, skipped_of}
use Rattle.bfm_commands.specs.Causes.{entered, string_cause, frame_cause, entry_cause, known_cause, cause_of}
use Rattle.bfm_commands.specs.Reading.{is_complete, taken_line}
use Rattle.bfm_commands.specs.Verdict.{newest_first, refused_at, first_wrong}
use Rattle.bfm_commands.specs.declared.commands.Known.TheVariants.{Mcs}
use Rattle.bfm_commands.specs.declared.owner.Owner.TheVariants.{Command}
use Rattle.bfm_commands.proofs.SumLemmas.{no_entry}
use Rattle.bfm_commands.proofs.HistoryLemmas.{has_begun-more, is_first_frame-same, is_first_frame-next, owner_of-line, mcs_of-line, draft_of-same, draft_of-next, draft_of-taken, completes-line, frames_of-other, first_positions-other}
use Rattle.bfm_session.proofs.ReadBackLines.{IsRow}
use Rattle.bfm_session.proofs.ReadBackRows.{time_row, frame_row}
use Rattle.bfm_session.proofs.ReadBackEntries.{IsShort-extent, value_number-back, frame_line-back}
use Rattle.bfm_session.proofs.ReadBackMeanings.{IsRow-assigned, meaning-blank, meaning-assigned, meaning-number}
use Rattle.bfm_session.proofs.ReadBackPlain.{begins-frame}
use Rattle.bfm_session.proofs.ReadBackWalk.{no_entry_nothing}
use Rattle.bfm_session.proofs.ReadBackLists.{cause_of-row}
use Rattle.bfm_session.proofs.ReadBackRowsOf.{IsGoodRow, string_positions-row, shown_from}
use Rattle.bfm_session.proofs.ReadBackPlacing.{partly, string_cause-later}
use Rattle.bfm_session.proofs.ReadBackFrame.{length-row, each_left, each_right}

-- what whole frames have told besides the world: the first positions, how many frames there are, and how many commands were skipped
pub record Told : Type 0 where
  pub first : List P3
  pub frames : ℕ
  pub skipped : ℕ

-- Whole frames have come, the last of them at a time, and this is the world that they give.
pub record Holds (w : Configuration) (mcs : ℕ) (told : Told) (lines : History) : Type 0 where
  pub begun : has_begun lines ≡ true
  pub draft : draft_of lines ≡ partly w w.positions w.bonds
  pub time : mcs_of lines ≡ mcs
  pub first_ones : first_positions lines ≡ told.first
  pub frame_count : frames_of lines ≡ told.frames
  pub some : told.frames ≢ 0
  pub skips : skipped_of lines ≡ told.skipped

-- In a frame behind them, these positions have come.
pub record InLater (w : Configuration) (mcs : ℕ) (told : Told) (come : List P3) (lines : History) : Type 0 where
  pub begun : has_begun lines ≡ true
  pub later : is_first_frame lines ≡ false
  pub owner : owner_of lines ≡ Command Mcs
  pub draft : draft_of lines ≡ partly w come w.bonds
  pub time : mcs_of lines ≡ mcs
  pub first_ones : first_positions lines ≡ told.first
  pub frame_count : frames_of lines ≡ told.frames
  pub some : told.frames ≢ 0
  pub skips : skipped_of lines ≡ told.skipped

-- An empty line.

pub Holds-blank : (w : Configuration) (mcs : ℕ) (told : Told) (lines : History) → Holds w mcs told lines → Holds w mcs told ([] ∷ lines)
Holds-blank w mcs told lines h = record {
  begun = has_begun-more [] lines h.begun;
  draft = draft_of-same [] lines nothing meaning-blank (no_entry_nothing (owner_of lines)) h.begun refl ∙ h.draft;
  time = mcs_of-line [] lines nothing meaning-blank ∙ h.time;
  first_ones = first_positions-other [] lines nothing meaning-blank (no_entry_nothing (owner_of lines) Mcs) ∙ h.first_ones;
  frame_count = frames_of-other [] lines nothing meaning-blank (no_entry_nothing (owner_of lines) Mcs) ∙ h.frame_count;
  some = h.some;
  skips = ap (λ x. cond (is_skipped x) (skipped_of lines + 1) (skipped_of lines)) meaning-blank ∙ h.skips;
}

-- The line of the time.

next_cause : (before : History) (mcs : ℕ) (rest : List ℕ) → value_number rest ≡ Some (pos mcs) → nat_le 0 mcs ≡ true → nat_le mcs (2 ^ 40) ≡ true → has_begun before ≡ true
    → nat_eq (length (positions_of before)) (count_in (given_of (header_of before))) ≡ true → nat_lt mcs (mcs_of before) ≡ false → known_cause before Mcs (role_of Mcs) rest ≡ None
next_cause before mcs rest number low high begun whole order = rw (number, low, high, begun, whole, order) refl

-- the world w has stood, and the world v of as many monomers comes, which differs from it in the positions only
module _ (w v : Configuration) (same : record w { positions = v.positions } ≡ v) (size : length w.positions ≡ length v.positions) (old mcs : ℕ) (told : Told) (before : History) (h : Holds w old told before)
    (order : old ≤ mcs) (early : mcs ≤ 2 ^ 40) where
  small : mcs < 10 ^ 64
  small = omega arith

  is : meaning_of (time_row mcs) ≡ command (Some Mcs) (61 ∷ decimal mcs)
  is = meaning-assigned Mcs mcs small

  pub next_time_cause : cause_of before (time_row mcs) ≡ None
  next_time_cause =
      let low : nat_le 0 mcs ≡ true = grind (arith, nat_tests) in
      let high : nat_le mcs (2 ^ 40) ≡ true = grind (arith, nat_tests) in
      let back : nat_lt mcs (mcs_of before) ≡ false = ap (nat_lt mcs) h.time ∙ not_less old mcs order in
      let whole : is_complete (draft_of before) ≡ true = ap is_complete h.draft ∙ itself (length w.positions) in
      cause_of-row before (time_row mcs) (command (Some Mcs) (61 ∷ decimal mcs)) (IsRow-assigned Mcs mcs small) is
      ∙ next_cause before mcs (61 ∷ decimal mcs) (value_number-back mcs small) low high h.begun whole back
    where
      not_less : (a b : ℕ) → a ≤ b → nat_lt b a ≡ false
      not_less a b l = grind (arith, nat_tests)

      itself : (n : ℕ) → nat_eq n n ≡ true
      itself n = grind (arith, nat_tests)

  pub InLater-begun : InLater v mcs told [] (time_row mcs ∷ before)
  InLater-begun =
      let m = command (Some Mcs) (61 ∷ decimal mcs) in
      let none = no_entry (owner_of before) (Some Mcs) (61 ∷ decimal mcs) in
      let fresh : partly w [] w.bonds ≡ partly v [] v.bonds =
      (λ i. record { world = record w { positions = [] }; count = size i }) ∙ ap (λ (u : Configuration). record { world = record u { positions = [] }; count = length v.positions }) same in
      record {
        begun = has_begun-more (time_row mcs) before h.begun;
        later = is_first_frame-next (time_row mcs) before m is refl ∙ ap not h.begun;
        owner = owner_of-line (time_row mcs) before m is;
        draft = draft_of-next (time_row mcs) before m is (λ known. none known) h.begun refl ∙ (ap (λ d. with_positions d []) h.draft ∙ fresh);
        time = mcs_of-line (time_row mcs) before m is ∙ ap (λ o. unwrap_or (natural_in o) 0) (value_number-back mcs small);
        first_ones = first_positions-other (time_row mcs) before m is (none Mcs) ∙ h.first_ones;
        frame_count = frames_of-other (time_row mcs) before m is (none Mcs) ∙ h.frame_count;
        some = h.some;
        skips = ap (λ x. cond (is_skipped x) (skipped_of before + 1) (skipped_of before)) is ∙ h.skips;
      }

-- One row.

module _ (w : Configuration) (ok : IsValid w) (mcs : ℕ) (told : Told) (come : List P3) (lines : History) (f : InLater w mcs told come lines)
    (row : Row) (good : IsGoodRow w.set (2 ^ 44) row) (r : IsRow (frame_row row)) (more : List P3) (place : come ++ (row_positions w.set row ++ more) ≡ w.positions) where
  row_is : meaning_of (frame_row row) ≡ entry (frame_row row)
  row_is = meaning-number (frame_row row) r (begins-frame row (IsShort-extent row.start (2 ^ 44) good.near (omega arith)))

  form : frame_line (frame_row row) ≡ Ok (row.start, row.ids)
  form = frame_line-back row good.near

  pub later_row_cause : AllByRecursion (λ pair. are_bonded w.bonds pair.0 pair.1 ≡ true) (chain (length come) (length row.ids)) → cause_of lines (frame_row row) ≡ None
  later_row_cause shown =
      let place_here : come ++ (string_positions w.set (row.start, row.ids) ++ more) ≡ w.positions = ap (λ ps. come ++ (ps ++ more)) (string_positions-row w.set row) ∙ place in
      cause_of-row lines (frame_row row) (entry (frame_row row)) r row_is
      ∙ (ap (λ o. entry_cause lines o (frame_row row)) f.owner
      ∙ (ap (λ b. frame_cause b (draft_of lines) (frame_row row)) f.later
      ∙ (ap (λ d. frame_cause false d (frame_row row)) f.draft
      ∙ (ap (entered (string_cause false (partly w come w.bonds))) form
      ∙ string_cause-later w ok come more (row.start, row.ids) good.known place_here shown))))

  later_draft : draft_of (frame_row row ∷ lines) ≡ partly w (come ++ row_positions w.set row) w.bonds
  later_draft =
      draft_of-taken (frame_row row) lines (frame_row row) row_is f.begun f.owner false f.later
      ∙ (ap (λ d. taken_line false d (frame_row row)) f.draft
      ∙ (ap (λ o. with_later_line (partly w come w.bonds) (line_positions w.set (result_ok o))) form
      ∙ ap (λ ps. partly w (come ++ ps) w.bonds) (string_positions-row w.set row)))

  completes_row : completes (frame_row row) lines ≡ nat_eq (length (come ++ row_positions w.set row)) (length w.positions)
  completes_row = completes-line (frame_row row) lines (frame_row row) row_is f.begun f.owner ∙ ap is_complete later_draft

  -- the frame is not whole yet
  pub InLater-row : length (come ++ row_positions w.set row) < length w.positions → InLater w mcs told (come ++ row_positions w.set row) (frame_row row ∷ lines)
  InLater-row l =
      let part : completes (frame_row row) lines ≡ false = completes_row ∙ less (length (come ++ row_positions w.set row)) (length w.positions) l in
      record {
        begun = has_begun-more (frame_row row) lines f.begun;
        later = is_first_frame-same (frame_row row) lines (entry (frame_row row)) row_is refl ∙ f.later;
        owner = owner_of-line (frame_row row) lines (entry (frame_row row)) row_is ∙ ap (λ o. owner_after o (entry (frame_row row))) f.owner;
        draft = later_draft;
        time = mcs_of-line (frame_row row) lines (entry (frame_row row)) row_is ∙ f.time;
        first_ones = ap (λ b. cond (nat_eq (frames_of lines) 0 && b) (positions_of (frame_row row ∷ lines)) (first_positions lines)) part
            ∙ (ap (λ b. cond b (positions_of (frame_row row ∷ lines)) (first_positions lines)) (and_none (nat_eq (frames_of lines) 0)) ∙ f.first_ones);
        frame_count = ap (λ b. cond b (frames_of lines + 1) (frames_of lines)) part ∙ f.frame_count;
        some = f.some;
        skips = ap (λ x. cond (is_skipped x) (skipped_of lines + 1) (skipped_of lines)) row_is ∙ f.skips;
      }
    where
      less : (a b : ℕ) → a < b → nat_eq a b ≡ false
      less a b l = grind (arith, nat_tests)

      and_none : (a : Bool) → (a && false) ≡ false
      and_none true = refl
      and_none false = refl

  -- the frame is whole
  pub Holds-row : come ++ row_positions w.set row ≡ w.positions
      → Holds w mcs (record told { frames = told.frames + 1 }) (frame_row row ∷ lines) × (last_whole (frame_row row ∷ lines) ≡ frame_row row ∷ lines)
  Holds-row all =
      let whole : completes (frame_row row) lines ≡ true = completes_row ∙ (ap (λ ps. nat_eq (length ps) (length w.positions)) all ∙ itself (length w.positions)) in
      let none : nat_eq (frames_of lines) 0 ≡ false = ap (λ n. nat_eq n 0) f.frame_count ∙ not_none told.frames f.some in (
        record {
          begun = has_begun-more (frame_row row) lines f.begun;
          draft = later_draft ∙ ap (λ ps. partly w ps w.bonds) all;
          time = mcs_of-line (frame_row row) lines (entry (frame_row row)) row_is ∙ f.time;
          first_ones = ap (λ b. cond (b && completes (frame_row row) lines) (positions_of (frame_row row ∷ lines)) (first_positions lines)) none ∙ f.first_ones;
          frame_count = ap (λ b. cond b (frames_of lines + 1) (frames_of lines)) whole ∙ ap (λ n. n + 1) f.frame_count;
          some = more_than_none told.frames;
          skips = ap (λ x. cond (is_skipped x) (skipped_of lines + 1) (skipped_of lines)) row_is ∙ f.skips;
        },
        ap (λ b. cond b (frame_row row ∷ lines) (last_whole lines)) whole,
      )
    where
      itself : (n : ℕ) → nat_eq n n ≡ true
      itself n = grind (arith, nat_tests)

      not_none : (n : ℕ) → n ≢ 0 → nat_eq n 0 ≡ false
      not_none n some = grind (arith, nat_tests)

      more_than_none : (n : ℕ) → n + 1 ≢ 0
      more_than_none n e = absurd (omega (arith, e))

-- All rows.

-- no row is wrong, and the frame is whole behind them
pub record LaterReads (w : Configuration) (mcs : ℕ) (told : Told) (before : History) (rows : List (List ℕ)) : Type 0 where
  pub right : first_wrong before rows ≡ None
  pub holds : Holds w mcs told (newest_first before rows)
  pub last : last_whole (newest_first before rows) ≡ newest_first before rows

module _ (w : Configuration) (ok : IsValid w) (mcs : ℕ) (told : Told) where
  abbrev IsBonded : ℕ × ℕ → Type 0
  IsBonded pair = are_bonded w.bonds pair.0 pair.1 ≡ true

  pub later_reads : (come : List P3) (lines : History) (row : Row) (rows : List Row) → InLater w mcs told come lines
      → AllByRecursion (IsGoodRow w.set (2 ^ 44)) (row ∷ rows) → AllByRecursion (λ row. IsRow (frame_row row)) (row ∷ rows)
      → come ++ flat_map (row_positions w.set) (row ∷ rows) ≡ w.positions
      → AllByRecursion (λ pair. are_bonded w.bonds pair.0 pair.1 ≡ true) (shown_from (length come) (row ∷ rows))
      → LaterReads w mcs (record told { frames = told.frames + 1 }) lines (map frame_row (row ∷ rows))
  later_reads come lines row [] f good rs place shown =
      let chained = chain (length come) (length row.ids) in
      let all : come ++ row_positions w.set row ≡ w.positions = ap (λ l. come ++ l) (sym (append-nil (row_positions w.set row))) ∙ place in
      let whole = Holds-row w ok mcs told come lines f row good.0 rs.0 [] place all in
      record {
        right = ap (λ c. refused_at (length lines) c None) (later_row_cause w ok mcs told come lines f row good.0 rs.0 [] place (each_left IsBonded chained [] shown));
        holds = whole.0;
        last = whole.1;
      }
  later_reads come lines row (next_row ∷ rows) f good rs place shown =
      let chained = chain (length come) (length row.ids) in
      let rest = flat_map (row_positions w.set) (next_row ∷ rows) in
      let after = shown_from (length come + length row.ids + 1) (next_row ∷ rows) in
      let now_come = come ++ row_positions w.set row in
      let next_place : now_come ++ rest ≡ w.positions = append_assoc come (row_positions w.set row) rest ∙ place in
      let size : length come + length row.ids + 1 ≡ length now_come = omega (arith, length-append come (row_positions w.set row), length-row w.set row) in
      let short : length now_come < length w.positions =
      omega (arith, ap length next_place, length-append now_come rest, length-append (row_positions w.set next_row) (flat_map (row_positions w.set) rows), length-row w.set next_row) in
      let next = InLater-row w ok mcs told come lines f row good.0 rs.0 rest place short in
      let next_shown : AllByRecursion IsBonded (shown_from (length now_come) (next_row ∷ rows)) =
      subst (λ k. AllByRecursion IsBonded (shown_from k (next_row ∷ rows))) size (each_right IsBonded chained after shown) in
      let step = later_reads now_come (frame_row row ∷ lines) next_row rows next good.1 rs.1 next_place next_shown in
      record {
        right = ap (λ c. refused_at (length lines) c (first_wrong (frame_row row ∷ lines) (map frame_row (next_row ∷ rows))))
            (later_row_cause w ok mcs told come lines f row good.0 rs.0 rest place (each_left IsBonded chained after shown)) ∙ step.right;
        holds = step.holds;
        last = step.last;
      }
