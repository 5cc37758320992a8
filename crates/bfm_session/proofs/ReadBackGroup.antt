-- A frame that is written behind an accepted file, which ends with its last whole frame, is read back as the file's next one.
use Rattle.std.proofs.Common.{◌≡◌, ℕ, ◌+◌, ◌^◌, ◌≤◌, true, List, [], ◌∷◌, ◌++◌, map, length, None, Ok, sym, ap, ◌∙◌, subst, append-nil, length-append, arith}
use Rattle.std.specs.List.{AllByRecursion, flat_map}
use Rattle.bfm_world.specs.Bonds.{are_bonded}
use Rattle.bfm_world.specs.Configuration.{Configuration, IsValid, reach_of}
use Rattle.bfm_lexer.specs.Lines.{finished_lines, unfinished}
use Rattle.bfm_lexer.proofs.LinesLemmas.{finished_lines-append, lines-whole}
use Rattle.bfm_writer.specs.Rows.{Row, rows_of, row_positions}
use Rattle.bfm_writer.specs.Text.{group_text}
use Rattle.bfm_writer.proofs.RowPositions.{rows_of-positions}
use Rattle.bfm_commands.specs.Meaning.{nothing}
use Rattle.bfm_commands.specs.History.{History, last_whole}
use Rattle.bfm_commands.specs.Verdict.{newest_first, history_of, refused_at, first_wrong, first_wrong_of, bytes_in, verdict_of}
use Rattle.bfm_commands.specs.declared.loaded.Loaded.{Loaded}
use Rattle.bfm_session.proofs.ReadBackLines.{text_of, finished_lines-rows, IsRow, each-append}
use Rattle.bfm_session.proofs.ReadBackRows.{time_row, frame_row, frame_rows, added_rows, group_rows, group_text-added}
use Rattle.bfm_session.proofs.ReadBackMeanings.{meaning-blank}
use Rattle.bfm_session.proofs.ReadBackWalk.{newest_first-append, first_wrong-append}
use Rattle.bfm_session.proofs.ReadBackLists.{cause_of-row}
use Rattle.bfm_session.proofs.ReadBackRowsOf.{IsGoodRow, shown_from, each_shown}
use Rattle.bfm_session.proofs.ReadBackEach.{IsRow-blank, each_good_row, each_frame_row, each_group_row}
use Rattle.bfm_session.proofs.ReadBackLater.{Told, Holds, Holds-blank, next_time_cause, InLater-begun, LaterReads, later_reads}
use Rattle.bfm_session.proofs.ReadBackAdded.{joined, AreLinkable, linked, each_ordered, each_added_row, AddsAll, added_read}
use Rattle.bfm_session.proofs.ReadBackFile.{bytes_in-rows, told_by, HoldsAll, HoldsAll-verdict, verdict_of-held}

-- v is a valid world that differs from w in the positions of its monomers, and in the bonds of these pairs, which are added
-- one after another
pub record IsMoved (w : Configuration) (pairs : List (ℕ × ℕ)) (v : Configuration) : Type 0 where
  pub valid : IsValid v
  pub size : length w.positions ≡ length v.positions
  pub rest : record w { positions = v.positions; bonds = joined w.bonds pairs } ≡ v
  pub each : AreLinkable (length w.positions) w.bonds pairs

-- the lines of one more frame, behind lines that hold a world
module _ (w v : Configuration) (pairs : List (ℕ × ℕ)) (moved : IsMoved w pairs v) (near : reach_of v.positions ≤ 2 ^ 44) (old mcs : ℕ) (order : old ≤ mcs) (early : mcs ≤ 2 ^ 40) (told : Told) (lines : History)
    (h : Holds w old told lines) where
  -- the lines up to the last bond that is added
  abbrev added_lines : History
  added_lines = newest_first ([] ∷ lines) (added_rows pairs)

  abbrev begun_lines : History
  begun_lines = time_row mcs ∷ newest_first ([] ∷ lines) (added_rows pairs)

  few : length w.positions ≤ 262144
  few = omega (arith, moved.size, moved.valid.few)

  added : AddsAll (linked w pairs) old told ([] ∷ lines) (added_rows pairs)
  added = added_read w old told ([] ∷ lines) (Holds-blank w old told lines h) few pairs moved.each

  rows_read : (rows : List Row) → AllByRecursion (IsGoodRow v.set (2 ^ 44)) rows → AllByRecursion (λ row. IsRow (frame_row row)) rows → flat_map (row_positions v.set) rows ≡ v.positions
      → AllByRecursion (λ pair. are_bonded v.bonds pair.0 pair.1 ≡ true) (shown_from 0 rows) → LaterReads v mcs (record told { frames = told.frames + 1 }) begun_lines (map frame_row rows)
  rows_read [] good is place shown = absurd (omega (arith, ap length place, moved.valid.some))
  rows_read (row ∷ rows) good is place shown =
      later_reads v moved.valid mcs told [] begun_lines row rows (InLater-begun (linked w pairs) v moved.rest moved.size old mcs told added_lines added.holds order early) good is place shown

  frame_read : LaterReads v mcs (record told { frames = told.frames + 1 }) begun_lines (map frame_row (rows_of v))
  frame_read =
      rows_read (rows_of v) (each_good_row v moved.valid near) (each_frame_row v moved.valid near) (rows_of-positions v moved.valid.set) (each_shown v 0 v.positions moved.valid.set)

  pub group_read : LaterReads v mcs (record told { frames = told.frames + 1 }) lines (group_rows v mcs pairs)
  group_read =
      let all : newest_first added_lines (frame_rows v mcs) ≡ newest_first ([] ∷ lines) (added_rows pairs ++ frame_rows v mcs) =
      sym (newest_first-append ([] ∷ lines) (added_rows pairs) (frame_rows v mcs)) in
      record {
        right =
            ap (λ c. refused_at (length lines) c (first_wrong ([] ∷ lines) (added_rows pairs ++ frame_rows v mcs))) (cause_of-row lines [] nothing IsRow-blank meaning-blank)
            ∙ (first_wrong-append ([] ∷ lines) (added_rows pairs) (frame_rows v mcs) added.right
            ∙ (ap (λ c. refused_at (length added_lines) c (first_wrong begun_lines (map frame_row (rows_of v))))
            (next_time_cause (linked w pairs) v moved.rest moved.size old mcs told added_lines added.holds order early)
            ∙ frame_read.right));
        holds = subst (Holds v mcs (record told { frames = told.frames + 1 })) all frame_read.holds;
        last = subst (λ l. last_whole l ≡ l) all frame_read.last;
      }

-- what the file gives with one more frame
abbrev pub with_group : Loaded → Configuration → ℕ → ℕ → Loaded
with_group loaded v mcs total = record {
  world = v;
  first = loaded.first;
  mcs = mcs;
  frames = loaded.frames + 1;
  kept = total;
  total = total;
  skipped = loaded.skipped;
}

-- all bytes are in finished lines
bytes_whole : (bytes : List ℕ) → unfinished bytes ≡ [] → text_of (finished_lines bytes) ≡ bytes
bytes_whole bytes ended = sym (append-nil (text_of (finished_lines bytes))) ∙ (ap (λ u. text_of (finished_lines bytes) ++ u) (sym ended) ∙ lines-whole bytes)

-- The accepted file with one more frame is accepted, and gives the world of that frame.
module _ (bytes : List ℕ) (loaded : Loaded) (verdict : verdict_of bytes ≡ Ok loaded) (kept : loaded.kept ≡ length bytes)
    (v : Configuration) (pairs : List (ℕ × ℕ)) (moved : IsMoved loaded.world pairs v) (near : reach_of v.positions ≤ 2 ^ 44) (mcs : ℕ) (order : loaded.mcs ≤ mcs) (early : mcs ≤ 2 ^ 40) where
  file : HoldsAll bytes loaded
  file = HoldsAll-verdict bytes loaded verdict kept

  read : LaterReads v mcs (record (told_by loaded) { frames = loaded.frames + 1 }) (history_of bytes) (group_rows v mcs pairs)
  read = group_read loaded.world v pairs moved near loaded.mcs mcs order early (told_by loaded) (history_of bytes) file.holds

  written : group_text v mcs pairs ≡ text_of (group_rows v mcs pairs)
  written = group_text-added v mcs pairs (each_ordered (length loaded.world.positions) loaded.world.bonds pairs moved.each)

  rows_plain : AllByRecursion IsRow (group_rows v mcs pairs)
  rows_plain =
      let few : length loaded.world.positions ≤ 262144 = omega (arith, moved.size, moved.valid.few) in
      let added = each_added_row (length loaded.world.positions) loaded.world.bonds pairs few moved.each in
      (IsRow-blank, each-append IsRow (added_rows pairs) (frame_rows v mcs) added (each_group_row v mcs moved.valid near early).1)

  rows_back : finished_lines (bytes ++ group_text v mcs pairs) ≡ finished_lines bytes ++ group_rows v mcs pairs
  rows_back =
      finished_lines-append bytes (group_text v mcs pairs)
      ∙ (ap (λ u. finished_lines bytes ++ finished_lines (u ++ group_text v mcs pairs)) file.ended
      ∙ ap (λ l. finished_lines bytes ++ l)
      (ap finished_lines (written ∙ sym (append-nil (text_of (group_rows v mcs pairs))))
      ∙ (finished_lines-rows (group_rows v mcs pairs) [] rows_plain ∙ append-nil (group_rows v mcs pairs))))

  abbrev lines : History
  lines = newest_first (history_of bytes) (group_rows v mcs pairs)

  pub first_wrong_of-group : first_wrong_of (bytes ++ group_text v mcs pairs) ≡ None
  first_wrong_of-group = ap (first_wrong []) rows_back ∙ (first_wrong-append [] (finished_lines bytes) (group_rows v mcs pairs) file.right ∙ read.right)

  pub verdict_of-group : verdict_of (bytes ++ group_text v mcs pairs) ≡ Ok (with_group loaded v mcs (length (bytes ++ group_text v mcs pairs)))
  verdict_of-group =
      let history : history_of (bytes ++ group_text v mcs pairs) ≡ lines = ap (newest_first []) rows_back ∙ newest_first-append [] (finished_lines bytes) (group_rows v mcs pairs) in
      let size : bytes_in lines ≡ length (bytes ++ group_text v mcs pairs) =
      omega (arith, bytes_in-rows (history_of bytes) (group_rows v mcs pairs), bytes_in-rows [] (finished_lines bytes), ap length (bytes_whole bytes file.ended), ap length written, length-append bytes (group_text v mcs pairs)) in
      verdict_of-held (bytes ++ group_text v mcs pairs) v mcs (record (told_by loaded) { frames = loaded.frames + 1 }) lines history first_wrong_of-group read.holds read.last size
