-- What is written of a valid world with one frame is read back as the same world.
use Rattle.std.proofs.Common.{◌≡◌, ℕ, ◌^◌, ◌≤◌, true, List, [], ◌∷◌, map, length, None, Ok, sym, ap, ◌∙◌, subst, append-nil, arith}
use Rattle.std.specs.List.{AllByRecursion, flat_map}
use Rattle.bfm_world.specs.Bonds.{are_bonded}
use Rattle.bfm_world.specs.Configuration.{Configuration, IsValid, reach_of}
use Rattle.bfm_lexer.specs.Lines.{finished_lines}
use Rattle.bfm_writer.specs.Rows.{Row, rows_of, row_positions}
use Rattle.bfm_writer.proofs.RowPositions.{rows_of-positions}
use Rattle.bfm_commands.specs.Meaning.{nothing}
use Rattle.bfm_commands.specs.History.{History, listed_bonds, with_pairs}
use Rattle.bfm_commands.specs.Causes.{cause_of}
use Rattle.bfm_commands.specs.Verdict.{newest_first, refused_at, first_wrong, first_wrong_of, bytes_in, verdict_of}
use Rattle.bfm_session.specs.Written.{loaded_back, world_text}
use Rattle.bfm_session.proofs.ReadBackLines.{text_of, finished_lines-rows, IsRow}
use Rattle.bfm_session.proofs.ReadBackRows.{listed_pairs, time_row, frame_row, header_rows, frame_rows, world_rows, world_text-rows}
use Rattle.bfm_session.proofs.ReadBackMeanings.{meaning-blank}
use Rattle.bfm_session.proofs.ReadBackWalk.{Says, Says-none, Says-nothing, newest_first-append, first_wrong-append}
use Rattle.bfm_session.proofs.ReadBackLists.{cause_of-row}
use Rattle.bfm_session.proofs.ReadBackHeader.{header_said, header_read}
use Rattle.bfm_session.proofs.ReadBackSettings.{HasThree}
use Rattle.bfm_session.proofs.ReadBackRowsOf.{IsGoodRow, shown_from, each_shown}
use Rattle.bfm_session.proofs.ReadBackTime.{listed_part, time_cause, InFrame-begun, frames_of-begun}
use Rattle.bfm_session.proofs.ReadBackFrame.{IsRead, FrameReads, frame_reads}
use Rattle.bfm_session.proofs.ReadBackPlacing.{partly}
use Rattle.bfm_session.proofs.ReadBackLater.{Holds}
use Rattle.bfm_session.proofs.ReadBackFile.{bytes_in-rows, verdict_of-held}
use Rattle.bfm_session.proofs.ReadBackEach.{IsRow-blank, each_good_row, each_frame_row, each_world_row}
use Rattle.bfm_session.proofs.ReadBackBonded.{bonds_read, bonds_back}

module _ (w : Configuration) (ok : IsValid w) (has : HasThree w.shape) (near : reach_of w.positions ≤ 2 ^ 44) (mcs : ℕ) (early : mcs ≤ 2 ^ 40) where
  -- the lines of the header, and those up to the time
  abbrev header_lines : History
  header_lines = newest_first [] (header_rows w)

  abbrev begun_lines : History
  begun_lines = time_row mcs ∷ [] ∷ header_lines

  header_says : Says header_lines (header_said w)
  header_says = (header_read w ok).after [] Says-none

  blank_says : Says ([] ∷ header_lines) (header_said w)
  blank_says = Says-nothing header_lines (header_said w) [] header_says meaning-blank

  blank_cause : cause_of header_lines [] ≡ None
  blank_cause = cause_of-row header_lines [] nothing IsRow-blank meaning-blank

  -- the rows of the frame
  abbrev listed : List (List ℕ)
  listed = listed_bonds (length w.positions) (listed_pairs w)

  rows_read : (rows : List Row) → AllByRecursion (IsGoodRow w.set (2 ^ 44)) rows → AllByRecursion (λ row. IsRow (frame_row row)) rows → flat_map (row_positions w.set) rows ≡ w.positions
      → AllByRecursion (λ pair. are_bonded w.bonds pair.0 pair.1 ≡ true) (shown_from 0 rows) → FrameReads w mcs (with_pairs listed (shown_from 0 rows)) begun_lines (map frame_row rows)
  rows_read [] good is place shown = absurd (omega (arith, ap length place, ok.some))
  rows_read (row ∷ rows) good is place shown =
      frame_reads w ok mcs [] listed begun_lines row rows (InFrame-begun w ok has ([] ∷ header_lines) blank_says mcs early)
      (frames_of-begun w ok has ([] ∷ header_lines) blank_says mcs early) good is place (listed_part w ok) shown

  frame_read : FrameReads w mcs (bonds_read w) begun_lines (map frame_row (rows_of w))
  frame_read = rows_read (rows_of w) (each_good_row w ok near) (each_frame_row w ok near) (rows_of-positions w ok.set) (each_shown w 0 w.positions ok.set)

  -- no line is wrong
  none_wrong : first_wrong [] (world_rows w mcs) ≡ None
  none_wrong =
      first_wrong-append [] (header_rows w) ([] ∷ frame_rows w mcs) ((header_read w ok).right [] Says-none)
      ∙ (ap (λ c. refused_at (length header_lines) c (first_wrong ([] ∷ header_lines) (frame_rows w mcs))) blank_cause
      ∙ (ap (λ c. refused_at (length ([] ∷ header_lines)) c (first_wrong begun_lines (map frame_row (rows_of w)))) (time_cause w ok has ([] ∷ header_lines) blank_says mcs early)
      ∙ frame_read.right))

  -- the lines, and what they give
  abbrev lines : History
  lines = newest_first [] (world_rows w mcs)

  lines_read : IsRead w mcs (bonds_read w) lines
  lines_read = subst (IsRead w mcs (bonds_read w)) (sym (newest_first-append [] (header_rows w) ([] ∷ frame_rows w mcs))) frame_read.read

  lines_back : finished_lines (world_text w mcs) ≡ world_rows w mcs
  lines_back =
      ap finished_lines (world_text-rows w mcs ∙ sym (append-nil (text_of (world_rows w mcs))))
      ∙ (finished_lines-rows (world_rows w mcs) [] (each_world_row w mcs ok near early) ∙ append-nil (world_rows w mcs))

  -- no line of it is wrong
  pub first_wrong_of-written : first_wrong_of (world_text w mcs) ≡ None
  first_wrong_of-written = ap (first_wrong []) lines_back ∙ none_wrong

  holds : Holds w mcs (record { first = w.positions; frames = 1; skipped = 0 }) lines
  holds =
      let frame = lines_read.frame in
      record {
        begun = frame.begun;
        draft = frame.draft ∙ ap (λ bonds. partly w w.positions bonds) (bonds_back w ok);
        time = frame.time;
        first_ones = lines_read.first_ones;
        frame_count = lines_read.frames;
        some = λ none. absurd (omega (arith, none));
        skips = frame.skipped;
      }

  -- What is written of a world is accepted, and gives the world, whole, with one frame.
  pub verdict_of-written : verdict_of (world_text w mcs) ≡ Ok (loaded_back w mcs)
  verdict_of-written =
      let size : bytes_in lines ≡ length (text_of (world_rows w mcs)) = omega (arith, bytes_in-rows [] (world_rows w mcs)) in
      verdict_of-held (world_text w mcs) w mcs (record { first = w.positions; frames = 1; skipped = 0 }) lines (ap (newest_first []) lines_back) first_wrong_of-written holds lines_read.last
      (size ∙ ap length (sym (world_text-rows w mcs)))
