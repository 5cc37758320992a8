-- A front of an accepted file, cut behind a frame and before the end of the next one, gives what that frame gives.
use Rattle.std.proofs.Common.{◌≡◌, ◌≢◌, ℕ, ◌+◌, ◌<◌, ◌≤◌, true, false, cond, ◌&&◌, nat_eq, List, [], ◌∷◌, ◌++◌, length, None, Ok, Err, refl, sym, ap, ◌∙◌, ⊎_elim, length-append, arith}
use Rattle.std.proofs.lemmas.Bool.{cases_Bool}
use Rattle.std.proofs.lemmas.Bool.Decides.{nat_tests}
use Rattle.bfm_base.specs.declared.cause.Cause.TheVariants.{NoFrame}
use Rattle.bfm_lexer.specs.Lines.{finished_lines, unfinished}
use Rattle.bfm_lexer.proofs.LinesLemmas.{finished_lines-append, lines-whole}
use Rattle.bfm_commands.specs.History.{History, mcs_of, draft_of, positions_of, completes, last_whole, frames_of, first_positions, skipped_of}
use Rattle.bfm_commands.specs.Verdict.{newest_first, history_of, first_wrong, first_wrong_of, bytes_in, loaded_of, whole_or, verdict_of}
use Rattle.bfm_commands.specs.declared.loaded.Loaded.{Loaded}
use Rattle.bfm_session.proofs.ReadBackLines.{text_of}
use Rattle.bfm_session.proofs.ReadBackWalk.{newest_first-append}
use Rattle.bfm_session.proofs.ReadBackKept.{and_none, first_wrong-front}
use Rattle.bfm_session.proofs.ReadBackFile.{bytes_in-rows, last_shorter, Accepted-verdict}

-- Lines that make no frame whole.

more_frames : (before : History) (rows : List (List ℕ)) → frames_of before ≤ frames_of (newest_first before rows)
more_frames before [] = omega arith
more_frames before (row ∷ rows) =
    let later = more_frames (row ∷ before) rows in
    ⊎_elim
    (λ (whole : completes row before ≡ true). omega (arith, later, ap (λ b. cond b (frames_of before + 1) (frames_of before)) whole))
    (λ (part : completes row before ≡ false). omega (arith, later, ap (λ b. cond b (frames_of before + 1) (frames_of before)) part))
    (cases_Bool (completes row before))

-- the last whole frame and the first one are those of the lines before
record StaySame (old new : History) : Type 0 where
  last : last_whole new ≡ last_whole old
  first : first_positions new ≡ first_positions old

stay_same : (before : History) (rows : List (List ℕ)) → frames_of (newest_first before rows) ≡ frames_of before → StaySame before (newest_first before rows)
stay_same before [] e = record { last = refl; first = refl }
stay_same before (row ∷ rows) e =
    let later = more_frames (row ∷ before) rows in
    ⊎_elim
    (λ (whole : completes row before ≡ true). absurd (omega (arith, later, e, ap (λ b. cond b (frames_of before + 1) (frames_of before)) whole)))
    (λ (part : completes row before ≡ false).
    let count : frames_of (row ∷ before) ≡ frames_of before = ap (λ b. cond b (frames_of before + 1) (frames_of before)) part in
    let same = stay_same (row ∷ before) rows (e ∙ sym count) in
    record {
      last = same.last ∙ ap (λ b. cond b (row ∷ before) (last_whole before)) part;
      first = same.first
          ∙ (ap (λ b. cond (nat_eq (frames_of before) 0 && b) (positions_of (row ∷ before)) (first_positions before)) part
          ∙ ap (λ b. cond b (positions_of (row ∷ before)) (first_positions before)) (and_none (nat_eq (frames_of before) 0)));
    })
    (cases_Bool (completes row before))

-- The lines of bytes that are cut.

-- the lines are those before the cut, and then others
history_of-append : (xs ys : List ℕ) → history_of (xs ++ ys) ≡ newest_first (history_of xs) (finished_lines (unfinished xs ++ ys))
history_of-append xs ys = ap (newest_first []) (finished_lines-append xs ys) ∙ newest_first-append [] (finished_lines xs) (finished_lines (unfinished xs ++ ys))

first_wrong_of-front : (xs ys : List ℕ) → first_wrong_of (xs ++ ys) ≡ None → first_wrong_of xs ≡ None
first_wrong_of-front xs ys right =
    first_wrong-front [] (finished_lines xs) (finished_lines (unfinished xs ++ ys)) (ap (first_wrong []) (sym (finished_lines-append xs ys)) ∙ right)

bytes_in-history : (bytes : List ℕ) → bytes_in (history_of bytes) ≤ length bytes
bytes_in-history bytes =
    omega (arith, bytes_in-rows [] (finished_lines bytes), length-append (text_of (finished_lines bytes)) (unfinished bytes), ap length (lines-whole bytes))

-- A file is accepted, and so is a longer one with one frame more, with which it ends. Then a cut between them gives what the
-- first gives.
module _ (bytes more rest : List ℕ) (old new : Loaded) (first : verdict_of bytes ≡ Ok old) (whole : verdict_of ((bytes ++ more) ++ rest) ≡ Ok new) (one : new.frames ≡ old.frames + 1)
    (kept : new.kept ≡ length ((bytes ++ more) ++ rest)) (behind : length (bytes ++ more) < length ((bytes ++ more) ++ rest)) where
  abbrev cut : History
  cut = history_of (bytes ++ more)

  -- no line between the end of the first file and the cut makes a frame whole
  frames_of-cut : frames_of (history_of (bytes ++ more)) ≡ frames_of (history_of bytes)
  frames_of-cut =
      let before : frames_of (history_of bytes) ≡ old.frames = ap (λ (l : Loaded). l.frames) (Accepted-verdict bytes old first).gives in
      let behind_it = Accepted-verdict ((bytes ++ more) ++ rest) new whole in
      let after : frames_of (history_of ((bytes ++ more) ++ rest)) ≡ new.frames = ap (λ (l : Loaded). l.frames) behind_it.gives in
      let end : bytes_in (last_whole (history_of ((bytes ++ more) ++ rest))) ≡ new.kept = ap (λ (l : Loaded). l.kept) behind_it.gives in
      let rows = finished_lines (unfinished (bytes ++ more) ++ rest) in
      let least = ap frames_of (history_of-append bytes more) in
      let most = ap frames_of (history_of-append (bytes ++ more) rest) in
      ⊎_elim
      (λ (all : nat_eq (frames_of cut) new.frames ≡ true).
      let same : frames_of (newest_first cut rows) ≡ frames_of cut = let e = equal (frames_of cut) new.frames all in omega (arith, e, most, after) in
      let last = ap last_whole (history_of-append (bytes ++ more) rest) ∙ (stay_same cut rows same).last in
      absurd (omega (arith, ap bytes_in last, end, kept, behind, last_shorter cut, bytes_in-history (bytes ++ more))))
      (λ (less : nat_eq (frames_of cut) new.frames ≡ false).
      let e = other (frames_of cut) new.frames less in
      omega (arith, e, before, after, one, least, most, more_frames (history_of bytes) (finished_lines (unfinished bytes ++ more)), more_frames cut rows))
      (cases_Bool (nat_eq (frames_of cut) new.frames))
    where
      equal : (a b : ℕ) → nat_eq a b ≡ true → a ≡ b
      equal a b e = grind (arith, nat_tests)

      other : (a b : ℕ) → nat_eq a b ≡ false → a ≢ b
      other a b e = grind (arith, nat_tests)

  pub verdict_of-cut : verdict_of (bytes ++ more) ≡ Ok (record old { total = length (bytes ++ more); skipped = skipped_of (history_of (bytes ++ more)) })
  verdict_of-cut =
      let before = Accepted-verdict bytes old first in
      let lines = history_of-append bytes more in
      let right = first_wrong_of-front (bytes ++ more) rest (Accepted-verdict ((bytes ++ more) ++ rest) new whole).right in
      let same = stay_same (history_of bytes) (finished_lines (unfinished bytes ++ more)) (ap frames_of (sym lines) ∙ frames_of-cut) in
      let last : last_whole cut ≡ last_whole (history_of bytes) = ap last_whole lines ∙ same.last in
      let world = ap (λ l. (draft_of l).world) last ∙ ap (λ (l : Loaded). l.world) before.gives in
      let ones = ap first_positions lines ∙ (same.first ∙ ap (λ (l : Loaded). l.first) before.gives) in
      let time = ap mcs_of last ∙ ap (λ (l : Loaded). l.mcs) before.gives in
      let count = frames_of-cut ∙ ap (λ (l : Loaded). l.frames) before.gives in
      let part = ap bytes_in last ∙ ap (λ (l : Loaded). l.kept) before.gives in
      let gives : loaded_of (length (bytes ++ more)) cut ≡ record old { total = length (bytes ++ more); skipped = skipped_of cut } =
      λ i. record { world = world i; first = ones i; mcs = time i; frames = count i; kept = part i; total = length (bytes ++ more); skipped = skipped_of cut } in
      let some : nat_eq (frames_of cut) 0 ≡ false = ap (λ n. nat_eq n 0) frames_of-cut ∙ not_none (frames_of (history_of bytes)) before.some in
      ap (whole_or (length (bytes ++ more)) cut) right
      ∙ (ap (λ b. cond b (Err (record { line = length cut + 1; cause = NoFrame })) (Ok (loaded_of (length (bytes ++ more)) cut))) some ∙ ap (λ loaded. Ok loaded) gives)
    where
      not_none : (n : ℕ) → n ≢ 0 → nat_eq n 0 ≡ false
      not_none n some = grind (arith, nat_tests)
