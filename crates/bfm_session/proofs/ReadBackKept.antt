-- The kept part of an accepted file is accepted, and gives the same.
use Rattle.std.proofs.Common.{◌≡◌, ◌≢◌, ℕ, ◌+◌, Bool, true, false, cond, ◌&&◌, ◌⊎◌, inl, inr, nat_eq, List, [], ◌∷◌, ◌++◌, length, take, None, Ok, refl, sym, ap, ◌∙◌, subst, ⊎_elim, append_assoc, append-nil, arith}
use Rattle.std.specs.List.{AllByRecursion}
use Rattle.std.proofs.lemmas.Bool.{cases_Bool}
use Rattle.std.proofs.lemmas.List.{take_at}
use Rattle.std.proofs.lemmas.List.Elements.{recursion_from_All}
use Rattle.bfm_lexer.specs.Lines.{finished_lines, unfinished}
use Rattle.bfm_lexer.proofs.LinesLemmas.{lines-whole, All-finished_lines}
use Rattle.bfm_commands.specs.History.{History, mcs_of, draft_of, positions_of, completes, last_whole, frames_of, first_positions, skipped_of}
use Rattle.bfm_commands.specs.Causes.{cause_of}
use Rattle.bfm_commands.specs.Verdict.{newest_first, history_of, refused_at, first_wrong, first_wrong_of, bytes_in, verdict_of}
use Rattle.bfm_commands.specs.declared.loaded.Loaded.{Loaded}
use Rattle.bfm_session.proofs.ReadBackLines.{text_of, text_of-append, finished_lines-each}
use Rattle.bfm_session.proofs.ReadBackFrame.{each_left}
use Rattle.bfm_session.proofs.ReadBackWalk.{both_right}
use Rattle.bfm_session.proofs.ReadBackLater.{Told, Holds}
use Rattle.bfm_session.proofs.ReadBackFile.{bytes_in-rows, Accepted-verdict, EndsWhole, EndsWhole-newest, Holds-whole, verdict_of-held}

-- The lines up to the last whole frame are the first of the lines.

record Splits (before : History) (rows : List (List ℕ)) : Type 0 where
  front : List (List ℕ)
  back : List (List ℕ)
  all : rows ≡ front ++ back
  last : last_whole (newest_first before rows) ≡ newest_first before front

split_rows : (before : History) (rows : List (List ℕ)) → Splits before rows ⊎ (last_whole (newest_first before rows) ≡ last_whole before)
split_rows before [] = inr refl
split_rows before (line ∷ rows) =
    elim (split_rows (line ∷ before) rows) [
      | inl s ↦ inl (record { front = line ∷ s.front; back = s.back; all = ap (λ l. line ∷ l) s.all; last = s.last })
      | inr same ↦
          ⊎_elim
          (λ (whole : completes line before ≡ true).
          inl (record { front = line ∷ []; back = rows; all = refl; last = same ∙ ap (λ b. cond b (line ∷ before) (last_whole before)) whole }))
          (λ (part : completes line before ≡ false). inr (same ∙ ap (λ b. cond b (line ∷ before) (last_whole before)) part))
          (cases_Bool (completes line before))
    ]

split_all : (rows : List (List ℕ)) → Splits [] rows
split_all rows = elim (split_rows [] rows) [ inl s ↦ s | inr none ↦ record { front = []; back = rows; all = refl; last = none } ]

-- They tell what all lines tell.

record EndsSame (lines : History) : Type 0 where
  ends : EndsWhole (last_whole lines)
  frames : frames_of (last_whole lines) ≡ frames_of lines
  first : first_positions (last_whole lines) ≡ first_positions lines

pub and_none : (a : Bool) → (a && false) ≡ false
and_none true = refl
and_none false = refl

ends_same : (lines : History) → frames_of lines ≢ 0 → EndsSame lines
ends_same [] some = absurd (some refl)
ends_same (line ∷ before) some =
    ⊎_elim
    (λ (whole : completes line before ≡ true).
    let last : last_whole (line ∷ before) ≡ line ∷ before = ap (λ b. cond b (line ∷ before) (last_whole before)) whole in
    record { ends = subst EndsWhole (sym last) (EndsWhole-newest line before whole); frames = ap frames_of last; first = ap first_positions last })
    (λ (part : completes line before ≡ false).
    let last : last_whole (line ∷ before) ≡ last_whole before = ap (λ b. cond b (line ∷ before) (last_whole before)) part in
    let count : frames_of (line ∷ before) ≡ frames_of before = ap (λ b. cond b (frames_of before + 1) (frames_of before)) part in
    let ones : first_positions (line ∷ before) ≡ first_positions before =
    ap (λ b. cond (nat_eq (frames_of before) 0 && b) (positions_of (line ∷ before)) (first_positions before)) part
    ∙ ap (λ b. cond b (positions_of (line ∷ before)) (first_positions before)) (and_none (nat_eq (frames_of before) 0)) in
    let same = ends_same before (λ none. some (count ∙ none)) in
    record { ends = subst EndsWhole (sym last) same.ends; frames = ap frames_of last ∙ (same.frames ∙ sym count); first = ap first_positions last ∙ (same.first ∙ sym ones) })
    (cases_Bool (completes line before))

-- no line of a front is wrong
pub first_wrong-front : (before : History) (xs ys : List (List ℕ)) → first_wrong before (xs ++ ys) ≡ None → first_wrong before xs ≡ None
first_wrong-front before [] ys e = refl
first_wrong-front before (x ∷ xs) ys e =
    let parts = both_right (length before) (cause_of before x) (first_wrong (x ∷ before) (xs ++ ys)) e in
    ap (λ c. refused_at (length before) c (first_wrong (x ∷ before) xs)) parts.0 ∙ first_wrong-front (x ∷ before) xs ys parts.1

-- what the kept part gives: as many commands may be skipped as stand in it
abbrev pub kept_loaded : List ℕ → Loaded → Loaded
kept_loaded bytes loaded = record {
  world = loaded.world;
  first = loaded.first;
  mcs = loaded.mcs;
  frames = loaded.frames;
  kept = length (take loaded.kept bytes);
  total = length (take loaded.kept bytes);
  skipped = skipped_of (last_whole (history_of bytes));
}

pub verdict_of-kept : (bytes : List ℕ) (loaded : Loaded) → verdict_of bytes ≡ Ok loaded → verdict_of (take loaded.kept bytes) ≡ Ok (kept_loaded bytes loaded)
verdict_of-kept bytes loaded verdict =
    let a = Accepted-verdict bytes loaded verdict in
    let lines = history_of bytes in
    let s = split_all (finished_lines bytes) in
    let same = ends_same lines a.some in
    let size : loaded.kept ≡ length (text_of s.front) =
    sym (ap (λ (l : Loaded). l.kept) a.gives) ∙ (ap bytes_in s.last ∙ omega (arith, bytes_in-rows [] s.front)) in
    let whole : bytes ≡ text_of s.front ++ (text_of s.back ++ unfinished bytes) =
    sym (lines-whole bytes) ∙ (ap (λ rows. text_of rows ++ unfinished bytes) s.all
    ∙ (ap (λ l. l ++ unfinished bytes) (text_of-append s.front s.back) ∙ append_assoc (text_of s.front) (text_of s.back) (unfinished bytes))) in
    let part : take loaded.kept bytes ≡ text_of s.front = ap (take loaded.kept) whole ∙ take_at (text_of s.front) (text_of s.back ++ unfinished bytes) loaded.kept (sym size) in
    let each : AllByRecursion (λ row. finished_lines row ≡ []) s.front =
    each_left (λ row. finished_lines row ≡ []) s.front s.back
    (subst (AllByRecursion (λ row. finished_lines row ≡ [])) s.all (recursion_from_All (λ row. finished_lines row ≡ []) (finished_lines bytes) (All-finished_lines bytes))) in
    let rows : finished_lines (take loaded.kept bytes) ≡ s.front =
    ap finished_lines (part ∙ sym (append-nil (text_of s.front))) ∙ (finished_lines-each s.front [] each ∙ append-nil s.front) in
    let right : first_wrong_of (take loaded.kept bytes) ≡ None =
    ap (first_wrong []) rows ∙ first_wrong-front [] s.front s.back (ap (first_wrong []) (sym s.all) ∙ a.right) in
    let told : Told = record { first = loaded.first; frames = loaded.frames; skipped = skipped_of (last_whole lines) } in
    let frames = same.frames ∙ ap (λ (l : Loaded). l.frames) a.gives in
    let world : (draft_of (last_whole lines)).world ≡ loaded.world = ap (λ (l : Loaded). l.world) a.gives in
    let time : mcs_of (last_whole lines) ≡ loaded.mcs = ap (λ (l : Loaded). l.mcs) a.gives in
    let first = same.first ∙ ap (λ (l : Loaded). l.first) a.gives in
    let holds : Holds loaded.world loaded.mcs told (last_whole lines) =
    subst (λ w. Holds w loaded.mcs told (last_whole lines)) world (subst (λ t. Holds (draft_of (last_whole lines)).world t told (last_whole lines)) time
    (Holds-whole (last_whole lines) told same.ends first frames (λ none. a.some (ap (λ (l : Loaded). l.frames) a.gives ∙ none)) refl)) in
    verdict_of-held (take loaded.kept bytes) loaded.world loaded.mcs told (last_whole lines) (ap (newest_first []) rows ∙ sym s.last) right holds same.ends.last
    (ap bytes_in s.last ∙ (omega (arith, bytes_in-rows [] s.front, ap length part)))
