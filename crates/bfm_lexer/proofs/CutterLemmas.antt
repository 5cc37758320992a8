-- What a cutter of lines holds stands for all the bytes that it has taken.
use Rattle.std.proofs.Common.{◌≡◌, ℕ, ◌+◌, ◌-◌, ◌<◌, ◌≤◌, false, nat_eq, List, [], ◌∷◌, ◌++◌, length, take, drop, slice_range, option_map, Option, length-take, get_or-take, Some, None, refl, sym, ap, ◌∙◌, ⊎_elim, append_assoc, append-nil, arith, length-append, length-drop}
use Rattle.std.proofs.Math.Seq.{take-add}
use Rattle.std.proofs.lemmas.Bool.{cases_Bool, eqb-true, ltb-true, lt-ltb, false_from_ne_true}
use Rattle.std.proofs.lemmas.List.{take_more, take_rest}
use Rattle.std.proofs.lemmas.List.Elements.{All-from_get_or}
use Rattle.std.proofs.lemmas.List.Folds.{list_any_none}
use Rattle.memchr.specs.Find.{Nowhere, NoneBefore, Passes, is_byte}
use Rattle.bfm_lexer.specs.Lines.{finished_lines, unfinished, without_return, is_long}
use Rattle.bfm_lexer.specs.Cutter.{Cutter, kept_of, StandsFor, Finishes, TakesLine, Takes, Answers, joined, cut_of}
use Rattle.bfm_lexer.specs.declared.lines.Cut.TheVariants.{Used}
use Rattle.bfm_lexer.proofs.LinesLemmas.{finished_lines-none, unfinished-none, finished_lines-unfinished, finished_lines-append, unfinished-append, finished_lines-joined, finished_lines-line, unfinished-newline}

-- where a search finds no newline no line is finished
pub finished_lines-nowhere : (bs : List ℕ) → Nowhere (Passes (is_byte 10) bs) 0 (length bs) → finished_lines bs ≡ []
finished_lines-nowhere bs none =
    finished_lines-none bs (list_any_none (λ b. nat_eq b 10) bs
    (All-from_get_or (λ b. nat_eq b 10 ≡ false) bs 0 (λ i below. false_from_ne_true _ (none i (omega arith) below))))

-- before the newline that a search finds no line is finished
pub finished_lines-found : (bs : List ℕ) (end : ℕ) → NoneBefore (Passes (is_byte 10) bs) 0 (length bs) end → finished_lines (take end bs) ≡ []
finished_lines-found bs end found =
    finished_lines-nowhere (take end bs) (λ k low below passes.
    let early : k < end = omega (arith, length-take {A = ℕ}) in
    found.before k low early (ap (is_byte 10) (sym (get_or-take end bs k 0 early)) ∙ passes))

-- the bytes up to the newline that a search finds
pub take-found : (bs : List ℕ) (end : ℕ) → end < length bs → Passes (is_byte 10) bs end → take (end + 1) bs ≡ take end bs ++ 10 ∷ []
take-found bs end below passes = take_more bs end 0 below ∙ ap (λ b. take end bs ++ b ∷ []) (eqb-true _ 10 passes)

-- what is kept of a line that goes on
pub joined-kept_of : (line bytes : List ℕ) → joined (kept_of line) bytes ≡ kept_of (line ++ bytes)
joined-kept_of line bytes =
    ⊎_elim
    (λ long. rw (long, lt-ltb 524287 (length (line ++ bytes)) (omega (arith, ltb-true 524287 (length line) long, length-append line bytes))) refl)
    (λ short. rw short refl)
    (cases_Bool (is_long line))

-- a cutter that took bytes without a newline
pub StandsFor-rest : (old new : Cutter) (before bytes : List ℕ) → finished_lines bytes ≡ [] → StandsFor old before
    → new.pending ≡ joined old.pending bytes → StandsFor new (before ++ bytes) × Answers Used new before (before ++ bytes)
StandsFor-rest old new before bytes none stands is =
    let one = finished_lines-joined (unfinished before) bytes (finished_lines-unfinished before) none in (
      is ∙ ap (λ p. joined p bytes) stands ∙ joined-kept_of (unfinished before) bytes
          ∙ ap kept_of (sym (unfinished-append before bytes ∙ unfinished-none (unfinished before ++ bytes) one)),
      finished_lines-append before bytes ∙ ap (λ l. finished_lines before ++ l) one ∙ append-nil (finished_lines before),
    )

-- a cutter that took the end of a line and its newline
pub StandsFor-line : (old middle : Cutter) (before front : List ℕ) → finished_lines front ≡ [] → StandsFor old before
    → middle.pending ≡ joined old.pending front
    → let new : Cutter = record { pending = Some []; line = option_map without_return middle.pending } in
    StandsFor new (before ++ (front ++ 10 ∷ [])) × Answers (cut_of middle.pending) new before (before ++ (front ++ 10 ∷ []))
StandsFor-line old middle before front none stands is =
    let line = unfinished before ++ front in
    let after = before ++ (front ++ 10 ∷ []) in
    let one : finished_lines line ≡ [] = finished_lines-joined (unfinished before) front (finished_lines-unfinished before) none in
    let lines : finished_lines after ≡ finished_lines before ++ line ∷ [] =
    finished_lines-append before (front ++ 10 ∷ [])
    ∙ ap (λ l. finished_lines before ++ finished_lines l) (sym (append_assoc (unfinished before) front (10 ∷ [])))
    ∙ ap (λ l. finished_lines before ++ l) (finished_lines-line line [] one) in
    let nothing : unfinished after ≡ [] = ap unfinished (sym (append_assoc before front (10 ∷ []))) ∙ unfinished-newline (before ++ front) [] in
    let one_more : Finishes before after = record { line = line; lines = lines; no_more = nothing } in
    let kept : middle.pending ≡ kept_of line = is ∙ ap (λ p. joined p front) stands ∙ joined-kept_of (unfinished before) front in (
      ap kept_of (sym nothing),
      ⊎_elim
          (λ long.
          let none_kept : middle.pending ≡ None = kept ∙ rw long refl in
          rw none_kept (one_more, long))
          (λ short.
          let all_kept : middle.pending ≡ Some line = kept ∙ rw short refl in
          rw all_kept (one_more, short, refl))
          (cases_Bool (is_long line)),
    )

-- the bytes of a piece up to the newline that a search of its rest finds
pub taken-line : (piece : List ℕ) (from end : ℕ) → let rest = slice_range piece from (length piece) in
    end < length rest → Passes (is_byte 10) rest end → slice_range piece from (from + (end + 1)) ≡ take end rest ++ 10 ∷ []
taken-line piece from end below passes =
    let rest : slice_range piece from (length piece) ≡ drop from piece = take_rest piece from in
    let count : from + (end + 1) - from ≡ end + 1 = omega arith in
    ap (λ n. take n (drop from piece)) count ∙ ap (λ l. take (end + 1) l) (sym rest) ∙ take-found (slice_range piece from (length piece)) end below passes

-- these bytes are one line
pub TakesLine-found : (piece : List ℕ) (from end : ℕ) (front : List ℕ) → from ≤ length piece → end < length (slice_range piece from (length piece))
    → slice_range piece from (from + (end + 1)) ≡ front ++ 10 ∷ [] → finished_lines front ≡ []
    → TakesLine piece from (from + (end + 1))
TakesLine-found piece from end front start below taken none = record {
  moves = omega arith;
  within = omega (arith, length-take {A = ℕ}, length-drop from piece);
  one_line = ap (λ l. length (finished_lines l)) taken ∙ ap length (finished_lines-line front [] none);
  no_more = ap unfinished taken ∙ unfinished-newline front [];
}

-- whatever is kept of it
pub Takes-line : (kept : Option (List ℕ)) (piece : List ℕ) (from to : ℕ) → TakesLine piece from to → Takes (cut_of kept) piece from to
Takes-line None piece from to taken = taken
Takes-line (Some line) piece from to taken = taken

-- for a loop over a piece: the bytes that were taken so far, and then those of one more call
pub append-slice_range : (before piece : List ℕ) (from to : ℕ) → from ≤ to
    → (before ++ take from piece) ++ slice_range piece from to ≡ before ++ take to piece
append-slice_range before piece from to le =
    let end : from + (to - from) ≡ to = omega arith in
    append_assoc before (take from piece) (slice_range piece from to)
    ∙ ap (λ l. before ++ l) (sym (take-add from (to - from) piece) ∙ ap (λ n. take n piece) end)
