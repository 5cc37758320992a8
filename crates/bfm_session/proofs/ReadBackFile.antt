-- A file that is accepted and ends with its last whole frame, by what its lines hold; and the verdict on a file whose lines hold a world.
use Rattle.std.proofs.Common.{◌≡◌, ◌≢◌, ℕ, ◌+◌, ◌≤◌, true, false, cond, nat_eq, List, [], ◌∷◌, ◌++◌, length, Option, None, Some, is_some, Ok, Err, refl, sym, ap, ◌∙◌, subst, ⊎_elim, length-append, arith}
use Rattle.std.proofs.lemmas.Bool.{cases_Bool, and_parts}
use Rattle.std.proofs.lemmas.Bool.Decides.{nat_tests}
use Rattle.std.proofs.lemmas.List.{nil_from_length}
use Rattle.bfm_base.specs.declared.cause.Cause.TheVariants.{NoFrame}
use Rattle.bfm_base.specs.declared.cause.Refused.{Refused}
use Rattle.bfm_world.specs.Configuration.{Configuration}
use Rattle.bfm_world.specs.Draft.{Draft}
use Rattle.bfm_lexer.specs.Lines.{finished_lines, unfinished}
use Rattle.bfm_lexer.proofs.LinesLemmas.{lines-whole}
use Rattle.bfm_commands.specs.Meaning.{meaning_of}
use Rattle.bfm_commands.specs.History.{History, has_begun, owner_of, entry_of, is_whole, completes, mcs_of, draft_of, last_whole, frames_of, first_positions, skipped_of}
use Rattle.bfm_commands.specs.Verdict.{newest_first, history_of, first_wrong_of, bytes_in, loaded_of, whole_of, whole_or, verdict_of}
use Rattle.bfm_commands.specs.declared.commands.Known.TheVariants.{Mcs}
use Rattle.bfm_commands.specs.declared.loaded.Loaded.{Loaded}
use Rattle.bfm_session.proofs.ReadBackLines.{text_of}
use Rattle.bfm_session.proofs.ReadBackLater.{Told, Holds}

-- all bytes of rows are counted
pub bytes_in-rows : (before : History) (rows : List (List ℕ)) → bytes_in (newest_first before rows) ≡ bytes_in before + length (text_of rows)
bytes_in-rows before [] = omega arith
bytes_in-rows before (row ∷ rows) = omega (arith, bytes_in-rows (row ∷ before) rows, length-append (row ++ 10 ∷ []) (text_of rows), length-append row (10 ∷ []))

-- What an accepted file says.

pub record Accepted (bytes : List ℕ) (loaded : Loaded) : Type 0 where
  pub right : first_wrong_of bytes ≡ None
  pub some : frames_of (history_of bytes) ≢ 0
  pub gives : loaded_of (length bytes) (history_of bytes) ≡ loaded

pub Accepted-verdict : (bytes : List ℕ) (loaded : Loaded) → verdict_of bytes ≡ Ok loaded → Accepted bytes loaded
Accepted-verdict bytes loaded e = by_wrong (first_wrong_of bytes) refl e
  where
    by_frames : (n : ℕ) → frames_of (history_of bytes) ≡ n → first_wrong_of bytes ≡ None → whole_of (length bytes) (history_of bytes) ≡ Ok loaded → Accepted bytes loaded
    by_frames n is right h =
        ⊎_elim
        (λ (none : nat_eq (frames_of (history_of bytes)) 0 ≡ true). let no = rw none at h in absurd (cc))
        (λ (some : nat_eq (frames_of (history_of bytes)) 0 ≡ false).
        let given = rw some at h in
        record { right = right; some = not_none (frames_of (history_of bytes)) some; gives = cc })
        (cases_Bool (nat_eq (frames_of (history_of bytes)) 0))
      where
        not_none : (n : ℕ) → nat_eq n 0 ≡ false → n ≢ 0
        not_none n e = grind (arith, nat_tests)

    by_wrong : (o : Option Refused) → first_wrong_of bytes ≡ o → whole_or (length bytes) (history_of bytes) o ≡ Ok loaded → Accepted bytes loaded
    by_wrong None right h = by_frames (frames_of (history_of bytes)) refl right h
    by_wrong (Some wrong) right h = absurd (cc)

-- The lines up to the last whole frame.

pub last_shorter : (lines : History) → bytes_in (last_whole lines) ≤ bytes_in lines
last_shorter [] = omega arith
last_shorter (line ∷ before) =
    ⊎_elim
    (λ (whole : completes line before ≡ true). rw whole (omega arith))
    (λ (part : completes line before ≡ false). rw part (omega (arith, last_shorter before)))
    (cases_Bool (completes line before))

-- where they are as long as all lines, the newest line makes its frame whole
pub record EndsWhole (lines : History) : Type 0 where
  pub begun : has_begun lines ≡ true
  pub complete : nat_eq (length (draft_of lines).world.positions) (draft_of lines).count ≡ true
  pub last : last_whole lines ≡ lines

pub EndsWhole-newest : (line : List ℕ) (before : History) → completes line before ≡ true → EndsWhole (line ∷ before)
EndsWhole-newest line before whole =
    let parts = and_parts (is_some (entry_of Mcs (owner_of before) (meaning_of line))) (is_whole (line ∷ before)) whole in
    let both = and_parts (has_begun (line ∷ before)) (nat_eq (length (draft_of (line ∷ before)).world.positions) (draft_of (line ∷ before)).count) parts.1 in
    record { begun = both.0; complete = both.1; last = ap (λ b. cond b (line ∷ before) (last_whole before)) whole }

EndsWhole-sizes : (lines : History) → frames_of lines ≢ 0 → bytes_in lines ≤ bytes_in (last_whole lines) → EndsWhole lines
EndsWhole-sizes [] some l = absurd (some refl)
EndsWhole-sizes (line ∷ before) some l =
    ⊎_elim
    (λ (whole : completes line before ≡ true). EndsWhole-newest line before whole)
    (λ (part : completes line before ≡ false). absurd (omega (arith, rw part at l, last_shorter before)))
    (cases_Bool (completes line before))

-- what an accepted file has told besides its world
abbrev pub told_by : Loaded → Told
told_by loaded = record { first = loaded.first; frames = loaded.frames; skipped = loaded.skipped }

-- The lines of whole frames hold their world.
pub Holds-whole : (lines : History) (told : Told) → EndsWhole lines → first_positions lines ≡ told.first → frames_of lines ≡ told.frames → told.frames ≢ 0 → skipped_of lines ≡ told.skipped
    → Holds (draft_of lines).world (mcs_of lines) told lines
Holds-whole lines told ends first frames some skips =
    let count : (draft_of lines).count ≡ length (draft_of lines).world.positions = same (length (draft_of lines).world.positions) (draft_of lines).count ends.complete in
    record { begun = ends.begun; draft = λ i. record { world = (draft_of lines).world; count = count i }; time = refl; first_ones = first; frame_count = frames; some = some; skips = skips }
  where
    same : (a b : ℕ) → nat_eq a b ≡ true → b ≡ a
    same a b e = grind (arith, nat_tests)

-- An accepted file that ends with its last whole frame: no line is wrong, none is unfinished, and the lines hold its world.
pub record HoldsAll (bytes : List ℕ) (loaded : Loaded) : Type 0 where
  pub right : first_wrong_of bytes ≡ None
  pub total : loaded.total ≡ length bytes
  pub ended : unfinished bytes ≡ []
  pub holds : Holds loaded.world loaded.mcs (told_by loaded) (history_of bytes)

pub HoldsAll-verdict : (bytes : List ℕ) (loaded : Loaded) → verdict_of bytes ≡ Ok loaded → loaded.kept ≡ length bytes → HoldsAll bytes loaded
HoldsAll-verdict bytes loaded verdict kept =
    let a = Accepted-verdict bytes loaded verdict in
    let lines = history_of bytes in
    let part : bytes_in (last_whole lines) ≡ length bytes = ap (λ (l : Loaded). l.kept) a.gives ∙ kept in
    let all : bytes_in lines ≡ length (text_of (finished_lines bytes)) = omega (arith, bytes_in-rows [] (finished_lines bytes)) in
    let total : length (text_of (finished_lines bytes)) + length (unfinished bytes) ≡ length bytes =
    sym (length-append (text_of (finished_lines bytes)) (unfinished bytes)) ∙ ap length (lines-whole bytes) in
    let short = last_shorter lines in
    let ends = EndsWhole-sizes lines a.some (omega (arith, part, all, total)) in
    let world : (draft_of lines).world ≡ loaded.world = ap (λ l. (draft_of l).world) (sym ends.last) ∙ ap (λ (l : Loaded). l.world) a.gives in
    let time : mcs_of lines ≡ loaded.mcs = ap mcs_of (sym ends.last) ∙ ap (λ (l : Loaded). l.mcs) a.gives in
    let frames = ap (λ (l : Loaded). l.frames) a.gives in
    record {
      right = a.right;
      total = sym (ap (λ (l : Loaded). l.total) a.gives);
      ended = nil_from_length (unfinished bytes) (omega (arith, part, all, total, short));
      holds = subst (λ w. Holds w loaded.mcs (told_by loaded) lines) world (subst (λ t. Holds (draft_of lines).world t (told_by loaded) lines) time
          (Holds-whole lines (told_by loaded) ends (ap (λ (l : Loaded). l.first) a.gives) frames (λ none. a.some (frames ∙ none)) (ap (λ (l : Loaded). l.skipped) a.gives)));
    }

-- The verdict on bytes all of whose lines hold a world, the newest of which makes its frame whole.
pub verdict_of-held : (bytes : List ℕ) (w : Configuration) (mcs : ℕ) (told : Told) (lines : History) → history_of bytes ≡ lines → first_wrong_of bytes ≡ None → Holds w mcs told lines → last_whole lines ≡ lines
    → bytes_in lines ≡ length bytes
    → verdict_of bytes ≡ Ok (record { world = w; first = told.first; mcs = mcs; frames = told.frames; kept = length bytes; total = length bytes; skipped = told.skipped })
verdict_of-held bytes w mcs told lines is right h last size =
    let some : nat_eq (frames_of lines) 0 ≡ false = ap (λ n. nat_eq n 0) h.frame_count ∙ not_none told.frames h.some in
    let world : (draft_of (last_whole lines)).world ≡ w = ap (λ l. (draft_of l).world) last ∙ ap (λ (d : Draft). d.world) h.draft in
    let time : mcs_of (last_whole lines) ≡ mcs = ap mcs_of last ∙ h.time in
    let kept : bytes_in (last_whole lines) ≡ length bytes = ap bytes_in last ∙ size in
    let first = h.first_ones in
    let frames = h.frame_count in
    let skips = h.skips in
    let gives : loaded_of (length bytes) lines ≡ record { world = w; first = told.first; mcs = mcs; frames = told.frames; kept = length bytes; total = length bytes; skipped = told.skipped } =
    λ i. record { world = world i; first = first i; mcs = time i; frames = frames i; kept = kept i; total = length bytes; skipped = skips i } in
    ap (λ l. whole_or (length bytes) l (first_wrong_of bytes)) is
    ∙ (ap (whole_or (length bytes) lines) right
    ∙ (ap (λ b. cond b (Err (record { line = length lines + 1; cause = NoFrame })) (Ok (loaded_of (length bytes) lines))) some
    ∙ ap (λ loaded. Ok loaded) gives))
  where
    not_none : (n : ℕ) → n ≢ 0 → nat_eq n 0 ≡ false
    not_none n some = grind (arith, nat_tests)
