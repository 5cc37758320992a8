-- The lines of bytes that are read one after the other.
use Rattle.std.proofs.Common.{◌≡◌, ℕ, ◌+◌, ◌≤◌, true, false, cond, List, [], ◌∷◌, ◌++◌, length, flat_map, Option, None, Some, refl, ap, sym, ◌∙◌, subst, arith, length-append, append_assoc, slice_range, take, drop, length-take, length-drop}
use Rattle.std.proofs.lemmas.List.{take-append-drop}
use Rattle.bfm_base.specs.declared.cause.Cause.{Cause}
use Rattle.bfm_base.specs.declared.cause.Cause.TheVariants.{OutOfLimit}
use Rattle.bfm_base.specs.declared.cause.Refused.{Refused}
use Rattle.bfm_lexer.specs.Lines.{finished_lines, unfinished, without_return, is_long}
use Rattle.bfm_lexer.specs.Cutter.{Cutter}
use Rattle.bfm_lexer.specs.Cutter as cutters
use Rattle.bfm_lexer.proofs.LinesLemmas.{finished_lines-append, lines-whole}
use Rattle.bfm_commands.specs.History.{History}
use Rattle.bfm_commands.specs.Meaning.{meaning_of, text_meaning}
use Rattle.bfm_commands.specs.Causes.{cause_of, meaning_cause}
use Rattle.bfm_commands.specs.Verdict.{newest_first, history_of, refused_at, first_wrong, first_wrong_of, bytes_in, IsStop}
use Rattle.bfm_commands.specs.Reading.{IsFault, Sums, Follows, stop_of}
use Rattle.bfm_commands.specs.declared.fault.LineFault.{LineFault}
use Rattle.bfm_commands.specs.declared.fault.LineFault.TheVariants as faults
use Rattle.bfm_commands.specs.declared.progress.Progress.{Progress}

newest_first-append : (before : History) (xs ys : List (List ℕ)) → newest_first before (xs ++ ys) ≡ newest_first (newest_first before xs) ys
newest_first-append before [] ys = refl
newest_first-append before (x ∷ xs) ys = newest_first-append (x ∷ before) xs ys

refused_none : (n : ℕ) (c : Option Cause) (later : Option Refused) → refused_at n c later ≡ None → (c ≡ None) × (later ≡ None)
refused_none n None later e = (refl, e)
refused_none n (Some cause) later e = absurd (cc)

first_wrong-append : (before : History) (xs ys : List (List ℕ)) → first_wrong before xs ≡ None → first_wrong before (xs ++ ys) ≡ first_wrong (newest_first before xs) ys
first_wrong-append before [] ys e = refl
first_wrong-append before (x ∷ xs) ys e =
    let parts = refused_none (length before) (cause_of before x) (first_wrong (x ∷ before) xs) e in
    ap (λ c. refused_at (length before) c (first_wrong (x ∷ before) (xs ++ ys))) parts.0 ∙ first_wrong-append (x ∷ before) xs ys parts.1

bytes_in-newest : (before : History) (lines : List (List ℕ)) → bytes_in (newest_first before lines) ≡ bytes_in before + length (flat_map (λ (line : List ℕ). line ++ 10 ∷ []) lines)
bytes_in-newest before [] = omega arith
bytes_in-newest before (line ∷ lines) =
    omega (arith, bytes_in-newest (line ∷ before) lines, length-append (line ++ 10 ∷ []) (flat_map (λ (l : List ℕ). l ++ 10 ∷ []) lines), length-append line (10 ∷ []))

-- bytes are their finished lines and what stands behind them
pub bytes_in-history : (bytes : List ℕ) → bytes_in (history_of bytes) + length (unfinished bytes) ≡ length bytes
bytes_in-history bytes =
    omega (arith, bytes_in-newest [] (finished_lines bytes), ap length (lines-whole bytes), length-append (flat_map (λ (line : List ℕ). line ++ 10 ∷ []) (finished_lines bytes)) (unfinished bytes))

pub length-history : (lines : History) → length lines ≤ bytes_in lines
length-history [] = omega arith
length-history (line ∷ lines) = omega (arith, length-history lines)

-- no line more
pub Follows-same : (old new : Progress) (before after : List ℕ) → Follows old before → finished_lines after ≡ finished_lines before → cutters.StandsFor new.cutter after → new.lines ≡ old.lines → new.summary ≡ old.summary → Follows new after
Follows-same old new before after f same cut lines summary =
    let history : history_of after ≡ history_of before = ap (newest_first []) same in
    record {
      cut = cut;
      lines = lines ∙ (f.lines ∙ ap length (sym history));
      sums = subst (λ s. Sums s (history_of after)) (sym summary) (subst (Sums old.summary) (sym history) f.sums);
      right = ap (first_wrong []) same ∙ f.right;
    }

-- one line more
module _ (old : Progress) (before after line : List ℕ) (f : Follows old before) (lines : finished_lines after ≡ finished_lines before ++ line ∷ []) where
  pub history_of-line : history_of after ≡ line ∷ history_of before
  history_of-line = ap (newest_first []) lines ∙ newest_first-append [] (finished_lines before) (line ∷ [])

  wrong_behind : (rest : List ℕ) (cause : Cause) → cause_of (history_of before) line ≡ Some cause → first_wrong_of (after ++ rest) ≡ Some (record { line = length (history_of before) + 1; cause = cause })
  wrong_behind rest cause e =
      let more = finished_lines (unfinished after ++ rest) in
      let all : finished_lines (after ++ rest) ≡ finished_lines before ++ line ∷ more =
      finished_lines-append after rest ∙ (ap (λ l. l ++ more) lines ∙ append_assoc (finished_lines before) (line ∷ []) more) in
      ap (first_wrong []) all ∙ (first_wrong-append [] (finished_lines before) (line ∷ more) f.right
      ∙ ap (λ c. refused_at (length (history_of before)) c (first_wrong (line ∷ history_of before) more)) e)

  -- it is wrong
  pub IsStop-line : (rest : List ℕ) (fault : LineFault) → IsFault fault (cause_of (history_of before) line) → IsStop (stop_of old.lines fault) (first_wrong_of (after ++ rest))
  IsStop-line rest (faults.Refused cause) e = wrong_behind rest cause e ∙ ap (λ n. Some (record { line = n + 1; cause = cause })) (sym f.lines)
  IsStop-line rest faults.Memory e = tt

  -- it is right
  pub Follows-line : (new : Progress) → cause_of (history_of before) line ≡ None → cutters.StandsFor new.cutter after → new.lines ≡ old.lines + 1 → Sums new.summary (line ∷ history_of before) → Follows new after
  Follows-line new right cut count sums = record {
    cut = cut;
    lines = count ∙ (ap (λ n. n + 1) f.lines ∙ (more (history_of before) ∙ ap length (sym history_of-line)));
    sums = subst (Sums new.summary) (sym history_of-line) sums;
    right = ap (first_wrong []) lines ∙ (first_wrong-append [] (finished_lines before) (line ∷ []) f.right ∙ ap (λ c. refused_at (length (history_of before)) c None) right);
  }
    where
      more : (h : History) → length h + 1 ≡ length (line ∷ h)
      more h = omega arith

-- a line that is not too long, by its meaning
pub cause_of-short : (before : History) (line text : List ℕ) → is_long line ≡ false → without_return line ≡ text → cause_of before line ≡ meaning_cause before (text_meaning text)
cause_of-short before line text short e =
    ap (λ b. cond b (Some OutOfLimit) (meaning_cause before (meaning_of line))) short ∙ ap (λ t. meaning_cause before (text_meaning t)) e

pub cause_of-long : (before : History) (line : List ℕ) → is_long line ≡ true → cause_of before line ≡ Some OutOfLimit
cause_of-long before line long = ap (λ b. cond b (Some OutOfLimit) (meaning_cause before (meaning_of line))) long

pub some_same : (o : Option (List ℕ)) (a b : List ℕ) → o ≡ Some a → o ≡ Some b → a ≡ b
some_same o a b p q = let both = sym p ∙ q in cc

-- how many bytes end with a line
pub bytes_in-line : (before after line piece : List ℕ) (from to fed : ℕ) → history_of after ≡ line ∷ history_of before → unfinished after ≡ [] → after ≡ before ++ slice_range piece from to
    → length before ≡ fed + from → from ≤ to → to ≤ length piece → bytes_in (line ∷ history_of before) ≡ fed + to
bytes_in-line before after line piece from to fed history none is start l m =
    omega (arith, ap bytes_in history, bytes_in-history after, ap length none, ap length is, length-append before (slice_range piece from to), start, length-take {A = ℕ}, length-drop from piece)

pub take-all : (bytes : List ℕ) → take (length bytes) bytes ≡ bytes
take-all [] = refl
take-all (b ∷ bytes) = ap (λ l. b ∷ l) (take-all bytes)

pub rest-behind : (before bytes : List ℕ) (n : ℕ) → (before ++ take n bytes) ++ drop n bytes ≡ before ++ bytes
rest-behind before bytes n = append_assoc before (take n bytes) (drop n bytes) ∙ ap (λ l. before ++ l) (take-append-drop n bytes)
