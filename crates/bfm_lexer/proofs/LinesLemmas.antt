-- The laws of the lines of a file, whose bytes come one part after another.
use Rattle.std.proofs.Common.{◌≡◌, ◌≢◌, ℕ, ◌-◌, ◌≤◌, true, false, nat_eq, List, [], ◌∷◌, ◌++◌, length, take, get_or, flat_map, All, length-take, refl, sym, ap, ◌∙◌, ⊎_elim, arith, length-append}
use Rattle.std.proofs.lemmas.List.{take_at, get_or_push}
use Rattle.std.proofs.lemmas.List.Elements.{All-nil, All-cons, All-head, All-tail, All-same}
use Rattle.std.proofs.lemmas.Bool.{cases_Bool, or_parts, or_from, or_left, or_right, true≢false, eqb-true, ne_eqb, cond_both}
use Rattle.std.proofs.lemmas.List.Folds.{list_any-append}
use Rattle.bfm_lexer.specs.Lines.{begun, finished_lines, has_newline, unfinished, without_return}

-- a byte is put before some line only where there is one
begun-none : (b : ℕ) (lines : List (List ℕ)) → begun b lines ≡ [] → lines ≡ []
begun-none b [] h = refl
begun-none b (line ∷ lines) h = cc

-- a byte is put before the first line, whatever comes behind that
begun-append : (b : ℕ) (lines more : List (List ℕ)) → lines ≢ [] → begun b (lines ++ more) ≡ begun b lines ++ more
begun-append b [] more h = absurd (h refl)
begun-append b (line ∷ lines) more h = refl

-- without a newline no line is finished
pub finished_lines-none : (bs : List ℕ) → has_newline bs ≡ false → finished_lines bs ≡ []
finished_lines-none [] h = refl
finished_lines-none (b ∷ bs) h =
    let parts = or_parts (nat_eq b 10) (has_newline bs) h in
    rw (parts.0, finished_lines-none bs parts.1) refl

-- where no line is finished there is no newline
pub has_newline-none : (bs : List ℕ) → finished_lines bs ≡ [] → has_newline bs ≡ false
has_newline-none [] h = refl
has_newline-none (b ∷ bs) h =
    ⊎_elim (λ ends. absurd (let g = rw ends at h in cc))
    (λ other. or_from (nat_eq b 10) (has_newline bs) other (has_newline-none bs (begun-none b (finished_lines bs) (rw other at h))))
    (cases_Bool (nat_eq b 10))

-- without a finished line all bytes are unfinished
pub unfinished-none : (bs : List ℕ) → finished_lines bs ≡ [] → unfinished bs ≡ bs
unfinished-none [] h = refl
unfinished-none (b ∷ bs) h = rw (has_newline-none (b ∷ bs) h) refl

-- no line is finished behind the last newline
pub finished_lines-unfinished : (bs : List ℕ) → finished_lines (unfinished bs) ≡ []
finished_lines-unfinished [] = refl
finished_lines-unfinished (b ∷ bs) =
    ⊎_elim (λ ends. rw ends (finished_lines-unfinished bs)) (λ other. rw other (finished_lines-none (b ∷ bs) other)) (cases_Bool (has_newline (b ∷ bs)))

-- a newline ends an empty line
finished_lines-end : (b : ℕ) (bs : List ℕ) → nat_eq b 10 ≡ true → finished_lines (b ∷ bs) ≡ [] ∷ finished_lines bs
finished_lines-end b bs ends = rw ends refl

-- any other byte is put before the first line
finished_lines-begun : (b : ℕ) (bs : List ℕ) → nat_eq b 10 ≡ false → finished_lines (b ∷ bs) ≡ begun b (finished_lines bs)
finished_lines-begun b bs other = rw other refl

-- a newline that is not the first byte finishes a line of the others
finished_lines-rest : (b : ℕ) (bs : List ℕ) → has_newline (b ∷ bs) ≡ true → nat_eq b 10 ≡ false → finished_lines bs ≢ []
finished_lines-rest b bs some other none =
    true≢false (sym some ∙ or_from (nat_eq b 10) (has_newline bs) other (has_newline-none bs none))

-- with a newline the first byte is no part of what is unfinished
unfinished-some : (b : ℕ) (bs : List ℕ) → has_newline (b ∷ bs) ≡ true → unfinished (b ∷ bs) ≡ unfinished bs
unfinished-some b bs some = rw some refl

-- a byte before bytes with a newline goes into their first line, or is a line's end itself
finished_lines-front : (b : ℕ) (bs more : List ℕ) (lines : List (List ℕ)) → has_newline (b ∷ bs) ≡ true
    → finished_lines more ≡ finished_lines bs ++ lines → finished_lines (b ∷ more) ≡ finished_lines (b ∷ bs) ++ lines
finished_lines-front b bs more lines some h =
    ⊎_elim
    (λ ends. finished_lines-end b more ends ∙ ap (λ l. [] ∷ l) h ∙ ap (λ l. l ++ lines) (sym (finished_lines-end b bs ends)))
    (λ other.
    let both = begun-append b (finished_lines bs) lines (finished_lines-rest b bs some other) in
    finished_lines-begun b more other ∙ ap (begun b) h ∙ both ∙ ap (λ l. l ++ lines) (sym (finished_lines-begun b bs other)))
    (cases_Bool (nat_eq b 10))

-- what comes behind bytes finishes lines, the first of which begins with what was unfinished
pub finished_lines-append : (xs ys : List ℕ) → finished_lines (xs ++ ys) ≡ finished_lines xs ++ finished_lines (unfinished xs ++ ys)
finished_lines-append [] ys = refl
finished_lines-append (b ∷ bs) ys =
    ⊎_elim
    (λ some. rw (unfinished-some b bs some) (finished_lines-front b bs (bs ++ ys) _ some (finished_lines-append bs ys)))
    (λ none. rw (finished_lines-none (b ∷ bs) none, unfinished-none (b ∷ bs) (finished_lines-none (b ∷ bs) none)) refl)
    (cases_Bool (has_newline (b ∷ bs)))

-- what is unfinished of bytes and more depends on what was unfinished of the bytes
pub unfinished-append : (xs ys : List ℕ) → unfinished (xs ++ ys) ≡ unfinished (unfinished xs ++ ys)
unfinished-append [] ys = refl
unfinished-append (b ∷ bs) ys =
    ⊎_elim
    (λ some.
    let whole = list_any-append (λ x. nat_eq x 10) (b ∷ bs) ys ∙ or_left _ (has_newline ys) some in
    unfinished-some b (bs ++ ys) whole ∙ unfinished-append bs ys ∙ ap (λ l. unfinished (l ++ ys)) (sym (unfinished-some b bs some)))
    (λ none. ap (λ l. unfinished (l ++ ys)) (sym (unfinished-none (b ∷ bs) (finished_lines-none (b ∷ bs) none))))
    (cases_Bool (has_newline (b ∷ bs)))

-- a line and its newline come first
pub finished_lines-line : (line rest : List ℕ) → finished_lines line ≡ [] → finished_lines (line ++ 10 ∷ rest) ≡ line ∷ finished_lines rest
finished_lines-line [] rest none = refl
finished_lines-line (b ∷ bs) rest none =
    let parts = or_parts (nat_eq b 10) (has_newline bs) (has_newline-none (b ∷ bs) none) in
    rw (parts.0, finished_lines-line bs rest (finished_lines-none bs parts.1)) refl

-- bytes without a newline, one part after another
pub finished_lines-joined : (xs ys : List ℕ) → finished_lines xs ≡ [] → finished_lines ys ≡ [] → finished_lines (xs ++ ys) ≡ []
finished_lines-joined xs ys none_x none_y =
    finished_lines-none (xs ++ ys) (list_any-append (λ x. nat_eq x 10) xs ys
    ∙ or_from (has_newline xs) (has_newline ys) (has_newline-none xs none_x) (has_newline-none ys none_y))

-- what is behind a newline does not depend on what is before it
pub unfinished-newline : (xs rest : List ℕ) → unfinished (xs ++ 10 ∷ rest) ≡ unfinished rest
unfinished-newline [] rest = refl
unfinished-newline (b ∷ bs) rest =
    unfinished-some b (bs ++ 10 ∷ rest) (list_any-append (λ x. nat_eq x 10) (b ∷ bs) (10 ∷ rest) ∙ or_right (has_newline (b ∷ bs)) true refl)
    ∙ unfinished-newline bs rest

-- each line with its newline
abbrev with_newlines : List (List ℕ) → List ℕ
with_newlines lines = flat_map (λ line. line ++ 10 ∷ []) lines

-- a byte before the first line is a byte before all
with_newlines-begun : (b : ℕ) (lines : List (List ℕ)) → lines ≢ [] → with_newlines (begun b lines) ≡ b ∷ with_newlines lines
with_newlines-begun b [] h = absurd (h refl)
with_newlines-begun b (line ∷ lines) h = refl

-- no newline is in a line
abbrev HasNone : List ℕ → Type 0
HasNone line = finished_lines line ≡ []

-- a byte that is no newline leaves the first line without one
All-begun : (b : ℕ) (lines : List (List ℕ)) → nat_eq b 10 ≡ false → All HasNone lines → All HasNone (begun b lines)
All-begun b [] other each = each
All-begun b (line ∷ lines) other each =
    let first = finished_lines-begun b line other ∙ ap (begun b) (All-head HasNone line lines each) in
    All-cons HasNone (b ∷ line) lines first (All-tail HasNone line lines each)

-- no newline is in a finished line
pub All-finished_lines : (bs : List ℕ) → All (λ line. finished_lines line ≡ []) (finished_lines bs)
All-finished_lines [] = All-nil HasNone
All-finished_lines (b ∷ bs) =
    ⊎_elim (λ ends. All-same HasNone _ _ (finished_lines-end b bs ends) (All-cons HasNone [] _ refl (All-finished_lines bs)))
    (λ other. All-same HasNone _ _ (finished_lines-begun b bs other) (All-begun b (finished_lines bs) other (All-finished_lines bs)))
    (cases_Bool (nat_eq b 10))

-- the bytes are the finished lines, each with its newline, and then the unfinished one
pub lines-whole : (bs : List ℕ) → flat_map (λ line. line ++ 10 ∷ []) (finished_lines bs) ++ unfinished bs ≡ bs
lines-whole [] = refl
lines-whole (b ∷ bs) =
    ⊎_elim
    (λ some.
    let lines : with_newlines (finished_lines (b ∷ bs)) ≡ b ∷ with_newlines (finished_lines bs) =
    ⊎_elim (λ ends. ap with_newlines (finished_lines-end b bs ends) ∙ ap (λ x. x ∷ with_newlines (finished_lines bs)) (sym (eqb-true b 10 ends)))
    (λ other. ap with_newlines (finished_lines-begun b bs other) ∙ with_newlines-begun b (finished_lines bs) (finished_lines-rest b bs some other))
    (cases_Bool (nat_eq b 10)) in
    rw (lines, unfinished-some b bs some) (ap (λ l. b ∷ l) (lines-whole bs)))
    (λ none. rw (finished_lines-none (b ∷ bs) none, unfinished-none (b ∷ bs) (finished_lines-none (b ∷ bs) none)) refl)
    (cases_Bool (has_newline (b ∷ bs)))

-- the last byte of a line
last_of : (line : List ℕ) (b : ℕ) → get_or (line ++ b ∷ []) (length (line ++ b ∷ []) - 1) 0 ≡ b
last_of line b = get_or_push line b 0 _ (omega (arith, length-append line (b ∷ [])))

-- a carriage return at the end is dropped, and only one
pub without_return-return : (line : List ℕ) → without_return (line ++ 13 ∷ []) ≡ line
without_return-return line = rw (last_of line 13) (take_at line (13 ∷ []) _ (omega (arith, length-append line (13 ∷ []))))

-- any other byte at the end stays
pub without_return-other : (line : List ℕ) (b : ℕ) → b ≢ 13 → without_return (line ++ b ∷ []) ≡ line ++ b ∷ []
without_return-other line b other = rw (last_of line b, ne_eqb b 13 other) refl

-- dropping a carriage return makes no line longer
pub length-without_return-le : (line : List ℕ) → length (without_return line) ≤ length line
length-without_return-le line =
    let last = nat_eq (get_or line (length line - 1) 0) 13 in
    cond_both last (take (length line - 1) line) line (λ l. length l ≤ length line) (λ _. omega (arith, length-take {A = ℕ})) (λ _. omega arith)
