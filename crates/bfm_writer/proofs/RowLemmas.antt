-- What is left to write of the rows of a frame, monomer by monomer.
use Rattle.std.proofs.Common.{◌≡◌, ℕ, ◌+◌, ◌-◌, ◌<◌, ◌++◌, List, [], ◌∷◌, Option, None, Some, length, drop, codes, refl, ap, sym, ◌∙◌, append_assoc, arith}
use Rattle.std.specs.List.{flat_map}
use Rattle.std.proofs.lemmas.List.{drop_more, drop_all}
use Rattle.bfm_base.specs.declared.place.P3.{P3}
use Rattle.bfm_world.specs.Configuration.{Configuration, position_of}
use Rattle.bfm_writer.specs.declared.frames.Part.{Part}
use Rattle.bfm_writer.specs.declared.frames.Part.TheVariants.{Start, Ids}
use Rattle.bfm_writer.specs.Rows.{Row, continuation, put_before, rows_from, rows_of}
use Rattle.bfm_writer.specs.Text.{ids_text, position_text, row_text}
use Rattle.bfm_writer.specs.Part.{id_text, left_of, left_behind}

-- a monomer before the rows of those behind it
rows_from-step : (w : Configuration) (k : ℕ) → k < length w.positions
    → rows_from w k (drop k w.positions) ≡ put_before (position_of w k) (continuation w k) (rows_from w (k + 1) (drop (k + 1) w.positions))
rows_from-step w k h = ap (rows_from w k) (drop_more w.positions k _ h)

-- the first of these rows begins at the monomer
pub put_before-first : (p : P3) (leads : Option ℕ) (rows : List Row) → (ids : List ℕ) × (more : List Row) × (put_before p leads rows ≡ record { start = p; ids = ids } ∷ more)
put_before-first p None rows = ([], rows, refl)
put_before-first p (Some id) [] = ([], [], refl)
put_before-first p (Some id) (row ∷ rows) = (id ∷ row.ids, rows, refl)

rows_from-first : (w : Configuration) (k : ℕ) → k < length w.positions
    → (ids : List ℕ) × (more : List Row) × (rows_from w k (drop k w.positions) ≡ record { start = position_of w k; ids = ids } ∷ more)
rows_from-first w k h =
    let f = put_before-first (position_of w k) (continuation w k) (rows_from w (k + 1) (drop (k + 1) w.positions)) in
    (f.0, f.1, rows_from-step w k h ∙ f.2)

-- the monomer before one that is not the first
put_before-at : (w : Configuration) (k : ℕ) (leads : Option ℕ) → 0 < k → k < length w.positions → continuation w (k - 1) ≡ leads
    → rows_from w (k - 1) (drop (k - 1) w.positions) ≡ put_before (position_of w (k - 1)) leads (rows_from w k (drop k w.positions))
put_before-at w k leads later h e =
    let same : k - 1 + 1 ≡ k = omega arith in
    rows_from-step w (k - 1) (omega arith)
    ∙ (ap (λ n. put_before (position_of w (k - 1)) (continuation w (k - 1)) (rows_from w n (drop n w.positions))) same
    ∙ ap (λ o. put_before (position_of w (k - 1)) o (rows_from w k (drop k w.positions))) e)

-- an identifier leads to the next monomer
left_of-continued : (part : Part) (p : P3) (id : ℕ) (row : Row) (rows : List Row)
    → left_of part (put_before p (Some id) (row ∷ rows)) ≡ id_text part id ++ left_of Ids (row ∷ rows)
left_of-continued Start p id row rows = refl
left_of-continued Ids p id row rows = refl

-- a row begins
flat_map-row : (row : Row) (rows : List Row) → flat_map row_text (row ∷ rows) ≡ position_text row.start ++ left_of Start (row ∷ rows)
flat_map-row row rows =
    let nl = codes "\n" in
    let more = flat_map row_text rows in
    ap (λ l. l ++ more) (append_assoc (position_text row.start) (ids_text row.ids) nl)
    ∙ append_assoc (position_text row.start) (ids_text row.ids ++ nl) more

-- the next monomer begins a row
left_of-ended : (part : Part) (p : P3) (row : Row) (rows : List Row)
    → left_of part (put_before p None (row ∷ rows)) ≡ codes "\n" ++ (position_text row.start ++ left_of Start (row ∷ rows))
left_of-ended Start p row rows = ap (λ l. codes "\n" ++ l) (flat_map-row row rows)
left_of-ended Ids p row rows = ap (λ l. codes "\n" ++ l) (flat_map-row row rows)

-- The same at a monomer of a world.
pub left_behind-continued : (part : Part) (w : Configuration) (k id : ℕ) → 0 < k → k < length w.positions → continuation w (k - 1) ≡ Some id
    → left_behind part w (k - 1) ≡ id_text part id ++ left_behind Ids w k
left_behind-continued part w k id later h e =
    let f = rows_from-first w k h in
    let step = put_before-at w k (Some id) later h e in
    ap (left_of part) (step ∙ ap (put_before (position_of w (k - 1)) (Some id)) f.2)
    ∙ (left_of-continued part (position_of w (k - 1)) id (record { start = position_of w k; ids = f.0 }) f.1 ∙ ap (λ rows. id_text part id ++ left_of Ids rows) (sym f.2))

pub left_behind-ended : (part : Part) (w : Configuration) (k : ℕ) → 0 < k → k < length w.positions → continuation w (k - 1) ≡ None
    → left_behind part w (k - 1) ≡ codes "\n" ++ (position_text (position_of w k) ++ left_behind Start w k)
left_behind-ended part w k later h e =
    let f = rows_from-first w k h in
    let step = put_before-at w k None later h e in
    ap (left_of part) (step ∙ ap (put_before (position_of w (k - 1)) None) f.2)
    ∙ (left_of-ended part (position_of w (k - 1)) (record { start = position_of w k; ids = f.0 }) f.1 ∙ ap (λ rows. codes "\n" ++ (position_text (position_of w k) ++ left_of Start rows)) (sym f.2))

-- the first monomer
pub rows_of-first : (w : Configuration) → 0 < length w.positions → flat_map row_text (rows_of w) ≡ position_text (position_of w 0) ++ left_behind Start w 0
rows_of-first w h =
    let f = rows_from-first w 0 h in
    ap (flat_map row_text) f.2 ∙ (flat_map-row (record { start = position_of w 0; ids = f.0 }) f.1 ∙ ap (λ rows. position_text (position_of w 0) ++ left_of Start rows) (sym f.2))

-- a monomer alone
left_of-alone : (part : Part) (p : P3) (leads : Option ℕ) → left_of part (put_before p leads []) ≡ codes "\n"
left_of-alone Start p None = refl
left_of-alone Start p (Some id) = refl
left_of-alone Ids p None = refl
left_of-alone Ids p (Some id) = refl

-- the last monomer
pub left_behind-last : (part : Part) (w : Configuration) (k : ℕ) → k + 1 ≡ length w.positions → left_behind part w k ≡ codes "\n"
left_behind-last part w k e =
    let none : drop (k + 1) w.positions ≡ [] = drop_all (k + 1) w.positions (omega arith) in
    ap (left_of part) (rows_from-step w k (omega arith) ∙ ap (λ ps. put_before (position_of w k) (continuation w k) (rows_from w (k + 1) ps)) none)
    ∙ left_of-alone part (position_of w k) (continuation w k)
