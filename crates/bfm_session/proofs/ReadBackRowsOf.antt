-- The rows of the frame of a valid world: their identifiers are known, and their successive monomers are bonded.
use Rattle.std.proofs.Common.{◌≡◌, ℕ, suc, ◌+◌, ◌<◌, ◌≤◌, Bool, true, false, nat_eq, if◌then◌else◌, List, [], ◌∷◌, ◌++◌, length, pos, ◌+ℤ◌, Option, None, Some, is_some, IfSome, unwrap_or, refl, sym, ap, ◌∙◌, subst, ⊎_elim, arith}
use Rattle.std.specs.List.{AllByRecursion, list_all, Contains}
use Rattle.std.proofs.lemmas.Bool.{cases_Bool}
use Rattle.std.proofs.lemmas.Bool.Decides.{nat_tests}
use Rattle.std.proofs.lemmas.Int.{ints}
use Rattle.std.proofs.lemmas.List.Elements.{All-contains}
use Rattle.bfm_base.specs.Place.{extent_of}
use Rattle.bfm_base.specs.declared.place.P3.{P3}
use Rattle.bfm_geom.specs.Difference.{plus, minus}
use Rattle.bond_set.specs.BondSet.{IsBondSet, ids_of, id_of, vector_of, is_identifier}
use Rattle.bond_set.proofs.ListLemmas.{Contains-map}
use Rattle.bond_set.proofs.PairLemmas.{id_of-pair, vector_of-present}
use Rattle.bfm_world.specs.Bonds.{are_bonded}
use Rattle.bfm_world.specs.Configuration.{Configuration, position_of, reach_of}
use Rattle.bfm_writer.specs.Rows.{Row, continuation, put_before, rows_from, led, positions_along, row_positions}
use Rattle.bfm_commands.specs.History.{walk, string_positions, chain}
use Rattle.bfm_session.proofs.ReadBackLines.{is_plain, both_true}

-- The positions of a row, in the words of the reader.

led-plus : (p : P3) (o : Option P3) → plus p (unwrap_or o (record { x = pos 0; y = pos 0; z = pos 0 })) ≡ led p o
led-plus p None =
    let x : p.x +ℤ pos 0 ≡ p.x = omega (arith, ints) in
    let y : p.y +ℤ pos 0 ≡ p.y = omega (arith, ints) in
    let z : p.z +ℤ pos 0 ≡ p.z = omega (arith, ints) in
    λ i. record { x = x i; y = y i; z = z i }
led-plus p (Some v) = refl

walk-along : (set : List (P3 × ℕ)) (p : P3) (ids : List ℕ) → p ∷ walk set p ids ≡ positions_along set p ids
walk-along set p [] = refl
walk-along set p (id ∷ ids) =
    let next = led-plus p (vector_of set id) in
    ap (λ q. p ∷ (q ∷ walk set q ids)) next ∙ ap (λ l. p ∷ l) (walk-along set (led p (vector_of set id)) ids)

pub string_positions-row : (set : List (P3 × ℕ)) (row : Row) → string_positions set (row.start, row.ids) ≡ row_positions set row
string_positions-row set row = walk-along set row.start row.ids

-- The identifiers.

-- an identifier of a set leads somewhere, and ends no line
pub record IsGoodId (set : List (P3 × ℕ)) (id : ℕ) : Type 0 where
  pub known : is_some (vector_of set id) ≡ true
  pub plain : is_plain id ≡ true

IsGoodId-vector : (set : List (P3 × ℕ)) (v : P3) (id : ℕ) → IsBondSet set → id_of set v ≡ Some id → IsGoodId set id
IsGoodId-vector set v id ok e =
    let pair : Contains set (v, id) = subst (λ o. IfSome o (λ n. Contains set (v, n))) e (id_of-pair set v) in
    let there : Contains (ids_of set) id = Contains-map (λ (p : P3 × ℕ). p.1) set (v, id) pair in
    let identifier : is_identifier (pos id) ≡ true = All-contains (λ n. is_identifier (pos n) ≡ true) (ids_of set) id ok.ids there in
    record { known = (vector_of-present set id).1 there; plain = grind (arith, nat_tests, identifier) }

-- what leads to the next monomer
record Leads (w : Configuration) (k id : ℕ) : Type 0 where
  bonded : are_bonded w.bonds k (k + 1) ≡ true
  good : IsGoodId w.set id

Leads-continuation : (w : Configuration) (k id : ℕ) → IsBondSet w.set → continuation w k ≡ Some id → Leads w k id
Leads-continuation w k id ok e =
    let step = minus (position_of w (k + 1)) (position_of w k) in
    by (are_bonded w.bonds k (k + 1)) refl e
  where
    by : (b : Bool) → are_bonded w.bonds k (k + 1) ≡ b → (if b then id_of w.set (minus (position_of w (k + 1)) (position_of w k)) else None) ≡ Some id → Leads w k id
    by true there h = record { bonded = there; good = IsGoodId-vector w.set (minus (position_of w (k + 1)) (position_of w k)) id ok h }
    by false there h = absurd (cc)

-- Each row: its identifiers are good, and its start is near.
pub record IsGoodRow (set : List (P3 × ℕ)) (reach : ℕ) (row : Row) : Type 0 where
  pub known : list_all (λ id. is_some (vector_of set id)) row.ids ≡ true
  pub plain : list_all is_plain row.ids ≡ true
  pub near : extent_of row.start ≤ reach

put_good : (set : List (P3 × ℕ)) (reach : ℕ) (p : P3) (leads : Option ℕ) (rows : List Row) → extent_of p ≤ reach → ((id : ℕ) → leads ≡ Some id → IsGoodId set id)
    → AllByRecursion (IsGoodRow set reach) rows → AllByRecursion (IsGoodRow set reach) (put_before p leads rows)
put_good set reach p None rows near good all = (record { known = refl; plain = refl; near = near }, all)
put_good set reach p (Some id) [] near good all = (record { known = refl; plain = refl; near = near }, tt)
put_good set reach p (Some id) (row ∷ rows) near good all =
    let first = good id refl in (
      record {
        known = both_true (is_some (vector_of set id)) (list_all (λ id. is_some (vector_of set id)) row.ids) first.known all.0.known;
        plain = both_true (is_plain id) (list_all is_plain row.ids) first.plain all.0.plain;
        near = near;
      },
      all.1,
    )

pub each_good : (w : Configuration) (reach k : ℕ) (ps : List P3) → IsBondSet w.set → reach_of ps ≤ reach → AllByRecursion (IsGoodRow w.set reach) (rows_from w k ps)
each_good w reach k [] ok near = tt
each_good w reach k (p ∷ ps) ok near =
    put_good w.set reach p (continuation w k) (rows_from w (k + 1) ps) (omega (arith, near)) (λ id e. (Leads-continuation w k id ok e).good)
    (each_good w reach (k + 1) ps ok (omega (arith, near)))

-- The sizes of rows.

abbrev pub size_of : List Row → ℕ
size_of [] = 0
size_of (row ∷ rows) = length row.ids + 1 + size_of rows

put_size : (p : P3) (leads : Option ℕ) (rows : List Row) → size_of (put_before p leads rows) ≡ size_of rows + 1
put_size p None rows = omega arith
put_size p (Some id) [] = omega arith
put_size p (Some id) (row ∷ rows) = omega arith

pub size_of-rows : (w : Configuration) (k : ℕ) (ps : List P3) → size_of (rows_from w k ps) ≡ length ps
size_of-rows w k [] = refl
size_of-rows w k (p ∷ ps) = omega (arith, put_size p (continuation w k) (rows_from w (k + 1) ps), size_of-rows w (k + 1) ps)

pub each_short : (rows : List Row) (most : ℕ) → size_of rows ≤ most → AllByRecursion (λ row. length row.ids < most) rows
each_short [] most l = tt
each_short (row ∷ rows) most l = (omega (arith, l), each_short rows most (omega (arith, l)))

-- The pairs of successive monomers that rows show, from a monomer on.

abbrev pub shown_from : ℕ → List Row → List (ℕ × ℕ)
shown_from k [] = []
shown_from k (row ∷ rows) = chain k (length row.ids) ++ shown_from (k + length row.ids + 1) rows

put_none : (k : ℕ) (p : P3) (rows : List Row) → shown_from k (put_before p None rows) ≡ shown_from (k + 1) rows
put_none k p rows = let same : k + 0 + 1 ≡ k + 1 = omega arith in ap (λ n. shown_from n rows) same

put_some : (k : ℕ) (p : P3) (id : ℕ) (row : Row) (rows : List Row) → shown_from k (put_before p (Some id) (row ∷ rows)) ≡ (k, k + 1) ∷ shown_from (k + 1) (row ∷ rows)
put_some k p id row rows =
    let same : k + suc (length row.ids) + 1 ≡ k + 1 + length row.ids + 1 = omega arith in
    ap (λ n. (k, k + 1) ∷ (chain (k + 1) (length row.ids) ++ shown_from n rows)) same

shown_step : (w : Configuration) (k : ℕ) (p : P3) (leads : Option ℕ) (rows : List Row) → IsBondSet w.set → continuation w k ≡ leads
    → AllByRecursion (λ pair. are_bonded w.bonds pair.0 pair.1 ≡ true) (shown_from (k + 1) rows) → AllByRecursion (λ pair. are_bonded w.bonds pair.0 pair.1 ≡ true) (shown_from k (put_before p leads rows))
shown_step w k p None rows ok e all = subst (AllByRecursion (λ pair. are_bonded w.bonds pair.0 pair.1 ≡ true)) (sym (put_none k p rows)) all
shown_step w k p (Some id) [] ok e all = tt
shown_step w k p (Some id) (row ∷ rows) ok e all =
    subst (AllByRecursion (λ pair. are_bonded w.bonds pair.0 pair.1 ≡ true)) (sym (put_some k p id row rows)) ((Leads-continuation w k id ok e).bonded, all)

-- they are bonded
pub each_shown : (w : Configuration) (k : ℕ) (ps : List P3) → IsBondSet w.set → AllByRecursion (λ pair. are_bonded w.bonds pair.0 pair.1 ≡ true) (shown_from k (rows_from w k ps))
each_shown w k [] ok = tt
each_shown w k (p ∷ ps) ok = shown_step w k p (continuation w k) (rows_from w (k + 1) ps) ok refl (each_shown w (k + 1) ps ok)

-- each monomer that has a continuation is shown with the next one
tail_shown : (P : ℕ × ℕ → Type 0) (k : ℕ) (p : P3) (leads : Option ℕ) (rows : List Row) → AllByRecursion P (shown_from k (put_before p leads rows)) → AllByRecursion P (shown_from (k + 1) rows)
tail_shown P k p None rows all = subst (AllByRecursion P) (put_none k p rows) all
tail_shown P k p (Some id) [] all = tt
tail_shown P k p (Some id) (row ∷ rows) all = (subst (AllByRecursion P) (put_some k p id row rows) all).1

head_shown : (P : ℕ × ℕ → Type 0) (k : ℕ) (p : P3) (leads : Option ℕ) (rows : List Row) → is_some leads ≡ true → 0 < length rows → AllByRecursion P (shown_from k (put_before p leads rows)) → P (k, k + 1)
head_shown P k p None rows some more all = absurd (cc)
head_shown P k p (Some id) [] some more all = absurd (omega (arith, more))
head_shown P k p (Some id) (row ∷ rows) some more all = (subst (AllByRecursion P) (put_some k p id row rows) all).0

some_row : (w : Configuration) (k : ℕ) (ps : List P3) → 0 < length ps → 0 < length (rows_from w k ps)
some_row w k [] l = absurd (omega (arith, l))
some_row w k (p ∷ ps) l = by (continuation w k) (rows_from w (k + 1) ps)
  where
    by : (leads : Option ℕ) (rows : List Row) → 0 < length (put_before p leads rows)
    by None rows = omega arith
    by (Some id) [] = omega arith
    by (Some id) (row ∷ rows) = omega arith

pub shown_there : (P : ℕ × ℕ → Type 0) (w : Configuration) (k m : ℕ) (ps : List P3) → AllByRecursion P (shown_from k (rows_from w k ps)) → k ≤ m → m + 1 < k + length ps → is_some (continuation w m) ≡ true
    → P (m, m + 1)
shown_there P w k m [] all low high some = absurd (omega (arith, low, high))
shown_there P w k m (p ∷ ps) all low high some =
    ⊎_elim
    (λ (same : nat_eq k m ≡ true).
    let is : k ≡ m = grind (arith, nat_tests) in
    subst (λ n. P (n, n + 1)) is
    (head_shown P k p (continuation w k) (rows_from w (k + 1) ps) (ap (λ n. is_some (continuation w n)) is ∙ some) (some_row w (k + 1) ps (omega (arith, is, high))) all))
    (λ (other : nat_eq k m ≡ false).
    let less : k < m = grind (arith, nat_tests) in
    shown_there P w (k + 1) m ps (tail_shown P k p (continuation w k) (rows_from w (k + 1) ps) all) (omega (arith, less)) (omega (arith, high)) some)
    (cases_Bool (nat_eq k m))
