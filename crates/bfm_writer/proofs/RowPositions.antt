-- The rows of a world give back where its monomers stand.
use Rattle.std.proofs.Common.{◌≡◌, ℕ, Bool, true, false, if◌then◌else◌, ◌+◌, ◌<◌, ◌++◌, List, [], ◌∷◌, ◌+ℤ◌, ◌-ℤ◌, Option, None, Some, nat_eq, length, length-drop, drop, refl, ap, sym, ◌∙◌, subst, arith}
use Rattle.std.specs.List.{flat_map, IsDistinct}
use Rattle.std.specs.Map.{keys_of}
use Rattle.std.proofs.lemmas.Cmp.{nat_eq_equiv}
use Rattle.std.proofs.lemmas.Int.{ints}
use Rattle.std.proofs.lemmas.List.{drop_more}
use Rattle.std.proofs.lemmas.Map.Views.{Contains-from_lookup, lookup-from_Contains}
use Rattle.bfm_base.specs.declared.place.P3.{P3}
use Rattle.bfm_geom.specs.Difference.{plus, minus}
use Rattle.bond_set.specs.BondSet.{flipped, id_of, ids_of, vector_of, IsBondSet}
use Rattle.bond_set.proofs.ListLemmas.{Contains-map}
use Rattle.bond_set.proofs.PairLemmas.{same_from_same_vector}
use Rattle.bfm_world.specs.Bonds.{are_bonded}
use Rattle.bfm_world.specs.Configuration.{Configuration, position_of}
use Rattle.bfm_writer.proofs.RowLemmas.{put_before-first}
use Rattle.bfm_writer.specs.Rows.{Row, continuation, put_before, rows_from, rows_of, led, positions_along, row_positions}

keys-flipped : (pairs : List (P3 × ℕ)) → ids_of pairs ≡ keys_of (flipped pairs)
keys-flipped [] = refl
keys-flipped (e ∷ es) = ap (λ l. e.1 ∷ l) (keys-flipped es)

-- the vector of the identifier of a vector is that vector
vector_of-id : (pairs : List (P3 × ℕ)) (v : P3) (id : ℕ) → IsBondSet pairs → id_of pairs v ≡ Some id → vector_of pairs id ≡ Some v
vector_of-id pairs v id ok e =
    let pair = Contains-from_lookup same_from_same_vector v id pairs e in
    lookup-from_Contains nat_eq_equiv id v (flipped pairs) (subst (IsDistinct nat_eq) (keys-flipped pairs) ok.ids_differ) (Contains-map (λ e. (e.1, e.0)) pairs (v, id) pair)

-- a difference leads from the one place to the other
plus-minus : (p q : P3) → plus p (minus q p) ≡ q
plus-minus p q =
    let x : p.x +ℤ (q.x -ℤ p.x) ≡ q.x = omega (arith, ints) in
    let y : p.y +ℤ (q.y -ℤ p.y) ≡ q.y = omega (arith, ints) in
    let z : p.z +ℤ (q.z -ℤ p.z) ≡ q.z = omega (arith, ints) in
    λ i. record { x = x i; y = y i; z = z i }

-- the identifier of a continuation leads from the monomer to the next one
led-on : (w : Configuration) (k id : ℕ) → IsBondSet w.set → continuation w k ≡ Some id → led (position_of w k) (vector_of w.set id) ≡ position_of w (k + 1)
led-on w k id ok e =
    let step = minus (position_of w (k + 1)) (position_of w k) in
    let found = by (are_bonded w.bonds k (k + 1)) (id_of w.set step) e in
    ap (led (position_of w k)) (vector_of-id w.set step id ok found) ∙ plus-minus (position_of w k) (position_of w (k + 1))
  where
    by : (b : Bool) (o : Option ℕ) → (if b then o else None) ≡ Some id → o ≡ Some id
    by true o h = h
    by false o h = absurd (cc)

-- the first of the positions from a monomer on is that of the monomer
first_of : (w : Configuration) (k : ℕ) (p : P3) (ps : List P3) → p ∷ ps ≡ drop k w.positions → (p ≡ position_of w k) × (ps ≡ drop (k + 1) w.positions)
first_of w k p ps e =
    let inside : k < length w.positions = omega (arith, ap length e, length-drop k w.positions) in
    let same : p ∷ ps ≡ position_of w k ∷ drop (k + 1) w.positions = e ∙ drop_more w.positions k _ inside in
    (cc, cc)

-- and there the first of the rows starts
starts_at : (w : Configuration) (k : ℕ) (ps : List P3) (row : Row) (rows : List Row) → ps ≡ drop k w.positions → rows_from w k ps ≡ row ∷ rows
    → row.start ≡ position_of w k
starts_at w k [] row rows e h = absurd (cc)
starts_at w k (p ∷ ps) row rows e h =
    let f = put_before-first p (continuation w k) (rows_from w (k + 1) ps) in
    let same : row ≡ record { start = p; ids = f.0 } = cc (f.2, h) in
    ap (λ (r : Row). r.start) same ∙ (first_of w k p ps e).0

-- a monomer before the rows of those behind it
put_before-positions : (set : List (P3 × ℕ)) (p : P3) (leads : Option ℕ) (rows : List Row) (ps : List P3) → flat_map (row_positions set) rows ≡ ps
    → ((id : ℕ) (row : Row) (more : List Row) → leads ≡ Some id → rows ≡ row ∷ more → led p (vector_of set id) ≡ row.start)
    → flat_map (row_positions set) (put_before p leads rows) ≡ p ∷ ps
put_before-positions set p None rows ps e on = ap (λ l. p ∷ l) e
put_before-positions set p (Some id) [] ps e on = ap (λ l. p ∷ l) e
put_before-positions set p (Some id) (row ∷ rows) ps e on =
    ap (λ q. p ∷ (positions_along set q row.ids ++ flat_map (row_positions set) rows)) (on id row rows refl refl) ∙ ap (λ l. p ∷ l) e

positions_from : (w : Configuration) (k : ℕ) (ps : List P3) → IsBondSet w.set → ps ≡ drop k w.positions → flat_map (row_positions w.set) (rows_from w k ps) ≡ ps
positions_from w k [] ok e = refl
positions_from w k (p ∷ ps) ok e =
    let here = first_of w k p ps e in
    put_before-positions w.set p (continuation w k) (rows_from w (k + 1) ps) ps (positions_from w (k + 1) ps ok here.1)
    (λ id row more leads first. ap (λ q. led q (vector_of w.set id)) here.0 ∙ (led-on w k id ok leads ∙ sym (starts_at w (k + 1) ps row more here.1 first)))

-- so the rows of a frame say where each monomer stands
pub rows_of-positions : (w : Configuration) → IsBondSet w.set → flat_map (row_positions w.set) (rows_of w) ≡ w.positions
rows_of-positions w ok = positions_from w 0 w.positions ok refl
