-- A frame line that has been read, and its causes.
use Rattle.std.proofs.Common.{◌≡◌, ℕ, ◌+◌, ◌<◌, ◌≤◌, Bool, true, false, cond, List, [], ◌∷◌, length, drop, take, Option, None, Some, is_some, Ok, Err, nat_lt, refl, ap, sym, ◌∙◌, arith, length-append}
use Rattle.std.specs.List.{list_all}
use Rattle.std.proofs.lemmas.Bool.Decides.{nat_tests}
use Rattle.std.proofs.lemmas.List.{drop_at, take_at}
use Rattle.bfm_base.specs.declared.place.P3.{P3}
use Rattle.bfm_base.specs.declared.cause.Cause.{Cause}
use Rattle.bfm_base.specs.declared.cause.Cause.TheVariants.{UnknownId, FrameLong, Outside, Overlap, BadBond, TooManyBonds, BondUnknown}
use Rattle.bond_set.specs.BondSet.{vector_of}
use Rattle.bfm_world.specs.Configuration.{may_bond, position_at}
use Rattle.bfm_world.specs.Draft.{Draft, with_bonds}
use Rattle.bfm_commands.specs.Forms.{frame_line}
use Rattle.bfm_commands.specs.History.{string_positions, line_positions, given_in, walk, with_pairs, chain}
use Rattle.bfm_commands.specs.Causes.{least, entered, string_cause, frame_cause, is_overfull, some_unbonded}
use Rattle.bfm_commands.specs.Placing.{placing_cause, or_else, positions_cause, later_cause}
use Rattle.bfm_commands.specs.Reading.{IsLineBegun}
use Rattle.bfm_commands.proofs.WalkLemmas.{length-walk, steps-behind}

-- causes of a line whose identifiers are known and which is not too long
least-placing : (a b c d e : Bool)
    → least ((UnknownId, false) ∷ (FrameLong, false) ∷ (Outside, a) ∷ (Overlap, b) ∷ (BadBond, c) ∷ (TooManyBonds, d) ∷ (BondUnknown, e) ∷ [])
    ≡ or_else (cond a (Some Outside) (cond b (Some Overlap) (cond c (Some BadBond) None))) (cond d (Some TooManyBonds) (cond e (Some BondUnknown) None))
least-placing true b c d e = refl
least-placing false true c d e = refl
least-placing false false true d e = refl
least-placing false false false d e = refl

-- ---- a line that is refused at once
pub frame_cause-form : (first : Bool) (draft : Draft) (text : List ℕ) (cause : Cause) → frame_line text ≡ Err cause → frame_cause first draft text ≡ Some cause
frame_cause-form first draft text cause e = ap (entered (string_cause first draft)) e

pub frame_cause-unknown : (first : Bool) (draft : Draft) (text : List ℕ) (line : P3 × List ℕ) → frame_line text ≡ Ok line → list_all (λ id. is_some (vector_of draft.world.set id)) line.1 ≡ false
    → frame_cause first draft text ≡ Some UnknownId
frame_cause-unknown first draft text line e unknown = ap (entered (string_cause first draft)) e ∙ rw unknown refl

pub frame_cause-long : (first : Bool) (draft : Draft) (text : List ℕ) (line : P3 × List ℕ) → frame_line text ≡ Ok line → list_all (λ id. is_some (vector_of draft.world.set id)) line.1 ≡ true
    → draft.count < length draft.world.positions + 1 + length line.1 → frame_cause first draft text ≡ Some FrameLong
frame_cause-long first draft text line e known long =
    let more : nat_lt draft.count (length draft.world.positions + 1 + length line.1) ≡ true = grind (arith, nat_tests) in
    ap (entered (string_cause first draft)) e ∙ rw (known, more) refl

-- ---- a line that has begun
module _ (draft : Draft) (text : List ℕ) (list : List P3) (b : IsLineBegun draft text list) where
  abbrev ps : List P3
  ps = string_positions draft.world.set b.line

  pub count-list : length list ≡ length draft.world.positions + 1 + length b.line.1
  count-list = omega (arith, ap length b.positions, length-append draft.world.positions ps, length-walk draft.world.set b.line.0 b.line.1)

  pub drop-begun : drop (length draft.world.positions) list ≡ string_positions draft.world.set b.line
  drop-begun = ap (drop (length draft.world.positions)) b.positions ∙ drop_at draft.world.positions ps (length draft.world.positions) refl

  pub take-begun : take (length draft.world.positions) list ≡ draft.world.positions
  take-begun = ap (take (length draft.world.positions)) b.positions ∙ take_at draft.world.positions ps (length draft.world.positions) refl

  pub line_positions-begun : line_positions draft.world.set (given_in frame_line (Some text)) ≡ string_positions draft.world.set b.line
  line_positions-begun = rw b.form refl

  pub steps-begun : (k : ℕ) → length draft.world.positions ≤ k → k + 1 < length list → may_bond draft.world.shape draft.world.set (position_at list k) (position_at list (k + 1)) ≡ true
  steps-begun = steps-behind draft.world.shape draft.world.set draft.world.positions list b.line b.sound.box b.sound.set b.known b.positions

  fits : nat_lt draft.count (length draft.world.positions + 1 + length b.line.1) ≡ false
  fits = let l = b.room in let m = count-list in grind (arith, nat_tests)

  number : length (walk draft.world.set b.line.0 b.line.1) ≡ length b.line.1
  number = length-walk draft.world.set b.line.0 b.line.1

  pub frame_cause-first : frame_cause true draft text ≡ positions_cause draft (string_positions draft.world.set b.line)
  frame_cause-first =
      let w = draft.world in
      let bonds : ℕ → List (List ℕ) = λ n. with_pairs w.bonds (chain (length w.positions) n) in
      let cause : ℕ → Option Cause = λ n. or_else (placing_cause (with_bonds draft (bonds n)).world ps) (cond (is_overfull (bonds n)) (Some TooManyBonds) None) in
      ap (entered (string_cause true draft)) b.form
      ∙ (rw (b.known, fits) (least-placing _ _ _ _ false) ∙ ap cause (sym number))

  pub frame_cause-later : frame_cause false draft text ≡ later_cause draft (string_positions draft.world.set b.line)
  frame_cause-later =
      let w = draft.world in
      let cause : ℕ → Option Cause = λ n. or_else (placing_cause w ps) (cond (some_unbonded w.bonds (chain (length w.positions) n)) (Some BondUnknown) None) in
      ap (entered (string_cause false draft)) b.form
      ∙ (rw (b.known, fits) (least-placing _ _ _ false (some_unbonded w.bonds (chain (length w.positions) (length b.line.1)))) ∙ ap cause (sym number))
