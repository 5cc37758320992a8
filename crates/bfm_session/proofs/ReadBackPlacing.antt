-- A row of the frame of a valid world is right behind the positions before it.
use Rattle.std.proofs.Common.{◌≡◌, ℕ, zero, suc, ◌+◌, ◌<◌, ◌≤◌, Bool, true, false, not, nat_lt, List, [], ◌∷◌, ◌++◌, length, get_or, None, is_some, refl, sym, ap, ◌∙◌, subst, append_assoc, length-append, arith}
use Rattle.std.specs.Prelude.{slice_get}
use Rattle.std.specs.List.{AllByRecursion, list_all}
use Rattle.std.proofs.lemmas.Bool.{or_from}
use Rattle.std.proofs.lemmas.Bool.Decides.{nat_tests}
use Rattle.std.proofs.lemmas.List.{get_or_at, get_or_append_left}
use Rattle.std.proofs.lemmas.Option.{slice_get-get_or, slice_get_past}
use Rattle.bfm_base.specs.declared.place.P3.{P3}
use Rattle.bfm_geom.specs.Difference.{overlaps}
use Rattle.bfm_geom.specs.Walls.{is_within_walls}
use Rattle.bond_set.specs.BondSet.{vector_of}
use Rattle.bfm_world.specs.Bonds.{neighbours_of, are_bonded}
use Rattle.bfm_world.specs.Configuration.{Configuration, IsValid, is_clear, may_bond, may_reach, keeps_bonds, position_at}
use Rattle.bfm_world.specs.Draft.{Draft}
use Rattle.bfm_world.proofs.BondLemmas.{has}
use Rattle.bfm_commands.specs.History.{with_pairs, string_positions, chain}
use Rattle.bfm_commands.specs.Causes.{some_fails, is_apart, is_bonded_well, is_overfull, some_unbonded, string_cause}
use Rattle.bfm_commands.proofs.FrameLemmas.{all_from}
use Rattle.bfm_commands.proofs.WalkLemmas.{length-walk}
use Rattle.bfm_session.proofs.ReadBackBonds.{IsPartOf, room_for_all}

-- a test that each position of a list passes behind those before it
some_fails-none : (test : List P3 → P3 → Bool) (whole : List P3) → ((before : List P3) (p : P3) (rest : List P3) → before ++ p ∷ rest ≡ whole → test before p ≡ true)
    → (before ps more : List P3) → before ++ (ps ++ more) ≡ whole → some_fails test before ps ≡ false
some_fails-none test whole passes before [] more e = refl
some_fails-none test whole passes before (p ∷ ps) more e =
    or_from (not (test before p)) (some_fails test (before ++ p ∷ []) ps) (ap not (passes before p (ps ++ more) e))
    (some_fails-none test whole passes (before ++ p ∷ []) ps more (append_assoc before (p ∷ []) (ps ++ more) ∙ e))

-- the positions of the world, of which those before one stand
module _ (w : Configuration) (ok : IsValid w) (before : List P3) (p : P3) (rest : List P3) (e : before ++ p ∷ rest ≡ w.positions) where
  here : ℕ
  here = length before

  inside : length before < length w.positions
  inside = subst (λ l. length before < length l) e (omega (arith, length-append before (p ∷ rest)))

  at_here : (d : P3) → get_or w.positions (length before) d ≡ p
  at_here d = ap (λ l. get_or l (length before) d) (sym e) ∙ get_or_at before p rest d (length before) refl

  at_before : (j : ℕ) (d : P3) → j < length before → get_or w.positions j d ≡ get_or before j d
  at_before j d l = ap (λ ps. get_or ps j d) (sym e) ∙ get_or_append_left before (p ∷ rest) d j l

  within : is_within_walls w.shape p ≡ true
  within = subst (λ q. is_within_walls w.shape q ≡ true) (at_here p) (ok.inside (length before) p inside)

  clear_of : (others : List P3) → ((j : ℕ) (d : P3) → j < length others → overlaps w.shape (get_or others j d) p ≡ false) → is_clear w.shape others p ≡ true
  clear_of [] apart = refl
  clear_of (q ∷ qs) apart =
      let first : overlaps w.shape q p ≡ false = apart zero q (omega arith) in
      rw first (clear_of qs (λ j d l. apart (suc j) d (omega (arith, l))))

  clear : is_clear w.shape before p ≡ true
  clear = clear_of before (λ j d l.
      subst (λ q. overlaps w.shape q p ≡ false) (at_before j d l) (subst (λ q. overlaps w.shape (get_or w.positions j d) q ≡ false) (at_here d) (ok.apart j (length before) d l inside)))

  -- a neighbour in bonds that are part of the world's
  reaches : (bonds : List (List ℕ)) → IsPartOf (length w.positions) bonds w.bonds → (j : ℕ) → has j (neighbours_of bonds (length before)) ≡ true → may_reach w.shape w.set p (slice_get before j) ≡ true
  reaches bonds part j there = by_place (nat_lt j (length before)) refl
    where
      by_place : (b : Bool) → nat_lt j (length before) ≡ b → may_reach w.shape w.set p (slice_get before j) ≡ true
      by_place true e =
          let l : j < length before = grind (arith, nat_tests) in
          let bonded : are_bonded w.bonds (length before) j ≡ true = part.within (length before) j there in
          let vector = ok.vectors (length before) j inside (omega (arith, l, inside)) bonded in
          ap (may_reach w.shape w.set p) (slice_get-get_or before j _ l)
          ∙ (ap (may_bond w.shape w.set p) (sym (at_before j _ l)) ∙ (ap (λ q. may_bond w.shape w.set q (position_at w.positions j)) (sym (at_here _)) ∙ vector))
      by_place false e =
          let past : length before ≤ j = grind (arith, nat_tests) in
          ap (may_reach w.shape w.set p) (slice_get_past before j past)

  keeps : (bonds : List (List ℕ)) → IsPartOf (length w.positions) bonds w.bonds → keeps_bonds w.shape w.set before (neighbours_of bonds (length before)) p ≡ true
  keeps bonds part = all_from (λ j. may_reach w.shape w.set p (slice_get before j)) (neighbours_of bonds (length before)) (reaches bonds part)

-- the draft of a world with some positions and bonds
abbrev pub partly : Configuration → List P3 → List (List ℕ) → Draft
partly w positions bonds = record { world = record w { positions = positions; bonds = bonds }; count = length w.positions }

-- A frame line whose positions are those of the world, and whose bonds are the world's, is right in its first frame.
pub string_cause-none : (w : Configuration) → IsValid w → (positions more : List P3) (bonds : List (List ℕ)) (line : P3 × List ℕ)
    → list_all (λ id. is_some (vector_of w.set id)) line.1 ≡ true → positions ++ (string_positions w.set line ++ more) ≡ w.positions
    → IsPartOf (length w.positions) (with_pairs bonds (chain (length positions) (length line.1))) w.bonds
    → string_cause true (partly w positions bonds) line ≡ None
string_cause-none w ok positions more bonds line known place part =
    let ps = string_positions w.set line in
    let joined = with_pairs bonds (chain (length positions) (length line.1)) in
    let total = ap length place in
    let size : length positions + 1 + length line.1 ≤ length w.positions =
    omega (arith, total, length-append positions (ps ++ more), length-append ps more, length-walk w.set line.0 line.1) in
    let fits : nat_lt (length w.positions) (length positions + 1 + length line.1) ≡ false = short (length w.positions) (length positions + 1 + length line.1) size in
    let walls : some_fails (λ before p. is_within_walls w.shape p) positions ps ≡ false =
    some_fails-none (λ before p. is_within_walls w.shape p) w.positions (within w ok) positions ps more place in
    let apart : some_fails (is_apart (partly w positions bonds).world) positions ps ≡ false =
    some_fails-none (is_apart (partly w positions bonds).world) w.positions (clear w ok) positions ps more place in
    let bonded : some_fails (is_bonded_well (partly w positions joined).world) positions ps ≡ false =
    some_fails-none (is_bonded_well (partly w positions joined).world) w.positions (λ before p rest e. keeps w ok before p rest e joined part) positions ps more place in
    let few : is_overfull joined ≡ false = room_for_all (length w.positions) w.bonds ok.bonds joined part in
    rw (known, fits, walls, apart, bonded, few) refl
  where
    short : (n m : ℕ) → m ≤ n → nat_lt n m ≡ false
    short n m l = grind (arith, nat_tests)

-- all bonds of a world are part of them
pub IsPartOf-all : (w : Configuration) → IsValid w → IsPartOf (length w.positions) w.bonds w.bonds
IsPartOf-all w ok = record { are = ok.bonds; within = λ i j there. there }

-- pairs that are bonded
some_unbonded-bonded : (bonds : List (List ℕ)) (pairs : List (ℕ × ℕ)) → AllByRecursion (λ pair. are_bonded bonds pair.0 pair.1 ≡ true) pairs → some_unbonded bonds pairs ≡ false
some_unbonded-bonded bonds [] each = refl
some_unbonded-bonded bonds (pair ∷ pairs) each = or_from (not (are_bonded bonds pair.0 pair.1)) (some_unbonded bonds pairs) (ap not each.0) (some_unbonded-bonded bonds pairs each.1)

-- In a later frame its successive monomers are bonded already.
pub string_cause-later : (w : Configuration) → IsValid w → (positions more : List P3) (line : P3 × List ℕ)
    → list_all (λ id. is_some (vector_of w.set id)) line.1 ≡ true → positions ++ (string_positions w.set line ++ more) ≡ w.positions
    → AllByRecursion (λ pair. are_bonded w.bonds pair.0 pair.1 ≡ true) (chain (length positions) (length line.1))
    → string_cause false (partly w positions w.bonds) line ≡ None
string_cause-later w ok positions more line known place shown =
    let ps = string_positions w.set line in
    let total = ap length place in
    let size : length positions + 1 + length line.1 ≤ length w.positions =
    omega (arith, total, length-append positions (ps ++ more), length-append ps more, length-walk w.set line.0 line.1) in
    let fits : nat_lt (length w.positions) (length positions + 1 + length line.1) ≡ false = short (length w.positions) (length positions + 1 + length line.1) size in
    let walls : some_fails (λ before p. is_within_walls w.shape p) positions ps ≡ false =
    some_fails-none (λ before p. is_within_walls w.shape p) w.positions (within w ok) positions ps more place in
    let apart : some_fails (is_apart (partly w positions w.bonds).world) positions ps ≡ false =
    some_fails-none (is_apart (partly w positions w.bonds).world) w.positions (clear w ok) positions ps more place in
    let bonded : some_fails (is_bonded_well (partly w positions w.bonds).world) positions ps ≡ false =
    some_fails-none (is_bonded_well (partly w positions w.bonds).world) w.positions (λ before p rest e. keeps w ok before p rest e w.bonds (IsPartOf-all w ok)) positions ps more place in
    let there = some_unbonded-bonded w.bonds (chain (length positions) (length line.1)) shown in
    rw (known, fits, walls, apart, bonded, there) refl
  where
    short : (n m : ℕ) → m ≤ n → nat_lt n m ≡ false
    short n m l = grind (arith, nat_tests)
