-- The sweeps of a run move monomers and add the bonds of pairs that they put into the log, and change nothing else.
use Rattle.std.proofs.Common.{◌≡◌, ℕ, zero, suc, ◌+◌, ◌*◌, ◌<◌, ◌≤◌, Bool, true, false, cond, nat_lt, List, [], ◌∷◌, ◌++◌, length, Option, None, Some, refl, sym, ap, ◌∙◌, subst, ⊎_elim, append_assoc, append-nil, arith}
use Rattle.std.proofs.lemmas.Bool.{cases_Bool, and_parts}
use Rattle.std.proofs.lemmas.Bool.Decides.{nat_tests}
use Rattle.std.proofs.lemmas.List.{length-set, set_past}
use Rattle.bfm_base.specs.declared.place.Dir.{Dir}
use Rattle.bfm_world.specs.Acceptance.{is_accepted, makes_move}
use Rattle.bfm_world.specs.Configuration.{Configuration, IsValid, is_legal, moved, reach_of, target_of}
use Rattle.bfm_world.proofs.ReachLemmas.{extent_of-target, reach_of-set}
use Rattle.bfm_world.proofs.ValidLemmas.{IsValid-moved}
use Rattle.crosslink.specs.Linking.{new_link}
use Rattle.crosslink.proofs.LinkLemmas.{IsNewLink, IsNewLink-new, IsValid-new}
use Rattle.sweep_run.specs.Sweep.{Progress, attempted, with_new, tried, turned, after_attempts, swept, after_sweeps, monomer_of, direction_of, acceptance_word, cleared}
use Rattle.bfm_session.proofs.ReadBackAdded.{joined, joined-append, AreLinkable, AreLinkable-append}
use Rattle.bfm_session.proofs.ReadBackGroup.{IsMoved}

-- What a run has become: its world is valid, has as many monomers, each at most so much farther out, and the bonds of the
-- pairs that came into the log, each of which could be added.
pub record IsGrown (far : ℕ) (old new : Progress) : Type 0 where
  pub pairs : List (ℕ × ℕ)
  pub log : new.log ≡ old.log ++ pairs
  pub valid : IsValid new.world
  pub size : length old.world.positions ≡ length new.world.positions
  pub rest : record old.world { positions = new.world.positions; bonds = joined old.world.bonds pairs } ≡ new.world
  pub near : reach_of new.world.positions ≤ reach_of old.world.positions + far
  pub each : AreLinkable (length old.world.positions) old.world.bonds pairs

IsGrown-none : (far : ℕ) (run : Progress) → IsValid run.world → IsGrown far run run
IsGrown-none far run ok = record { pairs = []; log = sym (append-nil run.log); valid = ok; size = refl; rest = refl; near = omega arith; each = tt }

IsGrown-then : (a b : ℕ) (x y z : Progress) → IsGrown a x y → IsGrown b y z → IsGrown (a + b) x z
IsGrown-then a b x y z d e =
    let same : joined x.world.bonds d.pairs ≡ y.world.bonds = ap (λ (w : Configuration). w.bonds) d.rest in
    let later : AreLinkable (length x.world.positions) (joined x.world.bonds d.pairs) e.pairs =
    subst (λ n. AreLinkable n (joined x.world.bonds d.pairs) e.pairs) (sym d.size) (subst (λ bonds. AreLinkable (length y.world.positions) bonds e.pairs) (sym same) e.each) in
    record {
      pairs = d.pairs ++ e.pairs;
      log = e.log ∙ (ap (λ l. l ++ e.pairs) d.log ∙ append_assoc x.log d.pairs e.pairs);
      valid = e.valid;
      size = d.size ∙ e.size;
      rest =
          ap (λ all. record x.world { positions = z.world.positions; bonds = all }) (joined-append x.world.bonds d.pairs e.pairs)
          ∙ (ap (λ (w : Configuration). record w { positions = z.world.positions; bonds = joined w.bonds e.pairs }) d.rest ∙ e.rest);
      near = omega (arith, d.near, e.near);
      each = AreLinkable-append (length x.world.positions) x.world.bonds d.pairs e.pairs d.each later;
    }

-- An attempt.

-- a run in which a monomer has moved
abbrev stepped : Progress → ℕ → Dir → Progress
stepped run i d = record run { world = moved run.world i d; tally = record run.tally { accepted = run.tally.accepted + 1 } }

grown_step : (run : Progress) (i : ℕ) (d : Dir) → IsValid (moved run.world i d) → reach_of (moved run.world i d).positions ≤ reach_of run.world.positions + 1 → IsGrown 1 run (stepped run i d)
grown_step run i d ok near = record {
  pairs = [];
  log = sym (append-nil run.log);
  valid = ok;
  size = sym (length-set run.world.positions i (target_of run.world i d));
  rest = refl;
  near = near;
  each = tt;
}

grown_inside : (run : Progress) (i : ℕ) (d : Dir) → IsValid run.world → is_legal run.world i d ≡ true → i < length run.world.positions → IsGrown 1 run (stepped run i d)
grown_inside run i d ok legal l =
    grown_step run i d (IsValid-moved run.world i d ok l legal)
    (omega (arith, reach_of-set run.world.positions i (target_of run.world i d), extent_of-target run.world i d l))

grown_past : (run : Progress) (i : ℕ) (d : Dir) → IsValid run.world → length run.world.positions ≤ i → IsGrown 1 run (stepped run i d)
grown_past run i d ok l =
    let same = set_past run.world.positions i (target_of run.world i d) l in
    grown_step run i d (subst (λ ps. IsValid (record run.world { positions = ps })) (sym same) ok) (omega (arith, ap reach_of same))

grown_attempt : (run : Progress) (i : ℕ) (d : Dir) (word : ℕ) → IsValid run.world → IsGrown 1 run (attempted run i d word)
grown_attempt run i d word ok = by_made (makes_move run.world i d word) refl
  where
    by_made : (made : Bool) → makes_move run.world i d word ≡ made → IsGrown 1 run (cond made (stepped run i d) run)
    by_made false e = IsGrown-none 1 run ok
    by_made true e =
        ⊎_elim
        (λ (inside : nat_lt i (length run.world.positions) ≡ true).
        let l : i < length run.world.positions = grind (arith, nat_tests) in
        grown_inside run i d ok (and_parts (is_legal run.world i d) (is_accepted run.world i d word) e).0 l)
        (λ (past : nat_lt i (length run.world.positions) ≡ false). let l : length run.world.positions ≤ i = grind (arith, nat_tests) in grown_past run i d ok l)
        (cases_Bool (nat_lt i (length run.world.positions)))

-- A try at a link.

grown_pair : (run : Progress) (pair : ℕ × ℕ) → IsValid run.world → IsNewLink run.world pair → IsGrown 0 run (with_new run (Some pair))
grown_pair run pair ok link = record {
  pairs = pair ∷ [];
  log = refl;
  valid = IsValid-new run.world pair ok link;
  size = refl;
  rest = refl;
  near = omega arith;
  each = (record { first = link.first; second = link.second; ordered = link.ordered; unbonded = link.unbonded; first_room = link.first_room; second_room = link.second_room }, tt);
}

grown_try : (linking : Bool) (run : Progress) (i : ℕ) (d : Dir) → IsValid run.world → IsGrown 0 run (tried linking run i d)
grown_try false run i d ok = IsGrown-none 0 run ok
grown_try true run i d ok = by_pair (new_link run.world i d) refl
  where
    by_pair : (o : Option (ℕ × ℕ)) → new_link run.world i d ≡ o → IsGrown 0 run (with_new run o)
    by_pair None e = IsGrown-none 0 run ok
    by_pair (Some pair) e = grown_pair run pair ok (IsNewLink-new run.world i d pair ok e)

-- Attempts and sweeps.

module _ (linking : Bool) where
  grown_turn : (n seed k : ℕ) (run : Progress) → IsValid run.world → IsGrown 1 run (turned linking n seed k run)
  grown_turn n seed k run ok =
      let i = monomer_of n seed k in
      let d = direction_of seed k in
      let next = attempted run i d (acceptance_word seed k) in
      let made = grown_attempt run i d (acceptance_word seed k) ok in
      IsGrown-then 1 0 run next (tried linking next i d) made (grown_try linking next i d made.valid)

  grown_attempts : (n seed first count : ℕ) (run : Progress) → IsValid run.world → IsGrown count run (after_attempts linking n seed first count run)
  grown_attempts n seed first zero run ok = IsGrown-none 0 run ok
  grown_attempts n seed first (suc count) run ok =
      let next = turned linking n seed first run in
      let last = after_attempts linking n seed (first + 1) count next in
      let one : 1 + count ≡ suc count = omega arith in
      let made = grown_turn n seed first run ok in
      subst (λ far. IsGrown far run last) one (IsGrown-then 1 count run next last made (grown_attempts n seed (first + 1) count next made.valid))

  -- sweeps of a world of n monomers
  pub grown_sweeps : (n seed t count : ℕ) (run : Progress) → length run.world.positions ≡ n → IsValid run.world → IsGrown (n * count) run (after_sweeps linking seed t count run)
  grown_sweeps n seed t zero run size ok = IsGrown-none (n * zero) run ok
  grown_sweeps n seed t (suc count) run size ok =
      let m = length run.world.positions in
      let next = swept linking seed t run in
      let last = after_sweeps linking seed (t + 1) count next in
      let made : IsGrown m run next = grown_attempts m seed (m * t) m run ok in
      let later = grown_sweeps n seed (t + 1) count next (sym made.size ∙ size) made.valid in
      let far : m + n * count ≡ n * suc count = omega (arith, size) in
      subst (λ far. IsGrown far run last) far (IsGrown-then m (n * count) run next last made later)

  -- the world after sweeps that begin with nothing in the log
  pub IsMoved-sweeps : (seed t count : ℕ) (run : Progress) → IsValid run.world
      → IsMoved run.world (after_sweeps linking seed t count (cleared run)).log (after_sweeps linking seed t count (cleared run)).world
  IsMoved-sweeps seed t count run ok =
      let last = after_sweeps linking seed t count (cleared run) in
      let grown = grown_sweeps (length run.world.positions) seed t count (cleared run) refl ok in
      subst (λ pairs. IsMoved run.world pairs last.world) (sym grown.log) (record { valid = grown.valid; size = grown.size; rest = grown.rest; each = grown.each })
