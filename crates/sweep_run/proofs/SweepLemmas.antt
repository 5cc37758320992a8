-- Attempts and links, one after another.
use Rattle.std.proofs.Common.{◌≡◌, ℕ, nat_lt, zero, suc, ◌+◌, ◌*◌, ◌<◌, ◌≤◌, Bool, true, false, cond, length, refl, ap, sym, ◌∙◌, ◌&&◌, subst, arith, add-zero, zero-add, suc-add, add-one, ◌^◌, ◌-◌, Option, None, Some}
use Rattle.std.proofs.Math.Nat.{mul-le-mul_right}
use Rattle.std.proofs.Math.Seq.{set_out}
use Rattle.std.proofs.lemmas.Bool.Decides.{nat_tests}
use Rattle.std.proofs.lemmas.List.{length-set}
use Rattle.bfm_base.specs.declared.place.Dir.{Dir}
use Rattle.bfm_world.specs.Acceptance.{is_accepted, makes_move}
use Rattle.bfm_world.specs.Configuration.{Configuration, IsValid, is_legal, moved, reach_of, target_of}
use Rattle.bond_set.specs.Crossing.{IsFree}
use Rattle.bfm_world.proofs.SweepingLemmas.{CrossesNone-free}
use Rattle.bfm_world.proofs.ReachLemmas.{extent_of-target, reach_of-set}
use Rattle.bfm_world.proofs.ValidLemmas.{IsValid-moved}
use Rattle.crosslink.specs.Linking.{new_link, with_link}
use Rattle.crosslink.proofs.LinkLemmas.{IsValid-linked}
use Rattle.rand_pcg.specs.Lcg.{Lcg}
use Rattle.sweep_stream.specs.RandomWords.{generator_after, word_at}
use Rattle.sweep_run.specs.Sweep.{Progress, IsFewMore, attempted, with_new, tried, turned, after_attempts, swept, after_sweeps, state_at, monomer_of, direction_of, acceptance_word, begun_with, NoMoveCrosses}

-- one more attempt at the end
pub after_attempts-suc : (linking : Bool) (n seed first count : ℕ) (run : Progress)
    → after_attempts linking n seed first (suc count) run ≡ turned linking n seed (first + count) (after_attempts linking n seed first count run)
after_attempts-suc linking n seed first zero run = rw (add-zero first) refl
after_attempts-suc linking n seed first (suc count) run =
    let next = turned linking n seed first run in
    let same : first + 1 + count ≡ first + suc count = omega arith in
    after_attempts-suc linking n seed (first + 1) count next ∙ ap (λ k. turned linking n seed k (after_attempts linking n seed (first + 1) count next)) same

-- one more sweep at the end
pub after_sweeps-suc : (linking : Bool) (seed t count : ℕ) (run : Progress)
    → after_sweeps linking seed t (suc count) run ≡ swept linking seed (t + count) (after_sweeps linking seed t count run)
after_sweeps-suc linking seed t zero run = rw (add-zero t) refl
after_sweeps-suc linking seed t (suc count) run =
    let same : t + 1 + count ≡ t + suc count = omega arith in
    after_sweeps-suc linking seed (t + 1) count (swept linking seed t run)
    ∙ ap (λ k. swept linking seed k (after_sweeps linking seed (t + 1) count (swept linking seed t run))) same

-- sweeps, and then more sweeps
pub after_sweeps-add : (linking : Bool) (seed t a b : ℕ) (run : Progress)
    → after_sweeps linking seed t (a + b) run ≡ after_sweeps linking seed (t + a) b (after_sweeps linking seed t a run)
after_sweeps-add linking seed t zero b run = rw (zero-add b, add-zero t) refl
after_sweeps-add linking seed t (suc a) b run =
    let same : t + 1 + a ≡ t + suc a = omega arith in
    let more = swept linking seed t run in
    ap (λ n. after_sweeps linking seed t n run) (suc-add a b)
    ∙ (after_sweeps-add linking seed (t + 1) a b more ∙ ap (λ k. after_sweeps linking seed k b (after_sweeps linking seed (t + 1) a more)) same)

-- a move that is made is legal
pub is_legal_where_made : (w : Configuration) (i : ℕ) (d : Dir) (word : ℕ) → makes_move w i d word ≡ true → is_legal w i d ≡ true
is_legal_where_made w i d word made = and-left (is_legal w i d) (is_accepted w i d word) made
  where
    and-left : (p q : Bool) → (p && q) ≡ true → p ≡ true
    and-left true q h = refl
    and-left false q h = h

-- What attempts and links keep of a run: the number of monomers, the set, and validity.
pub record Keeps (old new : Progress) : Type 0 where
  pub monomers : length new.world.positions ≡ length old.world.positions
  pub set : new.world.set ≡ old.world.set
  pub valid : IsValid old.world → IsValid new.world

Keeps-none : (run : Progress) → Keeps run run
Keeps-none run = record { monomers = refl; set = refl; valid = λ v. v }

Keeps-then : (run next last : Progress) → Keeps run next → Keeps next last → Keeps run last
Keeps-then run next last h k = record { monomers = k.monomers ∙ h.monomers; set = k.set ∙ h.set; valid = λ v. k.valid (h.valid v) }

-- an attempt
abbrev after_move : Bool → Progress → ℕ → Dir → Progress
after_move made run i d = cond made (record run { world = moved run.world i d; tally = record run.tally { accepted = run.tally.accepted + 1 } }) run

valid-moved : (made inside : Bool) (run : Progress) (i : ℕ) (d : Dir) (word : ℕ) → made ≡ makes_move run.world i d word
    → inside ≡ nat_lt i (length run.world.positions) → IsValid run.world → IsValid (after_move made run i d).world
valid-moved false inside run i d word e h v = v
valid-moved true true run i d word e h v =
    let below : i < length run.world.positions = grind (arith, nat_tests) in
    IsValid-moved run.world i d v below (is_legal_where_made run.world i d word (sym e))
valid-moved true false run i d word e h v =
    let past : length run.world.positions ≤ i = grind (arith, nat_tests) in
    subst (λ ps. IsValid (record run.world { positions = ps })) (sym (set_out run.world.positions i (target_of run.world i d) past)) v

Keeps-attempted : (run : Progress) (i : ℕ) (d : Dir) (word : ℕ) → Keeps run (attempted run i d word)
Keeps-attempted run i d word = record {
  monomers = sizes (makes_move run.world i d word);
  set = sets (makes_move run.world i d word);
  valid = valid-moved (makes_move run.world i d word) (nat_lt i (length run.world.positions)) run i d word refl refl;
}
  where
    sizes : (made : Bool) → length (after_move made run i d).world.positions ≡ length run.world.positions
    sizes true = length-set run.world.positions i (target_of run.world i d)
    sizes false = refl

    sets : (made : Bool) → (after_move made run i d).world.set ≡ run.world.set
    sets true = refl
    sets false = refl

-- a try at a link
Keeps-tried : (linking : Bool) (run : Progress) (i : ℕ) (d : Dir) → Keeps run (tried linking run i d)
Keeps-tried false run i d = Keeps-none run
Keeps-tried true run i d = by_link (new_link run.world i d) refl
  where
    by_link : (o : Option (ℕ × ℕ)) → new_link run.world i d ≡ o → Keeps run (with_new run o)
    by_link None e = Keeps-none run
    by_link (Some pair) e = record { monomers = refl; set = refl; valid = λ v. subst (λ o. IsValid (with_link run.world o)) e (IsValid-linked run.world i d v) }

-- both, and as many as there are
Keeps-turned : (linking : Bool) (n seed k : ℕ) (run : Progress) → Keeps run (turned linking n seed k run)
Keeps-turned linking n seed k run =
    let i = monomer_of n seed k in
    let d = direction_of seed k in
    let next = attempted run i d (acceptance_word seed k) in
    Keeps-then run next (tried linking next i d) (Keeps-attempted run i d (acceptance_word seed k)) (Keeps-tried linking next i d)

Keeps-after_attempts : (linking : Bool) (n seed first count : ℕ) (run : Progress) → Keeps run (after_attempts linking n seed first count run)
Keeps-after_attempts linking n seed first zero run = Keeps-none run
Keeps-after_attempts linking n seed first (suc count) run =
    let next = turned linking n seed first run in
    Keeps-then run next _ (Keeps-turned linking n seed first run) (Keeps-after_attempts linking n seed (first + 1) count next)

Keeps-after_sweeps : (linking : Bool) (seed t count : ℕ) (run : Progress) → Keeps run (after_sweeps linking seed t count run)
Keeps-after_sweeps linking seed t zero run = Keeps-none run
Keeps-after_sweeps linking seed t (suc count) run =
    let n = length run.world.positions in
    let next = swept linking seed t run in
    Keeps-then run next _ (Keeps-after_attempts linking n seed (n * t) n run) (Keeps-after_sweeps linking seed (t + 1) count next)

Keeps-state : (linking : Bool) (seed t count a : ℕ) (run : Progress) → Keeps run (state_at linking seed t count a run)
Keeps-state linking seed t count a run =
    let begun = after_sweeps linking seed t count run in
    let n = length begun.world.positions in
    Keeps-then run begun _ (Keeps-after_sweeps linking seed t count run) (Keeps-after_attempts linking n seed (n * (t + count)) a begun)

pub length_of_turned : (linking : Bool) (n seed k : ℕ) (run : Progress) → length (turned linking n seed k run).world.positions ≡ length run.world.positions
length_of_turned linking n seed k run = (Keeps-turned linking n seed k run).monomers

-- each state of a run from a valid world is valid
pub IsValid-state : (linking : Bool) (seed t count a : ℕ) (run : Progress) → IsValid run.world → IsValid (state_at linking seed t count a run).world
IsValid-state linking seed t count a run v = (Keeps-state linking seed t count a run).valid v

-- no move of a run from a valid world crosses bonds where the set is free
pub NoMoveCrosses-free : (linking : Bool) (seed t : ℕ) (world : Configuration) → IsValid world → IsFree world.set → NoMoveCrosses linking seed t world
NoMoveCrosses-free linking seed t world v free count a made =
    let kept = Keeps-state linking seed t count a (begun_with world) in
    let state = (state_at linking seed t count a (begun_with world)).world in
    let n = length world.positions in
    let k = n * (t + count) + a in
    CrossesNone-free state (monomer_of n seed k) (direction_of seed k) (kept.valid v) (subst IsFree (sym kept.set) free)
    (is_legal_where_made state (monomer_of n seed k) (direction_of seed k) (acceptance_word seed k) made)

-- after k sweeps of a run this is known from an earlier sweep of it, and where none was made from the next one
pub NoMoveCrosses-more : (linking : Bool) (seed first k : ℕ) (start now : Progress) → now ≡ after_sweeps linking seed first k start
    → (0 < k → IsFree start.world.set → NoMoveCrosses linking seed first start.world) → (IsFree now.world.set → NoMoveCrosses linking seed (first + k) now.world)
    → IsFree start.world.set → NoMoveCrosses linking seed first start.world
NoMoveCrosses-more linking seed first zero start now e before next =
    subst (λ (r : Progress). IsFree r.world.set → NoMoveCrosses linking seed first r.world) e (subst (λ t. IsFree now.world.set → NoMoveCrosses linking seed t now.world) (add-zero first) next)
NoMoveCrosses-more linking seed first (suc k) start now e before next = before (omega arith)

-- The reach and the counts of one attempt and link.

positions-tried : (linking : Bool) (run : Progress) (i : ℕ) (d : Dir) → (tried linking run i d).world.positions ≡ run.world.positions
positions-tried false run i d = refl
positions-tried true run i d = by_link (new_link run.world i d)
  where
    by_link : (o : Option (ℕ × ℕ)) → (with_new run o).world.positions ≡ run.world.positions
    by_link None = refl
    by_link (Some pair) = refl

reach-attempted : (made : Bool) (run : Progress) (i : ℕ) (d : Dir) → i < length run.world.positions → reach_of (after_move made run i d).world.positions ≤ reach_of run.world.positions + 1
reach-attempted true run i d h = omega (arith, reach_of-set run.world.positions i (target_of run.world i d), extent_of-target run.world i d h)
reach-attempted false run i d h = omega arith

pub reach_of_turned : (linking : Bool) (n seed k : ℕ) (run : Progress) → monomer_of n seed k < length run.world.positions
    → reach_of (turned linking n seed k run).world.positions ≤ reach_of run.world.positions + 1
reach_of_turned linking n seed k run h =
    let i = monomer_of n seed k in
    let d = direction_of seed k in
    let next = attempted run i d (acceptance_word seed k) in
    subst (λ ps. reach_of ps ≤ reach_of run.world.positions + 1) (sym (positions-tried linking next i d))
    (reach-attempted (makes_move run.world i d (acceptance_word seed k)) run i d h)

-- one move at most, and one link at most
pub IsFewMore-attempted : (run : Progress) (i : ℕ) (d : Dir) (word : ℕ) → ((attempted run i d word).tally.accepted ≤ run.tally.accepted + 1) × ((attempted run i d word).tally.links ≡ run.tally.links)
IsFewMore-attempted run i d word = by_move (makes_move run.world i d word)
  where
    by_move : (made : Bool) → ((after_move made run i d).tally.accepted ≤ run.tally.accepted + 1) × ((after_move made run i d).tally.links ≡ run.tally.links)
    by_move true = (omega arith, refl)
    by_move false = (omega arith, refl)

pub IsFewMore-tried : (linking : Bool) (run : Progress) (i : ℕ) (d : Dir) → ((tried linking run i d).tally.accepted ≡ run.tally.accepted) × ((tried linking run i d).tally.links ≤ run.tally.links + 1)
IsFewMore-tried false run i d = (refl, omega arith)
IsFewMore-tried true run i d = by_link (new_link run.world i d)
  where
    by_link : (o : Option (ℕ × ℕ)) → ((with_new run o).tally.accepted ≡ run.tally.accepted) × ((with_new run o).tally.links ≤ run.tally.links + 1)
    by_link None = (refl, omega arith)
    by_link (Some pair) = (refl, omega arith)

IsFewMore-turned : (linking : Bool) (n seed k : ℕ) (run : Progress) → IsFewMore 1 run.tally (turned linking n seed k run).tally
IsFewMore-turned linking n seed k run =
    let i = monomer_of n seed k in
    let d = direction_of seed k in
    let next = attempted run i d (acceptance_word seed k) in
    let first = IsFewMore-attempted run i d (acceptance_word seed k) in
    let second = IsFewMore-tried linking next i d in
    record { accepted = omega (arith, first.0, second.0); links = omega (arith, first.1, second.1) }

-- Where an engine stands after the first attempts of a run.
pub record Stands (linking : Bool) (start now : Progress) (seed n first count : ℕ) (generator : Lcg) : Type 0 where
  pub run : now ≡ after_attempts linking n seed first count start
  pub words : generator ≡ generator_after seed (3 * (first + count))
  pub monomers : length now.world.positions ≡ n
  pub reach : reach_of now.world.positions ≤ reach_of start.world.positions + count
  pub few : IsFewMore count start.tally now.tally

pub Stands-begin : (linking : Bool) (start : Progress) (seed n first : ℕ) (words : Lcg) → words ≡ generator_after seed (3 * first) → length start.world.positions ≡ n
    → Stands linking start start seed n first 0 words
Stands-begin linking start seed n first words e l = record {
  run = refl;
  words = rw (add-zero first) e;
  monomers = l;
  reach = omega arith;
  few = record { accepted = omega arith; links = omega arith };
}

pub Stands-more : (linking : Bool) (start now next : Progress) (seed n first count : ℕ) (words more : Lcg) → Stands linking start now seed n first count words
    → monomer_of n seed (first + count) < n → next ≡ turned linking n seed (first + count) now → more ≡ generator_after seed (3 * (first + count + 1))
    → Stands linking start next seed n first (count + 1) more
Stands-more linking start now next seed n first count words more s below e f =
    let k = first + count in
    let inside : monomer_of n seed k < length now.world.positions = omega (arith, s.monomers, below) in
    let far : reach_of next.world.positions ≤ reach_of now.world.positions + 1 =
    subst (λ (r : Progress). reach_of r.world.positions ≤ reach_of now.world.positions + 1) (sym e) (reach_of_turned linking n seed k now inside) in
    let count_more : IsFewMore 1 now.tally next.tally = subst (λ (r : Progress). IsFewMore 1 now.tally r.tally) (sym e) (IsFewMore-turned linking n seed k now) in
    let same : first + count + 1 ≡ first + (count + 1) = omega arith in
    record {
      run = e ∙ (ap (turned linking n seed k) s.run ∙ (sym (after_attempts-suc linking n seed first count start) ∙ ap (λ m. after_attempts linking n seed first m start) (sym (add-one count))));
      words = f ∙ ap (λ m. generator_after seed (3 * m)) same;
      monomers = ap (λ (r : Progress). length r.world.positions) e ∙ (length_of_turned linking n seed k now ∙ s.monomers);
      reach = omega (arith, far, s.reach);
      few = record { accepted = omega (arith, count_more.accepted, s.few.accepted); links = omega (arith, count_more.links, s.few.links) };
    }

-- a word selects one of the monomers
pub monomer_of-below : (n seed k : ℕ) → 0 < n → word_at seed (3 * k) < 2 ^ 32 → monomer_of n seed k < n
monomer_of-below n seed k some fits =
    let most : word_at seed (3 * k) ≤ 2 ^ 32 - 1 = omega arith in
    omega (arith, mul-le-mul_right n most)
