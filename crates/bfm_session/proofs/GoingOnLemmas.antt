-- Sweeps that go on from a run: the moves, the links and the log before them change nothing else.
use Rattle.std.proofs.Common.{◌≡◌, ℕ, zero, suc, ◌+◌, ◌*◌, Bool, true, false, cond, [], ◌∷◌, ◌++◌, length, Option, None, Some, refl, sym, ap, ◌∙◌, append_assoc, append-nil, arith}
use Rattle.bfm_base.specs.declared.place.Dir.{Dir}
use Rattle.bfm_world.specs.Acceptance.{makes_move}
use Rattle.bfm_world.specs.Configuration.{Configuration, moved}
use Rattle.crosslink.specs.Linking.{new_link, with_link}
use Rattle.sweep_run.specs.Sweep.{Progress, attempted, with_new, tried, turned, after_attempts, swept, after_sweeps, monomer_of, direction_of, acceptance_word, begun_with, cleared}

-- a run that goes on from another, by what has come since
abbrev pub behind : Progress → Progress → Progress
behind before run = record {
  world = run.world;
  tally = record { accepted = before.tally.accepted + run.tally.accepted; links = before.tally.links + run.tally.links };
  log = before.log ++ run.log;
}

by_move : (made : Bool) (before run : Progress) (world : Configuration)
    → cond made (record (behind before run) { world = world; tally = record { accepted = before.tally.accepted + run.tally.accepted + 1; links = before.tally.links + run.tally.links } }) (behind before run)
    ≡ behind before (cond made (record run { world = world; tally = record run.tally { accepted = run.tally.accepted + 1 } }) run)
by_move true before run world =
    let same : before.tally.accepted + run.tally.accepted + 1 ≡ before.tally.accepted + (run.tally.accepted + 1) = omega arith in
    λ k. record { world = world; tally = record { accepted = same k; links = before.tally.links + run.tally.links }; log = before.log ++ run.log }
by_move false before run world = refl

attempted-behind : (before run : Progress) (i : ℕ) (d : Dir) (word : ℕ) → attempted (behind before run) i d word ≡ behind before (attempted run i d word)
attempted-behind before run i d word = by_move (makes_move run.world i d word) before run (moved run.world i d)

by_pair : (before run : Progress) (o : Option (ℕ × ℕ)) → with_new (behind before run) o ≡ behind before (with_new run o)
by_pair before run None = refl
by_pair before run (Some pair) =
    let same : before.tally.links + run.tally.links + 1 ≡ before.tally.links + (run.tally.links + 1) = omega arith in
    let all = append_assoc before.log run.log (pair ∷ []) in
    λ k. record { world = with_link run.world (Some pair); tally = record { accepted = before.tally.accepted + run.tally.accepted; links = same k }; log = all k }

tried-behind : (linking : Bool) (before run : Progress) (i : ℕ) (d : Dir) → tried linking (behind before run) i d ≡ behind before (tried linking run i d)
tried-behind true before run i d = by_pair before run (new_link run.world i d)
tried-behind false before run i d = refl

turned-behind : (linking : Bool) (n seed k : ℕ) (before run : Progress) → turned linking n seed k (behind before run) ≡ behind before (turned linking n seed k run)
turned-behind linking n seed k before run =
    let i = monomer_of n seed k in
    let d = direction_of seed k in
    let word = acceptance_word seed k in
    ap (λ r. tried linking r i d) (attempted-behind before run i d word) ∙ tried-behind linking before (attempted run i d word) i d

after_attempts-behind : (linking : Bool) (n seed first count : ℕ) (before run : Progress) → after_attempts linking n seed first count (behind before run) ≡ behind before (after_attempts linking n seed first count run)
after_attempts-behind linking n seed first zero before run = refl
after_attempts-behind linking n seed first (suc count) before run =
    ap (after_attempts linking n seed (first + 1) count) (turned-behind linking n seed first before run)
    ∙ after_attempts-behind linking n seed (first + 1) count before (turned linking n seed first run)

pub after_sweeps-behind : (linking : Bool) (seed t count : ℕ) (before run : Progress) → after_sweeps linking seed t count (behind before run) ≡ behind before (after_sweeps linking seed t count run)
after_sweeps-behind linking seed t zero before run = refl
after_sweeps-behind linking seed t (suc count) before run =
    let n = length run.world.positions in
    ap (after_sweeps linking seed (t + 1) count) (after_attempts-behind linking n seed (n * t) n before run) ∙ after_sweeps-behind linking seed (t + 1) count before (swept linking seed t run)

-- a run goes on from itself with nothing done
behind-begun : (run : Progress) → run ≡ behind run (begun_with run.world)
behind-begun run =
    let moves : run.tally.accepted ≡ run.tally.accepted + 0 = omega arith in
    let links : run.tally.links ≡ run.tally.links + 0 = omega arith in
    let log = sym (append-nil run.log) in
    λ k. record { world = run.world; tally = record { accepted = moves k; links = links k }; log = log k }

-- Sweeps that go on from a run are those that begin with its world, with what was there before.
pub after_sweeps-begun : (linking : Bool) (seed t count : ℕ) (run : Progress) → after_sweeps linking seed t count run ≡ behind run (after_sweeps linking seed t count (begun_with run.world))
after_sweeps-begun linking seed t count run = ap (after_sweeps linking seed t count) (behind-begun run) ∙ after_sweeps-behind linking seed t count run (begun_with run.world)

-- What the log holds changes nothing else.
pub after_sweeps-cleared : (linking : Bool) (seed t count : ℕ) (run : Progress) → cleared (after_sweeps linking seed t count (cleared run)) ≡ cleared (after_sweeps linking seed t count run)
after_sweeps-cleared linking seed t count run = ap cleared (after_sweeps-begun linking seed t count (cleared run)) ∙ sym (ap cleared (after_sweeps-begun linking seed t count run))
