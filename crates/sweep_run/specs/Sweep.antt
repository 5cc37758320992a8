-- Attempts, links, sweeps and runs. A sweep is as many attempts as there are monomers, each followed by one try at a link
-- where linking is on. All attempts of a run are numbered through: attempt a of sweep t in a world of n monomers has the
-- number n * t + a.
use Rattle.std.specs.Prelude.{◌≡◌, ℕ, ◌<◌, Bool, true, zero, suc, ◌+◌, ◌*◌, ◌/◌, ◌^◌, ◌≤◌, List, [], ◌∷◌, ◌++◌, length, slice_index_or, Option, None, Some, if◌then◌else◌}
use Rattle.bfm_base.specs.declared.place.Dir.{Dir}
use Rattle.bfm_base.specs.declared.place.Dir.TheVariants.{XUp}
use Rattle.bfm_base.specs.Direction.{directions}
use Rattle.bfm_world.specs.Acceptance.{makes_move}
use Rattle.bfm_world.specs.Configuration.{Configuration, moved}
use Rattle.bfm_world.specs.Sweeping.{CrossesNone}
use Rattle.crosslink.specs.Linking.{new_link, with_link}
use Rattle.crosslink.specs.Log.{Log}
use Rattle.sweep_stream.specs.RandomWords.{word_at}
use Rattle.sweep_run.specs.declared.tally.Tally.{Tally}

-- the monomer and the direction that attempt k takes, by words 3k and 3k + 1, read as fractions of 2^32, and the word
-- 3k + 2 that accepts its step or not
abbrev pub monomer_of : ℕ → ℕ → ℕ → ℕ
monomer_of n seed k = word_at seed (3 * k) * n / 2 ^ 32

abbrev pub direction_of : ℕ → ℕ → Dir
direction_of seed k = slice_index_or directions (word_at seed (3 * k + 1) * 6 / 2 ^ 32) XUp

abbrev pub acceptance_word : ℕ → ℕ → ℕ
acceptance_word seed k = word_at seed (3 * k + 2)

-- a world in a run, how many moves have been made and pairs linked, and the pairs that the log holds
pub record Progress : Type 0 where
  pub world : Configuration
  pub tally : Tally
  pub log : List (ℕ × ℕ)

-- the progress that an engine, a tally and a log hold
abbrev pub progress_of : Configuration → Tally → Log → Progress
progress_of world tally log = record { world = world; tally = tally; log = log.pairs }

-- so many moves and links more stay below 2^63
pub record HasCountRoom (more : ℕ) (tally : Tally) : Type 0 where
  pub accepted : tally.accepted + more < 2 ^ 63
  pub links : tally.links + more < 2 ^ 63

-- there are at most so many moves and links more
pub record IsFewMore (more : ℕ) (old new : Tally) : Type 0 where
  pub accepted : new.accepted ≤ old.accepted + more
  pub links : new.links ≤ old.links + more

-- an attempt moves its monomer where the step is legal and the word accepts what it does to the contacts
abbrev pub attempted : Progress → ℕ → Dir → ℕ → Progress
attempted run i d word =
    if makes_move run.world i d word then record run { world = moved run.world i d; tally = record run.tally { accepted = run.tally.accepted + 1 } } else run

-- a pair that is linked is counted and put into the log
abbrev pub with_new : Progress → Option (ℕ × ℕ) → Progress
with_new run None = run
with_new run (Some pair) = record {
  world = with_link run.world (Some pair);
  tally = record run.tally { links = run.tally.links + 1 };
  log = run.log ++ pair ∷ [];
}

-- where linking is on, a link is tried
abbrev pub tried : Bool → Progress → ℕ → Dir → Progress
tried linking run i d = if linking then with_new run (new_link run.world i d) else run

-- attempt k, and then a try at a link for the same monomer and direction, whether the move was made or not
abbrev pub turned : Bool → ℕ → ℕ → ℕ → Progress → Progress
turned linking n seed k run =
    let i = monomer_of n seed k in
    let d = direction_of seed k in
    tried linking (attempted run i d (acceptance_word seed k)) i d

-- after `count` attempts from number `first` on, in a world of n monomers
abbrev pub after_attempts : Bool → ℕ → ℕ → ℕ → ℕ → Progress → Progress
after_attempts linking n seed first zero run = run
after_attempts linking n seed first (suc count) run = after_attempts linking n seed (first + 1) count (turned linking n seed first run)

-- after sweep t
abbrev pub swept : Bool → ℕ → ℕ → Progress → Progress
swept linking seed t run =
    let n = length run.world.positions in
    after_attempts linking n seed (n * t) n run

-- after as many sweeps as `count`, of which t is the first
abbrev pub after_sweeps : Bool → ℕ → ℕ → ℕ → Progress → Progress
after_sweeps linking seed t zero run = run
after_sweeps linking seed t (suc count) run = after_sweeps linking seed (t + 1) count (swept linking seed t run)

-- the state of a run after as many sweeps as `count`, of which t is the first, and then a further attempts
abbrev pub state_at : Bool → ℕ → ℕ → ℕ → ℕ → Progress → Progress
state_at linking seed t count a run =
    let begun = after_sweeps linking seed t count run in
    let n = length begun.world.positions in
    after_attempts linking n seed (n * (t + count)) a begun

-- a run begins with no move made, no pair linked, and nothing in the log
abbrev pub begun_with : Configuration → Progress
begun_with world = record { world = world; tally = record { accepted = 0; links = 0 }; log = [] }

-- the same run with nothing in the log
abbrev pub cleared : Progress → Progress
cleared run = record run { log = [] }

-- The attempt that follows that state of a run from this world, where it makes its move, sweeps no bond through one that
-- shares no monomer with it, in any image. A link is no move.
abbrev pub NextCrossesNone : Bool → ℕ → ℕ → ℕ → ℕ → Configuration → Type 0
NextCrossesNone linking seed t count a world =
    let state = (state_at linking seed t count a (begun_with world)).world in
    let n = length world.positions in
    let k = n * (t + count) + a in
    let i = monomer_of n seed k in
    let d = direction_of seed k in
    makes_move state i d (acceptance_word seed k) ≡ true → CrossesNone state i d

-- no move of a run from this world does, however long it goes on
abbrev pub NoMoveCrosses : Bool → ℕ → ℕ → Configuration → Type 0
NoMoveCrosses linking seed t world = (count a : ℕ) → NextCrossesNone linking seed t count a world
