-- A trial: some sweeps of a world without linking, with a number as the seed, and what is told of them.
use Rattle.std.specs.Prelude.{ℕ, false, List, [], ◌∷◌, ◌++◌, codes}
use Rattle.std.specs.List.{sum_by}
use Rattle.bfm_world.specs.Configuration.{Configuration}
use Rattle.chain_stats.specs.Fractions.{radius_of}
use Rattle.chain_stats.specs.Molecules.{molecules_of}
use Rattle.sweep_run.specs.Sweep.{Progress, after_sweeps, begun_with}
use Rattle.bfm_session.specs.NumberLines.{number_line}
use Rattle.bfm_session.specs.declared.trials.TheConstants.{TRIAL_SWEEPS}

-- after the first sweeps of a world, as many as `count`, with this seed
unfoldable pub after_first : ℕ → ℕ → Configuration → Progress
after_first seed count w = after_sweeps false seed 0 count (begun_with w)

-- after the sweeps of the trial with this number
abbrev pub after_trial : ℕ → Configuration → Progress
after_trial number w = after_first number TRIAL_SWEEPS w

-- the sum of the tops of the squared radii of gyration of these molecules, and of all molecules
abbrev pub top_sum : Configuration → List (List ℕ) → ℕ
top_sum w molecules = sum_by (λ members. (radius_of w members).top) molecules

abbrev pub radius_sum : Configuration → ℕ
radius_sum w = top_sum w (molecules_of w)

-- the number of a trial, how many moves were made, and that sum
abbrev pub trial_lines : ℕ → ℕ → ℕ → List ℕ
trial_lines number accepted radius =
    number_line (codes "trial") (number ∷ []) ++ (number_line (codes "accepted") (accepted ∷ []) ++ number_line (codes "radius") (radius ∷ []))

abbrev pub trial_text : ℕ → Configuration → List ℕ
trial_text number w = let last = after_trial number w in trial_lines number last.tally.accepted (radius_sum last.world)
