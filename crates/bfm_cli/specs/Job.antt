-- The job that a list of words asks for.
use Rattle.std.specs.Prelude.{ℕ, Bool, ◌+◌, ◌-◌, ◌^◌, ◌≤◌, List, [], ◌∷◌, length, codes, Option, None, Some, Result, Ok, Err, if◌then◌else◌}
use Rattle.std.specs.Str.{bytes_eq}
use Rattle.bfm_base.specs.declared.limits.TheConstants.{GREATEST_LIMIT, MOST_FRAMES, MOST_SWEEPS, USUAL_LIMIT}
use Rattle.bfm_session.specs.declared.analysis.Ask.{Ask}
use Rattle.bfm_session.specs.declared.analysis.Ask.TheVariants.{Check, Info, Radii, Moves, Contacts, Clusters}
use Rattle.bfm_cli.specs.Start.{IsStart, brush_in, brush_keys, melt_in, melt_keys, network_in, network_keys}
use Rattle.bfm_cli.specs.Words.{Key, Switch, first_wrong, is_on, number_for}
use Rattle.bfm_cli.specs.declared.job.FileJob.{FileJob}
use Rattle.bfm_cli.specs.declared.job.FileJob.TheVariants.{Run, Look}
use Rattle.bfm_cli.specs.declared.job.Job.{Job}
use Rattle.bfm_cli.specs.declared.job.Job.TheVariants.{Build, File, Trial}
use Rattle.bfm_cli.specs.declared.start.Start.{Start}

-- the keys of the job `run` alone
abbrev pub seed_key : Key
seed_key = record { name = codes "seed"; least = 0; greatest = 2 ^ 64 - 1; usual = None }

abbrev pub frames_key : Key
frames_key = record { name = codes "frames"; least = 0; greatest = MOST_FRAMES; usual = None }

abbrev pub every_key : Key
every_key = record { name = codes "every"; least = 1; greatest = MOST_SWEEPS; usual = None }

-- the key of each job that reads a file: how many bytes of it at most
abbrev pub limit_key : Key
limit_key = record { name = codes "limit"; least = 0; greatest = GREATEST_LIMIT; usual = Some USUAL_LIMIT }

abbrev pub run_keys : List Key
run_keys = seed_key ∷ frames_key ∷ every_key ∷ limit_key ∷ []

-- the switch of the job `run`: whether links are tried
abbrev pub link_switch : Switch
link_switch = record { name = codes "link"; on = codes "on"; off = codes "off" }

abbrev pub run_switches : List Switch
run_switches = link_switch ∷ []

-- and the keys of an analysis
abbrev pub look_keys : List Key
look_keys = limit_key ∷ []

-- the key of the job `trial`
abbrev pub number_key : Key
number_key = record { name = codes "number"; least = 0; greatest = 2 ^ 64 - 1; usual = None }

abbrev pub trial_keys : List Key
trial_keys = number_key ∷ []

-- a run, where each of its keys has a number; else the number of the word that is missing
abbrev pub order_of : ℕ → Option ℕ → Option ℕ → Option ℕ → Bool → Option ℕ → Result Job ℕ
order_of missing (Some seed) (Some frames) (Some every) linking (Some limit) =
    Ok (File (Run (record { seed = seed; frames = frames; every = every; linking = linking; limit = limit })))
order_of missing seed frames every linking limit = Err missing

-- The words behind the job's name, which is word 1: the first wrong one goes before one that is missing.
abbrev pub run_of : List (List ℕ) → Option ℕ → Result Job ℕ
run_of words (Some before) = Err (before + 2)
run_of words None =
    order_of (length words + 2) (number_for seed_key words) (number_for frames_key words) (number_for every_key words) (is_on link_switch words)
    (number_for limit_key words)

abbrev pub asked_of : Ask → ℕ → Option ℕ → Result Job ℕ
asked_of ask missing (Some limit) = Ok (File (Look ask limit))
asked_of ask missing None = Err missing

-- the same for an analysis
abbrev pub look_of : Ask → List (List ℕ) → Option ℕ → Result Job ℕ
look_of ask words (Some before) = Err (before + 2)
look_of ask words None = asked_of ask (length words + 2) (number_for limit_key words)

abbrev pub numbered : ℕ → Option ℕ → Result Job ℕ
numbered missing (Some number) = Ok (Trial number)
numbered missing None = Err missing

-- and for a trial
abbrev pub trial_of : List (List ℕ) → Option ℕ → Result Job ℕ
trial_of words (Some before) = Err (before + 2)
trial_of words None = numbered (length words + 2) (number_for number_key words)

-- what the name of a job asks of a file
abbrev pub ask_of : List ℕ → Option Ask
ask_of name =
    if bytes_eq name (codes "check") then Some Check
    else if bytes_eq name (codes "info") then Some Info
    else if bytes_eq name (codes "radii") then Some Radii
    else if bytes_eq name (codes "moves") then Some Moves
    else if bytes_eq name (codes "contacts") then Some Contacts
    else if bytes_eq name (codes "clusters") then Some Clusters
    else None

-- the analysis that a name asks for, with the words behind it; a name that is none is word 1
abbrev pub look_named : Option Ask → List (List ℕ) → Result Job ℕ
look_named None words = Err 1
look_named (Some ask) words = look_of ask words (first_wrong look_keys [] [] words)

-- a start, by the words behind its kind, which is word 2; numbers that do not go together are told as one that is missing
abbrev pub started : List (List ℕ) → Option ℕ → Option Start → Result Job ℕ
started words (Some before) start = Err (before + 3)
started words None (Some start) = Ok (Build start)
started words None None = Err (length words + 3)

abbrev pub build_of : List (List ℕ) → Result Job ℕ
build_of [] = Err 2
build_of (kind ∷ words) =
    if bytes_eq kind (codes "melt") then started words (first_wrong melt_keys [] [] words) (melt_in words)
    else if bytes_eq kind (codes "network") then started words (first_wrong network_keys [] [] words) (network_in words)
    else if bytes_eq kind (codes "brush") then started words (first_wrong brush_keys [] [] words) (brush_in words)
    else Err 2

-- the job, or the number of the first wrong word
abbrev pub job_of : List (List ℕ) → Result Job ℕ
job_of [] = Err 1
job_of (name ∷ words) =
    if bytes_eq name (codes "run") then run_of words (first_wrong run_keys run_switches [] words)
    else if bytes_eq name (codes "build") then build_of words
    else if bytes_eq name (codes "trial") then trial_of words (first_wrong trial_keys [] [] words)
    else look_named (ask_of name) words

-- the numbers of a job are in their ranges
abbrev pub IsFileJob : FileJob → Type 0
IsFileJob (Run order) = (order.frames ≤ MOST_FRAMES) × (1 ≤ order.every) × (order.every ≤ MOST_SWEEPS) × (order.limit ≤ GREATEST_LIMIT)
IsFileJob (Look ask limit) = limit ≤ GREATEST_LIMIT

abbrev pub IsInRange : Job → Type 0
IsInRange (File job) = IsFileJob job
IsInRange (Build start) = IsStart start
IsInRange (Trial number) = Unit {0}
