-- A run in two parts: one with some of its frames, and then one with the others, over the file that the first has written, or
-- over a front of it, where it was cut off.
use Rattle.std.specs.Prelude.{◌≡◌, ℕ, false, ◌+◌, ◌-◌, ◌<◌, ◌≤◌, List, ◌++◌, length, take, Ok}
use Rattle.bfm_commands.specs.Verdict.{verdict_of}
use Rattle.bfm_commands.specs.declared.loaded.Loaded.{Loaded}
use Rattle.bfm_session.specs.Running.{is_too_far, last_mcs, last_of, run_text}
use Rattle.bfm_session.specs.declared.order.RunOrder.{RunOrder}

-- A run can go on from this output: the file is accepted, and holds the world that the run came to, at its last time, behind
-- the frames that were there and those of the run. All of it is kept.
pub record GoesOn (loaded : Loaded) (order : RunOrder) (output : List ℕ) : Type 0 where
  pub next : Loaded
  pub accepted : verdict_of output ≡ Ok next
  pub world : next.world ≡ (last_of loaded order).world
  pub mcs : next.mcs ≡ last_mcs loaded order
  pub first : next.first ≡ loaded.first
  pub frames : next.frames ≡ loaded.frames + order.frames
  pub kept : next.kept ≡ length output

-- the same run with so many frames
abbrev pub with_frames : RunOrder → ℕ → RunOrder
with_frames order frames = record order { frames = frames }

-- Two runs are parts of a whole one, over a file of which this part is kept: neither comes too far; the second goes on from
-- the output of the first, writes in the end what the whole run writes, and comes to the same time. The moves and
-- links of both are those of the whole run.
pub record AreParts (loaded : Loaded) (kept : List ℕ) (first second whole : RunOrder) : Type 0 where
  pub first_near : is_too_far loaded first ≡ false
  pub goes_on : GoesOn loaded first (run_text loaded first kept)
  pub second_near : is_too_far goes_on.next second ≡ false
  pub same : run_text goes_on.next second (take goes_on.next.kept (run_text loaded first kept)) ≡ run_text loaded whole kept
  pub time : last_mcs goes_on.next second ≡ last_mcs loaded whole
  pub moves : (last_of loaded first).tally.accepted + (last_of goes_on.next second).tally.accepted ≡ (last_of loaded whole).tally.accepted
  pub links : (last_of loaded first).tally.links + (last_of goes_on.next second).tally.links ≡ (last_of loaded whole).tally.links

-- in whatever two parts the frames of a run are made
abbrev pub GoesInParts : Loaded → RunOrder → List ℕ → Type 0
GoesInParts loaded order kept = (f g : ℕ) → f + g ≡ order.frames → AreParts loaded kept (with_frames order f) (with_frames order g) order

-- a text begins with this front, at which it might be cut
pub record BeginsWith (text front : List ℕ) : Type 0 where
  pub rest : List ℕ
  pub whole : text ≡ front ++ rest

-- A front of a run's text has so many whole groups: it begins with the kept part and those groups, and not with one group more.
pub record HasGroups (loaded : Loaded) (order : RunOrder) (kept front : List ℕ) (groups : ℕ) : Type 0 where
  pub within : groups ≤ order.frames
  pub begins : BeginsWith front (run_text loaded (with_frames order groups) kept)
  pub no_more : groups < order.frames → BeginsWith front (run_text loaded (with_frames order (groups + 1)) kept) → ⊥

-- A run that was cut off behind so many whole groups is finished by one with the missing frames over what was written: the file
-- is accepted, and holds the world, the time and the frames of those groups, with which its kept part ends. The second run does
-- not come too far, writes in the end what the whole run writes, and comes to the same time. The moves and links of the
-- first groups and those of the second run are those of the whole run.
pub record Finishes (loaded : Loaded) (order : RunOrder) (kept front : List ℕ) (groups : ℕ) : Type 0 where
  pub next : Loaded
  pub accepted : verdict_of front ≡ Ok next
  pub world : next.world ≡ (last_of loaded (with_frames order groups)).world
  pub mcs : next.mcs ≡ last_mcs loaded (with_frames order groups)
  pub first : next.first ≡ loaded.first
  pub frames : next.frames ≡ loaded.frames + groups
  pub keeps : next.kept ≡ length (run_text loaded (with_frames order groups) kept)
  pub near : is_too_far next (with_frames order (order.frames - groups)) ≡ false
  pub same : run_text next (with_frames order (order.frames - groups)) (take next.kept front) ≡ run_text loaded order kept
  pub time : last_mcs next (with_frames order (order.frames - groups)) ≡ last_mcs loaded order
  pub moves : (last_of loaded (with_frames order groups)).tally.accepted + (last_of next (with_frames order (order.frames - groups))).tally.accepted ≡ (last_of loaded order).tally.accepted
  pub links : (last_of loaded (with_frames order groups)).tally.links + (last_of next (with_frames order (order.frames - groups))).tally.links ≡ (last_of loaded order).tally.links

-- At whatever byte behind the kept part the text of a run is cut, one number of whole groups is in the front, and the run goes
-- on from it.
abbrev pub FinishesFromEachFront : Loaded → RunOrder → List ℕ → Type 0
FinishesFromEachFront loaded order kept =
    (front : List ℕ) → BeginsWith front kept → BeginsWith (run_text loaded order kept) front
    → (groups : ℕ) × HasGroups loaded order kept front groups × Finishes loaded order kept front groups × ((n : ℕ) → HasGroups loaded order kept front n → n ≡ groups)
