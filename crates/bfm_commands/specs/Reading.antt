-- What a reader of a file keeps of the bytes that it has been fed. Finished lines come newest first.
use Rattle.std.specs.Prelude.{◌≡◌, ◌≢◌, ℕ, ◌+◌, ◌≤◌, Bool, true, false, not, ◌||◌, nat_eq, nat_lt, List, [], ◌∷◌, ◌++◌, length, Option, None, Some, MatchOption, is_some, is_none, Result, Ok, Err, if◌then◌else◌}
use Rattle.std.specs.List.{list_any, list_all}
use Rattle.bfm_base.specs.declared.cause.Cause.{Cause}
use Rattle.bfm_base.specs.declared.cause.Cause.TheVariants.{BadLine, OutOfLimit, Repeated, NotSymmetric, FrameShort, Missing, McsOrder, BadMonomer, TooManyBonds}
use Rattle.bfm_base.specs.declared.place.P3.{P3}
use Rattle.bfm_base.specs.declared.cause.Refused.{Refused}
use Rattle.bfm_base.specs.declared.cause.ReadStop.{ReadStop}
use Rattle.bfm_base.specs.declared.cause.ReadStop.TheVariants as stops
use Rattle.bfm_base.specs.declared.limits.TheConstants.{WORLD_REACH, GREATEST_MCS, GREATEST_LABEL, GREATEST_VALENCE}
use Rattle.bond_set.specs.BondSet.{first_unpaired, vector_of}
use Rattle.bfm_world.specs.Configuration.{IsSound, IsValid, reach_of}
use Rattle.bfm_world.specs.Draft.{Draft, begun, with_positions, with_bonds, with_fixed_list}
use Rattle.bfm_lexer.specs.Cutter as cutters
use Rattle.bfm_commands.specs.History.{History, has_begun, owner_of, given_of, shape_in, count_in, set_of, pairs_of, labels_of, valences_of, fixed_of, said_of_each, fixed_of_each, listed_bonds, with_added, with_removed, string_positions, line_positions, given_in, entry_of, with_vector, with_listed, with_said, with_range, with_contact, with_acceptance, table_of, mcs_of, is_first_frame, draft_of, last_whole, frames_of, first_positions, skipped_of, given_as}
use Rattle.bfm_commands.specs.Causes.{is_box_too_large, some_missing, is_beyond, some_range_beyond, some_fixed_beyond, is_overfull, vector_cause, bond_cause, range_cause, fixed_cause, contact_cause, threshold_cause, added_cause, removed_cause, frame_cause, least}
use Rattle.bfm_commands.specs.Forms.{vector_entry, pair_entry, range_entry, monomers_entry, contact_entry, threshold_entry, frame_line}
use Rattle.bfm_commands.specs.Meaning.{meaning_of, command, entry, role_of}
use Rattle.bfm_commands.specs.Placing.{with_line, with_later_line}
use Rattle.bfm_commands.specs.declared.loaded.Loaded.{Loaded}
use Rattle.bfm_commands.specs.Verdict.{history_of, first_wrong_of, bytes_in, IsStop}
use Rattle.bfm_commands.specs.declared.commands.Known.{Known}
use Rattle.bfm_commands.specs.declared.commands.Known.TheVariants.{Mcs, SetOfBondVectors, Bonds, Attributes, Valence, Fixed, Contacts, Acceptance, AddBonds, RemoveBonds}
use Rattle.bfm_commands.specs.declared.owner.Owner.{Owner}
use Rattle.bfm_commands.specs.declared.owner.Owner.TheVariants.{Command, Unknown}
use Rattle.bfm_commands.specs.declared.header.Header.{Header}
use Rattle.bfm_commands.specs.declared.frame.FrameLines.{FrameLines}
use Rattle.bfm_commands.specs.declared.frames.Whole.{Whole}
use Rattle.bfm_commands.specs.declared.frames.Frames.{Frames}
use Rattle.bfm_commands.specs.declared.summary.Summary.{Summary}
use Rattle.bfm_commands.specs.declared.progress.Progress.{Progress}
use Rattle.bfm_commands.specs.declared.fault.LineFault.{LineFault}
use Rattle.bfm_commands.specs.declared.fault.LineFault.TheVariants as faults

-- why a line was not taken: its cause, or want of memory
abbrev pub IsFault : LineFault → Option Cause → Type 0
IsFault (faults.Refused cause) verdict = verdict ≡ Some cause
IsFault faults.Memory verdict = Unit {0}

-- The header.

abbrev pub value_fault : Result ℕ Cause → Bool → Option Cause
value_fault (Err cause) stood = Some cause
value_fault (Ok value) stood = if stood then Some Repeated else None

abbrev pub list_fault : Bool → Bool → Option Cause
list_fault bare stood = if not bare then Some BadLine else if stood then Some Repeated else None

-- why an entry of a command is wrong in a header
abbrev pub entry_fault : Header → Known → List ℕ → Option Cause
entry_fault header SetOfBondVectors text = vector_cause header.set text
entry_fault header Bonds text = bond_cause text
entry_fault header Attributes text = range_cause GREATEST_LABEL text
entry_fault header Valence text = range_cause GREATEST_VALENCE text
entry_fault header Fixed text = fixed_cause text
entry_fault header Contacts text = contact_cause text
entry_fault header Acceptance text = threshold_cause header.table.thresholds text
entry_fault header known text = Some BadLine

-- a header with an entry of a command
abbrev pub with_entry : Header → Known → List ℕ → Header
with_entry header owner text = record header {
  set = with_vector header.set (given_in vector_entry (entry_of SetOfBondVectors (Command owner) (entry text)));
  pairs = with_listed header.pairs (given_in pair_entry (entry_of Bonds (Command owner) (entry text)));
  labels = with_said header.labels (given_in (λ t. range_entry t GREATEST_LABEL) (entry_of Attributes (Command owner) (entry text)));
  valences = with_said header.valences (given_in (λ t. range_entry t GREATEST_VALENCE) (entry_of Valence (Command owner) (entry text)));
  fixed = with_range header.fixed (given_in monomers_entry (entry_of Fixed (Command owner) (entry text)));
  table = with_acceptance (with_contact header.table (given_in contact_entry (entry_of Contacts (Command owner) (entry text))))
      (given_in threshold_entry (entry_of Acceptance (Command owner) (entry text)));
}

-- an entry names a monomer that is not there
abbrev pub names_beyond_in : ℕ → Header → Bool
names_beyond_in count header =
    list_any (is_beyond count) header.pairs
    || (some_range_beyond count header.labels || (some_range_beyond count header.valences || some_fixed_beyond count header.fixed))

-- why a header may not begin the first frame, if it may not
abbrev pub begin_fault : Header → Option Cause
begin_fault header =
    let count = count_in header.settings in
    least (
    (OutOfLimit, is_box_too_large header.settings)
    ∷ (NotSymmetric, is_some (first_unpaired header.set))
    ∷ (Missing, some_missing header.settings)
    ∷ (BadMonomer, names_beyond_in count header)
    ∷ (TooManyBonds, is_overfull (listed_bonds count header.pairs))
    ∷ []
    )

-- a draft with these labels, and with these valences
abbrev pub with_labels : Draft → List ℕ → Draft
with_labels draft labels = record draft { world = record draft.world { labels = labels } }

abbrev pub with_valences : Draft → List ℕ → Draft
with_valences draft valences = record draft { world = record draft.world { valences = valences } }

-- the same with these marks of fixed monomers
abbrev pub with_marks : Draft → List ℕ → List ℕ → List Bool → Draft
with_marks draft labels valences fixed = with_fixed_list (with_valences (with_labels draft labels) valences) fixed

-- the world that it begins
abbrev pub begun_draft : Header → Draft
begun_draft header =
    let count = count_in header.settings in
    with_marks (with_bonds (begun (shape_in header.settings) header.set header.table count) (listed_bonds count header.pairs))
    (said_of_each header.labels count) (said_of_each header.valences count) (fixed_of_each header.fixed count)

-- a header is what these lines give
pub record IsHeader (header : Header) (lines : History) : Type 0 where
  pub settings : header.settings ≡ given_of lines
  pub set : header.set ≡ set_of lines
  pub pairs : header.pairs ≡ pairs_of lines
  pub labels : header.labels ≡ labels_of lines
  pub valences : header.valences ≡ valences_of lines
  pub fixed : header.fixed ≡ fixed_of lines
  pub table : header.table ≡ table_of lines

-- Frames.

-- Once a frame has begun, an entry is a frame line, changes a bond or is skipped.
abbrev pub follows_header : Owner → Bool
follows_header (Command Mcs) = true
follows_header (Command AddBonds) = true
follows_header (Command RemoveBonds) = true
follows_header Unknown = true
follows_header owner = false

-- an entry changes a bond
abbrev pub owns_changes : Owner → Bool
owns_changes (Command AddBonds) = true
owns_changes (Command RemoveBonds) = true
owns_changes owner = false

-- a frame is whole: each monomer has its position
abbrev pub is_complete : Draft → Bool
is_complete draft = nat_eq (length draft.world.positions) draft.count

-- the frame that its lines give; once it is whole the builder has dropped its positions
abbrev pub standing : FrameLines → Draft
standing lines = with_positions lines.builder lines.positions.items

-- the last whole frame
abbrev pub at_whole : Draft → Whole → Draft
at_whole draft whole = with_bonds (with_positions draft whole.last.items) whole.bonds

-- positions of so many monomers, within the reach of worlds
pub record ArePlaces (count : ℕ) (positions : List P3) : Type 0 where
  pub each : length positions ≡ count
  pub reach : reach_of positions ≤ WORLD_REACH

-- The last whole frame is a valid world, and the first one has positions of as many monomers.
pub record IsKept (draft : Draft) (whole : Whole) : Type 0 where
  pub valid : IsValid (at_whole draft whole).world
  pub first : ArePlaces draft.count whole.first.items
  pub reach : reach_of whole.last.items ≤ WORLD_REACH
  pub mcs : whole.mcs ≤ GREATEST_MCS

-- what holds of frames whatever the lines were that gave them
pub record AreSound (frames : Frames) : Type 0 where
  pub mcs : frames.mcs ≤ GREATEST_MCS
  pub part : is_complete (standing frames.lines) ≡ false → frames.lines.builder.world.positions ≡ frames.lines.positions.items
  pub between : is_complete (standing frames.lines) ≡ true → frames.lines.builder.world.positions ≡ []
  pub reach : reach_of frames.lines.positions.items ≤ WORLD_REACH
  pub whole : MatchOption frames.whole (Unit {0}) (IsKept frames.lines.builder)
  pub bonds : frames.changed ≡ false → MatchOption frames.whole (Unit {0}) (λ whole. whole.bonds ≡ frames.lines.builder.world.bonds)

-- why the next frame may not begin at a time, if it may not
abbrev pub next_fault : Frames → ℕ → Option Cause
next_fault frames mcs =
    least ((FrameShort, not (is_complete (standing frames.lines))) ∷ (McsOrder, nat_lt mcs frames.mcs) ∷ [])

-- a line is judged, and its positions are in the list behind those of the frame
pub record IsLineBegun (draft : Draft) (text : List ℕ) (list : List P3) : Type 0 where
  pub sound : IsSound draft.count draft.world
  pub line : P3 × List ℕ
  pub form : frame_line text ≡ Ok line
  pub known : list_all (λ id. is_some (vector_of draft.world.set id)) line.1 ≡ true
  pub room : length list ≤ draft.count
  pub positions : list ≡ draft.world.positions ++ string_positions draft.world.set line
  pub reach : reach_of list ≤ WORLD_REACH

-- the frame with one more line
abbrev pub taken_line : Bool → Draft → List ℕ → Draft
taken_line first draft text =
    let ps = line_positions draft.world.set (given_in frame_line (Some text)) in
    if first then with_line draft ps else with_later_line draft ps

-- a frame that is whole is kept, which ends with so many bytes
abbrev pub KeepsFrame : ℕ → Frames → Option Whole → Option Whole → Type 0
KeepsFrame bytes frames old None = ⊥
KeepsFrame bytes frames None (Some new) =
    (new.first.items ≡ frames.lines.positions.items)
    × (new.last.items ≡ frames.lines.positions.items)
    × (new.mcs ≡ frames.mcs) × (new.kept ≡ bytes) × (new.frames ≡ 1) × (new.bonds ≡ frames.lines.builder.world.bonds)
KeepsFrame bytes frames (Some old) (Some new) =
    (new.first.items ≡ old.first.items)
    × (new.last.items ≡ frames.lines.positions.items)
    × (new.mcs ≡ frames.mcs) × (new.kept ≡ bytes) × (new.frames ≡ old.frames + 1) × (new.bonds ≡ frames.lines.builder.world.bonds)

-- what is kept where a frame has one more line, with which so many bytes have come
pub record IsKeptWith (bytes : ℕ) (frames : Frames) (old new : Option Whole) : Type 0 where
  pub whole : is_complete (standing frames.lines) ≡ true → KeepsFrame bytes frames old new
  pub part : is_complete (standing frames.lines) ≡ false → new ≡ old

-- the bonds have changed to these, and nothing else is new
pub record IsChanged (bonds : List (List ℕ)) (old new : Frames) : Type 0 where
  pub frame : standing new.lines ≡ with_bonds (standing old.lines) bonds
  pub mcs : new.mcs ≡ old.mcs
  pub whole : new.whole ≡ old.whole

-- a frame line was taken, with which so many bytes have come
pub record TakesLine (text : List ℕ) (bytes : ℕ) (old new : Frames) : Type 0 where
  pub frame : standing new.lines ≡ taken_line (is_none old.whole) (standing old.lines) text
  pub mcs : new.mcs ≡ old.mcs
  pub whole : IsKeptWith bytes new old.whole new.whole

-- an entry of a command was taken
abbrev pub TakesEntry : Known → List ℕ → ℕ → Frames → Frames → Type 0
TakesEntry AddBonds text bytes old new = IsChanged (with_added old.lines.builder.world.bonds (given_in pair_entry (Some text))) old new
TakesEntry RemoveBonds text bytes old new = IsChanged (with_removed old.lines.builder.world.bonds (given_in pair_entry (Some text))) old new
TakesEntry known text bytes old new = TakesLine text bytes old new

-- why an entry of a command is wrong once a frame has begun
abbrev pub frames_fault : Frames → Known → List ℕ → Option Cause
frames_fault frames AddBonds text = added_cause (standing frames.lines) text
frames_fault frames RemoveBonds text = removed_cause (standing frames.lines) text
frames_fault frames known text = frame_cause (is_none frames.whole) (standing frames.lines) text

-- bonds change only where the frame is whole
abbrev pub IsReady : Known → Frames → Type 0
IsReady known frames = owns_changes (Command known) ≡ true → is_complete (standing frames.lines) ≡ true

-- what a file gives of whose frames this is kept
abbrev pub loaded_by : Draft → ℕ → ℕ → Whole → Loaded
loaded_by draft total skipped whole = record {
  world = (at_whole draft whole).world;
  first = whole.first.items;
  mcs = whole.mcs;
  frames = whole.frames;
  kept = whole.kept;
  total = total;
  skipped = skipped;
}

-- what whole frames have given
pub record AreWhole (whole : Whole) (lines : History) : Type 0 where
  pub frames : whole.frames ≡ frames_of lines
  pub some : frames_of lines ≢ 0
  pub first : whole.first.items ≡ first_positions lines
  pub mcs : whole.mcs ≡ mcs_of (last_whole lines)
  pub kept : whole.kept ≡ bytes_in (last_whole lines)
  -- the frames differ in their positions and bonds only
  pub world : draft_of (last_whole lines) ≡ at_whole (draft_of lines) whole
  -- the first frame takes no further line
  pub later : is_first_frame lines ≡ true → length (draft_of lines).world.positions ≡ (draft_of lines).count

-- no frame was whole yet
pub record AreNone (lines : History) : Type 0 where
  pub none : frames_of lines ≡ 0
  pub part : is_complete (draft_of lines) ≡ false
  pub first : is_first_frame lines ≡ true

-- frames are what these lines give
pub record AreFrames (frames : Frames) (lines : History) : Type 0 where
  pub begun : has_begun lines ≡ true
  pub draft : standing frames.lines ≡ draft_of lines
  pub mcs : frames.mcs ≡ mcs_of lines
  pub owner : follows_header (owner_of lines) ≡ true
  pub between : owns_changes (owner_of lines) ≡ true → is_complete (draft_of lines) ≡ true
  pub whole : MatchOption frames.whole (AreNone lines) (λ whole. AreWhole whole lines)

-- no frame has begun, and the header is what these lines give
pub record IsBeforeFrames (header : Header) (lines : History) : Type 0 where
  pub none : has_begun lines ≡ false
  pub owner : owns_changes (owner_of lines) ≡ false
  pub gives : IsHeader header lines

-- The summary of the finished lines.
pub record Sums (summary : Summary) (lines : History) : Type 0 where
  pub owner : summary.owner ≡ owner_of lines
  pub skipped : summary.skipped ≡ skipped_of lines
  pub stage : MatchOption summary.frames (IsBeforeFrames summary.header lines) (λ frames. AreFrames frames lines)

-- The summary with one more line that gives a header command, but for the owner.
pub record GivesHeader (known : Known) (rest : List ℕ) (before : History) (summary : Summary) : Type 0 where
  pub skipped : summary.skipped ≡ skipped_of before
  pub none : summary.frames ≡ None
  pub begun : has_begun before ≡ false
  pub settings : summary.header.settings ≡ given_as known (role_of known) rest ++ given_of before
  pub set : summary.header.set ≡ set_of before
  pub pairs : summary.header.pairs ≡ pairs_of before
  pub labels : summary.header.labels ≡ labels_of before
  pub valences : summary.header.valences ≡ valences_of before
  pub fixed : summary.header.fixed ≡ fixed_of before
  pub table : summary.header.table ≡ table_of before

-- The summary with one more line of a command that begins a frame or changes bonds, but for the owner.
pub record GivesFrame (known : Known) (rest : List ℕ) (before : History) (summary : Summary) : Type 0 where
  pub skipped : summary.skipped ≡ skipped_of before
  pub frames : (line : List ℕ) → meaning_of line ≡ command (Some known) rest → MatchOption summary.frames ⊥ (λ frames. AreFrames frames (line ∷ before))

-- what holds of it whatever the lines were
abbrev pub IsFit : Summary → Type 0
IsFit summary = MatchOption summary.frames (Unit {0}) AreSound

-- how many whole frames are kept
abbrev pub whole_count : Option Whole → ℕ
whole_count None = 0
whole_count (Some whole) = whole.frames

abbrev pub whole_frames : Option Frames → ℕ
whole_frames None = 0
whole_frames (Some frames) = whole_count frames.whole

-- a summary counts at most so much
pub record CountsAtMost (n : ℕ) (summary : Summary) : Type 0 where
  pub skipped : summary.skipped ≤ n
  pub frames : whole_frames summary.frames ≤ n

-- The bytes of a file.

-- how many bytes were fed bounds all counts
pub record IsSteady (progress : Progress) (fed : ℕ) : Type 0 where
  pub fit : IsFit progress.summary
  pub counts : CountsAtMost progress.lines progress.summary
  pub lines : progress.lines ≤ fed

-- these bytes were read: none of their finished lines is wrong, and what is held of them is their summary and the
-- bytes behind it
pub record Follows (progress : Progress) (bytes : List ℕ) : Type 0 where
  pub cut : cutters.StandsFor progress.cutter bytes
  pub lines : progress.lines ≡ length (history_of bytes)
  pub sums : Sums progress.summary (history_of bytes)
  pub right : first_wrong_of bytes ≡ None

-- where reading stops behind so many lines
abbrev pub stop_of : ℕ → LineFault → ReadStop
stop_of lines (faults.Refused cause) = stops.Refused (record { line = lines + 1; cause = cause })
stop_of lines faults.Memory = stops.Memory

-- reading stops at a line behind so many, for the cause that it has or for want of memory
pub record StopsLine (lines : ℕ) (cause : Option Cause) (stop : ReadStop) : Type 0 where
  pub fault : LineFault
  pub why : IsFault fault cause
  pub stops : stop ≡ stop_of lines fault

-- what reading bytes comes to
abbrev pub Feeds : Result Unit ReadStop → Progress → List ℕ → Type 0
Feeds (Ok done) progress bytes = Follows progress bytes
Feeds (Err stop) progress bytes = IsStop stop (first_wrong_of bytes)

-- what reading up to these bytes comes to, whatever stands behind them
abbrev pub Advances : Result Bool ReadStop → Progress → List ℕ → Type 0
Advances (Ok more) progress bytes = Follows progress bytes
Advances (Err stop) progress bytes = (rest : List ℕ) → IsStop stop (first_wrong_of (bytes ++ rest))

-- A reader of files: what it holds, and why it stopped, if it did
pub record Standing : Type 0 where
  pub progress : Progress
  pub stop : Option ReadStop

-- a reader goes on that was fed these bytes, none of whose finished lines is wrong
pub record StandsFor (reader : Standing) (bytes : List ℕ) : Type 0 where
  pub follows : Follows reader.progress bytes
  pub fed : reader.progress.fed ≡ length bytes
  pub goes_on : reader.stop ≡ None

-- what a reader answers that stood for bytes and was fed more, with which they are these
abbrev pub Answers : Result Unit ReadStop → Standing → List ℕ → Type 0
Answers (Ok done) reader bytes = StandsFor reader bytes
Answers (Err stop) reader bytes = IsStop stop (first_wrong_of bytes)

-- what a reader answers at the end of the bytes that it stands for, by the verdict on them
abbrev pub Ends : Result Loaded ReadStop → Result Loaded Refused → Type 0
Ends (Ok loaded) verdict = verdict ≡ Ok loaded
Ends (Err (stops.Refused refused)) verdict = verdict ≡ Err refused
Ends (Err stops.Memory) verdict = ⊥
