-- How much of a file a reader holds: bytes, positions of monomers and bonded pairs.
use Rattle.std.specs.Prelude.{◌≡◌, ℕ, ◌+◌, ◌*◌, ◌/◌, ◌≤◌, List, [], length, Option, None, Some, if◌then◌else◌}
use Rattle.std.specs.List.{sum_by}
use Rattle.bfm_base.specs.declared.limits.TheConstants.{MOST_MONOMERS}
use Rattle.bfm_lexer.specs.Cutter.{begun_length}
use Rattle.bfm_commands.specs.History.{History, has_begun, pairs_of, first_positions, draft_of, last_whole}
use Rattle.bfm_commands.specs.Verdict.{history_of}
use Rattle.bfm_commands.specs.declared.header.Header.{Header}
use Rattle.bfm_commands.specs.declared.frames.Whole.{Whole}
use Rattle.bfm_commands.specs.declared.frames.Frames.{Frames}
use Rattle.bfm_commands.specs.declared.summary.Summary.{Summary}

-- how many pairs are bonded; each of them makes two monomers neighbours
abbrev pub pair_count : List (List ℕ) → ℕ
pair_count bonds = sum_by length bonds / 2

-- positions and bonded pairs of the last whole frame, and the positions of the first
abbrev pub whole_places : History → ℕ
whole_places lines =
    let last = draft_of (last_whole lines) in
    length (first_positions lines) + length last.world.positions + pair_count last.world.bonds

-- the same of the present place, where a frame has begun
abbrev pub present_places : History → ℕ
present_places lines =
    let draft = draft_of lines in
    length draft.world.positions + pair_count draft.world.bonds

-- The positions of the first whole frame, of the last one and of the one that began last, and the pairs of the last
-- whole frame and of the present place. Before the first frame they are the pairs that are listed.
abbrev pub places_held : History → ℕ
places_held lines = if has_begun lines then present_places lines + whole_places lines else length (pairs_of lines)

-- what is held of the bytes of a file: of their finished lines, and of the line that has begun
abbrev pub held_of : List ℕ → ℕ
held_of bytes = begun_length bytes + places_held (history_of bytes)

-- The same by what a reader keeps.

abbrev pub whole_held : Option Whole → ℕ
whole_held None = 0
whole_held (Some whole) = length whole.first.items + length whole.last.items + pair_count whole.bonds

abbrev pub frames_held : Frames → ℕ
frames_held frames = length frames.lines.positions.items + pair_count frames.lines.builder.world.bonds + whole_held frames.whole

abbrev pub stage_held : Header → Option Frames → ℕ
stage_held header None = length header.pairs
stage_held header (Some frames) = frames_held frames

-- so much is held of frames: three positions for each monomer, and twice its part of the bonds
pub record IsFew (frames : Frames) (held : ℕ) : Type 0 where
  pub each : held ≤ 11 * frames.lines.builder.count
  pub most : frames.lines.builder.count ≤ MOST_MONOMERS

-- a summary keeps nothing that is held
pub record IsEmpty (summary : Summary) : Type 0 where
  pub frames : summary.frames ≡ None
  pub pairs : summary.header.pairs ≡ []
