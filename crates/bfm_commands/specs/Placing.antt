-- The positions and bonds of a frame line, in the words of the reader.
use Rattle.std.specs.Prelude.{ℕ, List, [], ◌∷◌, ◌++◌, length, Option, None, Some, if◌then◌else◌}
use Rattle.bfm_base.specs.declared.place.P3.{P3}
use Rattle.bfm_base.specs.declared.cause.Cause.{Cause}
use Rattle.bfm_base.specs.declared.cause.Cause.TheVariants.{Outside, Overlap, BadBond, TooManyBonds, BondUnknown}
use Rattle.bfm_geom.specs.Walls.{is_within_walls}
use Rattle.bfm_world.specs.Configuration.{Configuration}
use Rattle.bfm_world.specs.Draft.{Draft, with_positions, with_bonds}
use Rattle.bfm_commands.specs.History.{with_pairs, chain}
use Rattle.bfm_commands.specs.Causes.{some_fails, is_apart, is_bonded_well, is_overfull, some_unbonded}

-- the positions and bonds with those of one more line of the first frame
abbrev pub with_line : Draft → List P3 → Draft
with_line draft [] = draft
with_line draft (p ∷ ps) =
    let placed = with_positions draft (draft.world.positions ++ p ∷ ps) in
    with_bonds placed (with_pairs draft.world.bonds (chain (length draft.world.positions) (length ps)))

-- the positions with those of one more line of a later frame
abbrev pub with_later_line : Draft → List P3 → Draft
with_later_line draft ps = with_positions draft (draft.world.positions ++ ps)

-- more positions in a world, and its bonds
abbrev pub placing_cause : Configuration → List P3 → Option Cause
placing_cause w ps =
    if some_fails (λ before p. is_within_walls w.shape p) w.positions ps then Some Outside
    else if some_fails (is_apart w) w.positions ps then Some Overlap
    else if some_fails (is_bonded_well w) w.positions ps then Some BadBond
    else None

abbrev pub or_else : Option Cause → Option Cause → Option Cause
or_else None later = later
or_else (Some cause) later = Some cause

-- The positions that a line of the first frame gives. Its successive monomers are bonded, and those bonds count with
-- the others.
abbrev pub positions_cause : Draft → List P3 → Option Cause
positions_cause draft ps =
    let bonds = (with_line draft ps).world.bonds in
    or_else (placing_cause (with_bonds draft bonds).world ps) (if is_overfull bonds then Some TooManyBonds else None)

-- the successive monomers of a line that gives these positions
abbrev pub line_pairs : Draft → List P3 → List (ℕ × ℕ)
line_pairs draft [] = []
line_pairs draft (p ∷ ps) = chain (length draft.world.positions) (length ps)

-- the positions that a line of a later frame gives, whose successive monomers have to be bonded
abbrev pub later_cause : Draft → List P3 → Option Cause
later_cause draft ps =
    or_else (placing_cause draft.world ps) (if some_unbonded draft.world.bonds (line_pairs draft ps) then Some BondUnknown else None)
