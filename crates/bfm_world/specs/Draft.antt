-- A world that is being built: its bonds may come before its positions.
use Rattle.std.specs.Prelude.{◌≡◌, ℕ, Bool, true, false, not, ◌&&◌, ◌||◌, nat_lt, nat_eq, List, [], length, replicate, slice_get, slice_set, Option, None, Some, Result, Ok, Err, if◌then◌else◌}
use Rattle.bfm_base.specs.declared.place.P3.{P3}
use Rattle.bfm_base.specs.declared.place.Shape.{Shape}
use Rattle.bfm_base.specs.declared.cause.Cause.{Cause}
use Rattle.bfm_base.specs.declared.cause.Cause.TheVariants.{Outside, Overlap, BadMonomer, BadBond, TooManyBonds, BondUnknown}
use Rattle.contact_table.specs.Contacts.{ContactTable}
use Rattle.bfm_world.specs.Bonds.{neighbours_of, are_bonded, is_full, Joins, Separates}
use Rattle.bfm_geom.specs.Walls.{is_within_walls}
use Rattle.packed_lattice.specs.Sites.{Sites}
use Rattle.packed_lattice.specs.Cover.{Covers}
use Rattle.bfm_world.specs.Configuration.{Configuration, is_clear, may_reach, keeps_bonds}

-- what there is of the world so far, and the number of monomers that it will have
pub record Draft : Type 0 where
  pub world : Configuration
  pub count : ℕ

-- a world of n monomers of which none has a position, none is bonded or fixed and nothing is said
abbrev pub begun : Shape → List (P3 × ℕ) → ContactTable → ℕ → Draft
begun shape set table n = record { world = record { shape = shape; set = set; table = table; positions = []; bonds = replicate n []; labels = replicate n 0; valences = replicate n 0; fixed = replicate n false }; count = n }

-- a draft with these positions
abbrev pub with_positions : Draft → List P3 → Draft
with_positions draft positions = record draft { world = record draft.world { positions = positions } }

-- a draft with these bonds
abbrev pub with_bonds : Draft → List (List ℕ) → Draft
with_bonds draft bonds = record draft { world = record draft.world { bonds = bonds } }

-- a draft in which a monomer has this label, or this valence
abbrev pub with_label : Draft → ℕ → ℕ → Draft
with_label draft i label = record draft { world = record draft.world { labels = slice_set draft.world.labels i label } }

abbrev pub with_valence : Draft → ℕ → ℕ → Draft
with_valence draft i valence = record draft { world = record draft.world { valences = slice_set draft.world.valences i valence } }

-- a draft in which a monomer is fixed
abbrev pub with_fixed : Draft → ℕ → Draft
with_fixed draft i = record draft { world = record draft.world { fixed = slice_set draft.world.fixed i true } }

-- a draft with these marks of fixed monomers
abbrev pub with_fixed_list : Draft → List Bool → Draft
with_fixed_list draft fixed = record draft { world = record draft.world { fixed = fixed } }

-- the sites of the box, where those are taken that the placed monomers cover, and no others
pub record IsFilled (w : Configuration) (sites : Sites) : Type 0 where
  pub shape : sites.shape ≡ w.shape
  pub taken : Covers w.positions sites

-- why the next monomer may not stand at p, if it may not
abbrev pub place_refusal : Configuration → P3 → Option Cause
place_refusal w p =
    if not (is_within_walls w.shape p) then Some Outside
    else if not (is_clear w.shape w.positions p) then Some Overlap
    else if not (keeps_bonds w.shape w.set w.positions (neighbours_of w.bonds (length w.positions)) p) then Some BadBond
    else None

-- the numbers of two different monomers
abbrev pub is_pair : ℕ → ℕ → ℕ → Bool
is_pair count i j = not (nat_eq i j) && (nat_lt i count && nat_lt j count)

-- a bond may run from the one to the other where both have positions
abbrev pub may_join : Configuration → Option P3 → Option P3 → Bool
may_join w None q = true
may_join w (Some p) q = may_reach w.shape w.set p q

-- whether two monomers are joined by a new bond, and why they may not be
abbrev pub join_answer : Draft → ℕ → ℕ → Result Bool Cause
join_answer draft i j =
    let w = draft.world in
    if not (is_pair draft.count i j) then Err BadMonomer
    else if are_bonded w.bonds i j then Ok false
    else if not (may_join w (slice_get w.positions i) (slice_get w.positions j)) then Err BadBond
    else if is_full w.bonds i || is_full w.bonds j then Err TooManyBonds
    else Ok true

-- why two monomers may not be separated, if they may not
abbrev pub part_refusal : Draft → ℕ → ℕ → Option Cause
part_refusal draft i j =
    if not (is_pair draft.count i j) then Some BadMonomer
    else if not (are_bonded draft.world.bonds i j) then Some BondUnknown
    else None

-- One bond less, and nothing else is new.
pub record IsParted (i j : ℕ) (old new : Draft) : Type 0 where
  pub bonds : Separates i j old.world.bonds new.world.bonds
  pub rest : new ≡ with_bonds old new.world.bonds

-- One bond more, and nothing else is new.
pub record IsJoined (i j : ℕ) (old new : Draft) : Type 0 where
  pub bonds : Joins i j old.world.bonds new.world.bonds
  pub rest : new ≡ with_bonds old new.world.bonds
