-- The starts that are built: what words ask for one, and the file that is written of it.
use Rattle.std.specs.Prelude.{◌≡◌, ℕ, ◌*◌, ◌≤◌, Bool, true, false, ◌&&◌, nat_eq, nat_le, List, [], ◌∷◌, codes, Option, None, Some, if◌then◌else◌}
use Rattle.bfm_base.specs.declared.limits.TheConstants.{GREATEST_SIDE, LEAST_SIDE, MOST_MONOMERS, MOST_SITES}
use Rattle.bfm_base.specs.declared.place.Shape.{Shape}
use Rattle.bfm_geom.specs.Difference.{IsBox, is_periodic, side_of}
use Rattle.bfm_world.specs.Configuration.{Configuration}
use Rattle.bfm_session.specs.Written.{world_text}
use Rattle.melt_builder.specs.Melt.{cells_in, melt_world}
use Rattle.brush_builder.specs.Brush.{brush_world, feet_in, room_above}
use Rattle.network_builder.specs.Network.{IsNetwork, monomers_in, network_world, side_for}
use Rattle.bfm_cli.specs.Words.{Key, number_for}
use Rattle.bfm_cli.specs.declared.start.Start.{Start}
use Rattle.bfm_cli.specs.declared.start.Start.TheVariants.{Brush, Melt, Network}

-- a side of the box
abbrev pub side_key : List ℕ → Key
side_key name = record { name = name; least = LEAST_SIDE; greatest = GREATEST_SIDE; usual = None }

-- whether an axis is periodic, which it is unless a word says else
abbrev pub periodic_key : List ℕ → Key
periodic_key name = record { name = name; least = 0; greatest = 1; usual = Some 1 }

-- how many chains there are, or how many monomers in each
abbrev pub count_key : List ℕ → Key
count_key name = record { name = name; least = 1; greatest = MOST_MONOMERS; usual = None }

-- how far apart feet are
abbrev pub spacing_key : Key
spacing_key = record { name = codes "spacing"; least = 2; greatest = GREATEST_SIDE; usual = None }

-- how many nodes stand along each axis of a network, and how many monomers a strand has
abbrev pub nodes_key : Key
nodes_key = record { name = codes "nodes"; least = 1; greatest = 128; usual = None }

abbrev pub strand_key : Key
strand_key = record { name = codes "strand"; least = 0; greatest = 255; usual = None }

abbrev pub x_key : Key
x_key = side_key (codes "x")

abbrev pub y_key : Key
y_key = side_key (codes "y")

abbrev pub z_key : Key
z_key = side_key (codes "z")

abbrev pub px_key : Key
px_key = periodic_key (codes "px")

abbrev pub py_key : Key
py_key = periodic_key (codes "py")

abbrev pub pz_key : Key
pz_key = periodic_key (codes "pz")

abbrev pub chains_key : Key
chains_key = count_key (codes "chains")

abbrev pub length_key : Key
length_key = count_key (codes "length")

abbrev pub melt_keys : List Key
melt_keys = x_key ∷ y_key ∷ z_key ∷ chains_key ∷ length_key ∷ px_key ∷ py_key ∷ pz_key ∷ []

abbrev pub brush_keys : List Key
brush_keys = x_key ∷ y_key ∷ z_key ∷ spacing_key ∷ length_key ∷ px_key ∷ py_key ∷ []

abbrev pub network_keys : List Key
network_keys = nodes_key ∷ strand_key ∷ []

-- the number of a key is 1
abbrev pub is_one : Option ℕ → Bool
is_one None = false
is_one (Some n) = nat_eq n 1

-- a box with these axes periodic, where it has each side and not too many sites
abbrev pub box_of : Option ℕ → Option ℕ → Option ℕ → List Bool → Option Shape
box_of (Some x) (Some y) (Some z) periodic = if nat_le (x * y * z) MOST_SITES then Some (record { sides = x ∷ y ∷ z ∷ []; periodic = periodic }) else None
box_of x y z periodic = None

abbrev pub box_in : List (List ℕ) → List Bool → Option Shape
box_in words periodic = box_of (number_for x_key words) (number_for y_key words) (number_for z_key words) periodic

-- a melt, where no number is missing and it has not too many monomers
abbrev pub melt_of : Option Shape → Option ℕ → Option ℕ → Option Start
melt_of (Some shape) (Some chains) (Some length) = if nat_le (chains * length) MOST_MONOMERS then Some (Melt shape chains length) else None
melt_of shape chains length = None

abbrev pub melt_in : List (List ℕ) → Option Start
melt_in words =
    let periodic = is_one (number_for px_key words) ∷ is_one (number_for py_key words) ∷ is_one (number_for pz_key words) ∷ [] in
    melt_of (box_in words periodic) (number_for chains_key words) (number_for length_key words)

-- a brush, where besides there is a foot along either axis
abbrev pub brush_of : Option Shape → Option ℕ → Option ℕ → Option Start
brush_of (Some shape) (Some spacing) (Some length) =
    if nat_le spacing (side_of shape 0) && nat_le spacing (side_of shape 1) && nat_le (feet_in shape spacing * length) MOST_MONOMERS then Some (Brush shape spacing length) else None
brush_of shape spacing length = None

-- its z axis is walled
abbrev pub brush_in : List (List ℕ) → Option Start
brush_in words =
    let periodic = is_one (number_for px_key words) ∷ is_one (number_for py_key words) ∷ false ∷ [] in
    brush_of (box_in words periodic) (number_for spacing_key words) (number_for length_key words)

-- a network, where its box is neither too small nor too large and it has not too many monomers
abbrev pub network_of : Option ℕ → Option ℕ → Option Start
network_of (Some nodes) (Some strand) =
    if nat_le LEAST_SIDE (side_for nodes strand) && nat_le (side_for nodes strand) 256 && nat_le (monomers_in nodes strand) MOST_MONOMERS then Some (Network nodes strand) else None
network_of nodes strand = None

abbrev pub network_in : List (List ℕ) → Option Start
network_in words = network_of (number_for nodes_key words) (number_for strand_key words)

-- the numbers of a start are in their ranges and go together
abbrev pub IsStart : Start → Type 0
IsStart (Melt shape chains length) = IsBox shape × (1 ≤ chains) × (1 ≤ length) × (chains * length ≤ MOST_MONOMERS)
IsStart (Brush shape spacing length) =
    IsBox shape × (is_periodic shape 2 ≡ false) × (2 ≤ spacing) × (spacing ≤ side_of shape 0) × (spacing ≤ side_of shape 1)
    × (1 ≤ length) × (feet_in shape spacing * length ≤ MOST_MONOMERS)
IsStart (Network nodes strand) = IsNetwork nodes strand

-- How much room a start needs, and how much there is: cells for a melt, monomers of an upright chain for a brush. The box of a
-- network is as large as it needs.
abbrev pub need_of : Start → ℕ
need_of (Melt shape chains length) = chains * length
need_of (Brush shape spacing length) = length
need_of (Network nodes strand) = monomers_in nodes strand

abbrev pub room_of : Start → ℕ
room_of (Melt shape chains length) = cells_in shape
room_of (Brush shape spacing length) = room_above shape
room_of (Network nodes strand) = monomers_in nodes strand

-- the world of a start
abbrev pub world_of : Start → Configuration
world_of (Melt shape chains length) = melt_world shape chains length
world_of (Brush shape spacing length) = brush_world shape spacing length
world_of (Network nodes strand) = network_world nodes strand

-- the start of each trial, and its world: 512 chains of 32 monomers in a periodic box of side 64
unfoldable pub trial_start : Start
trial_start = Melt (record { sides = 64 ∷ 64 ∷ 64 ∷ []; periodic = true ∷ true ∷ true ∷ [] }) 512 32

abbrev pub trial_world : Configuration
trial_world = world_of trial_start

-- the file of a start has one frame, at time 0
abbrev pub start_text : Configuration → List ℕ
start_text world = world_text world 0
