-- Bonds that a local move sweeps through others. The moved monomer's bond turns about its other end and sweeps a
-- triangle. In a periodic box each bond has images, a whole number of sides away along each periodic axis.
use Rattle.std.specs.Prelude.{◌≡◌, ◌≢◌, ℕ, Bool, true, ℤ, pos, ◌+ℤ◌, ◌*ℤ◌, MatchBool}
use Rattle.bfm_base.specs.declared.place.P3.{P3}
use Rattle.bfm_base.specs.declared.place.Dir.{Dir}
use Rattle.bfm_base.specs.declared.place.Shape.{Shape}
use Rattle.bfm_geom.specs.Difference.{side_of, is_periodic, minus, plus, wrapped}
use Rattle.bfm_geom.specs.Meeting.{Meets}
use Rattle.bfm_geom.specs.Upright.{origin}
use Rattle.bond_set.specs.Crossing.{after_step}
use Rattle.bfm_world.specs.Bonds.{are_bonded}
use Rattle.bfm_world.specs.Configuration.{Configuration, position_of}

-- an image of a difference along an axis: whole sides away on a periodic axis, the difference itself on a walled one
abbrev pub IsImageAlong : Bool → ℕ → ℤ → ℤ → Type 0
IsImageAlong periodic side d image = MatchBool periodic ((k : ℤ) × (image ≡ d +ℤ k *ℤ pos side)) (image ≡ d)

-- the same along each axis
pub record IsImage (shape : Shape) (d image : P3) : Type 0 where
  pub x : IsImageAlong (is_periodic shape 0) (side_of shape 0) d.x image.x
  pub y : IsImageAlong (is_periodic shape 1) (side_of shape 1) d.y image.y
  pub z : IsImageAlong (is_periodic shape 2) (side_of shape 2) d.z image.z

-- the bond vector from monomer i to monomer j
abbrev pub bond_from : Configuration → ℕ → ℕ → P3
bond_from w i j = wrapped w.shape (minus (position_of w j) (position_of w i))

-- neither of two monomers is one of two others
pub record ShareNone (i j k l : ℕ) : Type 0 where
  pub first : (i ≢ k) × (i ≢ l)
  pub second : (j ≢ k) × (j ≢ l)

-- Seen from monomer a, its bond to monomer m sweeps a triangle when m makes a step. The bond from c to f begins at one
-- of the images of c, and the triangle meets it.
pub record MeetsImage (w : Configuration) (m : ℕ) (dir : Dir) (a c f : ℕ) (start : P3) : Type 0 where
  pub image : IsImage w.shape (minus (position_of w c) (position_of w a)) start
  pub meets : Meets origin (bond_from w a m) (after_step (bond_from w a m) dir) start (plus start (bond_from w c f))

-- the step of monomer m sweeps its bond to a through an image of the bond of c and f, which shares no monomer with it
pub record SweepsBond (w : Configuration) (m : ℕ) (dir : Dir) (a c f : ℕ) : Type 0 where
  pub moved : are_bonded w.bonds m a ≡ true
  pub other : are_bonded w.bonds c f ≡ true
  pub differ : ShareNone c f m a
  pub meets : (start : P3) × MeetsImage w m dir a c f start

-- the step of monomer m sweeps none of its bonds through a bond that shares no monomer with it, in any image
abbrev pub CrossesNone : Configuration → ℕ → Dir → Type 0
CrossesNone w m dir = (a c f : ℕ) → ¬ (SweepsBond w m dir a c f)
