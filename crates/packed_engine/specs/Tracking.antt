-- What the engine keeps beside the world: the sites that the monomers fill, and who stands at each place.
use Rattle.std.specs.Prelude.{◌≡◌, ℕ, ◌<◌, length, Some, IfSome}
use Rattle.packed_lattice.specs.declared.site.Site.{Site}
use Rattle.packed_lattice.specs.Owners.{OwnedPlaces, owner_of}
use Rattle.packed_lattice.specs.Sites.{IsSite, Sites, site_of}
use Rattle.bfm_world.specs.Configuration.{Configuration, position_of}
use Rattle.bfm_world.specs.Draft.{IsFilled}

-- the site that is the place of monomer i, folded into the box
abbrev pub home_of : Configuration → ℕ → Site
home_of w i = site_of w.shape (position_of w i)

-- each of the first monomers, so many, owns its place, and no other place has an owner
pub record AreOwned (w : Configuration) (number : ℕ) (places : OwnedPlaces) : Type 0 where
  pub shape : places.shape ≡ w.shape
  pub owned : (j : ℕ) → j < number → owner_of places (home_of w j) ≡ Some j
  pub others : (s : Site) → IsSite w.shape s → IfSome (owner_of places s) (λ j. (j < number) × (home_of w j ≡ s))

-- a site is taken exactly where a monomer fills it, and the owner of each place is the monomer there
pub record IsTracked (w : Configuration) (lattice : Sites) (owners : OwnedPlaces) : Type 0 where
  pub sites : IsFilled w lattice
  pub places : AreOwned w (length w.positions) owners
