-- The monomers of a world by their places.
use Rattle.std.specs.Prelude.{◌≡◌, ℕ, ◌<◌, ℤ, pos, List, slice_index_or, Some, IfSome}
use Rattle.bfm_base.specs.declared.place.P3.{P3}
use Rattle.bfm_geom.specs.Difference.{minus, wrapped}
use Rattle.bfm_world.specs.Configuration.{Configuration, position_of}
use Rattle.packed_lattice.specs.declared.site.Site.{Site}
use Rattle.packed_lattice.specs.Owners.{OwnedPlaces, owner_of}
use Rattle.packed_lattice.specs.Sites.{IsSite, site_of}

-- the vector with these components
abbrev pub vector_of : List ℤ → P3
vector_of offset = record { x = slice_index_or offset 0 (pos 0); y = slice_index_or offset 1 (pos 0); z = slice_index_or offset 2 (pos 0) }

-- the wrapped difference from monomer i to monomer j
abbrev pub vector_to : Configuration → ℕ → ℕ → P3
vector_to w i j = wrapped w.shape (minus (position_of w j) (position_of w i))

-- the site of monomer i
abbrev pub home_site : Configuration → ℕ → Site
home_site w i = site_of w.shape (position_of w i)

-- each monomer below a number owns its site, and no other site has an owner
pub record AreOwners (w : Configuration) (number : ℕ) (places : OwnedPlaces) : Type 0 where
  pub shape : places.shape ≡ w.shape
  pub owned : (j : ℕ) → j < number → owner_of places (home_site w j) ≡ Some j
  pub others : (s : Site) → IsSite w.shape s → IfSome (owner_of places s) (λ j. (j < number) × (home_site w j ≡ s))
