-- At most one owner for each place of a box, places that differ by whole sides being one.
use Rattle.std.specs.Prelude.{◌≡◌, ℕ, ◌-◌, ◌==◌, List, Option, None, Some, slice_index_or, if◌then◌else◌}
use Rattle.bfm_base.specs.declared.place.P3.{P3}
use Rattle.bfm_base.specs.declared.place.Shape.{Shape}
use Rattle.bfm_geom.specs.Walls.{is_within_walls}
use Rattle.packed_lattice.specs.declared.site.Site.{Site}
use Rattle.packed_lattice.specs.Sites.{IsSite, is_same_site, site_of, site_number}

-- the box and, by the number of the site, the owner of each place
pub record OwnedPlaces : Type 0 where
  pub shape : Shape
  pub owners : List (Option ℕ)

abbrev pub owner_of : OwnedPlaces → Site → Option ℕ
owner_of places s = slice_index_or places.owners (site_number places.shape s) None

-- the owner of a place: none beyond a wall
abbrev pub owner_at : OwnedPlaces → P3 → Option ℕ
owner_at places p = if is_within_walls places.shape p then owner_of places (site_of places.shape p) else None

-- no place has an owner
abbrev pub IsUnowned : OwnedPlaces → Type 0
IsUnowned places = (s : Site) → IsSite places.shape s → owner_of places s ≡ None

-- the place at p has this owner now, or none, and every other place is as it was
pub record SetsOwner (old new : OwnedPlaces) (p : P3) (owner : Option ℕ) : Type 0 where
  pub shape : new.shape ≡ old.shape
  pub places : (s : Site) → IsSite old.shape s →
      owner_of new s ≡ (if is_same_site (site_of old.shape p) s then owner else owner_of old s)

-- an owner as it is kept: 0 for none, and one more than the owner's number
abbrev pub owner_kept_as : ℕ → Option ℕ
owner_kept_as n = if n == 0 then None else Some (n - 1)
