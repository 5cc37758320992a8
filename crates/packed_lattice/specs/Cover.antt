-- When the taken sites are those of monomers at a list of positions.
use Rattle.std.specs.Prelude.{◌≡◌, Bool, List}
use Rattle.std.specs.List.{list_any}
use Rattle.bfm_base.specs.declared.place.P3.{P3}
use Rattle.bfm_base.specs.declared.place.Shape.{Shape}
use Rattle.packed_lattice.specs.declared.site.Site.{Site}
use Rattle.packed_lattice.specs.Sites.{IsSite, Sites, covers, is_taken}

-- whether the cube at one of these positions covers the site
abbrev pub is_covered : Shape → List P3 → Site → Bool
is_covered shape positions s = list_any (λ p. covers shape p s) positions

-- a site is taken exactly where the cube at one of these positions covers it
abbrev pub Covers : List P3 → Sites → Type 0
Covers positions sites = (s : Site) → IsSite sites.shape s → is_taken sites s ≡ is_covered sites.shape positions s
