-- How sites are kept: a bit a site, in words of 64 bits along x.
use Rattle.std.specs.Prelude.{◌≡◌, ℕ, ◌+◌, ◌*◌, ◌/◌, ◌%◌, Bool, true, false, ◌==◌, List, map, length, slice_index}
use Rattle.std.specs.Int.{bit_at}
use Rattle.std.specs.List.{range_with_len}
use Rattle.bfm_base.specs.declared.place.Shape.{Shape}
use Rattle.bfm_geom.specs.Difference.{IsBox, side_of}
use Rattle.packed_lattice.specs.declared.site.Site.{Site}
use Rattle.packed_lattice.specs.declared.site.Occupancy.{Occupancy}
use Rattle.packed_lattice.specs.declared.site.Occupancy.TheVariants.{Free, Taken}
use Rattle.packed_lattice.specs.Sites.{Sites, site_count}

-- whether a bit of a word is 1
abbrev pub is_bit : ℕ → ℕ → Bool
is_bit word k = bit_at word k == 1

-- whether a site that becomes this is taken
abbrev pub taken_of : Occupancy → Bool
taken_of Free = false
taken_of Taken = true

-- how many words the sites along x take
abbrev pub words_along : ℕ → ℕ
words_along side = (side + 63) / 64

-- a row of places for each y and z: the place at a distance along the row
abbrev pub place_in_row : ℕ → ℕ → ℕ → ℕ → ℕ → ℕ
place_in_row side_y z y row along = (z * side_y + y) * row + along

-- the number of the word that has the bit of a site
abbrev pub word_of : Shape → ℕ → Site → ℕ
word_of shape row s = place_in_row (side_of shape 1) s.z s.y row (s.x / 64)

-- whether the bit of a site is 1
abbrev pub is_bit_of : Shape → ℕ → List ℕ → Site → Bool
is_bit_of shape row words s = is_bit (slice_index words (word_of shape row s)) (s.x % 64)

-- the site with a number
abbrev pub site_at : Shape → ℕ → Site
site_at shape k = record {
  x = k % side_of shape 0;
  y = k / side_of shape 0 % side_of shape 1;
  z = k / side_of shape 0 / side_of shape 1;
}

-- the sites that the bits stand for
abbrev pub unpacked : Shape → ℕ → List ℕ → Sites
unpacked shape row words = record {
  shape = shape;
  taken = map (λ k. is_bit_of shape row words (site_at shape k)) (range_with_len 0 (site_count shape));
}

-- the words are as many as the box needs
pub record IsPacked (shape : Shape) (row : ℕ) (words : List ℕ) : Type 0 where
  pub box : IsBox shape
  pub fits_row : row ≡ words_along (side_of shape 0)
  pub fits_box : length words ≡ side_of shape 2 * side_of shape 1 * row
