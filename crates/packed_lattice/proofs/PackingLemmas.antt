-- Sites, their numbers and their bits.
use Rattle.std.proofs.Common.{◌≡◌, ◌≢◌, ℕ, ◌+◌, ◌*◌, ◌/◌, ◌%◌, ◌^◌, ◌<◌, Bool, true, false, not, ◌&&◌, ◌⊎◌, inl, inr, cond, eqb, List, length, get_or, replicate, refl, sym, ◌∙◌, ap, arith}
use Rattle.std.specs.Prelude.{bit_and}
use Rattle.std.specs.Int.{bit_at}
use Rattle.std.proofs.Math.ListN.{set}
use Rattle.std.proofs.lemmas.Bool.{cases_eq, eq-eqb, ne_eqb}
use Rattle.std.proofs.lemmas.Bool.Decides.{eqb_tells}
use Rattle.std.proofs.lemmas.List.{get_or-set_other, get_or-set_same, get_or-replicate, get_or_read}
use Rattle.std.proofs.lemmas.List.FromFn.{get_or-map-range_with_len}
use Rattle.std.proofs.lemmas.Nat.{mul-add-lt, div-mul-add, mod-mul-add, same_from_place, one_shl, and_mask, pow_pos}
use Rattle.std.proofs.lemmas.Nat.Bits.{and_pow, bit_at-lt, bit_at-zero}
use Rattle.bfm_base.specs.declared.place.Shape.{Shape}
use Rattle.bfm_geom.specs.Difference.{side_of}
use Rattle.packed_lattice.specs.declared.site.Site.{Site}
use Rattle.packed_lattice.specs.Sites.{IsEmpty, IsSite, Marks, is_same_site, is_taken, site_count, site_number}
use Rattle.packed_lattice.specs.Packing.{IsPacked, is_bit, is_bit_of, place_in_row, site_at, unpacked, word_of, words_along}

-- the test of a bit
pub has_bit-is : (n k : ℕ) → k < 64 → not (eqb (bit_and n (1 * 2 ^ k % 2 ^ 64)) 0) ≡ is_bit n k
has_bit-is n k h =
    ap (λ m. not (eqb (bit_and n m) 0)) (one_shl k 64 h) ∙ ap (λ m. not (eqb m 0)) (and_pow n k) ∙ low (bit_at n k) (2 ^ k) (bit_at-lt n k) (pow_pos k)
  where
    low : (b m : ℕ) → b < 2 → 0 < m → not (eqb (b * m) 0) ≡ eqb b 1
    low b m l p = elim (cases_eq b 0) [
      | inl z ↦ ap (λ t. not t) (eq-eqb (b * m) 0 (ap (λ n. n * m) z ∙ omega arith)) ∙ sym (ne_eqb b 1 (omega arith))
      | inr s ↦ let one : b ≡ 1 = omega arith in ap (λ t. not t) (ne_eqb (b * m) 0 (λ e. absurd (omega (arith, ap (λ n. n * m) one)))) ∙ sym (eq-eqb b 1 one)
    ]

-- a place in a row of a box is below the number of all places
pub place_in_row-lt : (side_y side_z row z y along : ℕ) → z < side_z → y < side_y → along < row → place_in_row side_y z y row along < side_z * side_y * row
place_in_row-lt side_y side_z row z y along p q r =
    omega (arith, mul-add-lt (z * side_y + y) row along (side_y * side_z) (mul-add-lt z side_y y side_z p q) r)

-- and it tells z, y and the distance along the row
pub place_in_row-same : (side_y row z y along z' y' along' : ℕ) → y < side_y → y' < side_y → along < row → along' < row
    → place_in_row side_y z y row along ≡ place_in_row side_y z' y' row along' → (z ≡ z') × (y ≡ y') × (along ≡ along')
place_in_row-same side_y row z y along z' y' along' p q r t e =
    let outer = same_from_place (z * side_y + y) along (z' * side_y + y') along' row r t e in
    let inner = same_from_place z y z' y' side_y p q outer.0 in
    (inner.0, inner.1, outer.1)

-- sites with the same coordinates are one
pub Site-same : (s t : Site) → s.x ≡ t.x → s.y ≡ t.y → s.z ≡ t.z → s ≡ t
Site-same s t x y z =
    let at : ℕ → ℕ → ℕ → Site = λ x y z. record { x = x; y = y; z = z } in
    ap (λ n. at n s.y s.z) x ∙ ap (λ n. at t.x n s.z) y ∙ ap (at t.x t.y) z

-- the two sites are one, or they are not
pub is_same_site-cases : (t s : Site) → ((is_same_site t s ≡ true) × (s ≡ t)) ⊎ ((is_same_site t s ≡ false) × (s ≢ t))
is_same_site-cases t s =
    elim (eqb_tells s.x t.x) [
      | inr x ↦ inr (ap (λ b. b && eqb s.y t.y && eqb s.z t.z) x.0, λ e. x.1 (ap (λ (r : Site). r.x) e))
      | inl x ↦ elim (eqb_tells s.y t.y) [
        | inr y ↦ inr (ap (λ b. b && eqb s.y t.y && eqb s.z t.z) x.0 ∙ ap (λ b. true && b && eqb s.z t.z) y.0, λ e. y.1 (ap (λ (r : Site). r.y) e))
        | inl y ↦ elim (eqb_tells s.z t.z) [
          | inr z ↦ inr (ap (λ b. b && eqb s.y t.y && eqb s.z t.z) x.0 ∙ ap (λ b. true && b && eqb s.z t.z) y.0 ∙ ap (λ b. true && true && b) z.0, λ e. z.1 (ap (λ (r : Site). r.z) e))
          | inl z ↦ inl (ap (λ b. b && eqb s.y t.y && eqb s.z t.z) x.0 ∙ ap (λ b. true && b && eqb s.z t.z) y.0 ∙ ap (λ b. true && true && b) z.0, Site-same s t x.1 y.1 z.1)
        ]
      ]
    ]

-- the number of a site in the box is below the number of sites, and gives the site back
pub site_number-lt : (shape : Shape) (s : Site) → IsSite shape s → site_number shape s < site_count shape
site_number-lt shape s h = place_in_row-lt (side_of shape 1) (side_of shape 2) (side_of shape 0) s.z s.y s.x h.z h.y h.x

site_at-site_number : (shape : Shape) (s : Site) → IsSite shape s → site_at shape (site_number shape s) ≡ s
site_at-site_number shape s h =
    let row : site_number shape s / side_of shape 0 ≡ s.z * side_of shape 1 + s.y = div-mul-add (s.z * side_of shape 1 + s.y) (side_of shape 0) s.x h.x in
    Site-same _ _ (mod-mul-add (s.z * side_of shape 1 + s.y) (side_of shape 0) s.x h.x) (ap (λ n. n % side_of shape 1) row ∙ mod-mul-add s.z (side_of shape 1) s.y h.y) (ap (λ n. n / side_of shape 1) row ∙ div-mul-add s.z (side_of shape 1) s.y h.y)

-- a site is taken where its bit is 1
pub is_taken-unpacked : (shape : Shape) (row : ℕ) (words : List ℕ) (s : Site) → IsSite shape s → is_taken (unpacked shape row words) s ≡ is_bit_of shape row words s
is_taken-unpacked shape row words s h =
    get_or-map-range_with_len (λ k. is_bit_of shape row words (site_at shape k)) 0 (site_count shape) (site_number shape s) (site_number shape s) false (site_number-lt shape s h) (omega arith)
    ∙ ap (is_bit_of shape row words) (site_at-site_number shape s h)

-- the bit of a site lies in the words of its row, and the words of the row in those of the box
in_row : (side x : ℕ) → x < side → x / 64 < words_along side
in_row side x h = omega arith

in_box : (shape : Shape) (row : ℕ) (s : Site) → row ≡ words_along (side_of shape 0) → IsSite shape s → word_of shape row s < side_of shape 2 * side_of shape 1 * row
in_box shape row s e h =
    let along : s.x / 64 < row = omega (arith, in_row (side_of shape 0) s.x h.x) in
    place_in_row-lt (side_of shape 1) (side_of shape 2) row s.z s.y (s.x / 64) h.z h.y along

pub word_of-lt : (shape : Shape) (row : ℕ) (words : List ℕ) (s : Site) → IsPacked shape row words → IsSite shape s → word_of shape row s < length words
word_of-lt shape row words s p h = omega (arith, p.fits_box, in_box shape row s p.fits_row h)

-- what a look at a word tells of a site
pub is_bit-read : (shape : Shape) (row : ℕ) (words : List ℕ) (s : Site) (at word : ℕ) → at ≡ word_of shape row s → at < length words → word ≡ get_or words at word
    → is_bit word (bit_and s.x 63) ≡ is_bit_of shape row words s
is_bit-read shape row words s at word e h r =
    ap (is_bit word) (and_mask s.x 6) ∙ ap (λ w. is_bit w (s.x % 64)) (get_or_read words at word h r 0 ∙ ap (λ n. get_or words n 0) e)

-- no bit of zeros is 1
pub IsEmpty-zeros : (shape : Shape) (row n : ℕ) (words : List ℕ) → row ≡ words_along (side_of shape 0) → n ≡ side_of shape 2 * side_of shape 1 * row → words ≡ replicate n 0
    → IsEmpty (unpacked shape row words)
IsEmpty-zeros shape row n words e l z s h =
    let at = word_of shape row s in
    let below : at < n = omega (arith, in_box shape row s e h) in
    is_taken-unpacked shape row words s h
    ∙ ap (λ w. is_bit w (s.x % 64)) (ap (λ ws. get_or ws at 0) z ∙ get_or-replicate n at 0 0 below)
    ∙ ap (λ b. eqb b 1) (bit_at-zero (s.x % 64))

-- one bit of one word is written: its site alone changes
pub Marks-set : (shape : Shape) (row : ℕ) (words : List ℕ) (t : Site) (at w : ℕ) (taken : Bool) → IsPacked shape row words → IsSite shape t
    → at ≡ word_of shape row t
    → is_bit w (t.x % 64) ≡ taken
    → ((j : ℕ) → j < 64 → j ≢ t.x % 64 → is_bit w j ≡ is_bit (get_or words at 0) j)
    → Marks (unpacked shape row words) (unpacked shape row (set words at w)) (is_same_site t) taken
Marks-set shape row words t at w taken p h e same others = record {
  shape = refl;
  sites = λ s i. is_taken-unpacked shape row (set words at w) s i ∙ bit s i ∙ ap (cond (is_same_site t s) taken) (sym (is_taken-unpacked shape row words s i));
}
  where
    below : at < length words
    below = omega (arith, word_of-lt shape row words t p h)

    along : (s : Site) → IsSite shape s → s.x / 64 < row
    along s i = omega (arith, p.fits_row, in_row (side_of shape 0) s.x i.x)

    -- the word of the site, and another bit of it
    apart : (s : Site) → IsSite shape s → s ≢ t → word_of shape row s ≡ at → s.x % 64 ≢ t.x % 64
    apart s i n o b =
        let q = place_in_row-same (side_of shape 1) row s.z s.y (s.x / 64) t.z t.y (t.x / 64) i.y h.y (along s i) (along t h) (o ∙ e) in
        n (Site-same s t (omega (arith, q.2)) q.1 q.0)

    written : (s : Site) → word_of shape row s ≡ at → get_or (set words at w) (word_of shape row s) 0 ≡ w
    written s o = ap (λ n. get_or (set words at w) n 0) o ∙ get_or-set_same words at w 0 below

    bit : (s : Site) → IsSite shape s → is_bit_of shape row (set words at w) s ≡ cond (is_same_site t s) taken (is_bit_of shape row words s)
    bit s i =
        elim (is_same_site-cases t s) [
          | inl q ↦ ap (λ v. is_bit v (s.x % 64)) (written s (ap (word_of shape row) q.1 ∙ sym e)) ∙ ap (λ (r : Site). is_bit w (r.x % 64)) q.1 ∙ same ∙ sym (ap (λ b. cond b taken (is_bit_of shape row words s)) q.0)
          | inr q ↦ kept s i q.1 ∙ sym (ap (λ b. cond b taken (is_bit_of shape row words s)) q.0)
        ]
      where
        kept : (s : Site) → IsSite shape s → s ≢ t → is_bit_of shape row (set words at w) s ≡ is_bit_of shape row words s
        kept s i n =
            elim (cases_eq (word_of shape row s) at) [
              | inl o ↦ ap (λ v. is_bit v (s.x % 64)) (written s o) ∙ others (s.x % 64) (omega arith) (apart s i n o) ∙ ap (λ m. is_bit (get_or words m 0) (s.x % 64)) (sym o)
              | inr o ↦ ap (λ v. is_bit v (s.x % 64)) (get_or-set_other words at (word_of shape row s) w 0 o)
            ]
